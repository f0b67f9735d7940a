-- The cracks from a crack on, as a list, and the pixels that they leave.
-- Where the list ends is given by a number; that it is a cycle rests on the laws of one-to-one maps.
use Rattle.std.proofs.Common.{◌≡◌, ℕ, zero, suc, ◌*◌, ◌<◌, true, false, cond, refl, ap, sym, ◌∙◌, arith, List, [], ◌∷◌, ◌++◌, length, get_or, map}
use Rattle.std.specs.Prelude.{filter, not}
use Rattle.std.proofs.lemmas.List.Elements.{filter-append}
use Rattle.std.proofs.lemmas.List.{map-append}
use Rattle.shape_terms.specs.Points.{Point, box_count}
use Rattle.shape_terms.specs.Pictures.{Picture}
use Rattle.shape_terms.specs.Contours.{Crack, IsCrack, successor, Follow, IsCycle, stays, left_pixels}
use Rattle.shape_terms.proofs.Turning.{iterate, Turns, Cycle}
use Rattle.shape_terms.proofs.Orbits.{distinct}
use Rattle.shape_terms.proofs.Successor.{successor_crack, successor_once}
use Rattle.shape_terms.specs.CrackNumbers.{crack_number}
use Rattle.shape_terms.proofs.Numbered.{number_below, number_once}

-- n cracks from c on
abbrev pub walk : Picture → Crack → ℕ → List Crack
walk X c zero = []
walk X c (suc n) = c ∷ walk X (successor X c) n

-- the successor is a one-to-one map of the cracks of a flat picture
pub turns : (X : Picture) → length X.sides ≡ 2 → Turns (successor X) (IsCrack X) (crack_number X.sides) (box_count X.sides * 4)
turns X axes = record {
  stays = successor_crack X axes;
  one_to_one = successor_once X axes;
  below = number_below X;
  apart = number_once X;
}

pub iterate-shift : (X : Picture) (n : ℕ) (c : Crack) → iterate (successor X) n (successor X c) ≡ successor X (iterate (successor X) n c)
iterate-shift X zero c = refl
iterate-shift X (suc n) c = ap (successor X) (iterate-shift X n c)

pub walk-push : (X : Picture) (n : ℕ) (c : Crack) → walk X c (suc n) ≡ walk X c n ++ iterate (successor X) n c ∷ []
walk-push X zero c = refl
walk-push X (suc n) c =
    ap (λ (l : List Crack). c ∷ l) (walk-push X n (successor X c) ∙ ap (λ (d : Crack). walk X (successor X c) n ++ d ∷ []) (iterate-shift X n c))

pub length-walk : (X : Picture) (n : ℕ) (c : Crack) → length (walk X c n) ≡ n
length-walk X zero c = refl
length-walk X (suc n) c = ap suc (length-walk X n (successor X c))

pub walk-get : (X : Picture) (n : ℕ) (c : Crack) (i : ℕ) (d : Crack) → i < n → get_or (walk X c n) i d ≡ iterate (successor X) i c
walk-get X zero c i d l = absurd (omega arith)
walk-get X (suc n) c zero d l = refl
walk-get X (suc n) c (suc i) d l = walk-get X n (successor X c) i d (omega arith) ∙ iterate-shift X i c

pub walk_follow : (X : Picture) (f : Crack) (n : ℕ) (c : Crack) → iterate (successor X) (suc n) c ≡ f → Follow X f (walk X c (suc n))
walk_follow X f zero c h = h
walk_follow X f (suc n) c h = (refl, walk_follow X f n (successor X c) (iterate-shift X (suc n) c ∙ h))

-- a walk that comes back for the first time is a cycle
pub walk_cycle : (X : Picture) → length X.sides ≡ 2 → (c : Crack) → IsCrack X c → (n : ℕ) → Cycle (successor X) c n → IsCycle X (walk X c n)
walk_cycle X axes c k zero y = absurd (omega (arith, y.0))
walk_cycle X axes c k (suc n) y = (
  (λ i j d l m. λ same.
      let m' : j < suc n = omega (arith, length-walk X (suc n) c) in
      distinct (turns X axes) (suc n) c k y.2 i j m' l (sym (walk-get X (suc n) c i d (omega arith)) ∙ (same ∙ walk-get X (suc n) c j d m'))),
  walk_follow X c n c y.1,
)

-- ---- the pixels that are left
pub left_pixels-push : (X : Picture) (cracks : List Crack) (c : Crack)
    → left_pixels X (cracks ++ c ∷ []) ≡ left_pixels X cracks ++ cond (stays X c) [] (c.pixel ∷ [])
left_pixels-push X cracks c =
    ap (map (λ (c : Crack). c.pixel)) (filter-append (λ (c : Crack). not (stays X c)) cracks (c ∷ []))
    ∙ (map-append (λ (c : Crack). c.pixel) (filter (λ (c : Crack). not (stays X c)) cracks) (filter (λ (c : Crack). not (stays X c)) (c ∷ []))
    ∙ ap (λ (l : List Point). left_pixels X cracks ++ l)
    (elim (stays X c) as (λ b. map (λ (c : Crack). c.pixel) (cond (not b) (c ∷ []) []) ≡ cond b [] (c.pixel ∷ [])) [ true ↦ refl | false ↦ refl ]))
