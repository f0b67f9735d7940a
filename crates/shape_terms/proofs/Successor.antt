-- The successor of a crack is a crack, and it is one to one on the cracks of a flat picture.
-- A crack is read as a place and a direction here, and its successor as the edge ahead.
use Rattle.std.proofs.Common.{◌≡◌, ℕ, zero, suc, ◌+◌, ◌%◌, ◌<◌, Bool, true, false, cond, refl, ap, sym, ◌∙◌, subst, arith, [], ◌∷◌, length}
use Rattle.std.specs.Prelude.{ℤ, pos, negsuc, ◌+ℤ◌}
use Rattle.std.proofs.lemmas.Int.{ints}
use Rattle.shape_terms.specs.Points.{Point, coordinate, in_box}
use Rattle.shape_terms.specs.Adjacency.{moved}
use Rattle.shape_terms.specs.Pictures.{Picture, at}
use Rattle.shape_terms.specs.Contours.{Crack, normal, IsCrack, successor}
use Rattle.std.proofs.lemmas.Bool.{and_parts}
use Rattle.shape_terms.proofs.Boxes.{in_box_length}
use Rattle.shape_terms.proofs.Turning.{Moves, MoveLaws, IsEdge, ahead_by, edge_ahead}
use Rattle.shape_terms.proofs.Edges.{ahead_crack, ahead_one_to_one}

-- the two coordinates of a flat point
abbrev pub Place : Type 0
Place = ℤ × ℤ

abbrev pub point : Place → Point
point p = p.0 ∷ p.1 ∷ []

abbrev pub crack_at : Place → ℕ → Crack
crack_at p d = record { pixel = point p; side = d }

abbrev pub step : ℕ → Place → Place
step zero p = (p.0 +ℤ pos 0, p.1 +ℤ negsuc 0)
step (suc zero) p = (p.0 +ℤ pos 1, p.1 +ℤ pos 0)
step (suc (suc zero)) p = (p.0 +ℤ pos 0, p.1 +ℤ pos 1)
step (suc (suc (suc d))) p = (p.0 +ℤ negsuc 0, p.1 +ℤ pos 0)

abbrev pub moves : Moves Place ℕ
moves = record { step = step; right = λ d. (d + 1) % 4; left = λ d. (d + 3) % 4 }

abbrev pub IsSide : ℕ → Type 0
IsSide d = d < 4

pub moved_step : (d : ℕ) (p : Place) → moved (point p) (normal d) ≡ point (step d p)
moved_step zero p = refl
moved_step (suc zero) p = refl
moved_step (suc (suc zero)) p = refl
moved_step (suc (suc (suc d))) p = refl

up_down : (a : ℤ) → a +ℤ negsuc 0 +ℤ pos 1 ≡ a
up_down a = omega (arith, ints)

down_up : (a : ℤ) → a +ℤ pos 1 +ℤ negsuc 0 ≡ a
down_up a = omega (arith, ints)

still : (a : ℤ) → a +ℤ pos 0 +ℤ pos 0 ≡ a
still a = omega (arith, ints)

swapped : (a b c : ℤ) → a +ℤ b +ℤ c ≡ a +ℤ c +ℤ b
swapped a b c = omega (arith, ints)

both : (a b c d : ℤ) → a ≡ c → b ≡ d → ◌≡◌ {A = Place} (a, b) (c, d)
both a b c d e f = λ i. (e i, f i)

there : (d : ℕ) (p : Place) → d < 4 → step (((d + 1) % 4 + 1) % 4) (step d p) ≡ p
there zero p h = both _ _ _ _ (still p.0) (up_down p.1)
there (suc zero) p h = both _ _ _ _ (down_up p.0) (still p.1)
there (suc (suc zero)) p h = both _ _ _ _ (still p.0) (down_up p.1)
there (suc (suc (suc zero))) p h = both _ _ _ _ (up_down p.0) (still p.1)
there (suc (suc (suc (suc d)))) p h = absurd (omega arith)

over : (d : ℕ) (p : Place) → d < 4 → step d (step ((d + 1) % 4) p) ≡ step ((d + 1) % 4) (step d p)
over zero p h = both _ _ _ _ (swapped p.0 (pos 1) (pos 0)) (swapped p.1 (pos 0) (negsuc 0))
over (suc zero) p h = both _ _ _ _ (swapped p.0 (pos 0) (pos 1)) (swapped p.1 (pos 1) (pos 0))
over (suc (suc zero)) p h = both _ _ _ _ (swapped p.0 (negsuc 0) (pos 0)) (swapped p.1 (pos 0) (pos 1))
over (suc (suc (suc zero))) p h = both _ _ _ _ (swapped p.0 (pos 0) (negsuc 0)) (swapped p.1 (negsuc 0) (pos 0))
over (suc (suc (suc (suc d)))) p h = absurd (omega arith)

pub move_laws : MoveLaws moves IsSide
move_laws = record {
  right_good = λ d h. omega arith;
  left_good = λ d h. omega arith;
  right_left = λ d h. omega arith;
  left_right = λ d h. omega arith;
  round = λ d h. omega arith;
  there_and_back = there;
  across = over;
}

-- ---- the successor of the definitions is the edge ahead
abbrev pub held : Picture → Place → Bool
held X p = at X (point p)

abbrev pub crack_of : Place × ℕ → Crack
crack_of n = crack_at n.0 n.1

chosen : (b a : Bool) (p A B : Place) (d : ℕ) → cond b (crack_at B ((d + 3) % 4)) (cond a (crack_at A d) (crack_at p ((d + 1) % 4)))
    ≡ crack_of (ahead_by moves (λ (q : Place). true) b a p A B d)
chosen true a p A B d = refl
chosen false true p A B d = refl
chosen false false p A B d = refl

pub successor_is : (X : Picture) (p : Place) (d : ℕ) → successor X (crack_at p d) ≡ crack_of (edge_ahead moves (held X) p d)
successor_is X p d = rw (moved_step d p, moved_step ((d + 1) % 4) (step d p), moved_step ((d + 1) % 4) p)
    (chosen (held X (step ((d + 1) % 4) (step d p))) (held X (step ((d + 1) % 4) p)) p (step ((d + 1) % 4) p) (step ((d + 1) % 4) (step d p)) d)

-- ---- an object point has as many coordinates as the picture has sides
pub object_axes : (X : Picture) (p : Point) → at X p ≡ true → length p ≡ length X.sides
object_axes X p h = in_box_length X.sides p ((and_parts (in_box X.sides p) _ h).0)

pub two_axes : (p : Point) → length p ≡ 2 → (q : Place) × (p ≡ point q)
two_axes [] h = absurd (omega arith)
two_axes (x ∷ []) h = absurd (omega arith)
two_axes (x ∷ y ∷ []) h = ((x, y), refl)
two_axes (x ∷ y ∷ z ∷ p) h = absurd (omega arith)

-- a crack as a place and a side
pub record Placed (X : Picture) (c : Crack) : Type 0 where
  pub place : Place
  pub is : c ≡ crack_at place c.side
  pub edge : IsEdge moves (held X) IsSide place c.side

pub placed : (X : Picture) → length X.sides ≡ 2 → (c : Crack) → IsCrack X c → Placed X c
placed X axes c k =
    let t = two_axes c.pixel (object_axes X c.pixel k.pixel ∙ axes) in
    let e = t.1 in
    let b : at X (moved (point t.0) (normal c.side)) ≡ false = subst (λ (p : Point). at X (moved p (normal c.side)) ≡ false) e k.neighbour in
    record {
      place = t.0;
      is = λ i. record { pixel = e i; side = c.side };
      edge = (k.side, subst (λ (p : Point). at X p ≡ true) e k.pixel, subst (λ (p : Point). at X p ≡ false) (moved_step c.side t.0) b);
    }

pub edge_crack : (X : Picture) (n : Place × ℕ) → IsEdge moves (held X) IsSide n.0 n.1 → IsCrack X (crack_of n)
edge_crack X n e = record { side = e.0; pixel = e.1; neighbour = subst (λ (p : Point). at X p ≡ false) (sym (moved_step n.1 n.0)) e.2 }

-- the successor of a crack is a crack
pub successor_crack : (X : Picture) → length X.sides ≡ 2 → (c : Crack) → IsCrack X c → IsCrack X (successor X c)
successor_crack X axes c k =
    let a = placed X axes c k in
    let s : successor X c ≡ crack_of (edge_ahead moves (held X) a.place c.side) = ap (successor X) a.is ∙ successor_is X a.place c.side in
    subst (IsCrack X) (sym s) (edge_crack X (edge_ahead moves (held X) a.place c.side) (ahead_crack moves move_laws (held X) a.place c.side a.edge))

-- two cracks with one successor are one
pub successor_once : (X : Picture) → length X.sides ≡ 2 → (c d : Crack) → IsCrack X c → IsCrack X d → successor X c ≡ successor X d → c ≡ d
successor_once X axes c d k l h =
    let a = placed X axes c k in
    let b = placed X axes d l in
    let m = edge_ahead moves (held X) a.place c.side in
    let n = edge_ahead moves (held X) b.place d.side in
    let s : successor X c ≡ crack_of m = ap (successor X) a.is ∙ successor_is X a.place c.side in
    let t : successor X d ≡ crack_of n = ap (successor X) b.is ∙ successor_is X b.place d.side in
    let u : crack_of m ≡ crack_of n = sym s ∙ (h ∙ t) in
    let back : Crack → Place × ℕ = λ (c : Crack). ((coordinate c.pixel 0, coordinate c.pixel 1), c.side) in
    let v : ◌≡◌ {A = Place × ℕ} (a.place, c.side) (b.place, d.side) =
    ahead_one_to_one moves move_laws (held X) a.place b.place c.side d.side a.edge b.edge (ap back u) in
    a.is ∙ (ap crack_of v ∙ sym b.is)
