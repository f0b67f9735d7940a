-- The constant table of simple masks in the plane is right: it is compared with counts, and these with the numbers of components.
-- A further dimension needs no table.
use Rattle.std.proofs.Common.{◌≡◌, ℕ, zero, suc, ◌+◌, ◌-◌, ◌^◌, ◌<◌, ◌↔◌, List, [], ◌∷◌, Bool, true, false, ◌&&◌, eqb, slice_index_or, replicate, refl, sym}
use Rattle.std.proofs.Common.{◌∙◌, ap, subst, arith, pos}
use Rattle.std.specs.Int.Bits.{bit_and}
use Rattle.std.specs.Int.Count.{count_trailing_zeros}
use Rattle.std.proofs.lemmas.Bool.Decides.{nat_tests}
use Rattle.std.proofs.lemmas.Nat.{and_le_l}
use Rattle.shape_terms.specs.Adjacency.{Round, origin, near_step}
use Rattle.shape_terms.proofs.PartCount.{one_count}
use Rattle.shape_terms.proofs.RoundSets.{flat_round}
use Rattle.shape_adj.specs.NearMasks.{In, near_total}
use Rattle.shape_topo.specs.Bits.{AreSymmetric, CountsParts}
use Rattle.shape_topo.specs.Masks.{NearSteps, SideSteps, HasMaskObjectNumber, HasMaskBackgroundNumber, IsSimpleMask}
use Rattle.shape_topo.specs.Compute.{count}
use Rattle.shape_topo.specs.SimpleTable.{flat_near, flat_side, is_one, unset_flat, simple_flat, list_of}
use Rattle.shape_topo.proofs.Computed.{count_is}
use Rattle.shape_adj.proofs.MaskBits.{unset}
use Rattle.shape_topo.proofs.MaskNumbers.{AreDark, near_symmetric, side_symmetric, object_counted, background_counted, dark_sets, dark_seeds, dark_small}
use Rattle.shape_topo.proofs.MaskNumbers.{round_step}

abbrev pub table : List Bool
table =
    false ∷ true ∷ true ∷ true ∷ true ∷ false ∷ true ∷ true ∷ true ∷ true ∷ true ∷ true ∷ false ∷ false ∷ true ∷ true ∷
    true ∷ false ∷ true ∷ true ∷ true ∷ false ∷ true ∷ true ∷ false ∷ false ∷ true ∷ true ∷ false ∷ false ∷ true ∷ true ∷
    true ∷ false ∷ false ∷ false ∷ false ∷ false ∷ false ∷ false ∷ true ∷ true ∷ true ∷ true ∷ false ∷ false ∷ true ∷ true ∷
    false ∷ false ∷ false ∷ false ∷ false ∷ false ∷ false ∷ false ∷ false ∷ false ∷ true ∷ true ∷ false ∷ false ∷ true ∷ true ∷
    true ∷ false ∷ false ∷ false ∷ false ∷ false ∷ false ∷ false ∷ true ∷ true ∷ true ∷ true ∷ false ∷ false ∷ true ∷ true ∷
    true ∷ false ∷ true ∷ true ∷ true ∷ false ∷ true ∷ true ∷ true ∷ true ∷ false ∷ false ∷ true ∷ true ∷ false ∷ false ∷
    true ∷ false ∷ false ∷ false ∷ false ∷ false ∷ false ∷ false ∷ true ∷ true ∷ true ∷ true ∷ false ∷ false ∷ true ∷ true ∷
    true ∷ false ∷ true ∷ true ∷ true ∷ false ∷ true ∷ true ∷ true ∷ true ∷ false ∷ false ∷ true ∷ true ∷ false ∷ false ∷
    true ∷ false ∷ false ∷ false ∷ false ∷ false ∷ false ∷ false ∷ false ∷ false ∷ false ∷ false ∷ false ∷ false ∷ false ∷ false ∷
    true ∷ false ∷ true ∷ true ∷ true ∷ false ∷ true ∷ true ∷ false ∷ false ∷ true ∷ true ∷ false ∷ false ∷ true ∷ true ∷
    false ∷ false ∷ false ∷ false ∷ false ∷ false ∷ false ∷ false ∷ false ∷ false ∷ false ∷ false ∷ false ∷ false ∷ false ∷ false ∷
    false ∷ false ∷ false ∷ false ∷ false ∷ false ∷ false ∷ false ∷ false ∷ false ∷ true ∷ true ∷ false ∷ false ∷ true ∷ true ∷
    true ∷ false ∷ false ∷ false ∷ false ∷ false ∷ false ∷ false ∷ true ∷ true ∷ true ∷ true ∷ false ∷ false ∷ true ∷ true ∷
    true ∷ false ∷ true ∷ true ∷ true ∷ false ∷ true ∷ true ∷ true ∷ true ∷ false ∷ false ∷ true ∷ true ∷ false ∷ false ∷
    true ∷ false ∷ false ∷ false ∷ false ∷ false ∷ false ∷ false ∷ true ∷ true ∷ true ∷ true ∷ false ∷ false ∷ true ∷ true ∷
    true ∷ false ∷ true ∷ true ∷ true ∷ false ∷ true ∷ true ∷ true ∷ true ∷ false ∷ false ∷ true ∷ true ∷ false ∷ false ∷ []

pub list_at : {X : Type 0} (f : ℕ → X) (d : X) (s n i : ℕ) → i < n → slice_index_or (list_of f s n) i d ≡ f (s + i)
list_at f d s zero i h = absurd (omega arith)
list_at f d s (suc n) zero h = ap f (let q : s ≡ s + 0 = omega arith in q)
list_at f d s (suc n) (suc i) h = list_at f d (s + 1) n i (omega arith) ∙ ap f (let q : s + 1 + i ≡ s + suc i = omega arith in q)

table_is : list_of simple_flat 0 256 ≡ table
unfolding simple_flat count_trailing_zeros
table_is = refl

pub table_at : (m : ℕ) → m < 256 → slice_index_or table m false ≡ simple_flat m
table_at m h = ap (λ t. slice_index_or t m false) (sym table_is) ∙ (list_at simple_flat false 0 256 m h ∙ ap simple_flat (let q : 0 + m ≡ m = omega arith in q))

-- no count is cut short
whole_object : list_of (λ m. (count 8 8 flat_near m 0 m 0 0).1) 0 256 ≡ replicate 256 0
unfolding count_trailing_zeros
whole_object = refl

whole_background : list_of (λ m. (count 8 8 flat_side (bit_and (unset_flat m) 255) 0 (bit_and (unset_flat m) 90) 0 0).1) 0 256 ≡ replicate 256 0
unfolding count_trailing_zeros
whole_background = refl

of_list : {X : Type 0} (f : ℕ → X) (d : X) (xs : List X) → list_of f 0 256 ≡ xs → (m : ℕ) → m < 256 → f m ≡ slice_index_or xs m d
of_list f d xs e m h = sym (list_at f d 0 256 m h ∙ ap f (let q : 0 + m ≡ m = omega arith in q)) ∙ ap (λ t. slice_index_or t m d) e

zero_at : (n m : ℕ) → ◌≡◌ {A = ℕ} (slice_index_or (replicate n 0) m 0) 0
zero_at zero m = refl
zero_at (suc n) zero = refl
zero_at (suc n) (suc m) = zero_at n m

both : (a b : Bool) → (a && b ≡ true) ↔ ((a ≡ true) × (b ≡ true))
both true b = ((λ h. (refl, h)), λ h. h.1)
both false b = ((λ h. absurd (let t : false ≡ true = h in cc)), λ h. h.0)

test_one : (a b : ℕ) → b ≡ 0 → ((eqb a 1 && eqb b 0) ≡ true) ↔ (a ≡ 1)
test_one a b z = (
  (λ h. let e = ((both (eqb a 1) (eqb b 0)).0 h).0 in grind (arith, nat_tests)),
  λ e. (both (eqb a 1) (eqb b 0)).1 (grind (arith, nat_tests), grind (arith, nat_tests)),
)

-- a whole count decides whether the number is 1
decides : (links : List ℕ) (m seeds : ℕ) → m < 2 ^ 8 → seeds < 2 ^ 32 → AreSymmetric links → ((k : ℕ) → In seeds k → In m k)
    → (H : ℕ → Type 0) → ((n : ℕ) → CountsParts links m seeds n → H n) → ((n k : ℕ) → H n → H k → n ≡ k)
    → (r : ℕ × ℕ) → r ≡ count 8 8 links m 0 seeds 0 0 → r.1 ≡ 0 → (is_one r ≡ true) ↔ H 1
decides links m seeds mf sf y sub H counted one r e z = (
  (λ h. subst H ((test_one r.0 r.1 z).0 h) is),
  λ p. (test_one r.0 r.1 z).1 (one r.0 1 is p),
)
  where
    pair : ◌≡◌ {A = ℕ × ℕ} (count 8 8 links m 0 seeds 0 0) (r.0, 0)
    pair = sym e ∙ (λ i. (r.0, z i))

    is : H r.0
    is = counted r.0 (count_is 8 links m seeds (omega arith) y sub 8 r.0 (omega arith) mf sf pair)

all_are_round : (k : ℕ) → k < near_total 2 → In 255 k ↔ Round (origin 2) (near_step 2 k)
all_are_round k l =
    let a = flat_round (pos 0 ∷ pos 0 ∷ []) k refl l in
    let r = round_step (pos 0 ∷ pos 0 ∷ []) k l in
    ((λ i. r.1 (a.0 i)), λ h. a.1 (r.0 h))

flat_dark : (m : ℕ) → m < 256 → AreDark 2 m (bit_and (unset_flat m) 255) (bit_and (unset_flat m) 90)
flat_dark m h = dark_sets 2 m (unset_flat m) 255 (λ k. unset 8 m k (omega arith) (omega arith)) all_are_round

-- the table's entry says whether the mask is simple
pub simple_flat_is : (m : ℕ) → m < 256 → (simple_flat m ≡ true) ↔ IsSimpleMask 2 m
unfolding simple_flat
simple_flat_is m h =
    let dark = flat_dark m h in
    let o : (is_one (count 8 8 flat_near m 0 m 0 0) ≡ true) ↔ HasMaskObjectNumber 2 m 1 =
    decides flat_near m m h (omega arith) (near_symmetric 2) (λ k i. i) (HasMaskObjectNumber 2 m) (λ n. object_counted 2 m n h)
    (λ n k. one_count (NearSteps 2) _ n k)
    (count 8 8 flat_near m 0 m 0 0) refl (of_list (λ m. (count 8 8 flat_near m 0 m 0 0).1) 0 _ whole_object m h ∙ zero_at 256 m) in
    let b : (is_one (count 8 8 flat_side (bit_and (unset_flat m) 255) 0 (bit_and (unset_flat m) 90) 0 0) ≡ true) ↔ HasMaskBackgroundNumber 2 m 1 =
    decides flat_side (bit_and (unset_flat m) 255) (bit_and (unset_flat m) 90) (dark_small 2 m _ _ dark)
    (let a = and_le_l (unset_flat m) 90 in let b = and_le_l (2 ^ 8 - 1) (2 ^ 32 - 1 - m) in omega arith)
    (side_symmetric 2) (dark_seeds 2 m _ _ dark) (HasMaskBackgroundNumber 2 m) (λ n. background_counted 2 m _ _ n dark) (λ n k. one_count (SideSteps 2) _ n k)
    (count 8 8 flat_side (bit_and (unset_flat m) 255) 0 (bit_and (unset_flat m) 90) 0 0) refl
    (of_list (λ m. (count 8 8 flat_side (bit_and (unset_flat m) 255) 0 (bit_and (unset_flat m) 90) 0 0).1) 0 _ whole_background m h ∙ zero_at 256 m) in
    let t = both (is_one (count 8 8 flat_near m 0 m 0 0)) (is_one (count 8 8 flat_side (bit_and (unset_flat m) 255) 0 (bit_and (unset_flat m) 90) 0 0)) in
    ((λ e. let u = t.0 e in record { object = o.0 u.0; background = b.0 u.1 }), λ s. t.1 (o.1 s.object, b.1 s.background))
