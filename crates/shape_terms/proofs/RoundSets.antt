-- The number whose bits are the round neighbours, in any dimension: it computes from the steps.
-- A further dimension brings one lemma like those at the end.
use Rattle.std.proofs.Common.{◌≡◌, ℕ, ◌<◌, ◌↔◌, length, refl, sym, subst, arith}
use Rattle.std.specs.Int.{bit_at}
use Rattle.std.proofs.lemmas.Bool.{ltb-true, lt-ltb}
use Rattle.shape_terms.specs.Points.{Point}
use Rattle.shape_terms.specs.Adjacency.{Round, origin, city_distance, near_steps, near_step, near_point}
use Rattle.shape_terms.specs.Links.{round_test, round_set}
use Rattle.shape_terms.proofs.LinkTests.{row_is}
use Rattle.shape_terms.proofs.NeighbourNumbers.{near_of_number}
use Rattle.shape_terms.proofs.ShiftedSteps.{length-near_step, length-origin, moved-origin, city-moved}

-- the bits of the round neighbours of a point
round_bits : (p : Point) (k : ℕ) → k < length (near_steps (length p)) → (bit_at (round_set (length p)) k ≡ 1) ↔ Round p (near_point p k)
round_bits p k l =
    let r = row_is (round_test (length p)) (near_steps (length p)) k in
    let e : city_distance p (near_point p k) ≡ city_distance (origin (length p)) (near_step (length p) k) =
    subst (λ o. city_distance o (near_point p k) ≡ city_distance (origin (length p)) (near_step (length p) k)) (moved-origin p)
    (city-moved p (origin (length p)) (near_step (length p) k) (length-origin (length p)) (length-near_step (length p) k l)) in (
      (λ h. (near_of_number p k l, let t = ltb-true (city_distance (origin (length p)) (near_step (length p) k)) 3 (r.0 h).1 in omega arith)),
      λ h. r.1 (l, lt-ltb (city_distance (origin (length p)) (near_step (length p) k)) 3 (let c = h.1 in omega arith)),
    )

-- where the number is known
known : (d n total : ℕ) → round_set d ≡ n → length (near_steps d) ≡ total → (p : Point) (k : ℕ) → length p ≡ d → k < total
    → (bit_at n k ≡ 1) ↔ Round p (near_point p k)
known d n total is count p k e l = subst (λ m. (bit_at m k ≡ 1) ↔ Round p (near_point p k)) is (at_axes d e (subst (λ t. k < t) (sym count) l))
  where
    at_axes : (d : ℕ) → length p ≡ d → k < length (near_steps d) → (bit_at (round_set d) k ≡ 1) ↔ Round p (near_point p k)
    at_axes d e = subst (λ d. k < length (near_steps d) → (bit_at (round_set d) k ≡ 1) ↔ Round p (near_point p k)) e (round_bits p k)

-- all 8 near neighbours in the plane
pub flat_round : (p : Point) (k : ℕ) → length p ≡ 2 → k < 8 → (bit_at 255 k ≡ 1) ↔ Round p (near_point p k)
flat_round = known 2 255 8 refl refl

-- 18 of the 26 near neighbours in space
pub solid_round : (p : Point) (k : ℕ) → length p ≡ 3 → k < 26 → (bit_at 24510138 k ≡ 1) ↔ Round p (near_point p k)
solid_round = known 3 24510138 26 refl refl
