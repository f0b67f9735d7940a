-- How many bits a mask has set: as many as its point has object near neighbours.
-- Laws for any number of axes.
use Rattle.std.proofs.Common.{◌≡◌, ◌^◌, ◌<◌, ℕ, count_ones, true, ap, sym, ◌∙◌, arith, [], length, map}
use Rattle.std.specs.Int.{bit_at}
use Rattle.std.specs.Simd.Lanes.{mask_l}
use Rattle.std.proofs.lemmas.Simd.{ones-mask_l}
use Rattle.std.proofs.lemmas.List.{get_or-map, length-map}
use Rattle.std.proofs.lemmas.Nat.Bits.{same_from_bits, bit_at-lt}
use native.Mathlib.Decide.{ℕ_discrete}
use Rattle.shape_terms.specs.Points.{Point}
use Rattle.shape_terms.specs.Pictures.{Picture, at}
use Rattle.shape_terms.specs.Adjacency.{moved, near_steps, near_point, near_points}
use Rattle.shape_terms.specs.Thinning.{near_count}
use Rattle.shape_adj.specs.NearMasks.{near_total, IsNearMask}
use Rattle.shape_terms.proofs.LinkTests.{row_is}
use Rattle.shape_adj.proofs.MaskBits.{marks_small}

-- two numbers that have the bit k set in the same cases have one digit there
same_digit : (a b k : ℕ) → (bit_at a k ≡ 1 → bit_at b k ≡ 1) → (bit_at b k ≡ 1 → bit_at a k ≡ 1) → bit_at a k ≡ bit_at b k
same_digit a b k to of =
    let x = bit_at-lt a k in
    let y = bit_at-lt b k in
    elim (ℕ_discrete (bit_at a k) 1) [
      | yes e ↦ (let f = to e in omega arith)
      | no n ↦ elim (ℕ_discrete (bit_at b k) 1) [ yes f ↦ absurd (n (of f)) | no m ↦ omega arith ]
    ]

-- a mask is the number of the values of the near neighbours
pub mask_is : (Y : Picture) (p : Point) (m : ℕ) → IsNearMask Y p m → m ≡ mask_l (map (at Y) (near_points p))
mask_is Y p m h = same_from_bits m (mask_l (map (at Y) (near_points p))) (λ k.
    let r = row_is (at Y) (near_points p) k in
    let n = length-map (near_steps (length p)) (moved p) in
    same_digit m (mask_l (map (at Y) (near_points p))) k
    (λ i. let a = (h k).0 i in let l = a.0 in r.1 (omega arith, ap (at Y) (get_or-map (moved p) (near_steps (length p)) k [] [] l) ∙ a.1))
    (λ i. let a = r.0 i in let l : k < length (near_steps (length p)) = (let b = a.0 in omega arith) in
    (h k).1 (l, sym (ap (at Y) (get_or-map (moved p) (near_steps (length p)) k [] [] l)) ∙ a.1)))

-- its bits are as many as the object near neighbours
pub ones_are : (Y : Picture) (p : Point) (m : ℕ) → IsNearMask Y p m → count_ones m ≡ near_count Y p
ones_are Y p m h = ap count_ones (mask_is Y p m h) ∙ ones-mask_l (at Y) (near_points p)

pub mask_small : (Y : Picture) (p : Point) (m n : ℕ) → IsNearMask Y p m → n ≡ near_total (length p) → m < 2 ^ n
mask_small Y p m n h e = rw e (marks_small (λ k. at Y (near_point p k) ≡ true) (near_total (length p)) m h)
