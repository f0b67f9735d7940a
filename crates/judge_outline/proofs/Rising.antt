-- Numbers that are apart, sorted: they rise, and stay those of the same points.
-- Laws over lists of numbers and pictures.
use Rattle.std.proofs.Common.{◌≡◌, ◌≢◌, ℕ, suc, ◌+◌, ◌<◌, ap, sym, ◌∙◌, subst, arith, inl, inr, List, ◌∷◌, ◌++◌, length, take, drop}
use Rattle.std.specs.Prelude.{◌↔◌, AllPairs, Contains, slice_index, IsTrue}
use Rattle.std.specs.List.Sorted.{IsPermutation, IsSorted, IsNonDecreasingBy}
use Rattle.std.specs.Ordering.{nat_cmp}
use Rattle.std.proofs.lemmas.Bool.{cases_lt}
use Rattle.std.proofs.lemmas.List.{length-append, length-drop, length-take-le, take-append-drop}
use Rattle.std.proofs.lemmas.List.Elements.{Contains-append_left, Contains-append_right, Contains-append_cases}
use Rattle.std.proofs.lemmas.List.Sorted.{IsNonDecreasingBy-from_sort, Contains-permutation, IsPermutation-sym, length_permutation}
use Rattle.std.proofs.Math.Seq.{drop-cons}
use Rattle.shape_terms.specs.Points.{Point, box_count, raster_point}
use Rattle.shape_terms.proofs.SameCycles.{head_in, in_cases}
use Rattle.shape_terms.proofs.PointLists.{no_more}
use Rattle.shape_terms.specs.Pictures.{Picture, at}
use Rattle.judge_outline.specs.Exposure.{AreRound, IsNearTo}
use Rattle.judge_outline.specs.Listings.{AreNumbered}

-- numbers that do not fall, and are as many as others that are apart and among them, rise
rise : (xs ys : List ℕ) → AllPairs (λ a b. a ≢ b) xs → ((x : ℕ) → Contains xs x → Contains ys x) → length xs ≡ length ys → IsNonDecreasingBy (λ n. n) ys
    → (k : ℕ) → k + 1 < length ys → slice_index ys k < slice_index ys (k + 1)
rise xs ys once each same up k l = elim (cases_lt (slice_index ys k) (slice_index ys (k + 1))) [
  | inl a ↦ a
  | inr b ↦
      let le = up k (k + 1) 0 (omega arith) l in
      let q : slice_index ys k ≡ slice_index ys (k + 1) = omega arith in
      let rest = drop (suc k) ys in
      let zs = take k ys ++ rest in
      let first : drop k ys ≡ slice_index ys k ∷ rest = drop-cons ys k 0 (omega arith) in
      let j : k + 1 ≡ suc k = omega arith in
      let second : rest ≡ slice_index ys (k + 1) ∷ drop (suc (suc k)) ys = drop-cons ys (suc k) 0 (omega arith)
      ∙ ap (λ i. slice_index ys i ∷ drop (suc (suc k)) ys) (sym j) in
      let few : length zs + 1 ≡ length ys = omega (arith, length-append (take k ys) rest, length-take-le k ys (omega arith), length-drop (suc k) ys) in
      absurd (let n = no_more xs zs once (λ x c. moved ys k x rest first second q (each x c)) in omega (arith, n, few, same))
]
  where
    moved : (ys : List ℕ) (k x : ℕ) (rest : List ℕ) → drop k ys ≡ slice_index ys k ∷ rest → rest ≡ slice_index ys (k + 1) ∷ drop (suc (suc k)) ys
        → slice_index ys k ≡ slice_index ys (k + 1) → Contains ys x → Contains (take k ys ++ rest) x
    moved ys k x rest first second q c = elim (Contains-append_cases (take k ys) (drop k ys) x (subst (λ l. Contains l x) (sym (take-append-drop k ys)) c)) [
      | inl a ↦ Contains-append_left (take k ys) rest x a
      | inr b ↦ Contains-append_right (take k ys) rest x (elim (in_cases (slice_index ys k) rest x (subst (λ l. Contains l x) first b)) [
        | inl e ↦ subst (λ l. Contains l x) (sym second)
            (subst (Contains (slice_index ys (k + 1) ∷ drop (suc (suc k)) ys)) (sym q ∙ e) (head_in (slice_index ys (k + 1)) (drop (suc (suc k)) ys)))
        | inr m ↦ m
      ])
    ]

-- the numbers of the object points that are Near a patch, once they are sorted
pub sorted_round : (left marks : Picture) (patch : List Point) (numbers sorted : List ℕ) → marks.sides ≡ left.sides → AreNumbered marks numbers
    → ((q : Point) → IsTrue (at marks q) ↔ (IsTrue (at left q) × IsNearTo patch q)) → IsPermutation numbers sorted → IsSorted nat_cmp sorted
    → AreRound left patch sorted
sorted_round left marks patch numbers sorted same h are moves up =
    let to : (n : ℕ) → Contains numbers n → Contains sorted n = λ n c. Contains-permutation numbers sorted n moves c in
    let of : (n : ℕ) → Contains sorted n → Contains numbers n = λ n c. Contains-permutation sorted numbers n (IsPermutation-sym numbers sorted moves) c in
    record {
      rising = rise numbers sorted h.apart to (sym (length_permutation numbers sorted moves)) (IsNonDecreasingBy-from_sort (λ n. n) sorted up);
      below = λ n c. (let b = h.below n (of n c) in omega (arith, b, ap box_count same));
      each = λ n l.
          let m = h.marked n (omega (arith, l, ap box_count same)) in
          let here : raster_point marks.sides n ≡ raster_point left.sides n = ap (λ s. raster_point s n) same in
          let a = are (raster_point left.sides n) in
          ((λ c. a.0 (ap (at marks) (sym here) ∙ m.1 (of n c))), λ t. to n (m.0 (ap (at marks) here ∙ a.1 t)));
    }
