-- The Euler number of a set with one point more, whose new cells are known.
-- Sets of points alone; what is known of labels stands elsewhere.
use Rattle.std.proofs.Common.{◌≡◌, ◌⊎◌, inl, inr, ℕ, zero, suc, ◌<◌, ◌≤◌, Bool, true, false, length, subst, sym, ap, ◌∙◌, arith}
use Rattle.std.specs.Prelude.{ℤ, pos, ◌+ℤ◌}
use Rattle.std.proofs.lemmas.Int.{ints}
use Rattle.std.proofs.lemmas.Bool.{cases_Bool, cond-true, cond-false}
use Rattle.std.proofs.lemmas.List.{length-map}
use Rattle.std.proofs.lemmas.List.Sums.{count_by-le-length}
use Rattle.shape_terms.specs.Points.{Point}
use Rattle.shape_terms.specs.Adjacency.{moved, Near, near_point, near_step, near_steps}
use Rattle.shape_terms.proofs.NeighbourNumbers.{near_number, near_of_number, near_once}
use Rattle.shape_terms.proofs.ShiftedSteps.{length-near_step}
use Rattle.measure_terms.specs.Cells.{IsCellOf, IsCell, IsAlternatingSum, IsEulerNumber, dimension, doubled, sign, is_even}
use Rattle.measure_terms.specs.Gains.{cell_at, gained}
use Rattle.measure_terms.proofs.CellSums.{same_sum, one_cell_more, same_cells}
use Rattle.measure_terms.proofs.Cubes.{own_cell, own_alone, cell_cases, cell_by_double, dimension_moved, dimension_doubled}

-- ---- the cells of a cube by their numbers

pub near_cell : (p : Point) (k : ℕ) → near_point (doubled p) k ≡ cell_at p k
near_cell p k = ap (λ n. moved (doubled p) (near_step n k)) (length-map p (λ x. x +ℤ x))

count_is : (p : Point) → length (near_steps (length (doubled p))) ≡ length (near_steps (length p))
count_is p = ap (λ n. length (near_steps n)) (length-map p (λ x. x +ℤ x))

pub cell_near : (p : Point) (k : ℕ) → k < length (near_steps (length p)) → Near (doubled p) (cell_at p k)
cell_near p k l = subst (Near (doubled p)) (near_cell p k) (near_of_number (doubled p) k (subst (λ n. k < n) (sym (count_is p)) l))

pub cell_of_number : (p : Point) (k : ℕ) → k < length (near_steps (length p)) → IsCellOf p (cell_at p k)
cell_of_number p k l = cell_by_double p (cell_at p k) (cell_near p k l).1

cell_once : (p : Point) (j k : ℕ) → j < length (near_steps (length p)) → k < length (near_steps (length p)) → cell_at p j ≡ cell_at p k → j ≡ k
cell_once p j k a b e =
    let n = sym (count_is p) in
    near_once (doubled p) j k (subst (λ n. j < n) n a) (subst (λ n. k < n) n b) (near_cell p j ∙ e ∙ sym (near_cell p k))

-- ---- one cell after the other

module _ (S : Point → Type 0) (p : Point) where
  -- the cells of the set, the middle of the cube, and the first k of its other cells
  Cells : ℕ → Point → Type 0
  Cells k c = (IsCell S c ⊎ (doubled p ≡ c)) ⊎ ((j : ℕ) × (j < k) × (cell_at p j ≡ c))

  no_more : (k : ℕ) (c : Point) → Cells k c ⊎ (cell_at p k ≡ c) → Cells (suc k) c
  unfolding Cells
  no_more k c (inl (inl t)) = inl t
  no_more k c (inl (inr (j, l, e))) = inr (j, omega (arith, l), e)
  no_more k c (inr e) = inr (k, omega arith, e)

  no_fewer : (k : ℕ) (c : Point) → Cells (suc k) c → Cells k c ⊎ (cell_at p k ≡ c)
  unfolding Cells
  no_fewer k c (inl t) = inl (inl t)
  no_fewer k c (inr (j, l, e)) = (
      let split : (j < k) ⊎ (j ≡ k) = grind (arith, l) in
      elim split [ inl m ↦ inl (inr (j, m, e)) | inr f ↦ inr (subst (λ i. cell_at p i ≡ c) f e) ])

  module _ (is_new : ℕ → Bool) (n : ℤ) (small : length p ≤ 3) where
    dimension_is : (k : ℕ) → k < length (near_steps (length p)) → dimension (cell_at p k) ≡ dimension (near_step (length p) k)
    dimension_is k l = dimension_moved p (near_step (length p) k) (length-near_step (length p) k l)

    few_axes : (k : ℕ) → k < length (near_steps (length p)) → dimension (cell_at p k) ≤ 3
    few_axes k l =
        let e = dimension_is k l in
        let m = count_by-le-length is_even (near_step (length p) k) in
        let f = length-near_step (length p) k l in
        omega (arith, e, m, f, small)

    so_far : (k : ℕ) → k ≤ length (near_steps (length p))
        → ((j : ℕ) → j < length (near_steps (length p)) → is_new j ≡ true → IsCell S (cell_at p j) → ⊥)
        → ((j : ℕ) → j < length (near_steps (length p)) → is_new j ≡ false → IsCell S (cell_at p j))
        → (S p → ⊥) → IsEulerNumber S n → IsAlternatingSum (Cells k) (n +ℤ (sign (length p) +ℤ gained (length p) is_new k))
    unfolding Cells
    so_far zero l fresh old apart h =
        let d = dimension_doubled p in
        let one = one_cell_more (IsCell S) (doubled p) n (λ c. apart (subst S (own_alone p c.point c.cell) c.within)) (omega (arith, d, small)) h in
        let e : n +ℤ sign (dimension (doubled p)) ≡ n +ℤ (sign (length p) +ℤ pos 0) = ap (λ m. n +ℤ sign m) d ∙ omega (arith, ints) in
        subst (IsAlternatingSum (Cells 0)) e (same_sum (λ b. IsCell S b ⊎ (doubled p ≡ b)) (Cells 0) (n +ℤ sign (dimension (doubled p))) (λ c t. inl t)
        (λ c t. elim t [ inl u ↦ u | inr u ↦ absurd (let z = u.1 in omega (arith, z)) ]) one)
    so_far (suc k) l fresh old apart h =
        let before = so_far k (omega (arith, l)) fresh old apart h in
        let m : k < length (near_steps (length p)) = omega (arith, l) in
        let c = cell_at p k in
        let g = gained (length p) is_new k in
        let s = sign (length p) in
        let v = sign (dimension (near_step (length p) k)) in
        elim (cases_Bool (is_new k)) [
          | inl t ↦ (
              let none : Cells k c → ⊥ = λ u. elim u [
                | inl (inl w) ↦ fresh k m t w
                | inl (inr w) ↦ (cell_near p k m).0 w
                | inr (j, a, w) ↦ (let same = cell_once p j k (omega (arith, a, m)) m w in omega (arith, a, same))
              ] in
              let one = one_cell_more (Cells k) c (n +ℤ (s +ℤ g)) none (few_axes k m) before in
              let e : (n +ℤ (s +ℤ g)) +ℤ sign (dimension c) ≡ n +ℤ (s +ℤ gained (length p) is_new (suc k)) =
              ap (λ i. (n +ℤ (s +ℤ g)) +ℤ sign i) (dimension_is k m)
              ∙ sym (ap (λ i. n +ℤ (s +ℤ (g +ℤ i))) (cond-true (is_new k) v (pos 0) t) ∙ omega (arith, ints)) in
              subst (IsAlternatingSum (Cells (suc k))) e (same_sum (λ b. Cells k b ⊎ (c ≡ b)) (Cells (suc k)) _ (no_more k) (no_fewer k) one))
          | inr f ↦ (
              let one = same_cells (Cells k) c (n +ℤ (s +ℤ g)) (inl (inl (old k m f))) before in
              let e : n +ℤ (s +ℤ g) ≡ n +ℤ (s +ℤ gained (length p) is_new (suc k)) =
              sym (ap (λ i. n +ℤ (s +ℤ (g +ℤ i))) (cond-false (is_new k) v (pos 0) f) ∙ omega (arith, ints)) in
              subst (IsAlternatingSum (Cells (suc k))) e (same_sum (λ b. Cells k b ⊎ (c ≡ b)) (Cells (suc k)) _ (no_more k) (no_fewer k) one))
        ]

-- ---- one point more

-- the set T is S with the point p
pub record IsWith (S : Point → Type 0) (p : Point) (T : Point → Type 0) : Type 0 where
  pub old : (q : Point) → S q → T q
  pub new : T p
  pub only : (q : Point) → T q → S q ⊎ (p ≡ q)

pub euler_more : (S T : Point → Type 0) (p : Point) (is_new : ℕ → Bool) (n : ℤ) → length p ≤ 3
    → ((j : ℕ) → j < length (near_steps (length p)) → is_new j ≡ true → IsCell S (cell_at p j) → ⊥)
    → ((j : ℕ) → j < length (near_steps (length p)) → is_new j ≡ false → IsCell S (cell_at p j))
    → (S p → ⊥) → IsWith S p T → IsEulerNumber S n → IsEulerNumber T (n +ℤ (sign (length p) +ℤ gained (length p) is_new (length (near_steps (length p)))))
unfolding Cells
euler_more S T p is_new n small fresh old apart with h =
    let total = length (near_steps (length p)) in
    let all = so_far S p is_new n small total (omega arith) fresh old apart h in
    same_sum (Cells S p total) (IsCell T) _ (λ c t. elim t [
      | inl (inl w) ↦ record { point = w.point; within = with.old w.point w.within; cell = w.cell }
      | inl (inr e) ↦ record { point = p; within = with.new; cell = subst (IsCellOf p) e (own_cell p) }
      | inr (j, l, e) ↦ record { point = p; within = with.new; cell = subst (IsCellOf p) e (cell_of_number p j l) }
    ]) (λ c t. elim (with.only t.point t.within) [
      | inl s ↦ inl (inl (record { point = t.point; within = s; cell = t.cell }))
      | inr e ↦ elim (cell_cases p c (subst (λ q. IsCellOf q c) (sym e) t.cell)) [
        | inl d ↦ inl (inr d)
        | inr m ↦ (let k = near_number (doubled p) c m in inr (k.0, subst (λ n. k.0 < n) (count_is p) k.1, sym (near_cell p k.0) ∙ k.2))
      ]
    ]) all
