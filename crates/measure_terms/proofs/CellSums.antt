-- Alternating sums of sets of cells: of the same set, and of a set with one cell more.
-- Sets of cells alone; which cubes they belong to stands elsewhere.
use Rattle.std.proofs.Common.{◌≡◌, ◌≢◌, ◌⊎◌, inl, inr, ℕ, zero, suc, ◌+◌, ◌<◌, ◌≤◌, List, [], ◌∷◌, length, subst, sym, ap, ◌∙◌, arith, refl}
use Rattle.std.specs.Prelude.{ℤ, pos, ◌+ℤ◌, ◌-ℤ◌, AllPairs, Contains, ◌==◌, cond}
use Rattle.std.proofs.lemmas.Int.{ints}
use Rattle.std.proofs.lemmas.List.{get_or_default}
use Rattle.std.proofs.lemmas.List.Sums.{sum_by-cons}
use Rattle.std.proofs.lemmas.List.Elements.{All-cons, All-weaker, All-contains}
use Rattle.shape_terms.specs.Points.{Point}
use Rattle.shape_terms.proofs.SameCycles.{head_in, later_in}
use Rattle.measure_terms.specs.Cells.{IsAlternatingSum, cells_of, dimension, sign}

-- the same set has the same sum
pub same_sum : (S T : Point → Type 0) (n : ℤ) → ((c : Point) → S c → T c) → ((c : Point) → T c → S c) → IsAlternatingSum S n → IsAlternatingSum T n
same_sum S T n to back h = record {
  cells = h.cells;
  only = All-weaker S T to h.cells h.only;
  all = λ c t. h.all c (back c t);
  once = h.once;
  sum = h.sum;
}

-- no cell
pub no_cells : (T : Point → Type 0) → ((c : Point) → T c → ⊥) → IsAlternatingSum T (pos 0)
no_cells T none = record {
  cells = [];
  only = λ i d l. absurd (omega (arith, l));
  all = λ c t. absurd (none c t);
  once = λ i j d a l. absurd (omega (arith, l));
  sum = refl;
}

-- ---- one cell more

-- a list with an element in front that is not one of it
pub apart_cons : {A : Type 0} (x : A) (xs : List A) → (Contains xs x → ⊥) → AllPairs (λ b c. b ≢ c) xs → AllPairs (λ b c. b ≢ c) (x ∷ xs)
apart_cons x xs n h zero zero d a l = absurd (omega (arith, a))
apart_cons x xs n h zero (suc j) d a l = λ e. n (let m : j < length xs = omega (arith, l) in (j, m, get_or_default xs j x d m ∙ sym e))
apart_cons x xs n h (suc i) zero d a l = absurd (omega (arith, a))
apart_cons x xs n h (suc i) (suc j) d a l = h i j d (omega (arith, a)) (omega (arith, l))

added : (m a b c d : ℕ) → m ≤ 3 → (pos (a + c) -ℤ pos (b + d)) +ℤ sign m ≡ pos ((cond (m == 0) 1 0 + a) + (cond (m == 2) 1 0 + c)) -ℤ pos
    ((cond (m == 1) 1 0 + b) + (cond (m == 3) 1 0 + d))
added zero a b c d l = omega (arith, ints)
added (suc zero) a b c d l = omega (arith, ints)
added (suc (suc zero)) a b c d l = omega (arith, ints)
added (suc (suc (suc zero))) a b c d l = omega (arith, ints)
added (suc (suc (suc (suc m)))) a b c d l = absurd (omega (arith, l))

-- a cell that is not in the set
pub one_cell_more : (T : Point → Type 0) (c : Point) (n : ℤ) → (T c → ⊥) → dimension c ≤ 3 → IsAlternatingSum T n
    → IsAlternatingSum (λ b. T b ⊎ (c ≡ b)) (n +ℤ sign (dimension c))
one_cell_more T c n new small h = record {
  cells = c ∷ h.cells;
  only = All-cons (λ b. T b ⊎ (c ≡ b)) c h.cells (inr refl) (All-weaker T (λ b. T b ⊎ (c ≡ b)) (λ b t. inl t) h.cells h.only);
  all = λ b t. elim t [ inl u ↦ later_in c h.cells b (h.all b u) | inr e ↦ subst (Contains (c ∷ h.cells)) e (head_in c h.cells) ];
  once = apart_cons c h.cells (λ i. new (All-contains T h.cells c h.only i)) h.once;
  sum = ap (λ s. s +ℤ sign (dimension c)) h.sum ∙ added (dimension c) (cells_of 0 h.cells) (cells_of 1 h.cells) (cells_of 2 h.cells) (cells_of 3 h.cells) small
      ∙ sym (λ i. pos (count 0 i + count 2 i) -ℤ pos (count 1 i + count 3 i));
}
  where
    count : (k : ℕ) → cells_of k (c ∷ h.cells) ≡ cond (dimension c == k) 1 0 + cells_of k h.cells
    count k = sum_by-cons (λ b. cond (dimension b == k) 1 0) c h.cells

-- a cell that is in the set
pub same_cells : (T : Point → Type 0) (c : Point) (n : ℤ) → T c → IsAlternatingSum T n → IsAlternatingSum (λ b. T b ⊎ (c ≡ b)) n
same_cells T c n t h = same_sum T (λ b. T b ⊎ (c ≡ b)) n (λ b u. inl u) (λ b u. elim u [ inl v ↦ v | inr e ↦ subst T e t ]) h
