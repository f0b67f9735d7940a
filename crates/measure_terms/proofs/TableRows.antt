-- The rows of the table, as the facts of the points come in.
-- Laws of lists of facts; how the rows are kept does not matter here.
use Rattle.std.proofs.Common.{◌≡◌, ◌≢◌, inl, inr, ◌+◌, ◌<◌, ◌≤◌, ℕ, true, false, List, [], ◌∷◌, ◌++◌, length, get_or, set, sym, ap, ◌∙◌, arith, length-set}
use Rattle.std.proofs.Common.{get_or-set_other, get_or-set_same}
use Rattle.std.specs.Prelude.{◌==◌}
use Rattle.std.proofs.lemmas.Bool.{cond-true, cond-false, cases_eq}
use Rattle.std.proofs.lemmas.Bool.Decides.{nat_tests}
use Rattle.std.proofs.lemmas.List.{same_lists, append-nil}
use Rattle.std.proofs.lemmas.List.Elements.{filter-append}
use Rattle.std.proofs.lemmas.List.FromFn.{length-map-range_with_len, get_or-map-range_with_len, map-range_with_len_more}
use Rattle.std.proofs.lemmas.List.Sums.{length-filter, count_by-le-length}
use Rattle.shape_terms.specs.Pictures.{Picture}
use Rattle.measure_terms.specs.Facts.{Fact, facts_of, facts_below, fact_at}
use Rattle.measure_terms.specs.Measures.{Measures, measures_of}
use Rattle.measure_terms.specs.OneMore.{measures_with}
use Rattle.measure_terms.specs.Tables.{rows}
use Rattle.measure_terms.proofs.OneMore.{measures_more}

-- the facts of one point more
pub facts_more : (object : Picture) (squares : List ℕ) (left : Picture) (labels : List ℕ) (i : ℕ)
    → facts_below object squares left labels (i + 1) ≡ facts_below object squares left labels i ++ fact_at object squares left labels i ∷ []
facts_more object squares left labels i = map-range_with_len_more (fact_at object squares left labels) 0 i i (omega arith)

pub length-facts : (object : Picture) (squares : List ℕ) (left : Picture) (labels : List ℕ) (i : ℕ) → length (facts_below object squares left labels i) ≡ i
length-facts object squares left labels i = length-map-range_with_len (fact_at object squares left labels) 0 i

-- the facts of an object, where the last point belongs to it, and where it does not
own_more : (k : ℕ) (fs : List Fact) (f : Fact) → f.part ≡ k → facts_of k (fs ++ f ∷ []) ≡ facts_of k fs ++ f ∷ []
own_more k fs f e =
    let t : (f.part == k) ≡ true = grind (arith, nat_tests) in
    filter-append (λ g. g.part == k) fs (f ∷ []) ∙ ap (λ l. facts_of k fs ++ l) (cond-true (f.part == k) (f ∷ []) [] t)

other_more : (k : ℕ) (fs : List Fact) (f : Fact) → f.part ≢ k → facts_of k (fs ++ f ∷ []) ≡ facts_of k fs
other_more k fs f e =
    let t : (f.part == k) ≡ false = grind (arith, nat_tests) in
    filter-append (λ g. g.part == k) fs (f ∷ []) ∙ ap (λ l. facts_of k fs ++ l) (cond-false (f.part == k) (f ∷ []) [] t) ∙ append-nil (facts_of k fs)

pub few_facts : (k : ℕ) (fs : List Fact) → length (facts_of k fs) ≤ length fs
few_facts k fs = omega (arith, length-filter (λ g. g.part == k) fs, count_by-le-length (λ g. g.part == k) fs)

-- ---- rows

pub length-rows : (n : ℕ) (fs : List Fact) → length (rows n fs) ≡ n
length-rows n fs = length-map-range_with_len (λ k. measures_of (facts_of (k + 1) fs)) 0 n

pub row_is : (n : ℕ) (fs : List Fact) (k : ℕ) (d : Measures) → k < n → get_or (rows n fs) k d ≡ measures_of (facts_of (k + 1) fs)
row_is n fs k d l = get_or-map-range_with_len (λ k. measures_of (facts_of (k + 1) fs)) 0 n k k d l (omega arith)

-- a point of the background changes no row
pub background_row : (n : ℕ) (fs : List Fact) (f : Fact) → f.part ≡ 0 → rows n (fs ++ f ∷ []) ≡ rows n fs
background_row n fs f e = same_lists (rows n (fs ++ f ∷ [])) (rows n fs) (length-rows n (fs ++ f ∷ []) ∙ sym (length-rows n fs)) (λ k d l.
    let m : k < n = omega (arith, length-rows n (fs ++ f ∷ [])) in
    row_is n (fs ++ f ∷ []) k d m ∙ ap measures_of (other_more (k + 1) fs f (λ h. omega arith)) ∙ sym (row_is n fs k d m))

-- a point of an object changes its row alone
pub object_row : (n : ℕ) (fs : List Fact) (f : Fact) (j : ℕ) (d : Measures) → f.part ≡ j + 1 → j < n
    → rows n (fs ++ f ∷ []) ≡ set (rows n fs) j (measures_with (get_or (rows n fs) j d) f)
object_row n fs f j d e lj =
    let row = measures_with (get_or (rows n fs) j d) f in
    same_lists (rows n (fs ++ f ∷ [])) (set (rows n fs) j row) (length-rows n (fs ++ f ∷ []) ∙ sym (length-rows n fs) ∙ sym (length-set (rows n fs) j row))
    (λ k c l.
    let m : k < n = omega (arith, length-rows n (fs ++ f ∷ [])) in
    let here = row_is n (fs ++ f ∷ []) k c m in
    elim (cases_eq k j) [
      | inl same ↦ (
          let r = here ∙ ap measures_of (own_more (k + 1) fs f (omega arith)) ∙ measures_more (facts_of (k + 1) fs) f in
          let b : j < length (rows n fs) = omega (arith, length-rows n fs) in
          r ∙ ap (λ m. measures_with m f) (ap (λ i. measures_of (facts_of (i + 1) fs)) same ∙ sym (row_is n fs j d lj))
          ∙ sym (get_or-set_same (rows n fs) j row c b) ∙ ap (λ i. get_or (set (rows n fs) j row) i c) (sym same))
      | inr other ↦ here ∙ ap measures_of (other_more (k + 1) fs f (λ h. other (omega arith))) ∙ sym (row_is n fs k c m)
          ∙ sym (get_or-set_other (rows n fs) j k row c other)
    ])
