-- The rows as the program keeps them, and those of the definitions: one point more, and the bounds that this needs.
-- Lists of rows and of facts alone stand here.
use Rattle.std.proofs.Common.{◌≡◌, ◌+◌, ◌<◌, ◌≤◌, ℕ, List, [], ◌∷◌, ◌++◌, length, map, get_or, set, take, sym, ap, ◌∙◌, arith}
use Rattle.std.specs.Prelude.{max}
use Rattle.std.proofs.lemmas.List.{take_more, map-set, map-append, length-map, get_or-map}
use Rattle.std.proofs.lemmas.List.FromFn.{map-range_with_len_more}
use Rattle.shape_terms.specs.Pictures.{Picture}
use Rattle.measure_terms.specs.Facts.{Fact, facts_of, facts_below, fact_at}
use Rattle.measure_terms.specs.Measures.{Measures, measures_of, greatest}
use Rattle.measure_terms.specs.OneMore.{measures_with}
use Rattle.measure_terms.specs.Tables.{rows}
use Rattle.measure_terms.proofs.OneMore.{greatest_more}
use Rattle.measure_terms.proofs.TableRows.{facts_more, few_facts, length-rows, row_is, background_row, object_row}

pub greatest_so_far : (xs : List ℕ) (i x r most : ℕ) → i < length xs → most ≡ greatest (take i xs) → x ≡ get_or xs i 0 → r ≡ max x most
    → r ≡ greatest (take (i + 1) xs)
greatest_so_far xs i x r most l h e m =
    let t = ap greatest (take_more xs i 0 l) ∙ greatest_more (take i xs) (get_or xs i 0) in
    omega (arith, t, h, e, m)

-- the row of an object has no more points than were seen
pub few_points : {M : Type 0} (told : M → Measures) (all : List M) (fs : List Fact) (k : ℕ) (d : M) → map told all ≡ rows (length all) fs → k < length all
    → (told (get_or all k d)).area ≤ length fs
few_points told all fs k d e l =
    let is = sym (get_or-map told all k d (told d) l) ∙ ap (λ ms. get_or ms k (told d)) e ∙ row_is (length all) fs k (told d) l in
    let a = ap (λ (m : Measures). m.area) is in
    omega (arith, a, few_facts (k + 1) fs)

-- a point of the background
pub one_passed : {M : Type 0} (told : M → Measures) (all : List M) (object : Picture) (squares : List ℕ) (left : Picture) (labels : List ℕ) (i : ℕ)
    → map told all ≡ rows (length all) (facts_below object squares left labels i) → get_or labels i 0 ≡ 0
    → map told all ≡ rows (length all) (facts_below object squares left labels (i + 1))
one_passed told all object squares left labels i e z =
    e ∙ sym (ap (rows (length all)) (facts_more object squares left labels i) ∙ background_row (length all) (facts_below object squares left labels i)
    (fact_at object squares left labels i) z)

-- a point of the object k + 1
pub one_added : {M : Type 0} (told : M → Measures) (all : List M) (object : Picture) (squares : List ℕ) (left : Picture) (labels : List ℕ) (i k : ℕ) (d m : M)
    (f : Fact)
    → map told all ≡ rows (length all) (facts_below object squares left labels i) → get_or labels i 0 ≡ k + 1 → k < length all
    → f ≡ fact_at object squares left labels i → told m ≡ measures_with (told (get_or all k d)) f
    → map told (set all k m) ≡ rows (length all) (facts_below object squares left labels (i + 1))
one_added told all object squares left labels i k d m f e p l same h =
    let fs = facts_below object squares left labels i in
    let row = ap (λ ms. get_or ms k (told d)) (sym e) ∙ get_or-map told all k d (told d) l in
    map-set told all k m ∙ ap (λ ms. set ms k (told m)) e
    ∙ ap (λ n. set (rows (length all) fs) k n)
    (h ∙ ap (measures_with (told (get_or all k d))) same ∙ ap (λ n. measures_with n (fact_at object squares left labels i)) (sym row))
    ∙ sym (ap (rows (length all)) (facts_more object squares left labels i) ∙ object_row (length all) fs (fact_at object squares left labels i) k (told d) p l)

-- one more row without a point
pub one_empty_more : {M : Type 0} (told : M → Measures) (all more : List M) (i : ℕ) (m : M) → map told all ≡ rows i [] → told m ≡ measures_of []
    → more ≡ all ++ m ∷ [] → map told more ≡ rows (i + 1) []
one_empty_more told all more i m e h a =
    ap (map told) a ∙ map-append told all (m ∷ []) ∙ (λ j. e j ++ h j ∷ [])
    ∙ sym (map-range_with_len_more (λ k. measures_of (facts_of (k + 1) [])) 0 i i (omega arith))

-- there are as many rows as there are objects
pub rows_count : {M : Type 0} (told : M → Measures) (all : List M) (n : ℕ) (fs : List Fact) → map told all ≡ rows n fs → length all ≡ n
rows_count told all n fs e = sym (length-map all told) ∙ ap length e ∙ length-rows n fs

pub rows_whole : {M : Type 0} (told : M → Measures) (all : List M) (n : ℕ) (fs : List Fact) → map told all ≡ rows n fs → map told all ≡ rows (length all) fs
rows_whole told all n fs e = e ∙ ap (λ k. rows k fs) (sym (rows_count told all n fs e))
