-- The cells of borders in a row: without lengths they depend on where borders begin alone.
-- Lists of borders alone.
use Rattle.std.proofs.Common.{◌≡◌, inl, inr, ℕ, zero, suc, ◌+◌, Bool, true, false, refl, ap, sym, ◌∙◌, List, [], ◌∷◌, ◌++◌, length, get_or, map}
use Rattle.std.specs.Prelude.{◌==◌, filter, count_by, codes}
use Rattle.std.specs.List.{range_with_len}
use Rattle.std.proofs.lemmas.Bool.{cases_Bool, cond-true, cond-false}
use Rattle.std.proofs.lemmas.List.{length-map}
use Rattle.std.proofs.lemmas.List.Sums.{length-filter}
use Rattle.std.proofs.lemmas.Simd.{map-map}
use Rattle.shape_terms.specs.Contours.{Crack}
use Rattle.measure_terms.specs.Texts.{whole}
use Rattle.measure_terms.specs.Borders.{Border}
use Rattle.measure_terms.specs.Objects.{Bounds, bounds_of, is_of, label_at, object_bounds}
use Rattle.bordering.specs.OneMore.{no_bounds}
use Rattle.measure_report.specs.BorderColumns.{border_cells}

abbrev starts : List Border → List Crack
starts bs = map (λ (b : Border). b.start) bs

filter_starts : (q : Crack → Bool) (bs : List Border) → starts (filter (λ (b : Border). q b.start) bs) ≡ filter q (starts bs)
filter_starts q [] = refl
filter_starts q (b ∷ bs) =
    let xs = filter (λ (c : Border). q c.start) bs in
    let rest = filter_starts q bs in
    elim (cases_Bool (q b.start)) [
      | inl t ↦ ap starts (cond-true (q b.start) (b ∷ xs) xs t) ∙ ap (λ cs. b.start ∷ cs) rest
          ∙ sym (cond-true (q b.start) (b.start ∷ filter q (starts bs)) (filter q (starts bs)) t)
      | inr f ↦ ap starts (cond-false (q b.start) (b ∷ xs) xs f) ∙ rest ∙ sym (cond-false (q b.start) (b.start ∷ filter q (starts bs)) (filter q (starts bs)) f)
    ]

count_starts : (p q : Crack → Bool) (bs : List Border)
    → count_by (λ (b : Border). p b.start) (filter (λ (b : Border). q b.start) bs) ≡ length (filter p (filter q (starts bs)))
count_starts p q bs =
    let xs = filter (λ (b : Border). q b.start) bs in
    sym (length-filter (λ (b : Border). p b.start) xs) ∙ sym (length-map (filter (λ (b : Border). p b.start) xs) (λ (b : Border). b.start))
    ∙ ap length (filter_starts p xs) ∙ ap (λ cs. length (filter p cs)) (filter_starts q bs)

-- the holes of the object with a label
holes_of : (sides labels : List ℕ) (k : ℕ) (bs : List Border)
    → (bounds_of (filter (is_of sides labels k) bs)).holes
    ≡ length (filter (λ (c : Crack). c.side == 2) (filter (λ (c : Crack). label_at sides labels c.pixel == k) (starts bs)))
holes_of sides labels k bs = count_starts (λ c. c.side == 2) (λ c. label_at sides labels c.pixel == k) bs

get_mapped : {A B : Type 0} (f : A → B) (xs : List A) (j : ℕ) (d : A) → f (get_or xs j d) ≡ get_or (map f xs) j (f d)
get_mapped f [] j d = refl
get_mapped f (x ∷ xs) zero d = refl
get_mapped f (x ∷ xs) (suc j) d = get_mapped f xs j d

holes_listed : (sides labels : List ℕ) (n : ℕ) (bs : List Border)
    → map (λ (b : Bounds). b.holes) (object_bounds sides labels n bs)
    ≡ map (λ k. length (filter (λ (c : Crack). c.side == 2) (filter (λ (c : Crack). label_at sides labels c.pixel == k + 1) (starts bs))))
    (range_with_len 0 n)
holes_listed sides labels n bs =
    map-map (λ (b : Bounds). b.holes) (λ k. bounds_of (filter (is_of sides labels (k + 1)) bs)) (range_with_len 0 n)
    ∙ (λ i. map (λ k. holes_of sides labels (k + 1) bs i) (range_with_len 0 n))

same_holes : (sides labels : List ℕ) (n : ℕ) (bs cs : List Border) (j : ℕ) → starts bs ≡ starts cs
    → (get_or (object_bounds sides labels n bs) j no_bounds).holes ≡ (get_or (object_bounds sides labels n cs) j no_bounds).holes
same_holes sides labels n bs cs j e =
    let listed = holes_listed sides labels n bs
    ∙ (λ i. map (λ k. length (filter (λ (c : Crack). c.side == 2) (filter (λ (c : Crack). label_at sides labels c.pixel == k + 1) (e i)))) (range_with_len 0 n))
    ∙ sym (holes_listed sides labels n cs) in
    get_mapped (λ (b : Bounds). b.holes) (object_bounds sides labels n bs) j no_bounds ∙ ap (λ hs. get_or hs j 0) listed
    ∙ sym (get_mapped (λ (b : Bounds). b.holes) (object_bounds sides labels n cs) j no_bounds)

-- the cells of a row, where borders begin alike and are as long where lengths are told
pub same_cells : (told : Bool) (sides labels : List ℕ) (n : ℕ) (bs cs : List Border) (j : ℕ) → starts bs ≡ starts cs → (told ≡ true → bs ≡ cs)
    → border_cells told (get_or (object_bounds sides labels n bs) j no_bounds) ≡ border_cells told (get_or (object_bounds sides labels n cs) j no_bounds)
same_cells true sides labels n bs cs j e h = ap (λ ds. border_cells true (get_or (object_bounds sides labels n ds) j no_bounds)) (h refl)
same_cells false sides labels n bs cs j e h = ap (λ k. whole k ++ (codes "," ++ codes ",")) (same_holes sides labels n bs cs j e)
