-- What the borders of objects add up to, one border after another.
-- Lists and numbers; the program's loop stands in none.
use Rattle.std.proofs.Common.{◌≡◌, ◌⊎◌, inl, inr, ◌∙◌, ap, sym, subst, refl, ℕ, zero, suc, ◌+◌, ◌<◌, Bool, true, false, List, [], ◌∷◌, ◌++◌, length, get_or}
use Rattle.std.proofs.Common.{arith, get_or-set_other, get_or-set_same, length-set}
use Rattle.std.specs.Prelude.{nat_eq, if◌then◌else◌, filter, sum_by, count_by, cond}
use Rattle.std.proofs.Math.ListN.{set, replicate}
use Rattle.std.proofs.lemmas.Bool.{cond-true, cond-false}
use Rattle.std.proofs.lemmas.Bool.Decides.{nat_tests}
use Rattle.std.proofs.lemmas.List.{append-nil, get_or-replicate, length-replicate}
use Rattle.std.proofs.lemmas.List.Elements.{filter-append}
use Rattle.std.proofs.lemmas.List.Sums.{sum_by-append}
use Rattle.std.proofs.lemmas.List.FromFn.{fill_by_all, length-map-range_with_len, get_or-map-range_with_len}
use Rattle.measure_terms.specs.Borders.{Border}
use Rattle.measure_terms.specs.Objects.{Bounds, is_outer, is_hole, outer_length, hole_length, bounds_of, label_at, is_of, object_bounds}
use Rattle.bordering.specs.declared.objects.Bounds as Kept
use Rattle.bordering.specs.Told.{bounds_told, all_bounds}
use Rattle.bordering.specs.OneMore.{no_bounds, bounds_with, HasOneMore}

-- ---- one border

-- the object with the label gets it
pub one_put : (label i : ℕ) (b : Border) (old : List Bounds) (t : Bounds) → label ≡ i + 1 → i < length old → t ≡ bounds_with (get_or old i no_bounds) b
    → HasOneMore label b old (set old i t)
one_put label i b old t e l h = record {
  all = length-set old i t;
  each = λ k m. elim (split k) [
    | inl s ↦
        subst (λ j. get_or (set old i t) j no_bounds ≡ (if nat_eq label (j + 1) then bounds_with (get_or old j no_bounds) b else get_or old j no_bounds))
        (sym s)
        (get_or-set_same old i t no_bounds l ∙ h ∙ sym (cond-true (nat_eq label (i + 1)) _ _ (grind (arith, nat_tests))))
    | inr ne ↦ get_or-set_other old i k t no_bounds ne ∙ sym (cond-false (nat_eq label (k + 1)) _ _ (grind (arith, nat_tests)))
  ];
}
  where
    split : (k : ℕ) → (k ≡ i) ⊎ (k ≡ i → ⊥)
    split k = grind arith

-- ---- all borders

-- one more of an object's borders
bounds_more : (xs : List Border) (b : Border) → bounds_of (xs ++ b ∷ []) ≡ bounds_with (bounds_of xs) b
bounds_more xs b =
    let outer = ap (sum_by outer_length) (filter-append is_outer xs (b ∷ [])) ∙ sum_by-append outer_length (filter is_outer xs) (filter is_outer (b ∷ []))
    ∙ ap (λ n. sum_by outer_length (filter is_outer xs) + n) (one outer_length (is_outer b)) in
    let inner = ap (sum_by hole_length) (filter-append is_hole xs (b ∷ [])) ∙ sum_by-append hole_length (filter is_hole xs) (filter is_hole (b ∷ []))
    ∙ ap (λ n. sum_by hole_length (filter is_hole xs) + n) (one hole_length (is_hole b)) in
    let many : count_by is_hole (xs ++ b ∷ []) ≡ count_by is_hole xs + cond (is_hole b) 1 0 = let h = sum_by-append (λ x. cond (is_hole x) 1 0) xs (b ∷ []) in
    omega (arith, h) in
    λ i. record { border = outer i; hole_border = inner i; holes = many i }
  where
    one : (f : Border → ℕ) (t : Bool) → sum_by f (if t then b ∷ [] else []) ≡ (if t then f b else 0)
    one f true = omega arith
    one f false = refl

-- of no border each adds up to nothing
pub none_counted : (sides labels : List ℕ) (n : ℕ) (none : Kept.Bounds) → bounds_told none ≡ no_bounds
    → all_bounds (replicate n none) ≡ object_bounds sides labels n []
none_counted sides labels n none e = told n ∙ fill_by_all (λ k. bounds_of (filter (is_of sides labels (k + 1)) [])) (replicate n no_bounds) n no_bounds
    (length-replicate n no_bounds) (λ k l. get_or-replicate n k no_bounds no_bounds l)
  where
    told : (n : ℕ) → all_bounds (replicate n none) ≡ replicate n no_bounds
    told zero = refl
    told (suc n) = let more = told n in λ i. e i ∷ more i

-- one border more
pub border_counted : (sides labels : List ℕ) (n : ℕ) (bs : List Border) (b : Border) (old new : List Bounds) → old ≡ object_bounds sides labels n bs
    → HasOneMore (label_at sides labels b.start.pixel) b old new → new ≡ object_bounds sides labels n (bs ++ b ∷ [])
border_counted sides labels n bs b old new h more =
    let old_length : length old ≡ n = ap length h ∙ length-map-range_with_len (λ k. bounds_of (filter (is_of sides labels (k + 1)) bs)) 0 n in
    fill_by_all (λ k. bounds_of (filter (is_of sides labels (k + 1)) (bs ++ b ∷ []))) new n no_bounds (more.all ∙ old_length) (λ k l. each k l old_length)
  where
    with_test : (t : Bool) (xs : List Border) → bounds_of (xs ++ (if t then b ∷ [] else [])) ≡ (if t then bounds_with (bounds_of xs) b else bounds_of xs)
    with_test true xs = bounds_more xs b
    with_test false xs = ap bounds_of (append-nil xs)

    each : (k : ℕ) → k < n → length old ≡ n → get_or new k no_bounds ≡ bounds_of (filter (is_of sides labels (k + 1)) (bs ++ b ∷ []))
    each k l e =
        let within : k < length old = omega arith in
        let xs = filter (is_of sides labels (k + 1)) bs in
        let t = is_of sides labels (k + 1) b in
        let was : get_or old k no_bounds ≡ bounds_of xs = ap (λ c. get_or c k no_bounds) h
        ∙ get_or-map-range_with_len (λ j. bounds_of (filter (is_of sides labels (j + 1)) bs)) 0 n k k no_bounds l (omega arith) in
        more.each k within ∙ ap (λ x. if t then bounds_with x b else x) was ∙ sym (with_test t xs)
        ∙ ap bounds_of (sym (filter-append (is_of sides labels (k + 1)) bs (b ∷ [])))
