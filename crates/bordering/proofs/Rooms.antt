-- How great the sums of borders may be.
-- Lists and numbers; the program stands in none.
use Rattle.std.proofs.Common.{◌≡◌, ◌∙◌, ap, sym, subst, ℕ, ◌+◌, ◌*◌, ◌^◌, ◌<◌, ◌≤◌, Bool, true, false, List, [], ◌∷◌, length, get_or, arith}
use Rattle.std.specs.Prelude.{if◌then◌else◌, filter, sum_by, count_by}
use Rattle.std.proofs.lemmas.List.{length-map}
use Rattle.std.proofs.lemmas.List.Sums.{sum_by-cons, count_by-le-length, length-filter}
use Rattle.std.proofs.lemmas.List.FromFn.{length-map-range_with_len, get_or-map-range_with_len}
use Rattle.measure_terms.specs.Borders as Terms
use Rattle.measure_terms.specs.Objects.{Bounds, is_outer, is_hole, outer_length, hole_length, bounds_of, is_of, object_bounds}
use Rattle.bordering.specs.declared.border.Border.{Border}
use Rattle.bordering.specs.Told.{border_told, all_borders}
use Rattle.bordering.specs.OneMore.{no_bounds, HasRoom, HaveRoom}

-- a sum over some is no greater than that over all
some_less : {X : Type 0} (f : X → ℕ) (p : X → Bool) (xs : List X) → sum_by f (filter p xs) ≤ sum_by f xs
some_less f p [] = omega arith
some_less f p (x ∷ xs) = by_test (p x) (some_less f p xs)
  where
    by_test : (t : Bool) → sum_by f (filter p xs) ≤ sum_by f xs → sum_by f (if t then x ∷ filter p xs else filter p xs) ≤ sum_by f (x ∷ xs)
    by_test true h = omega (arith, h, sum_by-cons f x xs, sum_by-cons f x (filter p xs))
    by_test false h = omega (arith, h, sum_by-cons f x xs)

-- no sum over all is greater than so many greatest lengths
outer_less : (bs : List Border) → sum_by outer_length (all_borders bs) ≤ length bs * (2 ^ 99 + 2 ^ 42)
outer_less [] = omega arith
outer_less (b ∷ bs) = let h = outer_less bs in let s = b.small in omega (arith, h, s, sum_by-cons outer_length (border_told b) (all_borders bs))

hole_less : (bs : List Border) → sum_by hole_length (all_borders bs) ≤ length bs * (2 ^ 99 + 2 ^ 42)
hole_less [] = omega arith
hole_less (b ∷ bs) = let h = hole_less bs in let s = b.small in omega (arith, h, s, sum_by-cons hole_length (border_told b) (all_borders bs))

-- where fewer than 2^58 borders were put, there is room for one more
pub room_for_one : (sides labels : List ℕ) (n : ℕ) (bs : List Border) (ts : List Bounds) → ts ≡ object_bounds sides labels n (all_borders bs)
    → length bs + 1 ≤ 2 ^ 58 → HaveRoom ts
room_for_one sides labels n bs ts e few = λ k l.
    let all : length ts ≡ n = ap length e ∙ length-map-range_with_len (λ j. bounds_of (filter (is_of sides labels (j + 1)) (all_borders bs))) 0 n in
    let within : k < n = omega (arith, l, all) in
    let is : get_or ts k no_bounds ≡ bounds_of (filter (is_of sides labels (k + 1)) (all_borders bs)) = ap (λ c. get_or c k no_bounds) e
    ∙ get_or-map-range_with_len (λ j. bounds_of (filter (is_of sides labels (j + 1)) (all_borders bs))) 0 n k k no_bounds within (omega arith) in
    subst HasRoom (sym is) (room (is_of sides labels (k + 1)))
  where
    room : (p : Terms.Border → Bool) → HasRoom (bounds_of (filter p (all_borders bs)))
    room p =
        let xs = all_borders bs in
        let a = some_less outer_length is_outer (filter p xs) in
        let b = some_less outer_length p xs in
        let c = outer_less bs in
        let d = some_less hole_length is_hole (filter p xs) in
        let e = some_less hole_length p xs in
        let f = hole_less bs in
        let g : count_by is_hole (filter p xs) ≤ length (filter p xs) = count_by-le-length is_hole (filter p xs) in
        let h : length (filter p xs) ≡ count_by p xs = length-filter p xs in
        let j = count_by-le-length p xs in
        let i : length xs ≡ length bs = length-map bs border_told in
        record { border = omega (arith, a, b, c, few); hole_border = omega (arith, d, e, f, few); holes = omega (arith, g, h, i, j, few) }
