-- A corner of a list that the program keeps, as one of the list that it stands for.
-- Lists alone.
use Rattle.std.proofs.Common.{◌≡◌, ℕ, ◌-◌, ◌<◌, List, [], ◌∷◌, ◌++◌, length, reverse, take, drop, get_or, refl, sym, ap, ◌∙◌}
use Rattle.std.proofs.lemmas.List.{get_or-map, length-map, map-append, map_push, take-map, drop-map, reverse-append}
use Rattle.shape_space.specs.declared.point.P2.{P2}
use Rattle.measure_terms.specs.Hulls.{origin, vertex}
use Rattle.measuring.specs.Corners.{corner, corners}

pub read : (points : List P2) (i : ℕ) (p : P2) → i < length points → p ≡ get_or points i p → corner p ≡ vertex (corners points) i
read points i p l e = ap corner e ∙ sym (get_or-map corner points i p origin l)

-- the other way round
pub reversed : (points : List P2) → reverse (corners points) ≡ corners (reverse points)
reversed [] = refl
reversed (p ∷ points) =
    reverse-append (corner p ∷ []) (corners points) ∙ ap (λ l. l ++ corner p ∷ []) (reversed points) ∙ sym (map_push corner (reverse points) p)
    ∙ ap corners (sym (reverse-append (p ∷ []) points))

-- the corners between the first and the last of a list, behind another
pub joined : (out back : List P2) → corners (out ++ take (length back - 2) (drop 1 back)) ≡ corners out ++ take (length (corners back) - 2)
    (drop 1 (corners back))
joined out back =
    let n = length back - 2 in
    let count : length (corners back) - 2 ≡ n = ap (λ m. m - 2) (length-map back corner) in
    map-append corner out (take n (drop 1 back))
    ∙ ap (λ l. corners out ++ l)
    (sym (take-map corner n (drop 1 back)) ∙ ap (take n) (sym (drop-map corner 1 back)) ∙ ap (λ m. take m (drop 1 (corners back))) (sym count))

-- one corner more behind the first k
pub put : (points : List P2) (k : ℕ) (p : P2) → corners (take k points ++ p ∷ []) ≡ take k (corners points) ++ corner p ∷ []
put points k p = map_push corner (take k points) p ∙ ap (λ l. l ++ corner p ∷ []) (sym (take-map corner k points))
