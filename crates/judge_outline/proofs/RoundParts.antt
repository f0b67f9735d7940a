-- A contour's points twice round, as they are put down one by one, and the arcs that are parts of this list.
-- Laws over lists of points alone.
use Rattle.std.proofs.Common.{◌≡◌, ℕ, zero, suc, ◌+◌, ◌-◌, ◌*◌, ◌%◌, ◌<◌, ◌≤◌, List, [], ◌∷◌, ◌++◌, length, map, take, drop, refl, ap, sym, ◌∙◌, arith}
use Rattle.std.specs.Prelude.{All, slice_get, slice_index_or, Some}
use Rattle.std.proofs.lemmas.List.Elements.{All-map}
use Rattle.std.specs.List.{range_with_len}
use Rattle.std.proofs.lemmas.List.{length-map, map-append}
use Rattle.std.proofs.lemmas.Option.{get_or_from_slice_get}
use Rattle.shape_terms.specs.Points.{Point}
use Rattle.shape_terms.specs.Refutations.{point_at}
use Rattle.shape_terms.specs.Covers.{arc}
use Rattle.shape_terms.proofs.ArcRuns.{length-arc}

-- the points of the places from b on, k of them
abbrev pub from_place : List Point → ℕ → ℕ → List Point
from_place contour b k = map (λ i. point_at contour (i % length contour)) (range_with_len b k)

pub from_more : (contour : List Point) (b k : ℕ) (p : Point) → point_at contour ((b + k) % length contour) ≡ p
    → from_place contour b k ++ p ∷ [] ≡ from_place contour b (suc k)
from_more contour b zero p e =
    let q : b + 0 ≡ b = omega arith in
    ap (λ x. x ∷ []) (sym e ∙ ap (λ i. point_at contour (i % length contour)) q)
from_more contour b (suc k) p e =
    let q : b + suc k ≡ b + 1 + k = omega arith in
    ap (λ l. point_at contour (b % length contour) ∷ l) (from_more contour (b + 1) k p (ap (λ i. point_at contour (i % length contour)) (sym q) ∙ e))

-- the next point is put down
pub put_more : {A : Type 0} (f : A → Point) (contour : List Point) (k : ℕ) (old new : List A) (x : A) → new ≡ old ++ x ∷ [] → map f old ≡ from_place contour 0 k
    → slice_get contour (k % length contour) ≡ Some (f x) → map f new ≡ from_place contour 0 (k + 1)
put_more f contour k old new x e h there =
    let n : suc k ≡ k + 1 = omega arith in
    let z : 0 + k ≡ k = omega arith in
    ap (map f) e ∙ map-append f old (x ∷ []) ∙ ap (λ l. l ++ f x ∷ []) h
    ∙ from_more contour 0 k (f x) (ap (λ i. point_at contour (i % length contour)) z ∙ get_or_from_slice_get contour (k % length contour) (f x) [] there)
    ∙ ap (from_place contour 0) n

from_drop : (contour : List Point) (b k n : ℕ) → k ≤ n → drop k (from_place contour b n) ≡ from_place contour (b + k) (n - k)
from_drop contour b zero n l = λ i. from_place contour ((let q : b ≡ b + 0 = omega arith in q) i) ((let q : n ≡ n - 0 = omega arith in q) i)
from_drop contour b (suc k) zero l = absurd (omega arith)
from_drop contour b (suc k) (suc n) l =
    let p : b + 1 + k ≡ b + suc k = omega arith in
    let q : n - k ≡ suc n - suc k = omega arith in
    from_drop contour (b + 1) k n (omega arith) ∙ (λ i. from_place contour (p i) (q i))

from_take : (contour : List Point) (b k n : ℕ) → k ≤ n → take k (from_place contour b n) ≡ from_place contour b k
from_take contour b zero n l = refl
from_take contour b (suc k) zero l = absurd (omega arith)
from_take contour b (suc k) (suc n) l = ap (λ p. point_at contour (b % length contour) ∷ p) (from_take contour (b + 1) k n (omega arith))

-- an arc from the first two rounds is a part of the two rounds
pub arc_part : (contour : List Point) (first last : ℕ) → first ≤ last → last < 2 * length contour
    → take (last + 1 - first) (drop first (arc contour 0 (2 * length contour - 1))) ≡ arc contour first last
arc_part contour first last order within =
    let n : 2 * length contour - 1 + 1 - 0 ≡ 2 * length contour = omega arith in
    let a = ap (λ k. take (last + 1 - first) (drop first (from_place contour 0 k))) n in
    let b = ap (take (last + 1 - first)) (from_drop contour 0 first (2 * length contour) (omega arith)) in
    let z : 0 + first ≡ first = omega arith in
    a ∙ b ∙ from_take contour (0 + first) (last + 1 - first) (2 * length contour - first) (omega arith) ∙ ap (λ k. from_place contour k (last + 1 - first)) z

-- the same of a list of points of the program
pub part_is : {A : Type 0} (f : A → Point) (round run : List A) (contour : List Point) (first last : ℕ) → map f round ≡ arc contour 0 (2 * length contour - 1)
    → first ≤ last → last < 2 * length contour → run ≡ take (last + 1 - first) (drop first round) → map f run ≡ arc contour first last
part_is f round run contour first last twice order within e =
    ap (map f) e ∙ map_take f (last + 1 - first) (drop first round) ∙ ap (take (last + 1 - first)) (map_drop f first round)
    ∙ ap (λ l. take (last + 1 - first) (drop first l)) twice ∙ arc_part contour first last order within
  where
    map_take : {A : Type 0} (f : A → Point) (k : ℕ) (xs : List A) → map f (take k xs) ≡ take k (map f xs)
    map_take f zero xs = refl
    map_take f (suc k) [] = refl
    map_take f (suc k) (x ∷ xs) = ap (λ l. f x ∷ l) (map_take f k xs)

    map_drop : {A : Type 0} (f : A → Point) (k : ℕ) (xs : List A) → map f (drop k xs) ≡ drop k (map f xs)
    map_drop f zero xs = refl
    map_drop f (suc k) [] = refl
    map_drop f (suc k) (x ∷ xs) = map_drop f k xs

-- two rounds have twice as many points
pub two_rounds : {A : Type 0} (f : A → Point) (round : List A) (contour : List Point) → 1 ≤ length contour
    → map f round ≡ arc contour 0 (2 * length contour - 1) → length round ≡ 2 * length contour
two_rounds f round contour some e =
    let n : length (arc contour 0 (2 * length contour - 1)) ≡ 2 * length contour - 1 + 1 - 0 = length-arc contour 0 (2 * length contour - 1) in
    omega (arith, sym (length-map round f) ∙ ap length e ∙ n)

-- what holds of each point of a contour holds of each point of an arc of it
pub in_arc : (P : Point → Type 0) (contour : List Point) (first last : ℕ) → 1 ≤ length contour → All P contour → All P (arc contour first last)
in_arc P contour first last some h =
    let places = range_with_len first (last + 1 - first) in
    All-map P (λ i. point_at contour (i % length contour)) places (λ k d l. h (slice_index_or places k d % length contour) [] (omega arith))
