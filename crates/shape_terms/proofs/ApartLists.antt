-- Lists of points no two of which are equal, and the points that such steps lead to.
-- Laws over any list of points alone.
use Rattle.std.proofs.Common.{◌≡◌, refl, arith, List, [], ◌∷◌, length, map}
use Rattle.std.specs.Prelude.{⊤, ◌≢◌, AllPairs, ◌+ℤ◌}
use Rattle.std.specs.List.{AllByRecursion}
use Rattle.std.proofs.lemmas.Int.{ints}
use Rattle.std.proofs.lemmas.List.Elements.{All-from_recursion}
use Rattle.std.proofs.lemmas.List.Kept.{AllPairs-cons}
use Rattle.shape_terms.specs.Points.{Point}
use Rattle.shape_terms.specs.Adjacency.{moved}

-- no element is equal to a later one
unfoldable pub Apart : List Point → Type 0
Apart [] = ⊤
Apart (x ∷ xs) = AllByRecursion (λ y. x ≢ y) xs × Apart xs

-- two steps that lead to one point are one
pub same_step : (p v w : Point) → length v ≡ length p → length w ≡ length p → moved p v ≡ moved p w → v ≡ w
same_step [] [] [] l k e = refl
same_step [] [] (z ∷ w) l k e = absurd (omega arith)
same_step [] (y ∷ v) w l k e = absurd (omega arith)
same_step (x ∷ p) [] w l k e = absurd (omega arith)
same_step (x ∷ p) (y ∷ v) [] l k e = absurd (omega arith)
same_step (x ∷ p) (y ∷ v) (z ∷ w) l k e =
    let a : x +ℤ y ≡ x +ℤ z = cc in
    let b : moved p v ≡ moved p w = cc in
    let f : y ≡ z = omega (arith, ints) in
    let g : v ≡ w = same_step p v w (omega arith) (omega arith) b in
    λ i. f i ∷ g i

-- distinct steps lead from a point to distinct points
pub apart_points : (p : Point) (vs : List Point) → AllByRecursion (λ v. length v ≡ length p) vs → Apart vs → Apart (map (moved p) vs)
unfolding Apart
apart_points p [] a h = tt
apart_points p (v ∷ vs) a h = (apart_from vs a.1 h.0, apart_points p vs a.1 h.1)
  where
    apart_from : (ws : List Point) → AllByRecursion (λ w. length w ≡ length p) ws → AllByRecursion (λ w. v ≢ w) ws
        → AllByRecursion (λ q. moved p v ≢ q) (map (moved p) ws)
    apart_from [] b g = tt
    apart_from (w ∷ ws) b g = ((λ e. g.0 (same_step p v w a.0 b.0 e)), apart_from ws b.1 g.1)

pub apart_pairs : (xs : List Point) → Apart xs → AllPairs (λ x y. x ≢ y) xs
unfolding Apart
apart_pairs [] h = λ i j d a b. absurd (omega arith)
apart_pairs (x ∷ xs) h = AllPairs-cons (λ x y. x ≢ y) x xs (All-from_recursion (λ y. x ≢ y) xs h.0) (apart_pairs xs h.1)
