-- The list of the contours of a component: each stands in it once, and each has a crack.
-- That none stands twice follows from the order of their first cracks.
use Rattle.std.proofs.Common.{◌≢◌, Bool, true, false, cond, ap, List, [], ◌∷◌}
use Rattle.std.specs.Prelude.{Contains, AllPairs, All, filter}
use Rattle.std.proofs.lemmas.List.Elements.{All-contains, All-filter}
use Rattle.shape_terms.specs.Points.{Point}
use Rattle.shape_terms.specs.Pictures.{Picture}
use Rattle.shape_terms.specs.Contours.{Crack, CrackBefore, IsCycle, AreCycles, first_of_cycle}
use Rattle.shape_terms.proofs.CrackOrder.{crack_not_before_itself}
use Rattle.shape_terms.proofs.Found.{pairs-cons, All-each}
use Rattle.shape_terms.proofs.SameCycles.{pairs-head, pairs-tail, head_in}
use Rattle.measure_terms.specs.ComponentContours.{contours_of}

-- ---- the list of the contours

pairs_keep : {A : Type 0} (R : A → A → Type 0) (x : A) (xs : List A) (b : Bool) → All (R x) xs → AllPairs R xs → AllPairs R (cond b (x ∷ xs) xs)
pairs_keep R x xs true h k = pairs-cons R x xs h k
pairs_keep R x xs false h k = k

pub pairs_filter : {A : Type 0} (R : A → A → Type 0) (p : A → Bool) (xs : List A) → AllPairs R xs → AllPairs R (filter p xs)
pairs_filter R p [] h = h
pairs_filter R p (x ∷ xs) h = pairs_keep R x (filter p xs) (p x) (All-filter p (R x) xs (pairs-head R x xs h)) (pairs_filter R p xs (pairs-tail R x xs h))

Rises : List Crack → List Crack → Type 0
Rises x y = CrackBefore (first_of_cycle x) (first_of_cycle y)

module _ (X : Picture) (K : Point → Bool) (cycles : List (List Crack)) (are : AreCycles X cycles) where
  pub contours_once : AllPairs (λ x y. x ≢ y) (contours_of K cycles)
  unfolding Rises
  contours_once i j d l m e = crack_not_before_itself _ _ (ap first_of_cycle e)
      (pairs_filter Rises (λ xs. K (first_of_cycle xs).pixel) cycles are.rising i j d l m)

  pub contour_crack : (xs : List Crack) → Contains (contours_of K cycles) xs → (c : Crack) × Contains xs c
  contour_crack xs i =
      some xs (All-contains (IsCycle X) cycles xs are.cycle
      (All-contains (Contains cycles) (contours_of K cycles) xs
      (All-filter (λ (xs : List Crack). K (first_of_cycle xs).pixel) (Contains cycles) cycles (All-each (Contains cycles) cycles (λ x j. j))) i))
    where
      some : (xs : List Crack) → IsCycle X xs → (c : Crack) × Contains xs c
      some [] y = absurd y
      some (c ∷ xs) y = (c, head_in c xs)
