-- Lists of things that are seen as stretches: their elements, and where the next stretch of a round begins.
-- Laws over lists; what a stretch of a picture holds is not said here.
use Rattle.std.proofs.Common.{◌≡◌, ℕ, ◌+◌, ◌<◌, ◌≤◌, List, length, map, refl, ap, sym, ◌∙◌, subst, arith}
use Rattle.std.specs.Prelude.{All, slice_index_or}
use Rattle.std.proofs.lemmas.List.{length-map, get_or-map}
use Rattle.std.proofs.lemmas.Option.{slice_get-get_or, slice_get_past}
use Rattle.shape_terms.specs.Points.{Point}
use Rattle.shape_terms.specs.Covers.{Stretch, next_first}
use Rattle.shape_refute.specs.Places.{IsAround}

-- an element of the list, seen as its stretch
pub stretch_at : {A : Type 0} (f : A → Stretch) (xs : List A) (k : ℕ) (x : A) (e : Stretch) → k < length xs → x ≡ slice_index_or xs k x
    → f x ≡ slice_index_or (map f xs) k e
stretch_at f xs k x e l here = ap f here ∙ sym (get_or-map f xs k x e l)

pub around_at : {A : Type 0} (f : A → Stretch) (xs : List A) (k : ℕ) (x : A) (n : ℕ) → All (IsAround n) (map f xs) → k < length xs → x ≡ slice_index_or xs k x
    → IsAround n (f x)
around_at f xs k x n all l here = subst (IsAround n) (sym (stretch_at f xs k x (f x) l here)) (all k (f x) (omega (arith, length-map xs f)))

-- the first place of the next stretch, where there is one
pub next_some : (round : List Point) (stretches : List Stretch) (k : ℕ) (e : Stretch) → k + 1 < length stretches
    → (slice_index_or stretches (k + 1) e).first ≡ next_first round stretches k
next_some round stretches k e l = rw (slice_get-get_or stretches (k + 1) e l) refl

-- and after the last one
pub next_none : (round : List Point) (stretches : List Stretch) (k : ℕ) (e : Stretch) → length stretches ≤ k + 1 → 0 < length stretches
    → (slice_index_or stretches 0 e).first + length round ≡ next_first round stretches k
next_none round stretches k e l some = rw (slice_get_past stretches (k + 1) l, slice_get-get_or stretches 0 e some) refl
