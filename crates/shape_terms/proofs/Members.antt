-- What stands in a list that is made of another one.
-- Laws over any list alone.
use Rattle.std.proofs.Common.{◌≡◌, ℕ, zero, suc, ◌<◌, ap, sym, ◌∙◌, subst, refl, arith, List, [], ◌∷◌, take, map, Bool, true, false, cond}
use Rattle.std.specs.Prelude.{Contains, filter, slice_get}
use Rattle.std.specs.List.{range_with_len, flat_map}
use Rattle.std.proofs.lemmas.List.Elements.{Contains-append_left, Contains-append_right}
use Rattle.std.proofs.lemmas.List.FromFn.{get_or-range_with_len, length-range_with_len}

pub Contains-later : {X : Type 0} (y : X) (xs : List X) (x : X) → Contains xs x → Contains (y ∷ xs) x
Contains-later y xs x (k, h, e) = (suc k, omega arith, e)

pub Contains-map : {X Y : Type 0} (f : X → Y) (xs : List X) (x : X) → Contains xs x → Contains (map f xs) (f x)
Contains-map f [] x c = absurd (omega (arith, c.1))
Contains-map f (y ∷ xs) x (zero, h, e) = (0, omega arith, ap f e)
Contains-map f (y ∷ xs) x (suc k, h, e) = Contains-later (f y) (map f xs) (f x) (Contains-map f xs x (k, omega arith, e))

pub Contains-flat_map : {X Y : Type 0} (f : X → List Y) (xs : List X) (x : X) (y : Y) → Contains xs x → Contains (f x) y → Contains (flat_map f xs) y
Contains-flat_map f [] x y c d = absurd (omega (arith, c.1))
Contains-flat_map f (z ∷ xs) x y (zero, h, e) d = Contains-append_left (f z) (flat_map f xs) y (subst (λ w. Contains (f w) y) (sym e) d)
Contains-flat_map f (z ∷ xs) x y (suc k, h, e) d = Contains-append_right (f z) (flat_map f xs) y (Contains-flat_map f xs x y (k, omega arith, e) d)

pub Contains-range : (n x : ℕ) → x < n → Contains (range_with_len 0 n) x
Contains-range n x h = (x, rw length-range_with_len h, get_or-range_with_len 0 n x x h ∙ omega arith)

pub Contains-filter : {X : Type 0} (p : X → Bool) (xs : List X) (x : X) → Contains xs x → p x ≡ true → Contains (filter p xs) x
Contains-filter p [] x c t = absurd (omega (arith, c.1))
Contains-filter p (y ∷ xs) x (zero, h, e) t = rw (ap p e ∙ t) (0, omega arith, e)
Contains-filter p (y ∷ xs) x (suc k, h, e) t =
    let rest = Contains-filter p xs x (k, omega arith, e) t in
    elim (p y) as (λ b. Contains (cond b (y ∷ filter p xs) (filter p xs)) x) [ true ↦ Contains-later y (filter p xs) x rest | false ↦ rest ]

-- the last of the first elements
pub slice_get-taken : {A : Type 0} (xs : List A) (k : ℕ) → slice_get (take (suc k) xs) k ≡ slice_get xs k
slice_get-taken [] k = refl
slice_get-taken (x ∷ xs) zero = refl
slice_get-taken (x ∷ xs) (suc k) = slice_get-taken xs k
