-- Lists of balls by places: what holds of each, and the first ones.
-- Laws of lists alone.
use Rattle.std.proofs.Common.{◌≡◌, ℕ, zero, suc, ◌<◌, refl, subst, arith, List, [], ◌∷◌, ◌++◌, take, get_or, Some}
use Rattle.std.specs.Prelude.{slice_get, All}
use Rattle.std.proofs.lemmas.List.Elements.{All-from_get_or}
use Rattle.std.proofs.lemmas.Option.{slice_get_within, slice_get-get_or, get_or_from_slice_get}
use Rattle.ball_terms.specs.Balls.{Ball}

-- what holds of each entry holds of the one at a place
pub all_get : {A : Type 0} (P : A → Type 0) (xs : List A) (k : ℕ) (x : A) → slice_get xs k ≡ Some x → All P xs → P x
all_get P xs k x e h = subst P (get_or_from_slice_get xs k x x e) (h k x (slice_get_within xs k x e))

-- and what holds at each place holds of each ball
pub each_of : (xs : List Ball) (P : Ball → Type 0) → ((k : ℕ) (x : Ball) → slice_get xs k ≡ Some x → P x) → All P xs
each_of xs P h =
    let none : Ball = record { centre = []; near = []; s = 0; own = [] } in
    All-from_get_or P xs none (λ k m. h k (get_or xs k none) (slice_get-get_or xs k none m))

pub taken_get : {A : Type 0} (xs : List A) (k j : ℕ) → j < k → slice_get (take k xs) j ≡ slice_get xs j
taken_get xs zero j l = absurd (omega arith)
taken_get [] (suc k) j l = refl
taken_get (x ∷ xs) (suc k) zero l = refl
taken_get (x ∷ xs) (suc k) (suc j) l = taken_get xs k j (omega arith)

pub get_kept : {A : Type 0} (xs ys : List A) (k : ℕ) (x : A) → slice_get xs k ≡ Some x → slice_get (xs ++ ys) k ≡ Some x
get_kept [] ys k x e = cc
get_kept (y ∷ xs) ys zero x e = e
get_kept (y ∷ xs) ys (suc k) x e = get_kept xs ys k x e
