-- Elements of lists by their places: of parts, and of lists with one more.
-- Laws of lists alone.
use Rattle.std.proofs.Common.{◌≡◌, ℕ, zero, suc, ◌+◌, ◌<◌, ap, sym, ◌∙◌, refl, arith, List, [], ◌∷◌, ◌++◌, length, take, drop, Some}
use Rattle.std.specs.Prelude.{slice_get, Contains, map}
use Rattle.std.proofs.lemmas.Option.{slice_get-get_or, slice_get_within, get_or_from_slice_get}

-- where an element stands
pub place_of : {A : Type 0} (xs : List A) (x : A) → Contains xs x → (k : ℕ) × (slice_get xs k ≡ Some x)
place_of xs x (k, l, e) = (k, slice_get-get_or xs k x l ∙ ap Some e)

pub of_place : {A : Type 0} (xs : List A) (k : ℕ) (x : A) → slice_get xs k ≡ Some x → Contains xs x
of_place xs k x e = (k, slice_get_within xs k x e, get_or_from_slice_get xs k x x e)

pub place_push : {A : Type 0} (xs ys : List A) (k : ℕ) (x : A) → slice_get xs k ≡ Some x → slice_get (xs ++ ys) k ≡ Some x
place_push [] ys k x e = cc
place_push (y ∷ xs) ys zero x e = e
place_push (y ∷ xs) ys (suc k) x e = place_push xs ys k x e

pub place_drop : {A : Type 0} (n : ℕ) (xs : List A) (k : ℕ) → slice_get (drop n xs) k ≡ slice_get xs (n + k)
place_drop zero xs k = ap (slice_get xs) (let q : k ≡ 0 + k = omega arith in q)
place_drop (suc n) [] k = refl
place_drop (suc n) (x ∷ xs) k = place_drop n xs k ∙ ap (slice_get (x ∷ xs)) (let q : suc (n + k) ≡ suc n + k = omega arith in q)

pub place_take : {A : Type 0} (n : ℕ) (xs : List A) (k : ℕ) → k < n → slice_get (take n xs) k ≡ slice_get xs k
place_take zero xs k h = absurd (omega arith)
place_take (suc n) [] k h = refl
place_take (suc n) (x ∷ xs) zero h = refl
place_take (suc n) (x ∷ xs) (suc k) h = place_take n xs k (omega arith)

pub of_front : {A : Type 0} (n : ℕ) (xs : List A) (x : A) → Contains (take n xs) x → (k : ℕ) × (k < n) × (slice_get xs k ≡ Some x)
of_front n xs x c =
    let p = place_of (take n xs) x c in
    let l = slice_get_within (take n xs) p.0 x p.1 in
    let f : p.0 < n = few n xs p.0 l in
    (p.0, f, sym (place_take n xs p.0 f) ∙ p.1)
  where
    few : {A : Type 0} (n : ℕ) (xs : List A) (k : ℕ) → k < length (take n xs) → k < n
    few zero xs k l = absurd (omega arith)
    few (suc n) [] k l = absurd (omega arith)
    few (suc n) (x ∷ xs) zero l = omega arith
    few (suc n) (x ∷ xs) (suc k) l = (let r = few n xs k (omega arith) in omega arith)

pub place_map : {A B : Type 0} (f : A → B) (xs : List A) (k : ℕ) (x : A) → slice_get xs k ≡ Some x → slice_get (map f xs) k ≡ Some (f x)
place_map f [] k x e = cc
place_map f (y ∷ xs) zero x e = (let h : y ≡ x = cc in ap (λ z. Some (f z)) h)
place_map f (y ∷ xs) (suc k) x e = place_map f xs k x e

pub of_map : {A B : Type 0} (f : A → B) (xs : List A) (y : B) → Contains (map f xs) y → (x : A) × Contains xs x × (f x ≡ y)
of_map f xs y c = let p = place_of (map f xs) y c in at f xs y p.0 p.1
  where
    at : {A B : Type 0} (f : A → B) (xs : List A) (y : B) (k : ℕ) → slice_get (map f xs) k ≡ Some y → (x : A) × Contains xs x × (f x ≡ y)
    at f [] y k e = cc
    at f (x ∷ xs) y zero e = (x, (0, omega arith, refl), cc)
    at f (x ∷ xs) y (suc k) e = (let r = at f xs y k e in (r.0, (suc r.1.0, (let l = r.1.1 in omega arith), r.1.2), r.2))
