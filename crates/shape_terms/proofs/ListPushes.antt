-- Lists with one more element at their end: which elements they have, and what stands before each.
-- Laws of lists alone.
use Rattle.std.proofs.Common.{◌≡◌, ◌⊎◌, inl, inr, ℕ, zero, suc, refl, ap, sym, List, [], ◌∷◌, ◌++◌, length, take, Some}
use Rattle.std.specs.Prelude.{slice_get}

-- an element of a list with one more at its end is one of the list or that last one
pub get_push : {A : Type 0} (xs : List A) (x : A) (k : ℕ) (m : A) → slice_get (xs ++ x ∷ []) k ≡ Some m
    → ((slice_get xs k ≡ Some m) × (take k (xs ++ x ∷ []) ≡ take k xs)) ⊎ ((x ≡ m) × (take k (xs ++ x ∷ []) ≡ xs) × (k ≡ length xs))
get_push [] x zero m e = inr (cc, refl, refl)
get_push [] x (suc k) m e = cc
get_push (y ∷ xs) x zero m e = inl (e, refl)
get_push (y ∷ xs) x (suc k) m e = elim (get_push xs x k m e) [
  | inl h ↦ inl (h.0, ap (λ l. y ∷ l) h.1)
  | inr h ↦ inr (h.0, ap (λ l. y ∷ l) h.1, ap suc h.2)
]

-- the elements before the n-th, with it
pub take_next : {A : Type 0} (xs : List A) (n : ℕ) (x : A) → slice_get xs n ≡ Some x → take n xs ++ x ∷ [] ≡ take (suc n) xs
take_next [] n x e = cc
take_next (y ∷ xs) zero x e = let h : y ≡ x = cc in ap (λ z. z ∷ []) (sym h)
take_next (y ∷ xs) (suc n) x e = ap (λ l. y ∷ l) (take_next xs n x e)
