-- Two lists whose elements belong together, each to the one at its place: one more at both ends, and the two at a place.
-- Laws of lists alone.
use Rattle.std.proofs.Common.{ℕ, zero, suc, ◌<◌, arith, List, [], ◌∷◌, ◌++◌, length, get_or}
use Rattle.std.specs.List.{AllZip}

pub zip_push : {A B : Type 0} (R : A → B → Type 0) (xs : List A) (ys : List B) (x : A) (y : B) → AllZip R xs ys → R x y → AllZip R (xs ++ x ∷ []) (ys ++ y ∷ [])
zip_push R [] [] x y h r = (r, tt)
zip_push R [] (z ∷ ys) x y h r = absurd h
zip_push R (z ∷ xs) [] x y h r = absurd h
zip_push R (z ∷ xs) (w ∷ ys) x y h r = (h.0, zip_push R xs ys x y h.1 r)

-- the element at a place of the first list has one of the second
pub zip_at : {A B : Type 0} (R : A → B → Type 0) (xs : List A) (ys : List B) (k : ℕ) (d : A) → AllZip R xs ys → k < length xs → (y : B) × R (get_or xs k d) y
zip_at R [] ys k d h l = absurd (omega arith)
zip_at R (x ∷ xs) [] k d h l = absurd h
zip_at R (x ∷ xs) (y ∷ ys) zero d h l = (y, h.0)
zip_at R (x ∷ xs) (y ∷ ys) (suc k) d h l = zip_at R xs ys k d h.1 (omega arith)
