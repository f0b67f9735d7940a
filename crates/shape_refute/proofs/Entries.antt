-- The first entries of a buffer, seen through a function, and lists read from their end.
-- Plain variables alone stand here.
use Rattle.std.proofs.Common.{◌≡◌, ℕ, zero, suc, ◌+◌, ◌<◌, ◌≤◌, List, [], ◌∷◌, length, take, drop, map, refl, ap, sym, ◌∙◌, arith, get_or}
use Rattle.std.specs.Prelude.{slice_get, Some}
use Rattle.std.proofs.lemmas.Option.{slice_get-get_or, slice_get_within, get_or_from_slice_get}
use Rattle.std.proofs.lemmas.List.{drop_more}

mapped_length : {X Y : Type 0} (f : X → Y) (es : List X) (n : ℕ) → n ≤ length es → length (map f (take n es)) ≡ n
mapped_length f es zero h = refl
mapped_length f [] (suc n) h = absurd (omega arith)
mapped_length f (e ∷ es) (suc n) h = ap suc (mapped_length f es n (omega arith))

pub seen_length : {X Y : Type 0} (f : X → Y) (es : List X) (n : ℕ) (seen : List Y) → map f (take n es) ≡ seen → n ≤ length es → n ≡ length seen
seen_length f es n seen e h = sym (mapped_length f es n h) ∙ ap length e

mapped_get : {X Y : Type 0} (f : X → Y) (es : List X) (n i : ℕ) (d : X) → i < n → get_or (map f (take n es)) i (f d) ≡ f (get_or es i d)
mapped_get f es zero i d h = absurd (omega arith)
mapped_get f [] (suc n) zero d h = refl
mapped_get f [] (suc n) (suc i) d h = refl
mapped_get f (e ∷ es) (suc n) zero d h = refl
mapped_get f (e ∷ es) (suc n) (suc i) d h = mapped_get f es n i d (omega arith)

pub seen_get : {X Y : Type 0} (f : X → Y) (es : List X) (n i : ℕ) (seen : List Y) (d : X) → map f (take n es) ≡ seen → n ≤ length es → i < length seen
    → slice_get seen i ≡ Some (f (get_or es i d))
seen_get f es n i seen d e h l =
    let m : i < n = omega (arith, seen_length f es n seen e h) in
    slice_get-get_or seen i (f d) l ∙ ap Some (rw e at (mapped_get f es n i d m))

-- a list from a place on, as the entry there and those behind it
pub drop_read : {Y : Type 0} (xs : List Y) (k i : ℕ) (x : Y) → k ≡ i + 1 → slice_get xs i ≡ Some x → drop i xs ≡ x ∷ drop k xs
drop_read xs k i x e h = drop_more xs i x (slice_get_within xs i x h) ∙ ap (λ y. y ∷ drop (i + 1) xs) (get_or_from_slice_get xs i x x h)
    ∙ ap (λ j. x ∷ drop j xs) (sym e)
