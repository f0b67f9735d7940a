-- Lists by their first items and their last.
-- Facts of lists alone: no word of a command occurs here.
use Rattle.std.proofs.Common.{◌≡◌, ℕ, ◌<◌, ◌≤◌, List, [], ◌∷◌, ◌++◌, length, get_or, map, refl, ap, ◌∙◌, arith}
use Rattle.std.proofs.lemmas.List.{map-append}

-- a list of four items
pub four_items : {T : Type 0} (xs : List T) (a b c d : T) → 4 ≤ length xs → length xs < 5 → a ≡ get_or xs 0 a → b ≡ get_or xs 1 b → c ≡ get_or xs 2 c
    → d ≡ get_or xs 3 d → xs ≡ a ∷ b ∷ c ∷ d ∷ []
four_items (x ∷ y ∷ z ∷ w ∷ []) a b c d l m e f g h = rw (e, f, g, h) refl
four_items (x ∷ y ∷ z ∷ w ∷ v ∷ xs) a b c d l m e f g h = absurd (omega arith)
four_items (x ∷ y ∷ z ∷ []) a b c d l m e f g h = absurd (omega arith)
four_items (x ∷ y ∷ []) a b c d l m e f g h = absurd (omega arith)
four_items (x ∷ []) a b c d l m e f g h = absurd (omega arith)
four_items [] a b c d l m e f g h = absurd (omega arith)

-- a list has one last item and one front
pub record SameEnds {T : Type 0} (xs ys : List T) (a b : T) : Type 0 where
  pub front : xs ≡ ys
  pub last : a ≡ b

pub same_ends : {T : Type 0} (xs ys : List T) (a b : T) → xs ++ a ∷ [] ≡ ys ++ b ∷ [] → SameEnds xs ys a b
same_ends [] [] a b e = record { front = refl; last = cc }
same_ends [] (y ∷ []) a b e = absurd (let n = ap length e in omega arith)
same_ends [] (y ∷ z ∷ ys) a b e = absurd (let n = ap length e in omega arith)
same_ends (x ∷ []) [] a b e = absurd (let n = ap length e in omega arith)
same_ends (x ∷ w ∷ xs) [] a b e = absurd (let n = ap length e in omega arith)
same_ends {T = T'} (x ∷ xs) (y ∷ ys) a b e =
    let heads : x ≡ y = cc in
    let tails : xs ++ a ∷ [] ≡ ys ++ b ∷ [] = cc in
    let r = same_ends xs ys a b tails in
    record { front = rw (heads, r.front) refl; last = r.last }

-- what is made of each item of a list, by its front and its last
pub made_to_last : {T : Type 0} (f : T → List ℕ) (all front : List T) (last : T) → all ≡ front ++ last ∷ [] → map f all ≡ map f front ++ f last ∷ []
made_to_last f all front last e = ap (map f) e ∙ map-append f front (last ∷ [])
