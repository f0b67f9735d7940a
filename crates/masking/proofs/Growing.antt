-- Bytes that grow piece by piece, for each number below a bound or for each value of a list.
-- Laws of lists alone.
use Rattle.std.proofs.Common.{◌≡◌, ◌+◌, ℕ, List, [], ◌∷◌, ◌++◌, map, sym, ap, ◌∙◌, arith, append_assoc}
use Rattle.std.specs.List.{flat_map, range_with_len}
use Rattle.std.proofs.lemmas.List.{append-nil, map-id}
use Rattle.std.proofs.lemmas.List.FromFn.{map-range_with_len_more}
use Rattle.std.proofs.lemmas.Grind.{flat_map-append}

-- a piece of a list that grows
pub one_more : (s₀ s₁ s₂ all more a : List ℕ) → s₁ ≡ s₀ ++ all → s₂ ≡ s₁ ++ a → more ≡ all ++ a → s₂ ≡ s₀ ++ more
one_more s₀ s₁ s₂ all more a p q m = q ∙ ap (λ t. t ++ a) p ∙ append_assoc s₀ all a ∙ ap (λ t. s₀ ++ t) (sym m)

-- the pieces of the numbers below n, with one number more
pub more_numbers : {A : Type 0} (f : ℕ → List A) (n : ℕ) → flat_map f (range_with_len 0 (n + 1)) ≡ flat_map f (range_with_len 0 n) ++ f n
more_numbers f n =
    let z : 0 + n ≡ n = omega arith in
    ap (flat_map f) (sym (map-id (range_with_len 0 (n + 1))) ∙ map-range_with_len_more (λ x. x) 0 n n z ∙ ap (λ t. t ++ n ∷ []) (map-id (range_with_len 0 n)))
    ∙ flat_map-append f (range_with_len 0 n) (n ∷ []) ∙ ap (λ t. flat_map f (range_with_len 0 n) ++ t) (append-nil (f n))

-- the values of the numbers below n, with one number more
pub more_values : (f : ℕ → ℕ) (n : ℕ) → map f (range_with_len 0 (n + 1)) ≡ map f (range_with_len 0 n) ++ f n ∷ []
more_values f n = map-range_with_len_more f 0 n n (omega arith)
