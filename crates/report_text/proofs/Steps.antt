-- The four bytes of the word of a step along an axis.
use Rattle.std.proofs.Common.{◌≡◌, ℕ, List, [], ◌∷◌, length, get_or, arith}

-- a word of four bytes is these
pub four_bytes : (a b : ℕ) (w : List ℕ) → length w ≡ 4 → get_or w 0 0 ≡ a → get_or w 1 0 ≡ b → w ≡ a ∷ b ∷ get_or w 2 0 ∷ get_or w 3 0 ∷ ([])
four_bytes a b [] l e f = absurd (omega arith)
four_bytes a b (x ∷ []) l e f = absurd (omega arith)
four_bytes a b (x ∷ y ∷ []) l e f = absurd (omega arith)
four_bytes a b (x ∷ y ∷ z ∷ []) l e f = absurd (omega arith)
four_bytes a b (x ∷ y ∷ z ∷ u ∷ []) l e f = λ i. e i ∷ f i ∷ z ∷ u ∷ []
four_bytes a b (x ∷ y ∷ z ∷ u ∷ v ∷ w) l e f = absurd (omega arith)
