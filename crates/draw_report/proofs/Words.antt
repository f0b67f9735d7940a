-- The words of a command line, as the bytes of each.
-- Laws of lists alone.
use Rattle.std.proofs.Common.{◌≡◌, ℕ, ◌≤◌, sym, ap, arith, List, [], ◌∷◌, length, get_or}
use Rattle.std.specs.declared.vec.Vec.{Vec}
use Rattle.shape_desk.specs.Files.{texts}

pub one_word : {Z : Type 0} (words : List (Vec ℕ Z)) (w : Vec ℕ Z) → 1 ≤ length words → length words ≤ 1 → w ≡ get_or words 0 w → texts words ≡ w.items ∷ []
one_word [] w some one e = absurd (omega arith)
one_word (x ∷ []) w some one e = ap (λ v. v.items ∷ []) (sym e)
one_word (x ∷ y ∷ words) w some one e = absurd (omega arith)

pub two_words : {Z : Type 0} (words : List (Vec ℕ Z)) (v w : Vec ℕ Z) → 2 ≤ length words → length words ≤ 2 → v ≡ get_or words 0 v → w ≡ get_or words 1 w
    → texts words ≡ v.items ∷ w.items ∷ []
two_words [] v w some two e f = absurd (omega arith)
two_words (x ∷ []) v w some two e f = absurd (omega arith)
two_words (x ∷ y ∷ []) v w some two e f = λ i. (sym e i).items ∷ (sym f i).items ∷ []
two_words (x ∷ y ∷ z ∷ words) v w some two e f = absurd (omega arith)

-- ---- the words are the same list

pub same_word : (t : List (List ℕ)) (a b : List ℕ) → t ≡ a ∷ [] → t ≡ b ∷ [] → a ≡ b
same_word t a b e f = cc

pub same_words : (t : List (List ℕ)) (a b c d : List ℕ) → t ≡ a ∷ b ∷ [] → t ≡ c ∷ d ∷ [] → (a ≡ c) × (b ≡ d)
same_words t a b c d e f = (cc, cc)

pub not_both : (t : List (List ℕ)) (a c d : List ℕ) → t ≡ a ∷ [] → t ≡ c ∷ d ∷ [] → ⊥
not_both t a c d e f = cc
