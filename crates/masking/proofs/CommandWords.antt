-- The two words of a command line, as the bytes of each.
-- Laws of lists alone.
use Rattle.std.proofs.Common.{◌≡◌, ℕ, ◌≤◌, sym, arith, List, [], ◌∷◌, length, get_or}
use Rattle.std.specs.declared.vec.Vec.{Vec}
use Rattle.shape_desk.specs.Files.{texts}

pub two_words : {Z : Type 0} (words : List (Vec ℕ Z)) (v w : Vec ℕ Z) → 2 ≤ length words → length words ≤ 2 → v ≡ get_or words 0 v → w ≡ get_or words 1 w
    → texts words ≡ v.items ∷ w.items ∷ []
two_words [] v w some two e f = absurd (omega arith)
two_words (x ∷ []) v w some two e f = absurd (omega arith)
two_words (x ∷ y ∷ []) v w some two e f = λ i. (sym e i).items ∷ (sym f i).items ∷ []
two_words (x ∷ y ∷ z ∷ words) v w some two e f = absurd (omega arith)
