-- Forms of one word that the reports of pictures have beside those of all texts: numbers of reports and senses.
-- The other forms stand in `text_terms`; which fields a kind of line has stands in `Kinds`.
use Rattle.std.specs.Prelude.{◌==◌, ◌≤◌, ◌+◌, ◌-◌, ◌&&◌, ℕ, zero, suc, Bool, true, nat_le, if◌then◌else◌, List, [], ◌∷◌, get_or, codes}
use Rattle.shape_terms.specs.Patches.{Sense}
use Rattle.text_terms.specs.Forms.{Form, one_word}

-- the greatest number that a report of pictures with d axes has
abbrev pub last_number : ℕ → ℕ
last_number (suc (suc zero)) = 2
last_number _ = 1

-- the numbers of reports of pictures with d axes, each of one digit
abbrev pub IsNumber : ℕ → ℕ → Type 0
IsNumber d n = (1 ≤ n) × (n ≤ last_number d)

abbrev pub is_number : ℕ → ℕ → Bool
is_number d n = nat_le 1 n && nat_le n (last_number d)

abbrev pub digit : ℕ → ℕ
digit n = 48 + n

abbrev pub number : ℕ → Form ℕ
number d = one_word (IsNumber d) (is_number d) (λ n. digit n ∷ []) (λ w. get_or w 0 0 - 48) 1

-- the sign of a sense, and the sense that is guessed of a word
abbrev pub sense_word : Sense → List ℕ
sense_word Sense.Down = codes "-"
sense_word Sense.Upward = codes "+"

abbrev pub sense_value : List ℕ → Sense
sense_value w = if get_or w 0 0 == 43 then Sense.Upward else Sense.Down

abbrev pub sign : Form Sense
sign = one_word (λ s. Unit {0}) (λ s. true) sense_word sense_value 1
