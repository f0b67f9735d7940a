-- Marks of level cracks as they are kept: a bit for the upper side of each pixel, which has the number 0, and one for the lower side, which has the number 2.
-- Another way of keeping them changes this file and the code of the marks alone.
use Rattle.std.specs.Prelude.{ℕ, zero, suc, ◌/◌, ◌%◌, Bool, false, List, slice_index_or}
use Rattle.shape_crack.specs.declared.marks.CrackMarks.{CrackMarks}

-- of the bits of a pixel, that of the side; other sides have none
abbrev pub side_bit : Bool → Bool → ℕ → Bool
side_bit upper lower zero = upper
side_bit upper lower (suc zero) = false
side_bit upper lower (suc (suc zero)) = lower
side_bit upper lower (suc (suc (suc n))) = false

-- whether the bit of the crack with this number is set
abbrev pub is_set : List Bool → List Bool → ℕ → Bool
is_set upper lower n = side_bit (slice_index_or upper (n / 4) false) (slice_index_or lower (n / 4) false) (n % 4)

abbrev pub is_marked : CrackMarks → ℕ → Bool
is_marked marks n = is_set marks.upper marks.lower n
