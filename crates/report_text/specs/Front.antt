-- A field that stands at a place of bytes, word by word, each behind a blank.
-- It is told of the bytes before and behind it, so that fields follow one another.
use Rattle.std.specs.Prelude.{◌≡◌, ◌≤◌, ◌+◌, ℕ, List, ◌++◌, take}
use Rattle.report_text.specs.Spelling.{behind_blanks}

-- from one place to another, `room` bytes behind it at most, these words stand, each behind a blank
pub record StandsAt (bytes : List ℕ) (from end room : ℕ) (words : List (List ℕ)) : Type 0 where
  pub order : from ≤ end
  pub few : end ≤ from + room
  pub text : take end bytes ≡ take from bytes ++ behind_blanks words
