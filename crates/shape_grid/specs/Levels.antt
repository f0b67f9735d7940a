-- Levels of words: a number is in the set of a level where the word of that number, one level below, is not empty.
-- What the sets stand for does not matter here.
use Rattle.std.specs.Prelude.{◌≡◌, ℕ, ◌/◌, ◌*◌, ◌^◌, ◌<◌, ◌≤◌, ◌↔◌, List, length, slice_index}
use Rattle.shape_grid.specs.Sets.{In}

-- the upper words tell which of the lower words are not empty
pub record Sums (upper lower : List ℕ) : Type 0 where
  pub enough : length lower ≤ 64 * length upper
  pub each : (w : ℕ) → In upper w ↔ (0 < slice_index lower w)

-- the three levels above the words of a set
pub record AreLevels (base first second top : List ℕ) : Type 0 where
  pub few : length base < 2 ^ 32
  pub first_sums : Sums first base
  pub second_sums : Sums second first
  pub top_sums : Sums top second
  pub some : 1 ≤ length top
  pub few_top : length top < 2 ^ 32
  pub few_first : length first < 2 ^ 32
  pub few_second : length second < 2 ^ 32

-- the number is the least one of its word
pub record IsLeastOfWord (words : List ℕ) (w r : ℕ) : Type 0 where
  pub place : r / 64 ≡ w
  pub there : In words r
  pub least : (j : ℕ) → In words j → w ≤ j / 64 → r ≤ j
