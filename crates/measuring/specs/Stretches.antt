-- An object as stretches of raster numbers, each in a line of the box, and what holds of them while its points come.
-- Numbers and labels alone.
use Rattle.std.specs.Prelude.{◌≡◌, ℕ, ◌+◌, ◌/◌, ◌<◌, ◌≤◌, List, length, slice_index, slice_index_or}
use Rattle.measuring.specs.declared.stretch.Stretch.{Stretch}
use Rattle.measuring.specs.declared.stretch.Stretches.{Stretches}

-- a stretch that stands past the end of a list
abbrev pub no_stretch : Stretch
no_stretch = record { first = 0; last = 0 }

abbrev pub stretch_at : List Stretch → ℕ → Stretch
stretch_at ss k = slice_index_or ss k no_stretch

-- the number lies in the stretch with a place
pub record IsInStretch (ss : List Stretch) (k n : ℕ) : Type 0 where
  pub place : k < length ss
  pub low : (stretch_at ss k).first ≤ n
  pub high : n ≤ (stretch_at ss k).last

-- each stretch has numbers, those of one line, and behind those of the stretches before it
pub record AreStretches (width : ℕ) (ss : List Stretch) : Type 0 where
  pub some : (k : ℕ) → k < length ss → (stretch_at ss k).first ≤ (stretch_at ss k).last
  pub line : (k : ℕ) → k < length ss → (stretch_at ss k).first / width ≡ (stretch_at ss k).last / width
  pub rising : (i k : ℕ) → i < k → k < length ss → (stretch_at ss i).last < (stretch_at ss k).first

-- the stretches of a set of numbers: they hold all of them, and begin and end with some
pub record AreStretchesOf (width : ℕ) (S : ℕ → Type 0) (ss : List Stretch) : Type 0 where
  pub order : AreStretches width ss
  pub hold : (n : ℕ) → S n → (k : ℕ) × IsInStretch ss k n
  pub first : (k : ℕ) → k < length ss → S (stretch_at ss k).first
  pub last : (k : ℕ) → k < length ss → S (stretch_at ss k).last

-- ---- while points come

-- the next number is the last one of the last stretch now
pub record IsPutLast (width i : ℕ) (old new : List Stretch) : Type 0 where
  pub all : length new ≡ length old
  pub some : 1 ≤ length old
  pub same : (k : ℕ) → k + 1 < length old → stretch_at new k ≡ stretch_at old k
  pub line : (k : ℕ) → k + 1 ≡ length old → (stretch_at old k).first / width ≡ i / width
  pub last : (k : ℕ) → k + 1 ≡ length old → stretch_at new k ≡ record (stretch_at old k) { last = i }

-- or it stands alone in a new one
pub record IsPutNew (i : ℕ) (old new : List Stretch) : Type 0 where
  pub all : length new ≡ length old + 1
  pub same : (k : ℕ) → k < length old → stretch_at new k ≡ stretch_at old k
  pub last : stretch_at new (length old) ≡ record { first = i; last = i }

-- the number has a label, and is below another one
pub record IsLabelled (labels : List ℕ) (k i n : ℕ) : Type 0 where
  pub label : slice_index labels n ≡ k
  pub below : n < i

-- the objects 1 to n have these stretches of the numbers below i
pub record HaveStretches (width : ℕ) (labels : List ℕ) (n i : ℕ) (all : List Stretches) : Type 0 where
  pub count : length all ≡ n
  pub each : (k : ℕ) (d : Stretches) → k < n → AreStretchesOf width (IsLabelled labels (k + 1) i) (slice_index_or all k d).all.items
