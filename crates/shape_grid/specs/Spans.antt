-- Spans of numbers of one kind in a set of words: those in the set are of the kind true, all others of the kind false.
-- Which truth values the numbers stand for does not matter here.
use Rattle.std.specs.Prelude.{◌≡◌, ℕ, suc, ◌+◌, ◌*◌, ◌<◌, ◌≤◌, Bool, true, false, not, List, length}
use Rattle.std.specs.Int.{bit_at}
use Rattle.shape_grid.specs.Sets.{bit_of}
use Rattle.shape_grid.specs.Truths.{is_in}

-- bit k of r is set where number 64 * w + k is not of the kind, and not where it is
pub record AreOther (words : List ℕ) (w : ℕ) (kind : Bool) (r : ℕ) : Type 0 where
  pub other : (k : ℕ) → k < 64 → bit_at r k ≡ 1 → is_in words (64 * w + k) ≡ not kind
  pub same : (k : ℕ) → k < 64 → bit_at r k ≡ 0 → is_in words (64 * w + k) ≡ kind

-- the numbers from a number on are of the kind up to k, and no further up to another number
pub record IsSpanEnd (words : List ℕ) (kind : Bool) (from until k : ℕ) : Type 0 where
  pub on : from ≤ k
  pub within : k ≤ until
  pub each : (i : ℕ) → from ≤ i → i < k → is_in words i ≡ kind
  pub stop : k < until → is_in words k ≡ not kind

-- the numbers before a number are in the set back to k, and no further back to another number
pub record IsSpanStart (words : List ℕ) (from until k : ℕ) : Type 0 where
  pub on : from ≤ k
  pub within : k ≤ until
  pub each : (i : ℕ) → k ≤ i → i < until → is_in words i ≡ true
  pub stop : (i : ℕ) → suc i ≡ k → from ≤ i → is_in words i ≡ false

-- bit k of r is set where number 64 * w + k is of the span, and not elsewhere
pub record IsMask (w from until r : ℕ) : Type 0 where
  pub inside : (k : ℕ) → k < 64 → from ≤ 64 * w + k → 64 * w + k < until → bit_at r k ≡ 1
  pub before : (k : ℕ) → k < 64 → 64 * w + k < from → bit_at r k ≡ 0
  pub behind : (k : ℕ) → k < 64 → until ≤ 64 * w + k → bit_at r k ≡ 0

-- the numbers below `end` that are of the span have the kind, and all others are as before
pub record IsSpanPut (old new : List ℕ) (from until end : ℕ) (kind : Bool) : Type 0 where
  pub room : length new ≡ length old
  pub inside : (i : ℕ) → from ≤ i → i < until → i < end → is_in new i ≡ kind
  pub before : (i : ℕ) → i < from → bit_of new i ≡ bit_of old i
  pub behind : (i : ℕ) → until ≤ i → bit_of new i ≡ bit_of old i
  pub left : (i : ℕ) → end ≤ i → bit_of new i ≡ bit_of old i
