-- The lines that list a split of each contour of a picture: how they stand, and when one is good after those before it.
-- What pieces are stands in `Pieces`; how these lines stand in a report stands in `PieceReports`.
use Rattle.std.specs.Prelude.{◌≡◌, ◌↔◌, ℕ, ◌+◌, ◌-◌, ◌<◌, ◌≤◌, List, [], length, slice_get, slice_index_or, Some}
use Rattle.shape_terms.specs.Points.{Point}
use Rattle.shape_terms.specs.Naive.{Naive, IsNaiveFor}
use Rattle.shape_terms.specs.Straight.{KeepsSense}
use Rattle.shape_terms.specs.Contours.{Crack}
use Rattle.shape_terms.specs.Traces.{Contour}
use Rattle.shape_terms.specs.Covers.{Evidence, IsEvidence, arc}

-- the first crack of a contour with how many points and pieces it has; the first and the last place of a piece, with a line of an axis; and for an axis why a
-- piece can't be longer
pub data SplitLine : Type 0 where
  Chain : Crack → ℕ → ℕ → SplitLine
  Piece : ℕ → ℕ → ℕ → Naive → SplitLine
  Gap : ℕ → Evidence → SplitLine

-- ---- where the lines stand

-- how many contours were begun; and of the last of them, how many pieces its line gives, how many it was given, the first place of the last of these and the
-- place after it, and how many gap lines came since
pub record Standing : Type 0 where
  pub begun : ℕ
  pub declared : ℕ
  pub pieces : ℕ
  pub first : ℕ
  pub next : ℕ
  pub gaps : ℕ

-- before any line
abbrev pub at_start : Standing
at_start = record { begun = 0; declared = 0; pieces = 0; first = 0; next = 0; gaps = 0 }

-- after one line more
abbrev pub after_line : Standing → SplitLine → Standing
after_line s (SplitLine.Chain c n m) = record { begun = s.begun + 1; declared = m; pieces = 0; first = 0; next = 0; gaps = 0 }
after_line s (SplitLine.Piece b e t line) = record { begun = s.begun; declared = s.declared; pieces = s.pieces + 1; first = b; next = e + 1; gaps = 0 }
after_line s (SplitLine.Gap t why) = record { begun = s.begun; declared = s.declared; pieces = s.pieces; first = s.first; next = s.next; gaps = s.gaps + 1 }

-- a contour without points, which no picture has
abbrev pub no_contour : Contour
no_contour = record { start = record { pixel = []; side = 0 }; points = [] }

-- the contour that was begun last
abbrev pub open_contour : List Contour → Standing → Contour
open_contour contours s = slice_index_or contours (s.begun - 1) no_contour

-- ---- claims

-- no contour is begun and without all its pieces
abbrev pub IsFull : Standing → Type 0
IsFull s = s.pieces ≡ s.declared

-- the claim of a chain: the next contour begins with this crack and has so many points; it has at least one piece, and no more than points
pub record IsNextChain (contours : List Contour) (s : Standing) (c : Crack) (n m : ℕ) : Type 0 where
  pub full : IsFull s
  pub points : List Point
  pub next : slice_get contours s.begun ≡ Some (record { start = c; points = points })
  pub count : n ≡ length points
  pub some : 1 ≤ m
  pub few : m ≤ n

-- a piece is still wanted, and the one before it has both its gap lines; in a contour of n points it begins at the place after that one, and ends at the last
-- place exactly where it is the last piece
pub record AreNextPlaces (n : ℕ) (s : Standing) (b e : ℕ) : Type 0 where
  pub more : s.pieces < s.declared
  pub gaps : 0 < s.pieces → s.gaps ≡ 2
  pub begins : b ≡ s.next
  pub rises : b ≤ e
  pub within : e < n
  pub ends : (s.pieces + 1 ≡ s.declared) ↔ (e + 1 ≡ n)

-- the claim of a piece: its places come next, a proper line of the axis holds its points, and along them the other coordinate goes one way
pub record IsNextPiece (contours : List Contour) (s : Standing) (b e t : ℕ) (line : Naive) : Type 0 where
  pub places : AreNextPlaces (length (open_contour contours s).points) s b e
  pub axis : t < 2
  pub naive : IsNaiveFor t (arc (open_contour contours s).points b e) line
  pub sense : KeepsSense t (arc (open_contour contours s).points b e)

-- a gap line of this axis comes next: after a piece that is not the last, first for the axis x and then for y
pub record IsNextAxis (s : Standing) (t : ℕ) : Type 0 where
  pub some : 0 < s.pieces
  pub more : s.pieces < s.declared
  pub few : s.gaps < 2
  pub axis : t ≡ s.gaps

-- the claim of a gap line: its axis comes next, and the evidence is good for the run of the piece with the next point
pub record IsNextGap (contours : List Contour) (s : Standing) (t : ℕ) (why : Evidence) : Type 0 where
  pub turn : IsNextAxis s t
  pub good : IsEvidence t (arc (open_contour contours s).points s.first s.next) why

-- the claim of a line, where the lines before it stand so
abbrev pub IsNextLine : List Contour → Standing → SplitLine → Type 0
IsNextLine contours s (SplitLine.Chain c n m) = IsNextChain contours s c n m
IsNextLine contours s (SplitLine.Piece b e t line) = IsNextPiece contours s b e t line
IsNextLine contours s (SplitLine.Gap t why) = IsNextGap contours s t why

-- each contour of the picture has all its pieces
pub record AllListed (contours : List Contour) (s : Standing) : Type 0 where
  pub full : IsFull s
  pub all : s.begun ≡ length contours
