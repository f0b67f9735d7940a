-- Where the lines that list the splits of contours stand, with the contours themselves.
-- Which lines of a report a judge stands for is told in `Judged`.
use Rattle.std.specs.Prelude.{ℕ, ◌+◌, ◌<◌, ◌≤◌, List, length}
use Rattle.shape_terms.specs.Traces.{Contour}
use Rattle.shape_terms.specs.Points.{Point}
use Rattle.piece_terms.specs.SplitLines.{Standing, open_contour}
use Rattle.judge_pieces.specs.declared.stand.Stand.{Stand}

-- what the judge's own numbers mean
abbrev pub standing_of : Stand → Standing
standing_of s = record { begun = s.begun; declared = s.declared; pieces = s.pieces; first = s.first; next = s.next; gaps = s.gaps }

-- the contours of the picture, and where the lines stand
pub record Listed : Type 0 where
  pub contours : List Contour
  pub standing : Standing

-- the points of the contour that was begun last
abbrev pub open_points : Listed → List Point
open_points s = (open_contour s.contours s.standing).points

-- where the lines stand after one more chain of m pieces, piece and gap line
abbrev pub with_chain : Standing → (m : ℕ) → Standing
with_chain s m = record { begun = s.begun + 1; declared = m; pieces = 0; first = 0; next = 0; gaps = 0 }

abbrev pub with_piece : Standing → (b e : ℕ) → Standing
with_piece s b e = record { begun = s.begun; declared = s.declared; pieces = s.pieces + 1; first = b; next = e + 1; gaps = 0 }

abbrev pub with_gap : Standing → Standing
with_gap s = record { begun = s.begun; declared = s.declared; pieces = s.pieces; first = s.first; next = s.next; gaps = s.gaps + 1 }

-- no more contours were begun than there are, and the places of the last piece are those of the contour that was begun last; where it is not the last piece,
-- there is a point after it
pub record IsInStep (contours : List Contour) (s : Standing) : Type 0 where
  pub few : s.begun ≤ length contours
  pub begun : 0 < s.declared → 0 < s.begun
  pub rises : s.first ≤ s.next
  pub within : 0 < s.pieces → s.pieces < s.declared → s.next < length (open_contour contours s).points
