-- Each flat picture within the sides of the command has a text that holds as its report of pieces.
-- The pieces of a contour stand in `PiecesExist`; one line more at a time, as the maker grows its text.
use Rattle.std.proofs.Common.{◌≡◌, ℕ, zero, suc, ◌+◌, ◌<◌, ◌≤◌, List, length, map, refl, sym, subst, arith, Some}
use Rattle.std.specs.Prelude.{pos, slice_get, slice_index_or, All}
use native.Mathlib.Decide.{dec_lt}
use Rattle.std.proofs.lemmas.Option.{slice_get-get_or}
use Rattle.shape_terms.specs.Limits.{most_flat, most_round}
use Rattle.shape_terms.specs.Pictures.{Picture, IsPicture}
use Rattle.shape_terms.specs.Contours.{IsCrack}
use Rattle.shape_terms.specs.Covers.{arc}
use Rattle.shape_terms.specs.Traces.{Contour, AreContours, IsClosedPath}
use Rattle.shape_terms.proofs.ClosedPaths.{closed_path}
use Rattle.piece_terms.specs.Pieces.{Piece, piece_at, ArePieces}
use Rattle.piece_terms.specs.SplitLines.{SplitLine, no_contour}
use Rattle.piece_terms.specs.Lines.{Line, spelled}
use Rattle.piece_terms.specs.PieceReports.{piece_report}
use Rattle.shape_pieces.specs.Steps.{AreShortPieces}
use Rattle.shape_pieces.specs.Growing.{HasSplits, HasPieces, IsContourAt}
use Rattle.shape_pieces.proofs.Fits.{piece_fits, gap_fits}
use Rattle.shape_pieces.proofs.Growth.{heading_put, end_put, chain_put, last_put, gaps_put, split_put}
use Rattle.reports_exist.proofs.ContoursExist.{contours_exist}
use Rattle.reports_exist.specs.Met.{IsMet, HasSidesTo}
use Rattle.reports_exist.proofs.Fields.{AreFlatSides, flat_sides, sides_fit, pixel_fits}
use Rattle.reports_exist.proofs.PiecesExist.{pieces_exist}

-- ---- the lines of a contour

module _ (X : Picture) (k : ℕ) (contour : Contour) (at : IsContourAt X k contour) (pieces : List Piece) (are : ArePieces contour.points pieces)
    (shorts : AreShortPieces pieces) (few : length contour.points ≤ most_round) where
  piece_is_line : (j : ℕ) → j < length pieces
      → spelled.IsLine (Line.Listed (SplitLine.Piece (piece_at pieces j).first (piece_at pieces j).last (piece_at pieces j).axis (piece_at pieces j).line))
  piece_is_line j l =
      let p = are.piece j l in
      let r = p.rises in
      let w = p.within in
      piece_fits (piece_at pieces j).first (piece_at pieces j).last (piece_at pieces j).axis (piece_at pieces j).line (omega arith) (omega arith)
      p.axis (shorts.line j l)

  put_piece : (j : ℕ) → j < length pieces → (text : List ℕ) → HasPieces X k pieces j text → (new : List ℕ) × HasPieces X k pieces (j + 1) new
  put_piece j l text h = elim (dec_lt (j + 1) (length pieces)) [
    | no n ↦ (_, last_put X k contour at pieces are j l text h (omega arith) (piece_is_line j l))
    | yes more ↦
        (let p = piece_at pieces j in
        let run = arc contour.points p.first (p.last + 1) in
        let x = gap_fits 0 run p.x (omega arith) (are.refused j more).x (shorts.x j more) in
        let y = gap_fits 1 run p.y (omega arith) (are.refused j more).y (shorts.y j more) in
        (_, gaps_put X k contour at pieces are j l text h more (piece_is_line j l) x y))
  ]

  put_pieces : (j : ℕ) → j ≤ length pieces → (text : List ℕ) → HasPieces X k pieces 0 text → (new : List ℕ) × HasPieces X k pieces j new
  put_pieces zero l text h = (text, h)
  put_pieces (suc j) l text h =
      let (t, g) = put_pieces j (omega arith) text h in
      let (u, f) = put_piece j (omega arith) t g in
      (u, subst (λ i. HasPieces X k pieces i u) (let q : j + 1 ≡ suc j = omega arith in q) f)

  put_split : (text : List ℕ) → spelled.IsLine (Line.Listed (SplitLine.Chain contour.start (length contour.points) (length pieces)))
      → HasSplits X k text → (new : List ℕ) × HasSplits X (k + 1) new
  put_split text fields h =
      let begun = chain_put X k contour at pieces are contour.start (length contour.points) (length pieces) text refl refl refl h fields in
      let (t, g) = put_pieces (length pieces) (omega arith) _ begun in
      (t, split_put X k contour at pieces are t g)

-- ---- all contours

-- what is known of each contour of the picture
pub record IsKnown (X : Picture) (greatest : ℕ) (c : Contour) : Type 0 where
  pub crack : IsCrack X c.start
  pub path : IsClosedPath greatest c.points

module _ (X : Picture) (greatest : ℕ) (low : greatest ≤ most_flat) (sides : AreFlatSides greatest X.sides) where
  put_contour : (contours : List Contour) → AreContours X contours → All (IsKnown X greatest) contours → (k : ℕ) → k < length contours
      → (text : List ℕ) → HasSplits X k text → (new : List ℕ) × HasSplits X (k + 1) new
  put_contour contours are known k l text h =
      let c = slice_index_or contours k no_contour in
      let there : slice_get contours k ≡ Some c = slice_get-get_or contours k no_contour l in
      let is : IsKnown X greatest c = known k no_contour l in
      let (pieces, split, shorts) = pieces_exist greatest low c.points is.path in
      let few = is.path.few in
      let n = split.few in
      let fields : spelled.IsLine (Line.Listed (SplitLine.Chain c.start (length c.points) (length pieces))) =
      (pixel_fits X greatest low sides c.start is.crack, (is.crack.side, (omega arith, omega arith))) in
      put_split X k c (record { contours = contours; are = are; there = there }) pieces split shorts few text fields h

  put_contours : (contours : List Contour) → AreContours X contours → All (IsKnown X greatest) contours → (k : ℕ) → k ≤ length contours
      → (text : List ℕ) → HasSplits X 0 text → (new : List ℕ) × HasSplits X k new
  put_contours contours are known zero l text h = (text, h)
  put_contours contours are known (suc k) l text h =
      let (t, g) = put_contours contours are known k (omega arith) text h in
      let (u, f) = put_contour contours are known k (omega arith) t g in
      (u, subst (λ i. HasSplits X i u) (let q : k + 1 ≡ suc k = omega arith in q) f)

  met_by : (contours : List Contour) → AreContours X contours → All (IsKnown X greatest) contours → IsMet (piece_report X)
  met_by contours are known =
      let begun = heading_put X (map pos X.sides) refl (sides_fit greatest X.sides low sides) in
      let (t, g) = put_contours contours are known (length contours) (omega arith) _ begun in
      (_, end_put X contours t are g)

  pub met : length X.sides ≡ 2 → IsMet (piece_report X)
  met axes =
      let (contours, are, known) = contours_exist X axes (IsKnown X greatest) (λ start end steps k r e. record {
        crack = k;
        path = closed_path X sides.width sides.height greatest (sym sides.are) sides.width_low sides.height_low low start end steps k r e;
      }) in
      met_by contours are known

-- each flat picture with sides to `most_flat` has such a text
pub pieces_met : (X : Picture) → IsPicture 2 X → HasSidesTo most_flat X → IsMet (piece_report X)
pieces_met X is sides = met X most_flat (omega arith) (flat_sides most_flat X.sides is.axes sides) is.axes
