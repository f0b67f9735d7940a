use Rattle.std.proofs.Common.{◌≡◌, ◌+◌, ◌<◌, ◌^◌, ◌++◌, length, rules, arith, ap, subst, sym, ◌∙◌}
use Rattle.text_terms.specs.Spellings.{line_text}
use Rattle.shape_terms.specs.Covers.{arc}
use Rattle.piece_terms.specs.Pieces.{piece_at}
use Rattle.piece_terms.specs.SplitLines.{SplitLine}
use Rattle.piece_terms.specs.Lines.{Line, spelled}
use Rattle.shape_refute.specs.Terms.{naive_of}
use Rattle.shape_line.specs.Found.{IsShortLine}
use Rattle.shape_pieces.specs.Growing.{HasPieces}
use Rattle.shape_pieces.proofs.Fits.{piece_fits, gap_fits}
use Rattle.shape_pieces.proofs.Growth.{last_put, gaps_put}
use Rattle.shape_pieces.proofs.report.add_piece.Goals as goal

pub returns-then-j-count : goal.returns-then-j-count
returns-then-j-count c =
    let pieces = c.args.split.now in
    let j = c.args.j in
    let p = piece_at pieces j in
    let s = c.piece-piece.result in
    let is = c.piece-piece.ensures in
    let b : s.first < 2 ^ 32 = search rules in
    let e : s.last < 2 ^ 32 = search rules in
    let some = c.requires.some in
    let same : Line.Listed (SplitLine.Piece s.first s.last s.line.axis (naive_of 2 s.line)) ≡ Line.Listed (SplitLine.Piece p.first p.last p.axis p.line) =
    λ i. Line.Listed (SplitLine.Piece (is.first i) (is.last i) (is.axis i) (is.line i)) in
    let fields = subst spelled.IsLine same
    (piece_fits s.first s.last s.line.axis (naive_of 2 s.line) b e (omega (arith, is.axis, (some.1.piece j c.requires.place).axis))
    (subst IsShortLine (sym is.line) (some.2.line j c.requires.place))) in
    let new = c.in_ok-add.ensures.ok ∙ ap (λ m. c.args.report.now ++ line_text spelled m) same in
    λ X k contour at are h. subst (HasPieces X k pieces (j + 1)) (sym new)
    (last_put X k contour at pieces are j c.requires.place c.args.report.now h (c.if-j-count.true ∙ c.len-count.ensures) fields)

pub add-requires-2 : goal.add-requires-2
add-requires-2 c =
    let pieces = c.args.split.now in
    let j = c.args.j in
    let p = piece_at pieces j in
    let some = c.requires.some in
    let more : j + 1 < length pieces = omega (arith, c.requires.place, c.if-j-count.false, c.len-count.ensures) in
    subst (λ v. spelled.IsLine (Line.Listed (SplitLine.Gap 0 v))) (sym c.refused-gap.ensures.x)
    (gap_fits 0 (arc some.0 p.first (p.last + 1)) p.x (omega arith) (some.1.refused j more).x (some.2.x j more))

pub add-requires-3 : goal.add-requires-3
add-requires-3 c =
    let pieces = c.args.split.now in
    let j = c.args.j in
    let p = piece_at pieces j in
    let some = c.requires.some in
    let more : j + 1 < length pieces = omega (arith, c.requires.place, c.if-j-count.false, c.len-count.ensures) in
    subst (λ v. spelled.IsLine (Line.Listed (SplitLine.Gap 1 v))) (sym c.refused-gap.ensures.y)
    (gap_fits 1 (arc some.0 p.first (p.last + 1)) p.y (omega arith) (some.1.refused j more).y (some.2.y j more))

pub returns : goal.returns
returns c =
    let pieces = c.args.split.now in
    let j = c.args.j in
    let p = piece_at pieces j in
    let s = c.piece-piece.result in
    let is = c.piece-piece.ensures in
    let b : s.first < 2 ^ 32 = search rules in
    let e : s.last < 2 ^ 32 = search rules in
    let some = c.requires.some in
    let more : j + 1 < length pieces = omega (arith, c.requires.place, c.if-j-count.false, c.len-count.ensures) in
    let same : Line.Listed (SplitLine.Piece s.first s.last s.line.axis (naive_of 2 s.line)) ≡ Line.Listed (SplitLine.Piece p.first p.last p.axis p.line) =
    λ i. Line.Listed (SplitLine.Piece (is.first i) (is.last i) (is.axis i) (is.line i)) in
    let fields = subst spelled.IsLine same
    (piece_fits s.first s.last s.line.axis (naive_of 2 s.line) b e (omega (arith, is.axis, (some.1.piece j c.requires.place).axis))
    (subst IsShortLine (sym is.line) (some.2.line j c.requires.place))) in
    let x = gap_fits 0 (arc some.0 p.first (p.last + 1)) p.x (omega arith) (some.1.refused j more).x (some.2.x j more) in
    let y = gap_fits 1 (arc some.0 p.first (p.last + 1)) p.y (omega arith) (some.1.refused j more).y (some.2.y j more) in
    let gap = c.refused-gap.ensures in
    let one = c.in_ok-add.ensures.ok ∙ ap (λ m. c.args.report.now ++ line_text spelled m) same in
    let two = c.in_ok-add-2.ensures.ok ∙ (λ i. one i ++ line_text spelled (Line.Listed (SplitLine.Gap 0 (gap.x i)))) in
    let three = c.in_ok-add-3.ensures.ok ∙ (λ i. two i ++ line_text spelled (Line.Listed (SplitLine.Gap 1 (gap.y i)))) in
    λ X k contour at are h. subst (HasPieces X k pieces (j + 1)) (sym three)
    (gaps_put X k contour at pieces are j c.requires.place c.args.report.now h more fields x y)
