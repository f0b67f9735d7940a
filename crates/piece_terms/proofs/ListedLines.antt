-- Lines that are good one after the other, up to the last contour, are exactly those of the facts that they tell.
-- What these facts show stands in `Listed`.
use Rattle.std.proofs.Common.{◌≡◌, ◌+◌, ◌-◌, ◌<◌, List, [], ◌∷◌, ◌++◌, length, refl, ap, sym, ◌∙◌, arith}
use Rattle.std.specs.Prelude.{flat_map}
use Rattle.shape_terms.specs.Traces.{Contour}
use Rattle.piece_terms.specs.Pieces.{Piece}
use Rattle.piece_terms.specs.SplitLines.{SplitLine, Standing, at_start, after_line}
use Rattle.piece_terms.specs.Shown.{piece_line, lines_of_pieces, split_lines}
use Rattle.piece_terms.proofs.Listed.{GoodFrom, ended, rest, pieces_of, facts_of}

-- the lines that tell what these lines tell
abbrev pub told : List SplitLine → List SplitLine
told lines = lines_of_pieces (pieces_of lines) ++ flat_map split_lines (facts_of lines)

-- behind a piece that is not the last stand two lines
behind_piece : (p : Piece) (pieces : List Piece) → 0 < length pieces
    → lines_of_pieces (p ∷ pieces) ≡ piece_line p ∷ (SplitLine.Gap 0 p.x ∷ (SplitLine.Gap 1 p.y ∷ lines_of_pieces pieces))
behind_piece p [] l = absurd (omega arith)
behind_piece p (q ∷ pieces) l = refl

module _ (contours : List Contour) where
  -- where a piece is wanted after another one, that one has both its lines
  pub lines_told : (s : Standing) (lines : List SplitLine) → GoodFrom contours s lines → (s.pieces < s.declared → 0 < s.pieces → s.gaps ≡ 2)
      → lines ≡ told lines
  lines_told s [] g r = refl
  lines_told s (SplitLine.Chain c n m ∷ lines) g r =
      let now = after_line s (SplitLine.Chain c n m) in
      let count : m - 0 ≡ length (pieces_of lines) = sym (rest contours now lines g.1 g.0.some (λ k. absurd (omega arith))).count in
      let all : lines ≡ told lines = lines_told now lines g.1 (λ l k. absurd (omega arith)) in
      let same : m ≡ length (pieces_of lines) = omega arith in
      ap (λ k. SplitLine.Chain c n k ∷ lines) same ∙ ap (λ ls. SplitLine.Chain c n (length (pieces_of lines)) ∷ ls) all
  lines_told s (SplitLine.Gap t why ∷ lines) g r = absurd (let f = g.0.turn.few in let k = r g.0.turn.more g.0.turn.some in omega arith)
  lines_told s (SplitLine.Piece b e t line ∷ []) g r = refl
  lines_told s (SplitLine.Piece b e t line ∷ (SplitLine.Chain c n m ∷ lines)) g r =
      ap (λ ls. SplitLine.Piece b e t line ∷ ls)
      (lines_told (after_line s (SplitLine.Piece b e t line)) (SplitLine.Chain c n m ∷ lines) g.1
      (λ l k. absurd (let f : s.pieces + 1 ≡ s.declared = g.1.0.full in omega arith)))
  lines_told s (SplitLine.Piece b e t line ∷ (SplitLine.Piece b2 e2 t2 line2 ∷ lines)) g r =
      absurd (let k : 0 ≡ 2 = g.1.0.places.gaps (omega arith) in omega arith)
  lines_told s (SplitLine.Piece b e t line ∷ (SplitLine.Gap u why ∷ [])) g r = absurd (let m = g.1.0.turn.more in let f = g.1.1.full in omega arith)
  lines_told s (SplitLine.Piece b e t line ∷ (SplitLine.Gap u why ∷ (SplitLine.Chain c n m ∷ lines))) g r =
      absurd (let m = g.1.0.turn.more in let f : s.pieces + 1 ≡ s.declared = g.1.1.0.full in omega arith)
  lines_told s (SplitLine.Piece b e t line ∷ (SplitLine.Gap u why ∷ (SplitLine.Piece b2 e2 t2 line2 ∷ lines))) g r =
      absurd (let k : 1 ≡ 2 = g.1.1.0.places.gaps (omega arith) in omega arith)
  lines_told s (SplitLine.Piece b e t line ∷ (SplitLine.Gap u why ∷ (SplitLine.Gap v why2 ∷ lines))) g r =
      let more : s.pieces + 1 < s.declared = g.1.0.turn.more in
      let s2 : Standing = record { begun = s.begun; declared = s.declared; pieces = s.pieces + 1; first = b; next = e + 1; gaps = 2 } in
      let p : Piece = record { first = b; last = e; axis = t; line = line; x = why; y = why2 } in
      let count : length (pieces_of lines) ≡ s.declared - (s.pieces + 1) = (rest contours s2 lines g.1.1.1 more (λ k. refl)).count in
      let all : lines ≡ told lines = lines_told s2 lines g.1.1.1 (λ l k. refl) in
      let some : 0 < length (pieces_of lines) = omega arith in
      let x : u ≡ 0 = g.1.0.turn.axis in
      let y : v ≡ 1 = g.1.1.0.turn.axis in
      ap (λ a. SplitLine.Piece b e t line ∷ (SplitLine.Gap a why ∷ (SplitLine.Gap v why2 ∷ lines))) x
      ∙ ap (λ a. SplitLine.Piece b e t line ∷ (SplitLine.Gap 0 why ∷ (SplitLine.Gap a why2 ∷ lines))) y
      ∙ ap (λ ls. SplitLine.Piece b e t line ∷ (SplitLine.Gap 0 why ∷ (SplitLine.Gap 1 why2 ∷ ls))) all
      ∙ ap (λ ls. ls ++ flat_map split_lines (facts_of lines)) (sym (behind_piece p (pieces_of lines) some))

  -- before any line no piece was given, so all lines stand behind chains
  pub all_told : (lines : List SplitLine) → GoodFrom contours at_start lines → lines ≡ flat_map split_lines (facts_of lines)
  all_told lines g =
      let none : pieces_of lines ≡ [] = ended contours at_start lines g refl in
      lines_told at_start lines g (λ l k. absurd (omega arith)) ∙ ap (λ ps. lines_of_pieces ps ++ flat_map split_lines (facts_of lines)) none
