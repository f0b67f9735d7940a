-- The number that the first of some lines gives stays when further lines come.
-- A law of lists of lines.
use Rattle.std.proofs.Common.{◌≡◌, ◌<◌, refl, arith, List, [], ◌∷◌, ◌++◌, length}
use Rattle.report_terms.specs.Lines.{Line}
use Rattle.report_terms.specs.Sections.{number_of}

pub number_stays : (lines more : List Line) → 0 < length lines → number_of (lines ++ more) ≡ number_of lines
number_stays [] more some = absurd (omega arith)
number_stays (Line.Shape h ∷ lines) more some = refl
number_stays (_ ∷ lines) more some = refl
