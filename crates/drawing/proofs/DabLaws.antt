-- The dabs of lines, with one line more.
-- Laws of lines alone.
use Rattle.std.proofs.Common.{◌≡◌, ℕ, List, [], ◌∷◌, ◌++◌, ap, sym, ◌∙◌, append_assoc}
use Rattle.std.specs.Prelude.{fold}
use Rattle.std.proofs.lemmas.List.{append-nil}
use Rattle.report_terms.specs.Lines.{Line}
use Rattle.drawing.specs.declared.pen.Pen.{Pen}
use Rattle.drawing.specs.Dabs.{pen_after, line_dabs, dabs_from}

pub dabs_more : (sides : List ℕ) (pen : Pen) (lines : List Line) (l : Line)
    → dabs_from sides pen (lines ++ l ∷ []) ≡ dabs_from sides pen lines ++ line_dabs sides (fold pen_after pen lines) l
dabs_more sides pen [] l = append-nil (line_dabs sides pen l)
dabs_more sides pen (x ∷ lines) l =
    ap (λ t. line_dabs sides pen x ++ t) (dabs_more sides (pen_after pen x) lines l)
    ∙ sym (append_assoc (line_dabs sides pen x) (dabs_from sides (pen_after pen x) lines) (line_dabs sides (fold pen_after (pen_after pen x) lines) l))
