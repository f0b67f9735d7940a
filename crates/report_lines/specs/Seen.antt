-- What the lines of the program mean, for each space, as those of the definitions.
-- A point is the list of its coordinates.
use Rattle.std.specs.Prelude.{[], ◌∷◌}
use Rattle.shape_space.specs.declared.point.P2.{P2}
use Rattle.shape_space.specs.declared.solid.P3.{P3}
use Rattle.report_terms.specs.Lines as Terms
use Rattle.shape_report.specs.declared.line.Line.{Line}
use Rattle.shape_report.specs.LineOf.{line_of}

-- a line of a report of a flat picture
abbrev pub flat_line : Line P2 → Terms.Line
flat_line l = line_of (λ p. p.x ∷ p.y ∷ []) l

-- a line of a report of a volume
abbrev pub solid_line : Line P3 → Terms.Line
solid_line l = line_of (λ p. p.x ∷ p.y ∷ p.z ∷ []) l
