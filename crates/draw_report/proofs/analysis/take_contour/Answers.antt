use Rattle.std.proofs.Common.{◌≡◌, ℕ, refl, List}
use Rattle.shape_terms.specs.Points.{Point}
use Rattle.shape_space.specs.declared.point.P2.{P2}
use Rattle.shape_report.specs.declared.line.Line.{Line}
use Rattle.shape_report.specs.declared.line.Line.TheVariants.{Shape, Parts, Near, Contour, At, Seg, Least, Gap, Face, Patch, On, Off, Del, Tip, Kept, End}
use Rattle.report_lines.specs.Seen.{flat_line}
use Rattle.draw_report.specs.Contours.{with_line}
use Rattle.draw_report.specs.Seen.{all_paths}
use Rattle.draw_report.proofs.analysis.take_contour.Goals as goal

other_line : (l : Line P2) (cs : List (List Point)) → ((p : P2) (side n m : ℕ) → l ≡ Contour p side n m → ⊥) → ((p : P2) → l ≡ At p → ⊥)
    → cs ≡ with_line cs (flat_line l)
other_line (Shape number sides rule) cs c a = refl
other_line (Parts n o b) cs c a = refl
other_line (Near p q s) cs c a = refl
other_line (Seg b e line) cs c a = refl
other_line (Least bounds) cs c a = refl
other_line (Gap t refusal) cs c a = refl
other_line (Face t sense n) cs c a = refl
other_line (Patch k b mu) cs c a = refl
other_line (On p) cs c a = refl
other_line (Off p why) cs c a = refl
other_line (Del p) cs c a = refl
other_line (Tip p) cs c a = refl
other_line (Kept n o b) cs c a = refl
other_line (Contour p side n m) cs c a = absurd (c p side n m refl)
other_line (At p) cs c a = absurd (a p refl)
other_line End cs c a = refl

pub returns-in_default : goal.returns-in_default
returns-in_default c = other_line c.args.line.now (all_paths c.args.contours.now.items) c.in_default.not-Contour c.in_default.not-At
