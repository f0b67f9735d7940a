-- The program's lines that say nothing of a point: all but `near` and `del`.
-- A further kind of line is one more case.
use Rattle.std.proofs.Common.{◌≡◌, ℕ, refl, List}
use Rattle.std.specs.Prelude.{ℤ}
use Rattle.shape_report.specs.declared.line.Line.{Line}
use Rattle.shape_report.specs.declared.line.Line.TheVariants.{Shape, Parts, Near, Contour, At, Seg, Least, Gap, Face, Patch, On, Off, Del, Tip, Kept, End}
use Rattle.shape_report.specs.LineOf.{line_of}
use Rattle.report_lines.proofs.Saying.{SaysNothing}

pub is_quiet : {P : Type 0} (coords : P → List ℤ) (l : Line P) → ((p q : P) (s : ℕ) → l ≡ Near p q s → ⊥) → ((p : P) → l ≡ Del p → ⊥)
    → SaysNothing (line_of coords l)
is_quiet coords (Shape number sides rule) near del = record { near = refl; square = λ p. refl; deleted = refl }
is_quiet coords (Parts n o b) near del = record { near = refl; square = λ p. refl; deleted = refl }
is_quiet coords (Near p q s) near del = absurd (near p q s refl)
is_quiet coords (Contour p side n m) near del = record { near = refl; square = λ p. refl; deleted = refl }
is_quiet coords (At p) near del = record { near = refl; square = λ p. refl; deleted = refl }
is_quiet coords (Seg b e line) near del = record { near = refl; square = λ p. refl; deleted = refl }
is_quiet coords (Least bounds) near del = record { near = refl; square = λ p. refl; deleted = refl }
is_quiet coords (Gap t refusal) near del = record { near = refl; square = λ p. refl; deleted = refl }
is_quiet coords (Face t sense n) near del = record { near = refl; square = λ p. refl; deleted = refl }
is_quiet coords (Patch k a mu) near del = record { near = refl; square = λ p. refl; deleted = refl }
is_quiet coords (On p) near del = record { near = refl; square = λ p. refl; deleted = refl }
is_quiet coords (Off p why) near del = record { near = refl; square = λ p. refl; deleted = refl }
is_quiet coords (Del p) near del = absurd (del p refl)
is_quiet coords (Tip p) near del = record { near = refl; square = λ p. refl; deleted = refl }
is_quiet coords (Kept n o b) near del = record { near = refl; square = λ p. refl; deleted = refl }
is_quiet coords End near del = record { near = refl; square = λ p. refl; deleted = refl }
