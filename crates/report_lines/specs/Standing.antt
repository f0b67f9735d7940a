-- What is known of the lines so far, beside what a sketch keeps of them.
-- Each sketch says for itself what it stands for.
use Rattle.std.specs.Prelude.{◌≡◌, ◌≤◌, ℕ, List, [], ◌∷◌, ◌++◌, All}
use Rattle.report_terms.specs.Lines.{Line}
use Rattle.report_lines.specs.Reports.{line_rank}

-- the last of the lines is of the section with this rank, and none of a later one
pub record HasRisenTo (r : ℕ) (lines : List Line) : Type 0 where
  pub all : All (λ e. line_rank e ≤ r) lines
  pub front : List Line
  pub last : Line
  pub is : lines ≡ front ++ last ∷ []
  pub highest : line_rank last ≡ r

-- the last line is of the section with this rank, and a sketch stands for the lines
pub record StandsFor {S : Type 0} (IsOf : List Line → S → Type 0) (r : ℕ) (sketch : S) (lines : List Line) : Type 0 where
  pub come : HasRisenTo r lines
  pub sketch_is : IsOf lines sketch
