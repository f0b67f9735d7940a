-- No line comes in order behind `end`.
-- The law that the judge of the order owes; how it judges does not matter here.
use Rattle.std.specs.Prelude.{◌<◌, List, [], ◌∷◌, ◌++◌, All}
use Rattle.std.specs.Cmp.{below_irrefl}
use Rattle.std.proofs.lemmas.List.Elements.{All-head, All-tail}
use Rattle.text_terms.specs.Reports as Texts
use Rattle.report_terms.specs.Lines.{Line}
use Rattle.report_terms.specs.Sections.{Section, rank}
use Rattle.report_lines.specs.Reports.{Space, line_rank, in_order}

-- what holds of all holds of the last
pub last_has : {A : Type 0} (P : A → Type 0) (xs : List A) (x : A) → All P (xs ++ x ∷ []) → P x
last_has P [] x a = All-head P x [] a
last_has P (y ∷ xs) x a = last_has P xs x (All-tail P y (xs ++ x ∷ []) a)

pub is_report : (s : Space) → Texts.IsReport (in_order s)
is_report s = record { ends = λ front l c. below_irrefl (rank Section.End) (last_has (λ e. line_rank e < rank Section.End) front Line.End c.more) }
