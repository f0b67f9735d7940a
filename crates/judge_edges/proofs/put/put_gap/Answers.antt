use Rattle.std.proofs.Common.{subst}
use Rattle.text_terms.specs.Tables.{IsSplitOf}
use Rattle.edge_terms.specs.Kinds.{table}
use Rattle.edge_terms.specs.Lines.{Line, split}
use Rattle.judge_edges.specs.Gaps.{gap_of}
use Rattle.judge_edges.proofs.put.put_gap.Goals as goal

pub put_fold-requires-clause-range : goal.put_fold-requires-clause-range
put_fold-requires-clause-range c = subst (λ e. IsSplitOf table (split (Line.Gap (gap_of e)))) c.in-Fold.is c.requires.range

pub returns-in-Bend : goal.returns-in-Bend
returns-in-Bend c = rw c.in-Bend.is c.put_bend.ensures

pub returns-in-Fold : goal.returns-in-Fold
returns-in-Fold c = rw c.in-Fold.is c.put_fold.ensures
