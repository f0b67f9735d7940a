use Rattle.std.proofs.Common.{subst}
use Rattle.text_terms.specs.Tables.{IsSplitOf}
use Rattle.edge_terms.specs.Kinds.{table}
use Rattle.judge_edges.specs.LineOf.{split_of}
use Rattle.judge_edges.proofs.put.put_words.Goals as goal

pub put_arc-requires-clause-range : goal.put_arc-requires-clause-range
put_arc-requires-clause-range c = (subst (λ l. IsSplitOf table (split_of l)) c.in-Arc.is c.requires.range).1.1

pub put_gap-requires-clause-range : goal.put_gap-requires-clause-range
put_gap-requires-clause-range c = subst (λ l. IsSplitOf table (split_of l)) c.in-Gap.is c.requires.range

pub returns-in-Edges : goal.returns-in-Edges
returns-in-Edges c = rw c.in-Edges.is c.put_edges.ensures

pub returns-in-Cycle : goal.returns-in-Cycle
returns-in-Cycle c = rw c.in-Cycle.is c.put_cycle.ensures

pub returns-in-Arc : goal.returns-in-Arc
returns-in-Arc c = rw c.in-Arc.is c.put_arc.ensures

pub returns-in-Gap : goal.returns-in-Gap
returns-in-Gap c = rw c.in-Gap.is c.put_gap.ensures

pub returns-in-End : goal.returns-in-End
returns-in-End c = rw (c.in-End.is, c.put.ensures, c.requires.empty)
