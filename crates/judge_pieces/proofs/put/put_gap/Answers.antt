use Rattle.std.proofs.Common.{subst}
use Rattle.text_terms.specs.Tables.{IsSplitOf}
use Rattle.piece_terms.specs.Lines.{table}
use Rattle.shape_refute.specs.Evidences.{evidence_of}
use Rattle.judge_pieces.specs.LineOf.{gap_of}
use Rattle.judge_pieces.proofs.put.put_gap.Goals as goal

pub put_turn-requires-clause-axis : goal.put_turn-requires-clause-axis
put_turn-requires-clause-axis c = (subst (λ w. IsSplitOf table (gap_of c.args.axis (evidence_of w))) c.in-Turned.is c.requires.range).0

pub put_cut-requires-clause-range : goal.put_cut-requires-clause-range
put_cut-requires-clause-range c = subst (λ w. IsSplitOf table (gap_of c.args.axis (evidence_of w))) c.in-Cut.is c.requires.range

pub returns-in-Turned : goal.returns-in-Turned
returns-in-Turned c = rw c.in-Turned.is c.put_turn.ensures

pub returns-in-Cut : goal.returns-in-Cut
returns-in-Cut c = rw c.in-Cut.is c.put_cut.ensures
