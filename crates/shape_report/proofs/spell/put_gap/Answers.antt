use Rattle.std.proofs.Common.{subst}
use Rattle.report_terms.specs.Lines as Terms
use Rattle.report_terms.specs.Lines.{IsLineOf}
use Rattle.shape_refute.specs.Evidences.{evidence_of}
use Rattle.shape_report.proofs.spell.put_gap.Goals as goal

pub put_turn-requires-clause-axis : goal.put_turn-requires-clause-axis
put_turn-requires-clause-axis c = (subst (λ r. IsLineOf 2 (Terms.Line.Gap c.args.axis (evidence_of r))) c.in-Turned.is c.requires.range).1.0

pub put_cut-requires-clause-range : goal.put_cut-requires-clause-range
put_cut-requires-clause-range c = subst (λ r. IsLineOf 2 (Terms.Line.Gap c.args.axis (evidence_of r))) c.in-Cut.is c.requires.range

pub returns-in-Turned : goal.returns-in-Turned
returns-in-Turned c = rw c.in-Turned.is c.put_turn.ensures

pub returns-in-Cut : goal.returns-in-Cut
returns-in-Cut c = rw c.in-Cut.is c.put_cut.ensures
