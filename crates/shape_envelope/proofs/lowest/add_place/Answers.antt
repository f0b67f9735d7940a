use Rattle.std.proofs.Common.{arith}
use Rattle.shape_terms.specs.Rows.{cell}
use Rattle.shape_envelope.proofs.PartSteps.{built_more, built_empty, none_by}
use Rattle.shape_envelope.proofs.lowest.add_place.Goals as goal

pub returns-then-not-filled-clause-built : goal.returns-then-not-filled-clause-built
returns-then-not-filled-clause-built g c =
    built_empty c.args.row.now c.args.places.now c.args.starts.now c.args.m c.args.j _
    (none_by (cell c.args.row.now c.args.j) c.filled.result c.filled.ensures.answer c.if-not-filled.true) c.requires.built

pub returns-then-settled-len-clause-built : goal.returns-then-settled-len-clause-built
returns-then-settled-len-clause-built g c =
    let few = c.requires.built.few in
    let end = c.len.ensures.value in
    built_more c.args.row.now c.args.places.now c.args.starts.now c.settle-settled.result.kept c.settle-settled.result.start c.args.j _
    c.settle-settled.ensures.settled (c.filled.ensures.answer.0 c.if-not-filled.false) (omega arith) (omega arith) (omega arith) (omega arith)
