use Rattle.std.proofs.Common.{◌≡◌, ◌+◌, arith}
use Rattle.std.proofs.lemmas.Bool.{eqb-true}
use Rattle.shape_dist.proofs.HeldCells.{bare_square}
use Rattle.shape_dist.proofs.spread.is_bare_row.Goals as goal

pub overflow_cast-at : goal.overflow_cast-at
overflow_cast-at g c = omega (arith, c.requires.inside, c.requires.few)

pub overflow_add-at : goal.overflow_add-at
overflow_add-at g c = omega (arith, c.requires.inside, c.requires.few)

pub overflow_add-result : goal.overflow_add-result
overflow_add-result g c = omega (arith, c.requires.inside, c.requires.few)

pub returns : goal.returns
returns g c = λ t j l.
    let end : c.first_before.result ≡ c.args.at + c.args.lines = eqb-true _ _ t in
    bare_square g.T.Spreading.keeping g.T.Cell.bare g.met.T.Spreading.itself c.args.cells.now (c.args.at + j) c.is_bare_elsewhere.ensures
    (omega (arith, c.requires.inside, l))
    (λ cell. let f = c.first_before.ensures.each (c.args.at + j) (omega arith) (omega (arith, l, end)) in cc)
