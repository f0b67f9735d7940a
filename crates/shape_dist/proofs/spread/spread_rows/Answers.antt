use Rattle.std.proofs.Common.{◌+◌, ◌*◌, ◌<◌, ℕ, refl, arith, length}
use Rattle.shape_dist.specs.Spreads.{found, nothing}
use Rattle.shape_dist.proofs.AxisSteps.{spread_of_copy}
use Rattle.shape_dist.proofs.HeldCells.{put_spreads}
use Rattle.shape_dist.proofs.spread.spread_rows.Goals as goal

pub returns-clause-on_lines : goal.returns-clause-on_lines
returns-clause-on_lines g c = λ j x l h.
    let a = c.args in
    let k = g.T.Spreading.keeping in
    let i = a.base + x * a.step + j in
    let line = λ (y : ℕ). found k a.cells.now.values (a.base + y * a.step + j) in
    let copy = λ (y : ℕ). found k c.take_lines.new.block (j * a.side + y) in
    let inside : i < length a.cells.now.values = omega (arith, c.requires.inside x h) in
    put_spreads k g.T.Cell.bare g.met.T.Spreading.itself a.cells.now c.put_lines.new.self line a.side x i _ h inside c.is_bare_elsewhere.ensures refl
    (spread_of_copy k line copy a.side x _ (λ y m. c.take_lines.ensures.taken (nothing k) j y l m) (c.in_ok-spread_lines.ensures j x l h))
    (c.put_lines.ensures.put (nothing k) j x l h)
    (λ none. c.put_lines.ensures.others (nothing k) i (λ h y m n e cell. none cell))

pub returns-clause-others : goal.returns-clause-others
returns-clause-others g c = λ i apart. c.put_lines.ensures.others (nothing g.T.Spreading.keeping) i (λ j y l h e cell. apart j y l h e)
