use Rattle.std.proofs.Common.{arith, subst, ℕ}
use Rattle.shape_terms.specs.Straight.{IsStraightFor}
use Rattle.shape_terms.specs.Turns.{other_axis}
use Rattle.shape_line.specs.SegmentTerms.{points_of}
use Rattle.shape_line.proofs.Searching.{reaches, ends_there, no_other_way}
use Rattle.shape_line.proofs.reach.longest_from.Goals as goal

pub returns-then-refuses_other_axis-clause-reach : goal.returns-then-refuses_other_axis-clause-reach
returns-then-refuses_other_axis-clause-reach c =
    let points = c.args.contour.now.points in
    let x = c.forward-x.result in
    let h = c.forward-x.ensures in
    let e = c.stretch_of.ensures in
    let none = subst (λ (t : ℕ). IsStraightFor (other_axis t) (points_of x.segment) → ⊥) h.axis (c.refuses_other_axis.ensures.alone c.if-refuses_other_axis.true) in
    reaches _ points c.is_closed_path.ensures c.args.first 0 1 x c.stretch_of.result (omega arith) (omega arith) h
    (no_other_way points c.args.first 1 x h.rises h.taken none) e.first e.last e.axis e.held e.short e.least e.grown

pub returns-then-x-y-clause-reach : goal.returns-then-x-y-clause-reach
returns-then-x-y-clause-reach c =
    let points = c.args.contour.now.points in
    let e = c.stretch_of-then-x-y.ensures in
    let t = c.if-x-y.true in
    reaches _ points c.is_closed_path.ensures c.args.first 1 0 c.forward-y.result c.stretch_of-then-x-y.result (omega arith) (omega arith) c.forward-y.ensures
    (ends_there points c.args.first c.forward-y.result.place 0 c.forward-x.result c.forward-x.ensures (omega arith)) e.first e.last e.axis e.held e.short e.least
    e.grown

pub returns-else-x-y-clause-reach : goal.returns-else-x-y-clause-reach
returns-else-x-y-clause-reach c =
    let points = c.args.contour.now.points in
    let e = c.stretch_of-else-x-y.ensures in
    let t = c.if-x-y.false in
    reaches _ points c.is_closed_path.ensures c.args.first 0 1 c.forward-x.result c.stretch_of-else-x-y.result (omega arith) (omega arith) c.forward-x.ensures
    (ends_there points c.args.first c.forward-x.result.place 1 c.forward-y.result c.forward-y.ensures (omega arith)) e.first e.last e.axis e.held e.short e.least
    e.grown
