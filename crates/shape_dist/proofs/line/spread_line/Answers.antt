use Rattle.std.proofs.Common.{◌≡◌, ◌+◌, ◌<◌, ◌≤◌, ◌-◌, ◌∙◌, add_assoc, arith, ap}
use Rattle.shape_dist.specs.Spreads.{square_at}
use Rattle.shape_dist.proofs.AxisSteps.{read_found}
use Rattle.shape_dist.proofs.LineParts.{bare_more, cells_more, others_more, as_before_part}
use Rattle.shape_dist.proofs.line.spread_line.Goals as goal

pub spread_part-requires-clause-inside : goal.spread_part-requires-clause-inside
spread_part-requires-clause-inside g c = λ y l.
    let a = c.saturating_sub-from.result in
    let at = c.requires.inside (a + y) (omega (arith, c.min-to.ensures)) in
    omega (arith, at, c.loop-x.auto.cells, add_assoc c.args.base a y)

pub spread_part-requires-clause-small : goal.spread_part-requires-clause-small
spread_part-requires-clause-small g c = λ y l.
    let a = c.saturating_sub-from.result in
    let from : a ≡ c.loop-x.x - 1 = omega (arith, c.saturating_sub-from.ensures) in
    let below : a + y < c.args.n = omega (arith, c.min-to.ensures) in
    let same = as_before_part g.T.Spreading.keeping _ _ _ _ a c.loop-x.invariant.spread from (omega arith) (a + y) (omega arith) below in
    let at = ap (square_at g.T.Spreading.keeping c.loop-x.cells) (add_assoc c.args.base a y) in
    let s = ap g.T.Spreading.keeping.square same in
    omega (arith, c.requires.small (a + y) below, at, s)

pub loop-x-preserved : goal.loop-x-preserved
loop-x-preserved g c =
    let a = c.saturating_sub-from.result in
    let b = c.min-to.result in
    let h = c.in_ok-spread_part.ensures in
    let from : a ≡ c.loop-x.x - 1 = omega (arith, c.saturating_sub-from.ensures) in
    let some : c.loop-x.x < b = omega (arith, c.min-to.ensures, c.part_end-end.ensures.later) in
    let within : b ≤ c.args.n = omega (arith, c.min-to.ensures) in
    record {
      within = within;
      spread = cells_more g.T.Spreading.keeping c.args.cells.now c.loop-x.cells c.spread_part.new.cells c.args.base c.args.n c.loop-x.x a b
          c.loop-x.invariant.spread from some within
          (λ z e l.
          let end : c.part_end-end.result ≡ z = omega (arith, c.min-to.ensures) in
          rw end at (c.part_end-end.ensures.bare (omega (arith, c.min-to.ensures))))
          h.on_line h.others;
      others = others_more g.T.Spreading.keeping c.args.cells.now c.loop-x.cells c.spread_part.new.cells c.args.base c.args.n a b within h.others
          c.loop-x.invariant.others;
    }

pub loop-x-preserved-then-is_bare : goal.loop-x-preserved-then-is_bare
loop-x-preserved-then-is_bare g c =
    let k = g.T.Spreading.keeping in
    let v = c.loop-x.invariant in
    let at = c.args.base + c.loop-x.x in
    let there = read_found k c.loop-x.cells at c.index-cells-base.result c.index-cells-base.is
    (omega (arith, c.requires.inside c.loop-x.x (omega arith), c.loop-x.auto.cells)) in
    let bare : square_at k c.loop-x.cells at ≡ 0 = ap k.square there ∙ c.is_bare.ensures.0 c.if-is_bare.true in
    record {
      within = omega arith;
      spread = bare_more k _ _ c.args.n c.loop-x.x v.spread (omega arith) bare;
      others = v.others;
    }
