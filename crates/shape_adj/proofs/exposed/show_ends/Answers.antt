use Rattle.std.proofs.Common.{◌≡◌, ◌+◌, ◌*◌, ◌/◌, ◌≤◌, ℕ, ap, subst, ◌∙◌, arith}
use Rattle.shape_terms.specs.Points.{box_count}
use Rattle.shape_adj.specs.FacePoints.{Gains, IsTrueFrom, IsTrueInBlocks}
use Rattle.shape_adj.proofs.Layers.{block_below}
use Rattle.shape_adj.proofs.Gaining.{gains_none, gains_more, blocks_none, blocks_more}
use Rattle.shape_adj.proofs.exposed.show_ends.Goals as goal

pub loop-number-init : goal.loop-number-init
loop-number-init g c =
    let xs = c.args.grid.now.values in
    gains_none c.args.exposed.now (IsTrueInBlocks xs c.args.block c.args.start c.args.gap 0) (blocks_none xs c.args.block c.args.start c.args.gap)

pub show_run-requires-clause-sides : goal.show_run-requires-clause-sides
show_run-requires-clause-sides g c = c.loop-number.invariant.sides ∙ c.requires.sides

pub show_run-requires-clause-points : goal.show_run-requires-clause-points
show_run-requires-clause-points g c =
    let e = c.count.ensures.value ∙ ap box_count c.sides-sides.ensures.value in
    let m : c.args.block * c.loop-number.number + c.args.block ≤ c.count.result = block_below c.count.result c.args.block c.loop-number.number (omega arith) in
    omega (arith, e, m, c.requires.within)

pub loop-number-preserved : goal.loop-number-preserved
loop-number-preserved g c =
    let xs = c.args.grid.now.values in
    let o = c.loop-number.number in
    gains_more c.args.exposed.now c.loop-number.exposed c.show_run.new.exposed (IsTrueInBlocks xs c.args.block c.args.start c.args.gap o)
    (IsTrueFrom xs (c.args.block * o + c.args.start) c.args.gap) (IsTrueInBlocks xs c.args.block c.args.start c.args.gap (o + 1)) c.loop-number.invariant
    c.show_run.ensures (blocks_more xs c.args.block c.args.start c.args.gap o)

pub returns : goal.returns
returns g c =
    let e = c.count.ensures.value ∙ ap box_count c.sides-sides.ensures.value in
    let n : c.loop-number.number ≡ box_count c.args.grid.now.sides / c.args.block = rw (← e) (omega arith) in
    subst (λ (m : ℕ). Gains c.args.exposed.now c.loop-number.exposed (IsTrueInBlocks c.args.grid.now.values c.args.block c.args.start c.args.gap m)) n
    c.loop-number.invariant
