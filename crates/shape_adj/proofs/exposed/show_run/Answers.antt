use Rattle.std.proofs.Common.{ℕ, subst, ◌∙◌, ◌+◌, arith}
use Rattle.shape_adj.specs.FacePoints.{Gains, IsTrueFrom}
use Rattle.shape_adj.proofs.Gaining.{gains_none, gains_more, true_none, true_more}
use Rattle.shape_adj.proofs.exposed.show_run.Goals as goal

pub loop-k-init : goal.loop-k-init
loop-k-init g c = gains_none c.args.exposed.now (IsTrueFrom c.args.grid.now.values c.args.first 0) (true_none c.args.grid.now.values c.args.first)

pub show-requires-clause-sides : goal.show-requires-clause-sides
show-requires-clause-sides g c = c.loop-k.invariant.sides ∙ c.requires.sides

pub loop-k-preserved : goal.loop-k-preserved
loop-k-preserved g c =
    let xs = c.args.grid.now.values in
    let k = c.loop-k.k in
    gains_more c.args.exposed.now c.loop-k.exposed c.show.new.exposed (IsTrueFrom xs c.args.first k) (IsTrueFrom xs (c.args.first + k) 1)
    (IsTrueFrom xs c.args.first (k + 1)) c.loop-k.invariant c.show.ensures (true_more xs c.args.first k)

pub returns : goal.returns
returns g c = subst (λ (k : ℕ). Gains c.args.exposed.now c.loop-k.exposed (IsTrueFrom c.args.grid.now.values c.args.first k)) (omega arith) c.loop-k.invariant
