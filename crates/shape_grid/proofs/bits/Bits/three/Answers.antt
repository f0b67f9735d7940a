use Rattle.std.proofs.Common.{ℕ, List, ◌+◌, length, ap, arith, subst}
use Rattle.shape_grid.specs.Sets.{AreThreeIn}
use Rattle.shape_grid.proofs.TruthSteps.{place_within, three_true}
use Rattle.shape_grid.proofs.bits.Bits.three.Goals as goal

pub three_at-requires : goal.three_at-requires
three_at-requires c =
    let w = place_within c.self.inside.words.items c.self.inside.len c.args.self.now (c.args.i + 2) c.self.invariant c.self.view_is c.requires in
    omega (arith, ap length c.as_slice.ensures.value)

pub returns : goal.returns
returns c =
    three_true c.self.inside.words.items c.self.inside.len c.args.self.now c.args.i c.three_at.result c.self.view_is c.requires
    (subst (λ (x : List ℕ). AreThreeIn x c.args.i c.three_at.result) c.as_slice.ensures.value c.three_at.ensures)
