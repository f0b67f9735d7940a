use Rattle.std.proofs.Common.{arith}
use Rattle.shape_refute.specs.Shown.{step_share_of}
use Rattle.shape_refute.proofs.Entries.{seen_get}
use Rattle.shape_refute.proofs.share.StepShares.get.Goals as goal

pub returns : goal.returns
returns c =
    seen_get step_share_of c.self.inside.entries c.self.inside.count c.args.i c.args.self.now _ c.self.view_is
    (omega (arith, c.self.invariant.0, c.self.invariant.1)) c.requires
