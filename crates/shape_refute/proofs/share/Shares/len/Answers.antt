use Rattle.std.proofs.Common.{arith}
use Rattle.shape_refute.specs.Shown.{share_of}
use Rattle.shape_refute.proofs.Entries.{seen_length}
use Rattle.shape_refute.proofs.share.Shares.len.Goals as goal

pub returns-clause-value : goal.returns-clause-value
returns-clause-value c =
    seen_length share_of c.self.inside.entries c.self.inside.count c.args.self.now c.self.view_is (omega (arith, c.self.invariant.0, c.self.invariant.1))
