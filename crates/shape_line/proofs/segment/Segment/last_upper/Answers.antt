use Rattle.std.proofs.Common.{rules}
use Rattle.shape_line.proofs.Staying.{upper_new, upper_old}
use Rattle.shape_line.proofs.segment.Segment.last_upper.Goals as goal

pub returns-then-r-self : goal.returns-then-r-self
returns-then-r-self c = upper_new c.args.self.now c.args.p c.args.r c.requires (search rules)

pub returns-else-r-self : goal.returns-else-r-self
returns-else-r-self c = upper_old c.args.self.now c.args.p c.args.r c.requires (search rules)
