use Rattle.std.proofs.Common.{rules}
use Rattle.shape_line.proofs.Staying.{lower_new, lower_old}
use Rattle.shape_line.proofs.segment.Segment.last_lower.Goals as goal

pub returns-then-r-over : goal.returns-then-r-over
returns-then-r-over c = lower_old c.args.self.now c.args.p c.args.r c.requires (search rules)

pub returns-else-r-over : goal.returns-else-r-over
returns-else-r-over c = lower_new c.args.self.now c.args.p c.args.r c.requires (search rules)
