use Rattle.std.proofs.Common.{length, sym, ap, ◌∙◌}
use Rattle.shape_grid.proofs.TruthSteps.{length-truths}
use Rattle.shape_grid.proofs.bits.Bits.len.Goals as goal

pub returns : goal.returns
returns c = sym (length-truths c.self.inside.words.items c.self.inside.len) ∙ ap length c.self.view_is
