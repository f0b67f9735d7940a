use Rattle.std.proofs.Common.{false, set, ap, ◌∙◌}
use Rattle.shape_grid.proofs.TruthSteps.{place_within, put_true}
use Rattle.shape_grid.proofs.bits.Bits.clear.Goals as goal

pub take_out-requires : goal.take_out-requires
take_out-requires c = (place_within c.self.inside.words.items c.self.inside.len c.args.self.now c.args.i c.self.invariant c.self.view_is c.requires).1

pub returns : goal.returns
returns c =
    let words = c.self.inside.words.items in
    let w = place_within words c.self.inside.len c.args.self.now c.args.i c.self.invariant c.self.view_is c.requires in
    put_true words c.take_out.new.words.items c.self.inside.len c.args.i 0 c.take_out.ensures.put w.0
    ∙ ap (λ v. set v c.args.i false) c.self.view_is
