use Rattle.std.proofs.Common.{true, set, ap, ◌∙◌}
use Rattle.shape_grid.proofs.TruthSteps.{place_within, put_true, put_are}
use Rattle.shape_grid.proofs.bits.Bits.set.Goals as goal

pub put_in-requires : goal.put_in-requires
put_in-requires c = (place_within c.self.inside.words.items c.self.inside.len c.args.self.now c.args.i c.self.invariant c.self.view_is c.requires).1

pub invariant_of-self : goal.invariant_of-self
invariant_of-self c =
    let words = c.self.inside.words.items in
    let w = place_within words c.self.inside.len c.args.self.now c.args.i c.self.invariant c.self.view_is c.requires in
    put_are words c.put_in.new.words.items c.self.inside.len c.args.i 1 c.put_in.ensures.put w.0 c.self.invariant

pub returns : goal.returns
returns c =
    let words = c.self.inside.words.items in
    let w = place_within words c.self.inside.len c.args.self.now c.args.i c.self.invariant c.self.view_is c.requires in
    put_true words c.put_in.new.words.items c.self.inside.len c.args.i 1 c.put_in.ensures.put w.0
    ∙ ap (λ v. set v c.args.i true) c.self.view_is
