use Rattle.std.proofs.Common.{false, length, get_or, sym, ap, ◌∙◌, arith}
use Rattle.shape_grid.specs.Truths.{is_in}
use Rattle.shape_grid.proofs.TruthSteps.{place_within, value_of}
use Rattle.shape_grid.proofs.bits.Bits.get.Goals as goal

pub has-requires : goal.has-requires
has-requires c =
    let w = place_within c.self.inside.words.items c.self.inside.len c.args.self.now c.args.i c.self.invariant c.self.view_is c.requires in
    omega (arith, ap length c.as_slice.ensures.value)

pub returns : goal.returns
returns c =
    let words = c.self.inside.words.items in
    let w = place_within words c.self.inside.len c.args.self.now c.args.i c.self.invariant c.self.view_is c.requires in
    c.has.ensures ∙ ap (λ x. is_in x c.args.i) c.as_slice.ensures.value ∙ sym (value_of words c.self.inside.len c.args.i false w.0)
    ∙ ap (λ v. get_or v c.args.i false) c.self.view_is
