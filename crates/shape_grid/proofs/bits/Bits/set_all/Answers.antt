use Rattle.std.proofs.Common.{true}
use Rattle.shape_grid.proofs.RunSteps.{end_within, filled_are, filled}
use Rattle.shape_grid.proofs.bits.Bits.set_all.Goals as goal

pub put_span-requires : goal.put_span-requires
put_span-requires c =
    end_within c.self.inside.words.items c.self.inside.len c.args.self.now c.self.invariant c.self.view_is c.args.until c.requires.within

pub invariant_of-self : goal.invariant_of-self
invariant_of-self c =
    filled_are c.self.inside.words.items c.self.inside.len c.args.self.now c.self.invariant c.self.view_is c.put_span.new.words.items c.args.from
    c.args.until true c.requires.within c.put_span.ensures

pub returns : goal.returns
returns c =
    filled c.self.inside.words.items c.self.inside.len c.args.self.now c.self.invariant c.self.view_is c.put_span.new.words.items c.args.from
    c.args.until true c.requires.within c.put_span.ensures
