use Rattle.std.proofs.Common.{false, ℕ, List, length, subst, ap, arith}
use Rattle.shape_grid.specs.Spans.{IsSpanEnd}
use Rattle.shape_grid.proofs.RunSteps.{end_within, run_end}
use Rattle.shape_grid.proofs.bits.Bits.end_of_falses.Goals as goal

pub span_end-requires-clause-within : goal.span_end-requires-clause-within
span_end-requires-clause-within c =
    let l = end_within c.self.inside.words.items c.self.inside.len c.args.self.now c.self.invariant c.self.view_is c.args.until c.requires.within in
    omega (arith, ap length c.as_slice.ensures.value)

pub returns : goal.returns
returns c =
    run_end c.self.inside.words.items c.self.inside.len c.args.self.now c.self.invariant c.self.view_is false c.args.from c.args.until c.span_end.result
    c.requires.within
    (subst (λ (x : List ℕ). IsSpanEnd x false c.args.from c.args.until c.span_end.result) c.as_slice.ensures.value c.span_end.ensures)
