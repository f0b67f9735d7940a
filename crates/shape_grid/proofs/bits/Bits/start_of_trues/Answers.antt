use Rattle.std.proofs.Common.{ℕ, List, length, subst, ap, arith}
use Rattle.shape_grid.specs.Spans.{IsSpanStart}
use Rattle.shape_grid.proofs.RunSteps.{end_within, run_start}
use Rattle.shape_grid.proofs.bits.Bits.start_of_trues.Goals as goal

pub span_start-requires-clause-within : goal.span_start-requires-clause-within
span_start-requires-clause-within c =
    let l = end_within c.self.inside.words.items c.self.inside.len c.args.self.now c.self.invariant c.self.view_is c.args.until c.requires.within in
    omega (arith, ap length c.as_slice.ensures.value)

pub returns : goal.returns
returns c =
    run_start c.self.inside.words.items c.self.inside.len c.args.self.now c.self.invariant c.self.view_is c.args.from c.args.until c.span_start.result
    c.requires.within
    (subst (λ (x : List ℕ). IsSpanStart x c.args.from c.args.until c.span_start.result) c.as_slice.ensures.value c.span_start.ensures)
