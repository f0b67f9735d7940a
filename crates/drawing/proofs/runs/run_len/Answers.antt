use Rattle.std.proofs.Common.{inl, inr, suc, false, true, length, sym, ◌∙◌, arith}
use Rattle.std.proofs.lemmas.Bool.{cases_lt}
use Rattle.std.proofs.lemmas.List.{length-map}
use Rattle.drawing.specs.Seen.{flat, flats}
use Rattle.drawing.proofs.RunLaws.{first_run, step_at}
use Rattle.drawing.proofs.runs.run_len.Goals as goal

pub returns-then-not-is_next-clause-run : goal.returns-then-not-is_next-clause-run
returns-then-not-is_next-clause-run c =
    let points = c.args.points.now in
    let i = c.loop-i.i in
    first_run (flats points) i (omega (arith, c.loop-i.auto.i)) (omega (arith, length-map points flat, c.loop-i-test.true)) c.loop-i.invariant
    (λ k e l. step_at points i k false _ _ e c.loop-i-test.true (sym c.is_next.ensures ∙ c.if-not-is_next.true))

pub loop-i-preserved : goal.loop-i-preserved
loop-i-preserved c = λ k h. elim (cases_lt (suc k) c.loop-i.i) [
  | inl l ↦ c.loop-i.invariant k l
  | inr l ↦ step_at c.args.points.now c.loop-i.i k true _ _ (omega arith) c.loop-i-test.true (sym c.is_next.ensures ∙ c.if-not-is_next.false)
]

pub returns-clause-run : goal.returns-clause-run
returns-clause-run c =
    let points = c.args.points.now in
    let n = length-map points flat in
    first_run (flats points) (length points) c.requires (omega (arith, n)) (λ k l. c.loop-i.invariant k (omega (arith, c.loop-i-test.false)))
    (λ k e l. absurd (omega (arith, n)))
