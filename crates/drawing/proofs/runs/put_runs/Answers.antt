use Rattle.std.proofs.Common.{◌+◌, ◌≤◌, ◌++◌, length, drop, sym, subst, ap, ◌∙◌, append_assoc, arith}
use Rattle.std.proofs.lemmas.List.{length-drop, take_rest}
use Rattle.drawing.specs.Runs.{BeginsWithRun}
use Rattle.drawing.specs.Seen.{flats}
use Rattle.drawing.specs.Svg.{runs_text}
use Rattle.drawing.proofs.RunLaws.{one_run}
use Rattle.drawing.proofs.runs.put_runs.Goals as goal

pub loop-at-preserved : goal.loop-at-preserved
loop-at-preserved c =
    let points = c.args.points.now in
    let at = c.loop-at.at in
    let n = c.run_len-count.result in
    let behind = take_rest points at in
    let within = subst (λ ps. n ≤ length ps) behind c.run_len-count.ensures.within in
    let r = one_run points at n _ c.loop-at-test.true (subst (λ ps. BeginsWithRun (flats ps) n) behind c.run_len-count.ensures.run) in (
      omega (arith, within, length-drop at points),
      ap (λ t. t ++ runs_text (flats (drop (at + n) points))) c.in_ok-run.ensures ∙ append_assoc c.loop-at.svg _ _ ∙ ap (λ t. c.loop-at.svg ++ t) (sym r)
          ∙ c.loop-at.invariant.1,
    )
