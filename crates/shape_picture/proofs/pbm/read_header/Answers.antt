use Rattle.std.proofs.Common.{sym, subst, arith}
use Rattle.std.proofs.lemmas.Result.{err_from_is_err_and}
use Rattle.shape_desk.specs.declared.desk.Place.TheVariants.{Picture}
use Rattle.shape_desk.proofs.Writes.{OnlyReadsAt-more}
use Rattle.shape_terms.specs.Limits.{most_flat, most_bytes}
use Rattle.shape_picture.specs.Answers.{pbm}
use Rattle.shape_picture.specs.Header.{StepAnswer}
use Rattle.shape_picture.proofs.HeaderSteps.{step_answer, unfinished}
use Rattle.shape_picture.proofs.ByteSteps.{stops_long, stops_bad, stops_earlier}
use Rattle.shape_picture.proofs.pbm.read_header.Goals as goal

pub returns-in_err-c-clause-answer : goal.returns-in_err-c-clause-answer
returns-in_err-c-clause-answer g c =
    let i = c.loop-at.invariant.0 in
    let p = err_from_is_err_and c.from_residual.result c.from_residual.ensures.1 in
    rw (p.1, p.2) (stops_earlier (pbm most_flat most_bytes) _ _ _ _ _ _ c.loop-at.invariant.1.only.later
    (c.in_err-c.ensures.answer ((g.D.Desk.state c.args.desk.now).left Picture) i.front i.taken (unfinished most_flat c.loop-at.header i.front i.known)))

pub returns-in-Err-clause-answer : goal.returns-in-Err-clause-answer
returns-in-Err-clause-answer g c =
    let i = c.loop-at.invariant.0 in
    let all = (g.D.Desk.state c.args.desk.now).left Picture in
    let t = c.in_ok-c.ensures.answer all i.front i.taken (unfinished most_flat c.loop-at.header i.front i.known) in
    stops_bad most_flat most_bytes c.loop-at.at all _ _ i.front c.in_ok-c.c _ _ c.in-Err.fault t (omega (arith, i.taken.many, c.loop-at-test.true))
    (subst (λ x. StepAnswer most_flat i.front c.in_ok-c.c x) (sym c.in-Err.ensures)
    (step_answer most_flat c.loop-at.at c.loop-at.header i.front c.in_ok-c.c (sym i.taken.many) i.known))

pub returns-in-Ok-Done-clause-answer : goal.returns-in-Ok-Done-clause-answer
returns-in-Ok-Done-clause-answer g c =
    let i = c.loop-at.invariant.0 in
    let e = rw c.in-Ok-Done.field-0-is at c.in-Ok-Done.ensures in
    record {
      front = _;
      known = subst (λ x. StepAnswer most_flat i.front c.in_ok-c.c x) (sym e)
          (step_answer most_flat c.loop-at.at c.loop-at.header i.front c.in_ok-c.c (sym i.taken.many) i.known);
      taken = c.in_ok-c.ensures.answer ((g.D.Desk.state c.args.desk.now).left Picture) i.front i.taken (unfinished most_flat c.loop-at.header i.front i.known);
    }

pub loop-at-preserved : goal.loop-at-preserved
loop-at-preserved g c =
    let i = c.loop-at.invariant.0 in
    let e = rw c.in-Ok-More.field-0-is at c.in-Ok-More.ensures in (
      record {
        front = _;
        known = subst (λ x. StepAnswer most_flat i.front c.in_ok-c.c x) (sym e)
            (step_answer most_flat c.loop-at.at c.loop-at.header i.front c.in_ok-c.c (sym i.taken.many) i.known);
        taken = c.in_ok-c.ensures.answer ((g.D.Desk.state c.args.desk.now).left Picture) i.front i.taken
            (unfinished most_flat c.loop-at.header i.front i.known);
      },
      OnlyReadsAt-more c.loop-at.invariant.1 c.in_ok-c.ensures.reads,
    )

pub returns-clause-answer : goal.returns-clause-answer
returns-clause-answer g c =
    let i = c.loop-at.invariant.0 in
    stops_long most_flat most_bytes c.loop-at.at ((g.D.Desk.state c.args.desk.now).left Picture) ((g.D.Desk.state c.loop-at.desk).left Picture) c.loop-at.bytes
    i.front (g.D.Desk.state c.args.desk.now).read_faults (g.D.Desk.state c.loop-at.desk).read_faults i.taken c.loop-at-test.false
    (unfinished most_flat c.loop-at.header i.front i.known)
