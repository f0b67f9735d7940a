use Rattle.std.proofs.lemmas.Result.{err_from_is_err_and}
use Rattle.shape_desk.specs.declared.desk.Place.TheVariants.{Picture}
use Rattle.shape_terms.specs.Limits.{most_flat, most_bytes}
use Rattle.shape_picture.proofs.ByteSteps.{ends_short, ends_failed}
use Rattle.shape_picture.proofs.pbm.next_byte.Goals as goal

pub returns-in-Some-clause-answer : goal.returns-in-Some-clause-answer
returns-in-Some-clause-answer g c = λ all front t u. (rw c.in-Some.is at c.in_ok-c.ensures.taken) all front t

pub returns-in-None-clause-answer : goal.returns-in-None-clause-answer
returns-in-None-clause-answer g c = λ all front t u.
    let e = rw c.in-None.is at c.in_ok-c.ensures.taken in
    ends_short most_flat most_bytes c.args.at all ((g.D.Desk.state c.take.new.desk).left Picture) c.take.new.self front
    (g.D.Desk.state c.args.desk.now).read_faults (g.D.Desk.state c.take.new.desk).read_faults (e all front t) u c.requires.more

pub returns-in_err-c-clause-answer : goal.returns-in_err-c-clause-answer
returns-in_err-c-clause-answer g c = λ all front t u.
    let p = err_from_is_err_and c.from_residual.result c.from_residual.ensures.1 in
    rw (p.1, p.2) (ends_failed most_flat most_bytes c.args.at all ((g.D.Desk.state c.take.new.desk).left Picture) c.take.new.self front
    (g.D.Desk.state c.args.desk.now).read_faults (g.D.Desk.state c.take.new.desk).read_faults (c.in_err-c.ensures.taken all front t))
