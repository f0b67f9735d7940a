use Rattle.std.proofs.Common.{inl, refl}
use Rattle.std.proofs.lemmas.Result.{err_from_is_err_and}
use Rattle.shape_desk.specs.declared.desk.Place.TheVariants.{Report}
use Rattle.shape_desk.specs.Line.{ahead_of}
use Rattle.report_lines.specs.Reports.{flat}
use Rattle.report_lines.specs.Seen.{flat_line}
use Rattle.report_lines.specs.Made.{about}
use Rattle.report_lines.proofs.MadeLaws.{made_so, refused_behind}
use Rattle.report_lines.proofs.make.make_flat.Goals as goal

pub returns-in_err-kept-clause-answer : goal.returns-in_err-kept-clause-answer
returns-in_err-kept-clause-answer g c = λ text taken.
    let line = flat_line c.args.heading.now.line in
    let left = ahead_of c.args.reader.now.ahead ((g.D.Desk.state c.args.desk.now).left Report) in
    let p = err_from_is_err_and c.from_residual.result c.from_residual.ensures.1 in
    rw (p.1, p.2) (refused_behind flat (inl refl) text left line _ _ c.in_err-kept.field-0.0 taken
    (c.in_err-kept.ensures.answer text line taken c.begin_flat-begun.ensures))

pub returns-in-Ok-clause-answer : goal.returns-in-Ok-clause-answer
returns-in-Ok-clause-answer g c = λ text taken.
    let line = flat_line c.args.heading.now.line in
    let read = c.in_ok-kept.ensures.answer text line taken c.begin_flat-begun.ensures in
    made_so (about 2 (g.M.Making.makes c.args.making.now)) flat (inl refl) g.M.Flat.Sketch.IsOf c.in_ok-kept.kept text _ read
    (λ lines kept. (c.in-Ok.ensures lines kept, refl))
