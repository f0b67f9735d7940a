use Rattle.std.proofs.Common.{refl, rules}
use Rattle.shape_desk.specs.declared.desk.Place.TheVariants.{Report}
use Rattle.shape_desk.specs.Line.{ahead_of}
use Rattle.shape_check.proofs.FirstLine.{row_goes_on, checked_all}
use Rattle.shape_check.proofs.check.check_behind.Goals as goal

pub returns-clause-checked : goal.returns-clause-checked
returns-clause-checked g c = λ X n text axes w h.
    let rule = c.args.rule.now in
    let means = (g.dyn-1.0.entry rule.vtable).1.means rule.value in
    let now = (g.dyn-1.0.entry rule.vtable).1.state rule.value in
    let left = ahead_of c.args.reader.now.ahead ((g.D.Desk.state c.args.desk.now).left Report) in
    let come = row_goes_on X g.P.Point.DIM axes text n means g.R.Judges.section (λ k. g.R.Judges.follows X k means c.args.row now) left 2
    (λ lines. g.met.R.Judges.entered X n means c.args.row now lines w) h in
    checked_all X g.P.Point.DIM axes text _ _ c.check_from-answer.result (c.check_from-answer.ensures.checked X text come)

pub returns-clause-same_rule : goal.returns-clause-same_rule
returns-clause-same_rule g c =
    let same = c.check_from-answer.ensures.same (record { row = c.args.row; rule = record c.args.rule { ghost_name = _ } }) (refl, refl) in search rules
