use Rattle.std.proofs.Common.{sym, subst, [], ◌∷◌}
use Rattle.shape_desk.specs.declared.desk.Place.TheVariants.{Report}
use Rattle.shape_desk.specs.Line.{IfTold, ahead_of}
use Rattle.text_terms.specs.Going.{IsTextOf}
use Rattle.report_lines.specs.Reports.{space, in_order}
use Rattle.report_lines.proofs.Reading.{begun, of_lines}
use Rattle.report_lines.proofs.read.read_lines.Goals as goal

pub returns-in-Ok-Yes-clause-answer : goal.returns-in-Ok-Yes-clause-answer
returns-in-Ok-Yes-clause-answer g c = λ text heading t k.
    let s = space g.P.Point.DIM g.P.Point.MAX_SIDE in
    let left = ahead_of c.args.reader.now.ahead ((g.D.Desk.state c.args.desk.now).left Report) in
    let k2 = subst (g.S.Sketch.IsOf (heading ∷ [])) (sym c.new-lines.ensures.sketch) k in
    let come = begun g.S.Sketch.IsOf s text left heading c.new-lines.result.rank c.new-lines.result.sketch t k2 c.new-lines.ensures.rank in
    let all = rw c.in-Ok-Yes.field-0-is at c.in-Ok-Yes.ensures.kept tt text come in
    subst (λ x. IfTold text (IsTextOf (in_order s) (λ lines. g.S.Sketch.IsOf lines x))) (sym c.into_sketch.ensures) (of_lines g.S.Sketch.IsOf s text _ _ all)

pub returns-in-Ok-No-clause-answer : goal.returns-in-Ok-No-clause-answer
returns-in-Ok-No-clause-answer g c = λ text heading t k.
    let s = space g.P.Point.DIM g.P.Point.MAX_SIDE in
    let left = ahead_of c.args.reader.now.ahead ((g.D.Desk.state c.args.desk.now).left Report) in
    let k2 = subst (g.S.Sketch.IsOf (heading ∷ [])) (sym c.new-lines.ensures.sketch) k in
    let come = begun g.S.Sketch.IsOf s text left heading c.new-lines.result.rank c.new-lines.result.sketch t k2 c.new-lines.ensures.rank in
    let h = rw c.in-Ok-No.field-0-is at c.in-Ok-No.ensures.checked tt text come in
    h.answer.1

pub returns-in-Err-ReadFault-clause-answer : goal.returns-in-Err-ReadFault-clause-answer
returns-in-Err-ReadFault-clause-answer g c = λ text heading t k.
    let s = space g.P.Point.DIM g.P.Point.MAX_SIDE in
    let left = ahead_of c.args.reader.now.ahead ((g.D.Desk.state c.args.desk.now).left Report) in
    let k2 = subst (g.S.Sketch.IsOf (heading ∷ [])) (sym c.new-lines.ensures.sketch) k in
    let come = begun g.S.Sketch.IsOf s text left heading c.new-lines.result.rank c.new-lines.result.sketch t k2 c.new-lines.ensures.rank in
    let h = rw c.in-Err-ReadFault.field-0-is at c.in-Err-ReadFault.ensures.checked tt text come in
    h.answer
