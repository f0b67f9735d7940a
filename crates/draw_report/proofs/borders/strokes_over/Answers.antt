use Rattle.std.proofs.Common.{◌+◌, ◌++◌, drop, ap, sym, ◌∙◌, arith}
use Rattle.std.proofs.Math.ListN.{drop_of_length-le}
use Rattle.std.proofs.lemmas.List.{append-nil}
use Rattle.drawing.specs.Seen.{all_strokes}
use Rattle.draw_report.specs.Going.{strokes_from}
use Rattle.draw_report.specs.Seen.{all_marks, all_paths}
use Rattle.draw_report.proofs.BorderLaws.{marks_more, all_strokes_over}
use Rattle.draw_report.proofs.borders.strokes_over.Goals as goal

pub loop-mark-preserved : goal.loop-mark-preserved
loop-mark-preserved c =
    let paths = all_paths c.args.paths.now in
    let marks = c.args.marks.now in
    let i = c.loop-mark.mark-index in
    let begun = c.in_ok-at.ensures.begun in
    let low = c.loop-mark.invariant.1 in (
      c.in_ok-at.ensures.strokes (all_marks (drop (i + 1) marks))
          ∙ ap (λ ms. all_strokes c.loop-mark.strokes.items ++ strokes_from paths c.loop-mark.at.begun c.loop-mark.at.even ms)
          (sym (marks_more marks i _ c.loop-mark-test.true))
          ∙ c.loop-mark.invariant.0,
      omega (arith, begun, low),
    )

pub returns : goal.returns
returns c =
    let paths = all_paths c.args.paths.now in
    let marks = c.args.marks.now in
    let now = all_strokes c.loop-mark.strokes.items in
    let none = drop_of_length-le marks c.loop-mark-test.false in
    sym (append-nil now) ∙ ap (λ ms. now ++ strokes_from paths c.loop-mark.at.begun c.loop-mark.at.even (all_marks ms)) (sym none) ∙ c.loop-mark.invariant.0
    ∙ all_strokes_over paths (all_marks marks)
