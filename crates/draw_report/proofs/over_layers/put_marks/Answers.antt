use Rattle.std.proofs.Common.{ap, ◌∙◌}
use Rattle.report_lines.specs.Said.{Said}
use Rattle.draw_report.specs.Seen.{all_marks, all_paths}
use Rattle.draw_report.proofs.OverLaws.{balls_put, pieces_put, edges_put}
use Rattle.draw_report.proofs.over_layers.put_marks.Goals as goal

pub returns-in-Balls : goal.returns-in-Balls
returns-in-Balls c = λ lines h. balls_put c.put_balls.result c.args.further.now.kind lines _ _ _ _ _ c.in-Balls.is h.given (ap all_marks c.deref.ensures.value)
    c.put_balls.ensures

pub returns-in-Pieces : goal.returns-in-Pieces
returns-in-Pieces c = λ lines h. pieces_put c.put_pieces.result c.args.further.now.kind lines _ _ _ _ _ _ c.in-Pieces.is h.given
    (ap all_paths c.deref-in-Pieces.ensures.value ∙ h.contours) (ap all_marks c.deref-in-Pieces-2.ensures.value) c.put_pieces.ensures

pub returns-in-Edges : goal.returns-in-Edges
returns-in-Edges c = λ lines h. edges_put c.put_edges.result c.args.further.now.kind lines _ _ _ _ _ c.in-Edges.is
    (c.object.ensures ∙ ap (λ (s : Said). s.object) h.seen) (ap all_marks c.deref-in-Edges.ensures.value) c.put_edges.ensures
