use Rattle.std.proofs.Common.{ap, sym, ◌∙◌, arith}
use Rattle.std.specs.Prelude.{filter}
use Rattle.shape_terms.specs.Points.{sides_of}
use Rattle.drawing.specs.Seen.{flat, flats}
use Rattle.drawing.specs.Canvas.{Canvas, cell_at}
use Rattle.drawing.specs.Inks.{has_ink}
use Rattle.drawing.proofs.CanvasLaws.{one_shows, none_shows, all_places}
use Rattle.drawing.proofs.canvas.Canvas.points_with.Goals as goal
use Rattle.drawing.proofs.canvas.Canvas.points_with.Goals.{then-has_ink+in_ok-push, else-has_ink}

pub loop-i-preserved : goal.loop-i-preserved
loop-i-preserved c =
    let V : Canvas = record { sides = sides_of (flat c.self.inside.sides.lengths); cells = c.self.inside.cells.items } in
    elim c.if-has_ink.branch [
      | then-has_ink+in_ok-push w ↦
          ap (λ v. flats v.items) w.points-is ∙ ap flats w.in_ok-push.ensures.items
          ∙ one_shows V c.args.self.now c.args.colour c.args.shade c.loop-i.i c.index.result.now c.self.view_is (omega arith) (omega (arith, c.self.invariant))
          c.index.ensures c.loop-i.points.items w.unraster.result
          (sym w.if-has_ink.true ∙ c.has_ink.ensures) w.unraster.ensures.value c.loop-i.invariant
      | else-has_ink w ↦
          ap (λ v. flats v.items) w.points-is
          ∙ none_shows V c.args.self.now c.args.colour c.args.shade c.loop-i.i c.index.result.now c.self.view_is (omega arith) (omega (arith, c.self.invariant))
          c.index.ensures c.loop-i.points.items
          (sym w.if-has_ink.false ∙ c.has_ink.ensures) c.loop-i.invariant
    ]

pub returns : goal.returns
returns c =
    let V : Canvas = record { sides = sides_of (flat c.self.inside.sides.lengths); cells = c.self.inside.cells.items } in
    c.loop-i.invariant ∙ ap (filter (λ q. has_ink c.args.colour c.args.shade (cell_at c.args.self.now q)))
    (all_places V c.args.self.now c.loop-i.i c.self.view_is (omega arith))
