use Rattle.std.proofs.Common.{◌≡◌, ◌<◌, ◌∙◌, sym, arith}
use Rattle.std.specs.Prelude.{slice_index}
use Rattle.std.proofs.lemmas.Bool.{ltb-true}
use Rattle.shape_terms.specs.Points.{sides_of, box_count}
use Rattle.shape_thickness.proofs.KnownPlaces.{known_place}
use Rattle.shape_thickness.proofs.depths.painted_of.Goals as goal
use Rattle.shape_thickness.proofs.depths.painted_of.Goals.{then-is_painted, else-is_painted}

pub loop-i-preserved : goal.loop-i-preserved
loop-i-preserved g c =
    let sides = sides_of (g.P.Point.coords c.args.sides.now.lengths) in
    let n = c.count-i-end.ensures.value in
    let inside : c.loop-i.i < box_count sides = omega (arith, n) in
    elim c.if-is_painted.branch [
      | then-is_painted w ↦ rw w.painted-is (known_place sides c.loop-i.painted w.set_number.new.self c.args.canvas.now c.loop-i.i inside
          (ltb-true 0 (slice_index c.args.canvas.now c.loop-i.i) (sym c.is_painted.ensures ∙ w.if-is_painted.true)) w.set_number.ensures c.loop-i.invariant)
      | else-is_painted w ↦ rw w.painted-is c.loop-i.invariant
    ]
