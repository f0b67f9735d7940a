use Rattle.std.proofs.Common.{◌∙◌, ◌+◌, subst, sym, arith}
use Rattle.std.specs.Prelude.{Ok, Err}
use Rattle.shape_terms.specs.Covers.{arc}
use Rattle.shape_line.specs.GrowSteps.{Takes}
use Rattle.shape_terms.proofs.BackArcs.{arc_one}
use Rattle.shape_line.proofs.ContourGrowing.{near_on, grown_on, taken_short}
use Rattle.shape_line.proofs.grow.forward.Goals as goal

pub loop-place-init : goal.loop-place-init
loop-place-init c =
    let s = c.begun_at-segment.ensures in
    record { rises = omega arith; taken = record { axis = s.axis; taken = s.taken ∙ sym (arc_one c.args.contour.now.points c.args.first) } }

pub overflow_add-next : goal.overflow_add-next
overflow_add-next c =
    let short = taken_short c.args.contour.now.points c.is_closed_path.ensures c.args.axis c.args.first c.loop-place.place c.loop-place.segment
    c.requires.axis c.loop-place.invariant.taken in
    let few = c.is_closed_path.ensures.few in
    let low = c.requires.low in
    omega arith

pub take_place-requires : goal.take_place-requires
take_place-requires c = near_on c.args.contour.now.points c.is_closed_path.ensures c.args.axis c.args.first c.loop-place.place c.loop-place.segment
    c.loop-place.invariant.rises c.loop-place.invariant.taken

pub loop-place-preserved : goal.loop-place-preserved
loop-place-preserved c =
    let v = c.loop-place.invariant in
    let rises = v.rises in
    record {
      rises = omega arith;
      taken = grown_on c.args.contour.now.points c.is_closed_path.ensures c.args.axis c.args.first c.loop-place.place c.loop-place.segment
          (Ok c.take_place.new.segment) v.rises v.taken c.in-None.ensures;
    }

pub loop-place-smaller : goal.loop-place-smaller
loop-place-smaller c =
    let points = c.args.contour.now.points in
    let v = c.loop-place.invariant in
    let longer : Takes c.args.axis (arc points c.args.first (c.loop-place.place + 1)) c.take_place.new.segment =
    grown_on points c.is_closed_path.ensures c.args.axis c.args.first c.loop-place.place c.loop-place.segment (Ok c.take_place.new.segment) v.rises v.taken
    c.in-None.ensures in
    let short = taken_short points c.is_closed_path.ensures c.args.axis c.args.first (c.loop-place.place + 1) c.take_place.new.segment c.requires.axis longer in
    omega arith

pub returns-in-Some : goal.returns-in-Some
returns-in-Some c =
    let points = c.args.contour.now.points in
    let v = c.loop-place.invariant in
    let same = c.in-Some.ensures.0 in
    let taken = subst (Takes c.args.axis (arc points c.args.first c.loop-place.place)) (sym same) v.taken in
    record {
      rises = v.rises;
      axis = taken.axis;
      taken = taken.taken;
      clash =
          grown_on points c.is_closed_path.ensures c.args.axis c.args.first c.loop-place.place c.loop-place.segment (Err c.in-Some.clash) v.rises v.taken
          c.in-Some.ensures.1;
    }
