use Rattle.std.proofs.Common.{◌≡◌, ◌∙◌, ◌-◌, subst, sym, arith, ℕ}
use native.Mathlib.Decide.{dec_lt}
use Rattle.std.specs.Prelude.{Ok, Err}
use Rattle.shape_terms.specs.Straight.{IsStraight}
use Rattle.shape_terms.specs.Covers.{arc}
use Rattle.shape_terms.specs.BackArcs.{back_arc}
use Rattle.shape_line.specs.GrowSteps.{Takes}
use Rattle.shape_terms.proofs.BackArcs.{back_one}
use Rattle.shape_line.proofs.ContourGrowing.{near_back, grown_back, taken_back}
use Rattle.shape_line.proofs.back.backward.Goals as goal

pub loop-place-init : goal.loop-place-init
loop-place-init c =
    let s = c.begun_at-segment.ensures in
    record {
      later = c.requires.rises;
      near = omega arith;
      taken =
          record { axis = s.axis; taken = s.taken ∙ sym (back_one c.args.contour.now.points c.args.last) };
    }

pub take_place-requires : goal.take_place-requires
take_place-requires c =
    let v = c.loop-place.invariant in
    let later = v.later in
    near_back c.args.contour.now.points c.is_closed_path.ensures c.args.axis c.loop-place.place c.args.last c.loop-place.segment (omega arith) v.near v.taken

pub loop-place-preserved : goal.loop-place-preserved
loop-place-preserved c =
    let points = c.args.contour.now.points in
    let place = c.loop-place.place in
    let v = c.loop-place.invariant in
    let later = v.later in
    let near = v.near in
    let longer : Takes c.args.axis (back_arc points (place - 1) c.args.last) c.take_place.new.segment =
    grown_back points c.is_closed_path.ensures c.args.axis place c.args.last c.loop-place.segment (Ok c.take_place.new.segment) (omega arith) v.near v.taken
    c.in-None.ensures in
    record {
      later = elim (dec_lt c.args.first (place - 1)) [
        | yes l ↦ l
        | no l ↦ absurd (c.requires.bent
            (subst (λ (b : ℕ). IsStraight (arc points b c.args.last)) (let q : place - 1 ≡ c.args.first = omega arith in q)
            (taken_back points c.is_closed_path.ensures c.args.axis (place - 1) c.args.last c.take_place.new.segment c.requires.axis (omega arith) longer)))
      ];
      near = omega arith;
      taken = longer;
    }

pub returns-in-Some : goal.returns-in-Some
returns-in-Some c =
    let points = c.args.contour.now.points in
    let v = c.loop-place.invariant in
    let later = v.later in
    let same = c.in-Some.ensures.0 in
    let taken = subst (Takes c.args.axis (back_arc points c.loop-place.place c.args.last)) (sym same) v.taken in
    record {
      later = later;
      near = v.near;
      axis = taken.axis;
      taken = taken.taken;
      clash =
          grown_back points c.is_closed_path.ensures c.args.axis c.loop-place.place c.args.last c.loop-place.segment (Err c.in-Some.clash) (omega arith) v.near
          v.taken c.in-Some.ensures.1;
    }
