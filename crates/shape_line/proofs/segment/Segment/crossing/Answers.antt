use Rattle.std.proofs.Common.{rules, arith, [], ◌∷◌, FitsSigned, w64}
use Rattle.std.specs.Int.{w8}
use Rattle.std.proofs.lemmas.Int.{to_z-of_z}
use Rattle.std.proofs.lemmas.List.{length-append}
use Rattle.shape_refute.specs.Terms.{flat_point}
use Rattle.shape_line.specs.SegmentTerms.{points_of, points_with}
use Rattle.shape_line.proofs.Steps.{sense_fits}
use Rattle.shape_line.proofs.SegmentClashes.{crosses, whole_flat, whole_place}
use Rattle.shape_line.proofs.segment.Segment.crossing.Goals as goal

pub room-up-requires-clause-order : goal.room-up-requires-clause-order
room-up-requires-clause-order c =
    let s = c.args.self.now in
    let f : FitsSigned w8 s.sense = sense_fits s.sense s.grown.sense in
    let f1 : FitsSigned w64 c.rise.result = search rules in
    let f2 : FitsSigned w64 c.run.result = search rules in
    let f3 : FitsSigned w64 c.rise-2.result = search rules in
    let f4 : FitsSigned w64 c.run-2.result = search rules in
    let x = simp to_z-of_z at c.run.ensures.value in
    let y = simp to_z-of_z at c.run-2.ensures.value in
    simp to_z-of_z (simp (x, y, c.rise.ensures.value, c.rise-2.ensures.value) c.requires.order)

pub returns : goal.returns
returns c =
    let s = c.args.self.now in
    let r = c.requires in
    let f : FitsSigned w8 s.sense = sense_fits s.sense s.grown.sense in
    let f1 : FitsSigned w64 c.rise.result = search rules in
    let f2 : FitsSigned w64 c.run.result = search rules in
    let f3 : FitsSigned w64 c.rise-2.result = search rules in
    let f4 : FitsSigned w64 c.run-2.result = search rules in
    let x = simp to_z-of_z at c.run.ensures.value in
    let y = simp to_z-of_z at c.run-2.ensures.value in
    let up' = simp to_z-of_z at c.room-up.ensures.value in
    let up = simp (x, y, c.rise.ensures.value, c.rise-2.ensures.value) at up' in
    let few = c.count-n.ensures.small in
    let many = c.count-n.ensures.value in
    let small = c.room-up.ensures.small in
    crosses s.axis s.sense _ (points_with s c.args.p) s.grown.axis (whole_flat s c.args.p r.next) (whole_place s c.args.p r.next) _ _ _ _ _ _ _ _ r.at_a.stands
    r.at_b.stands r.at_c.stands r.at_d.stands r.lower r.upper _
    c.place.ensures.value c.place-2.ensures.value c.place-3.ensures.value c.place-4.ensures.value up (omega (arith, small))
    (omega (arith, few, many, length-append (points_of s) (flat_point c.args.p ∷ [])))
