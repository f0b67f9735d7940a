use Rattle.std.proofs.Common.{◌+◌, ◌++◌, drop, ap, sym, ◌∙◌, append_assoc}
use Rattle.std.specs.Prelude.{not, filter}
use Rattle.std.proofs.Math.ListN.{drop_of_length-le}
use Rattle.std.proofs.lemmas.List.{append-nil}
use Rattle.shape_terms.specs.Points.{sides_of}
use Rattle.drawing.specs.Seen.{flat, flats, all_strokes, all_stretches}
use Rattle.drawing.specs.Outlines.{strokes_along, is_inside}
use Rattle.drawing.proofs.Contours.{along_more}
use Rattle.drawing.proofs.outlines.add_strokes.Goals as goal

pub loop-s-preserved : goal.loop-s-preserved
loop-s-preserved c =
    let p = is_inside (sides_of (flat c.args.sides.lengths)) in
    let points = flats c.args.points.now in
    let stretches = c.args.stretches.now in
    let before = all_strokes c.loop-s.strokes.items in
    let more = along_more p points c.loop-s.even stretches c.loop-s.s-index _ c.loop-s-test.true in
    ap (λ t. t ++ filter p (strokes_along points (not c.loop-s.even) (all_stretches (drop (c.loop-s.s-index + 1) stretches)))) c.in_ok-add_stroke.ensures
    ∙ append_assoc before _ _ ∙ ap (λ t. before ++ t) (sym more) ∙ c.loop-s.invariant

pub returns : goal.returns
returns c =
    let p = is_inside (sides_of (flat c.args.sides.lengths)) in
    let none = drop_of_length-le c.args.stretches.now c.loop-s-test.false in
    let now = all_strokes c.loop-s.strokes.items in
    sym (append-nil now) ∙ ap (λ t. now ++ filter p (strokes_along (flats c.args.points.now) c.loop-s.even (all_stretches t))) (sym none) ∙ c.loop-s.invariant
