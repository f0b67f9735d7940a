use Rattle.std.proofs.Common.{◌≡◌, ◌<◌, ◌+◌, refl, length, map, subst, ap, sym, ◌∙◌, arith}
use Rattle.std.specs.Prelude.{Some}
use Rattle.std.proofs.lemmas.List.{length-map}
use Rattle.std.proofs.lemmas.Option.{slice_get-get_or}
use Rattle.shape_terms.specs.Points.{box_count, raster_point}
use Rattle.shape_terms.specs.Pictures.{Picture}
use Rattle.shape_terms.proofs.Boxes.{raster_point_in}
use Rattle.shape_terms.proofs.Places.{place_map}
use Rattle.judge_outline.proofs.LeftPoints.{numbered}
use Rattle.judge_outline.proofs.Marking.{AreMarkedFrom, marked_next, marked_end}
use Rattle.judge_outline.proofs.Numbering.{marked_numbers}
use Rattle.judge_outline.proofs.numbered.unmark_all.Goals as goal

pub loop-k-init : goal.loop-k-init
loop-k-init c = record { sides = refl; marked = marked_numbers c.args.marks.now c.args.numbers.now.items c.requires }

pub clear_number-requires : goal.clear_number-requires
clear_number-requires c =
    let l : c.loop-k.k < length c.args.numbers.now.items = omega (arith, c.loop-k-test.true, c.len-k-end.ensures) in
    let b = c.requires.below c.index.result.now (c.loop-k.k, l, sym c.index.ensures) in
    omega (arith, b, ap box_count c.loop-k.invariant.sides)

pub loop-k-preserved : goal.loop-k-preserved
loop-k-preserved c =
    let items = c.args.numbers.now.items in
    let n = c.index.result.now in
    let M = c.loop-k.marks in
    let sides = c.args.marks.now.sides in
    let l : c.loop-k.k < length items = omega (arith, c.loop-k-test.true, c.len-k-end.ensures) in
    let b = c.requires.below n (c.loop-k.k, l, sym c.index.ensures) in
    let within : n < box_count M.sides = omega (arith, b, ap box_count c.loop-k.invariant.sides) in
    let here : raster_point sides n ≡ raster_point M.sides n = ap (λ s. raster_point s n) (sym c.loop-k.invariant.sides) in
    let there = place_map (raster_point sides) items c.loop-k.k n (slice_get-get_or items c.loop-k.k n l ∙ ap Some (sym c.index.ensures)) ∙ ap Some here in
    record {
      sides = ap (λ (Y : Picture). Y.sides) c.clear_number.ensures ∙ c.loop-k.invariant.sides;
      marked = subst (AreMarkedFrom (map (raster_point sides) items) (c.loop-k.k + 1)) (sym (c.clear_number.ensures ∙ numbered M n _ within))
          (marked_next M (map (raster_point sides) items) c.loop-k.k (raster_point M.sides n) there (raster_point_in M.sides n within)
          c.loop-k.invariant.marked);
    }

pub returns-clause-none : goal.returns-clause-none
returns-clause-none c = marked_end c.loop-k.marks (map (raster_point c.args.marks.now.sides) c.args.numbers.now.items) c.loop-k.k
    (omega (arith, c.loop-k-test.false, c.len-k-end.ensures, length-map c.args.numbers.now.items (raster_point c.args.marks.now.sides)))
    c.loop-k.invariant.marked
