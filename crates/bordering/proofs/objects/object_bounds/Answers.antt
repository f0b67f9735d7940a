use Rattle.std.proofs.Common.{ap, sym, ◌∙◌, ◌≡◌, take, [], ◌∷◌, ◌++◌, ◌+◌, subst, length, arith}
use Rattle.std.specs.Prelude.{replicate}
use Rattle.std.proofs.lemmas.List.{length-take-le, take_more, map-append, with_items_is}
use Rattle.shape_terms.specs.Points.{sides_of}
use Rattle.measure_terms.specs.Objects.{object_bounds}
use Rattle.bordering.specs.Told.{flat, all_borders, border_told, all_bounds}
use Rattle.bordering.specs.OneMore.{HasOneMore}
use Rattle.bordering.proofs.Counting.{none_counted, border_counted}
use Rattle.bordering.proofs.Rooms.{room_for_one}
use Rattle.bordering.proofs.objects.object_bounds.Goals as goal

pub loop-b-init : goal.loop-b-init
loop-b-init c =
    let filled = c.in_ok-all.ensures.items_if_clones_equal (λ y e. e) in
    ap all_bounds filled ∙ none_counted (sides_of (flat c.args.sides.lengths)) c.args.labels.now c.args.count c.none.result c.none.ensures

pub add_border-requires : goal.add_border-requires
add_border-requires c =
    let xs = c.args.borders.now in
    let i = c.loop-b.b-index in
    let more = c.loop-b-test.true in
    let some : length (take i xs) ≡ i = length-take-le i xs (omega (arith, more)) in
    room_for_one (sides_of (flat c.args.sides.lengths)) c.args.labels.now c.args.count (take i xs) (all_bounds c.as_mut_slice.result.now)
    (ap all_bounds c.as_mut_slice.ensures.value ∙ c.loop-b.invariant) (omega (arith, some, more))

pub loop-b-preserved : goal.loop-b-preserved
loop-b-preserved c =
    let sides = sides_of (flat c.args.sides.lengths) in
    let labels = c.args.labels.now in
    let xs = c.args.borders.now in
    let i = c.loop-b.b-index in
    let bs = all_borders (take i xs) in
    let b = border_told c.b-item.result in
    let next : all_borders (take (i + 1) xs) ≡ bs ++ b ∷ [] = ap all_borders (take_more xs i c.b-item.result c.loop-b-test.true)
    ∙ map-append border_told (take i xs) _ ∙ ap (λ x. bs ++ border_told x ∷ []) (sym c.b-item.is) in
    let items = with_items_is c.loop-b.all c.add_border.new.all (c.add_border.auto.all ∙ c.as_mut_slice.ensures.len) in
    let old = ap all_bounds c.as_mut_slice.ensures.value ∙ c.loop-b.invariant in
    let put = subst (λ k. HasOneMore k b (all_bounds c.as_mut_slice.result.now) (all_bounds c.add_border.new.all)) c.label_at-label.ensures c.add_border.ensures
    in
    ap all_bounds items ∙ border_counted sides labels c.args.count bs b _ _ old put ∙ ap (object_bounds sides labels c.args.count) (sym next)
