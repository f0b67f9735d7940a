use Rattle.std.proofs.Common.{◌≡◌, ◌+◌, ◌<◌, ◌++◌, [], map, length, ap, sym, subst, ◌∙◌, arith}
use Rattle.std.specs.List.{flat_map, range_with_len}
use Rattle.std.proofs.lemmas.List.{length-map, get_or-map}
use Rattle.shape_terms.specs.Points.{sides_of}
use Rattle.drawing.specs.Seen.{flat}
use Rattle.drawing.proofs.LayerLaws.{one_more, more_numbers}
use Rattle.measuring.specs.Told.{measures_told}
use Rattle.draw_report.specs.Numbers.{deepest_point, number_at, numbered}
use Rattle.draw_report.proofs.numbers.put_all.Goals as goal

pub loop-i-preserved : goal.loop-i-preserved
loop-i-preserved c =
    let told = measures_told (sides_of (flat c.args.sides.lengths)) in
    let objects = c.args.objects.now in
    let i = c.loop-i.i in
    let m = c.index-objects-i.result in
    let within : i < length objects = omega arith in
    let among : i < length (map told objects) = omega (arith, length-map objects told, within) in
    let told_at = get_or-map told objects i m (told m) within in
    let point_at = get_or-map deepest_point (map told objects) i (told m) [] among in
    let same = sym (point_at ∙ ap deepest_point told_at) in
    let text = numbered (map deepest_point (map told objects)) in
    let put : c.put_at.new.svg ≡ c.loop-i.svg ++ text i = subst (λ p. c.put_at.new.svg ≡ c.loop-i.svg ++ number_at (i + 1) p) same c.in_ok-put_at.ensures in
    one_more c.args.svg.now c.loop-i.svg c.put_at.new.svg (flat_map text (range_with_len 0 i)) (flat_map text (range_with_len 0 (i + 1))) (text i)
    c.loop-i.invariant put (more_numbers text i)
