use Rattle.std.proofs.Common.{◌≡◌, ◌∙◌, ap, false, replicate, arith}
use Rattle.shape_terms.specs.Points.{box_count}
use Rattle.shape_balls.proofs.Facts.{few_facts}
use Rattle.shape_balls.proofs.Keeping.{nothing_kept}
use Rattle.shape_balls.proofs.list.union_of.Goals as goal

pub keep_all-requires-clause-keeping : goal.keep_all-requires-clause-keeping
keep_all-requires-clause-keeping g c =
    let kept : c.in_ok-kept.kept ≡ replicate c.len.result false = c.in_ok-kept.ensures in
    let covered : c.in_ok-covered.covered ≡ replicate c.count.result false = c.in_ok-covered.ensures in
    rw (kept, covered) (nothing_kept c.args.grid.now c.in_ok-field.field c.len.result c.count.result c.len.ensures
    (c.count.ensures.value ∙ ap box_count c.sides.ensures.value))

pub new-requires : goal.new-requires
new-requires g c = omega (arith, c.len.ensures, few_facts c.args.grid.now c.in_ok-field.field c.in_ok-field.ensures.field, c.is_picture.ensures.few)
