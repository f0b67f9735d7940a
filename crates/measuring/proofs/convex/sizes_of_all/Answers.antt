use Rattle.std.proofs.Common.{◌≡◌, ◌+◌, length, sym, subst, arith}
use Rattle.measuring.specs.declared.outline.Outline.{Outline}
use Rattle.measuring.specs.Rows.{AreRows}
use Rattle.measuring.specs.Sizes.{HaveSizes}
use Rattle.measuring.proofs.LabelledHulls.{one_size_more}
use Rattle.measuring.proofs.convex.sizes_of_all.Goals as goal

pub size_of-requires : goal.size_of-requires
size_of-requires c =
    subst (λ (o : Outline). AreRows o.rows.items) (sym c.outline-item.is)
    (c.requires.each c.loop-outline.outline-index c.outline-item.result c.loop-outline-test.true)

pub loop-outline-preserved : goal.loop-outline-preserved
loop-outline-preserved c =
    let i = c.loop-outline.outline-index in
    subst (HaveSizes c.args.outlines.now (i + 1)) (sym c.in_ok-push.ensures.items)
    (one_size_more c.args.outlines.now i c.loop-outline.all.items c.outline-item.result c.in_ok-size_of.field-0 c.loop-outline-test.true c.outline-item.is
    c.in_ok-size_of.ensures c.loop-outline.invariant)

pub returns : goal.returns
returns c =
    let e : c.loop-outline.outline-index ≡ length c.args.outlines.now = omega arith in
    subst (λ n. HaveSizes c.args.outlines.now n c.loop-outline.all.items) e c.loop-outline.invariant
