use Rattle.std.proofs.Common.{List, length, sym, subst}
use Rattle.std.proofs.lemmas.Result.{IfOk-weaker}
use Rattle.shape_terms.specs.Points.{sides_of}
use Rattle.measure_terms.specs.HullSizes.{AreHulls}
use Rattle.measuring.specs.declared.outline.Outline.{Outline}
use Rattle.measuring.specs.FeretsTold.{flat}
use Rattle.measuring.specs.Seen.{AreInOrder}
use Rattle.measuring.specs.Sizes.{hulls_told, HaveSizes}
use Rattle.measuring.proofs.Labelled.{in_order}
use Rattle.measuring.proofs.LabelledHulls.{hulls_are}
use Rattle.measuring.proofs.convex.hulls.Goals as goal

pub sizes_of_all-requires : goal.sizes_of_all-requires
sizes_of_all-requires c = subst AreInOrder (sym c.as_slice.ensures.value) (in_order _ _ c.args.count _ c.in_ok-outlines.outlines.items c.in_ok-outlines.ensures)

pub returns-clause-all : goal.returns-clause-all
returns-clause-all c =
    let slice = c.as_slice.result.now in
    IfOk-weaker c.sizes_of_all.result (λ zs. HaveSizes slice (length slice) zs.items)
    (λ zs. AreHulls (sides_of (flat c.args.sides.lengths)) c.args.labels.now c.args.count (hulls_told zs.items))
    (λ zs h. hulls_are _ _ c.args.labels.now c.args.count c.in_ok-outlines.outlines.items zs.items c.in_ok-outlines.ensures
    (subst (λ (all : List Outline). HaveSizes all (length all) zs.items) c.as_slice.ensures.value h))
    c.sizes_of_all.ensures
