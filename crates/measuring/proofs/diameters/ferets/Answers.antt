use Rattle.std.proofs.Common.{List, get_or, length, sym, ◌∙◌, subst}
use Rattle.std.specs.Prelude.{nat_abs}
use Rattle.std.proofs.lemmas.Result.{IfOk-weaker}
use Rattle.std.proofs.lemmas.List.{length-map}
use Rattle.shape_terms.specs.Points.{sides_of, box_count}
use Rattle.measure_terms.specs.Feret.{AreFerets}
use Rattle.measure_terms.specs.Spacing.{spaced_distance}
use Rattle.measuring.specs.Spaced.{spacing_told}
use Rattle.measuring.specs.declared.stretch.Stretches.{Stretches}
use Rattle.measuring.specs.FeretsTold.{ferets_told}
use Rattle.measuring.specs.Farthest.{AreObjects, HaveFarthest}
use Rattle.measuring.proofs.SiteNumbers.{axes_of}
use Rattle.measuring.proofs.Gathering.{objects_are}
use Rattle.measuring.proofs.FeretsFound.{ferets_are}
use Rattle.measuring.proofs.diameters.ferets.Goals as goal

pub farthest_of_all-requires-clause-objects : goal.farthest_of_all-requires-clause-objects
farthest_of_all-requires-clause-objects g c =
    let sides = sides_of (g.P.Point.coords c.args.sides.lengths) in
    subst (AreObjects (get_or sides 0 0) (box_count sides)) (sym c.as_slice.ensures.value)
    (objects_are (get_or sides 0 0) c.args.labels.now c.args.count (box_count sides) c.in_ok-objects.objects.items c.in_ok-objects.ensures)

pub returns-clause-all : goal.returns-clause-all
returns-clause-all g c =
    let s = spacing_told c.args.spacing in
    let ns = g.P.Point.coords c.args.sides.lengths in
    let sides = sides_of ns in
    let labels = c.args.labels.now in
    let n = c.args.count in
    let axes = axes_of ns (g.met.P.Point.two_or_three) (g.met.P.Point.axes c.args.sides.lengths) in
    let many = length-map ns nat_abs ∙ g.met.P.Point.axes c.args.sides.lengths in
    let slice = c.as_slice.result.now in
    IfOk-weaker c.farthest_of_all.result (λ fs. HaveFarthest s sides slice (length slice) fs.items)
    (λ fs. AreFerets (spaced_distance s) sides labels n (ferets_told g.P.Point.DIM fs.items))
    (λ fs h. subst (λ d. AreFerets (spaced_distance s) sides labels n (ferets_told d fs.items)) many
    (ferets_are s sides labels n c.in_ok-objects.objects.items fs.items axes c.in_ok-objects.ensures
    (subst (λ (all : List Stretches). HaveFarthest s sides all (length all) fs.items) c.as_slice.ensures.value h)))
    c.farthest_of_all.ensures

pub farthest_of_all-requires-clause-spacing : goal.farthest_of_all-requires-clause-spacing
farthest_of_all-requires-clause-spacing g c = c.args.spacing.sides
