use Rattle.std.proofs.Common.{◌≡◌, ◌+◌, ◌<◌, [], ◌∷◌, length, map, get_or, sym, ap, ◌∙◌, subst, arith}
use Rattle.std.proofs.lemmas.List.{length-map, length-append, map-append, get_or-map}
use Rattle.measuring.specs.MomentsTold.{moments_told, all_told}
use Rattle.draw_report.specs.Measured.{no_moments, AreAxesOf, AreAxes}
use Rattle.draw_report.specs.MeasuresTold.{axes_told}
use Rattle.draw_report.proofs.AxesMore.{axes_more}
use Rattle.draw_report.proofs.axes.all_axes.Goals as goal

pub loop-i-preserved : goal.loop-i-preserved
loop-i-preserved c =
    let i = c.loop-i.i in
    let all = c.args.all.now in
    let old = c.loop-i.found.items in
    let m = c.index-all-i.result in
    let r = c.axes_of.result in
    let pushed = c.in_ok-push.ensures.items in
    let many = c.loop-i.invariant.many in
    let below : i < length all = omega arith in
    let own : moments_told m ≡ get_or (all_told all) i no_moments = ap moments_told c.index-all-i.is ∙ sym (get_or-map moments_told all i m no_moments below) in
    let are = axes_more (all_told all) (map axes_told old) i (axes_told r) (length-map old axes_told ∙ many) c.loop-i.invariant.are
    (subst (λ n. AreAxesOf n (axes_told r)) own c.axes_of.ensures) in
    record {
      many = omega (arith, ap length pushed, length-append old (r ∷ []), many);
      are = subst (AreAxes (i + 1) (all_told all)) (sym (ap (map axes_told) pushed ∙ map-append axes_told old (r ∷ []))) are;
    }
