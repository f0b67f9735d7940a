use Rattle.std.proofs.Common.{◌≡◌, ◌+◌, ◌<◌, [], ◌∷◌, length, map, get_or, sym, ap, ◌∙◌, subst, arith}
use Rattle.std.proofs.lemmas.List.{length-map, length-append, map-append, get_or-map}
use Rattle.measuring.specs.MomentsTold.{moments_told, all_told, ellipse_told}
use Rattle.measure_report.specs.MomentColumns.{no_moments, IsEllipseOf, AreEllipses}
use Rattle.measure_report.proofs.EllipsesMore.{ellipse_more}
use Rattle.measure_report.proofs.moment_columns.ellipses.Goals as goal

pub loop-i-preserved : goal.loop-i-preserved
loop-i-preserved c =
    let i = c.loop-i.i in
    let all = c.args.all.now in
    let old = c.loop-i.found.items in
    let m = c.index-all-i.result in
    let r = c.ellipse_of.result in
    let pushed = c.in_ok-push.ensures.items in
    let many = c.loop-i.invariant.many in
    let below : i < length all = omega arith in
    let own : moments_told m ≡ get_or (all_told all) i no_moments = ap moments_told c.index-all-i.is ∙ sym (get_or-map moments_told all i m no_moments below) in
    let are = ellipse_more (all_told all) (map ellipse_told old) i (ellipse_told r) (length-map old ellipse_told ∙ many) c.loop-i.invariant.are
    (subst (λ n. IsEllipseOf n (ellipse_told r)) own c.ellipse_of.ensures) in
    record {
      many = omega (arith, ap length pushed, length-append old (r ∷ []), many);
      are = subst (AreEllipses (i + 1) (all_told all)) (sym (ap (map ellipse_told) pushed ∙ map-append ellipse_told old (r ∷ []))) are;
    }
