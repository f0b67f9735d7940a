use Rattle.std.proofs.Common.{◌≡◌, ◌+◌, ◌-◌, ◌<◌, length, get_or, ap, ◌∙◌, arith}
use Rattle.measure_terms.specs.ThicknessColumns.{ThicknessSum}
use Rattle.measuring.specs.OneMore.{sum_with}
use Rattle.measuring.proofs.Adding.{few_points, one_passed, one_added}
use Rattle.measuring.proofs.thickness_of_objects.add_point.Goals as goal
use Rattle.measuring.proofs.thickness_of_objects.add_point.Goals.{then-label-eq0-via-then-label-eq0, then-label-eq0-via-else-label-eq0+then-label-len}

pub returns-then-label-eq0 : goal.returns-then-label-eq0
returns-then-label-eq0 c =
    let label = c.label-label.ensures in
    elim c.then-label-eq0.branch [
      | then-label-eq0-via-then-label-eq0 w ↦ one_passed _ _ _ _ _ c.requires.so_far
          (λ k l e. let z = w.if-label-eq0.true in absurd (omega (arith, label, z, e)))
      | then-label-eq0-via-else-label-eq0+then-label-len w ↦ one_passed _ _ _ _ _ c.requires.so_far
          (λ k l e. let z = w.if-label-len.true in let m = w.len.ensures in absurd (omega (arith, label, z, m, l, e)))
    ]

pub add-requires : goal.add-requires
add-requires c =
    let all = c.args.all.now.items in
    let old = c.index_mut.result.now in
    let l : c.label-label.result - 1 < length all = omega (arith, c.len.ensures, c.if-label-eq0.false, c.if-label-len.false) in
    let e = ap (λ (s : ThicknessSum). s.count) c.index_mut.ensures.value in
    let few = few_points c.args.labels.now (length all) c.args.thicknesses.now c.args.i all (c.label-label.result - 1) old c.requires.so_far l in
    omega (arith, e, few, c.requires.few)

pub returns : goal.returns
returns c =
    let all = c.args.all.now.items in
    let t = get_or c.args.thicknesses.now c.args.i 0 in
    let l : c.label-label.result - 1 < length all = omega (arith, c.len.ensures, c.if-label-eq0.false, c.if-label-len.false) in
    let own : get_or c.args.labels.now c.args.i 0 ≡ c.label-label.result - 1 + 1 = omega (arith, c.label-label.ensures, c.if-label-eq0.false) in
    one_added c.args.labels.now (length all) c.args.thicknesses.now c.args.i all (c.label-label.result - 1) c.add.new.self c.index_mut.result.now
    c.requires.so_far l own
    (c.add.ensures ∙ ap (λ (s : ThicknessSum). sum_with s t) c.index_mut.ensures.value)
