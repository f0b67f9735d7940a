use Rattle.std.proofs.Common.{arith, ℕ, List, [], ◌++◌, length, take, drop, ◌≡◌, ap, ◌∙◌, sym, map}
use Rattle.std.proofs.Math.Seq.{take-append_seam}
use Rattle.measure_terms.specs.Facts.{facts}
use Rattle.measure_terms.specs.Tables.{rows}
use Rattle.measuring.specs.Told.{measures_told}
use Rattle.measuring.proofs.TableSteps.{rows_count, rows_whole}
use Rattle.measuring.proofs.table.measure.Goals as goal

pub add_points-requires-clause-enough : goal.add_points-requires-clause-enough
add_points-requires-clause-enough g c =
    let told = measures_told c.args.left.now.sides in
    let e = ap (map told) c.as_mut_slice.ensures.value ∙ c.in_ok-all.ensures c.args.left.now.sides in
    let n = rows_count told c.as_mut_slice.result.now c.greatest_label-count.result [] e in
    omega (arith, n, c.greatest_label-count.ensures)

pub add_points-requires-clause-empty : goal.add_points-requires-clause-empty
add_points-requires-clause-empty g c =
    let told = measures_told c.args.left.now.sides in
    rows_whole told c.as_mut_slice.result.now c.greatest_label-count.result []
    (ap (map told) c.as_mut_slice.ensures.value ∙ c.in_ok-all.ensures c.args.left.now.sides)

pub returns : goal.returns
returns g c =
    let left = c.args.left.now in
    let object = c.args.object.now in
    let labels = c.in_ok-labels.labels in
    let new = c.add_points.new.all in
    let old = c.as_mut_slice.result.now in
    let told = measures_told left.sides in
    let kept : length new ≡ length old = c.add_points.auto.all in
    let len : c.in_ok-all.all.len ≡ length new = omega (arith, kept, c.as_mut_slice.ensures.len) in
    let rest = drop (length new) c.in_ok-all.all.items in
    let whole : take c.in_ok-all.all.len (new ++ rest) ≡ new = ap (λ n. take n (new ++ rest)) len ∙ take-append_seam new rest in
    record {
      labels = c.in_ok-labels.ensures;
      count = c.greatest_label-count.ensures;
      rows = ap (map (measures_told object.sides)) whole ∙ ap (λ (s : List ℕ). map (measures_told s) new) (sym c.requires.sides) ∙ c.add_points.ensures
          ∙ ap (λ n. rows n (facts object c.args.squares.now left labels))
          (rows_count told old c.greatest_label-count.result [] (ap (map told) c.as_mut_slice.ensures.value ∙ c.in_ok-all.ensures left.sides));
    }
