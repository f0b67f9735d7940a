use Rattle.std.proofs.Common.{◌≡◌, ℕ, ◌+◌, ◌<◌, [], ◌∷◌, List, length, get_or, ap, sym, ◌∙◌, subst, arith}
use Rattle.std.proofs.lemmas.List.{length-append}
use Rattle.measure_terms.specs.ThicknessColumns.{ThicknessSum, sum_of}
use Rattle.measuring.proofs.Adding.{no_objects, one_empty}
use Rattle.measuring.proofs.thickness_of_objects.no_sums.Goals as goal

pub loop-i-preserved : goal.loop-i-preserved
loop-i-preserved c =
    let count = c.loop-i.invariant.count in
    let items = c.in_ok-push.ensures.items in
    let many = ap length items ∙ length-append c.loop-i.all.items (c.none.result ∷ []) in
    record {
      count = omega (arith, many, count);
      empty = subst (λ (xs : List ThicknessSum). (k : ℕ) (d : ThicknessSum) → k < c.loop-i._i + 1 → get_or xs k d ≡ sum_of []) (sym items)
          (one_empty c.loop-i.all.items c.none.result c.loop-i._i count c.none.ensures c.loop-i.invariant.empty);
    }

pub returns : goal.returns
returns c = λ labels thicknesses.
    let count = c.loop-i.invariant.count in
    no_objects labels c.args.count thicknesses c.loop-i.all.items (omega (arith, count)) (λ k d l. c.loop-i.invariant.empty k d (omega (arith, l)))
