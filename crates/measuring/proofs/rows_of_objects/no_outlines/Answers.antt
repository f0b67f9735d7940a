use Rattle.std.proofs.Common.{◌≡◌, ℕ, ◌+◌, ◌<◌, [], ◌∷◌, List, length, get_or, ap, sym, ◌∙◌, subst, arith}
use Rattle.std.proofs.lemmas.List.{length-append}
use Rattle.measuring.specs.declared.outline.Outline.{Outline}
use Rattle.measuring.proofs.Labelled.{no_objects, one_empty}
use Rattle.measuring.proofs.rows_of_objects.no_outlines.Goals as goal

pub loop-i-preserved : goal.loop-i-preserved
loop-i-preserved c =
    let count = c.loop-i.invariant.count in
    let items = c.in_ok-push.ensures.items in
    let many = ap length items ∙ length-append c.loop-i.all.items (c.new.result ∷ []) in
    record {
      count = omega (arith, many, count);
      empty = subst (λ (xs : List Outline). (k : ℕ) (d : Outline) → k < c.loop-i._i + 1 → (get_or xs k d).rows.items ≡ []) (sym items)
          (one_empty c.loop-i.all.items c.new.result c.loop-i._i count c.new.ensures c.loop-i.invariant.empty);
    }

pub returns : goal.returns
returns c = λ sides labels.
    let count = c.loop-i.invariant.count in
    no_objects sides labels c.args.count c.loop-i.all.items (omega (arith, count)) (λ k d l. c.loop-i.invariant.empty k d (omega (arith, l)))
