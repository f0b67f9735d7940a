use Rattle.std.proofs.Common.{◌≡◌, ℕ, ◌+◌, ◌<◌, [], ◌∷◌, List, length, get_or, ap, sym, ◌∙◌, subst, arith}
use Rattle.std.proofs.lemmas.List.{length-append}
use Rattle.measuring.specs.declared.stretch.Stretches.{Stretches}
use Rattle.measuring.proofs.Gathering.{no_objects, one_empty}
use Rattle.measuring.proofs.gather.no_stretches.Goals as goal

pub loop-i-preserved : goal.loop-i-preserved
loop-i-preserved c =
    let count = c.loop-i.invariant.count in
    let items = c.in_ok-push.ensures.items in
    let many = ap length items ∙ length-append c.loop-i.all.items (c.new.result ∷ []) in
    record {
      count = omega (arith, many, count);
      empty = subst (λ (xs : List Stretches). (k : ℕ) (d : Stretches) → k < c.loop-i._i + 1 → (get_or xs k d).all.items ≡ []) (sym items)
          (one_empty c.loop-i.all.items c.new.result c.loop-i._i count c.new.ensures c.loop-i.invariant.empty);
    }

pub returns : goal.returns
returns c = λ width labels.
    let count = c.loop-i.invariant.count in
    no_objects width labels c.args.count c.loop-i.all.items (omega (arith, count)) (λ k d l. c.loop-i.invariant.empty k d (omega (arith, l)))
