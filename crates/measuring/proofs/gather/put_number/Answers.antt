use Rattle.std.proofs.Common.{◌⊎◌, inl, inr, ◌-◌, arith, subst}
use Rattle.measuring.specs.declared.stretch.Stretches.{Stretches}
use Rattle.measuring.specs.Stretches.{IsPutLast, IsPutNew}
use Rattle.measuring.proofs.Gathering.{number_put, number_passed}
use Rattle.measuring.proofs.gather.put_number.Goals as goal
use Rattle.measuring.proofs.gather.put_number.Goals.{then-label-eq0-via-then-label-eq0, then-label-eq0-via-else-label-eq0+then-label-len}

pub returns-then-label-eq0 : goal.returns-then-label-eq0
returns-then-label-eq0 c = λ n h.
    let label = c.label-label.ensures in
    elim c.then-label-eq0.branch [
      | then-label-eq0-via-then-label-eq0 w ↦ number_passed _ _ n _ _ h (inl (let z = w.if-label-eq0.true in omega (arith, label, z)))
      | then-label-eq0-via-else-label-eq0+then-label-len w ↦ number_passed _ _ n _ _ h
          (inr (let z = w.if-label-len.true in let m = w.len.ensures in omega (arith, label, z, m)))
    ]

pub returns : goal.returns
returns c = λ n h.
    let w = c.args.width in
    let i = c.args.i in
    let all = c.args.all.now.items in
    let label = c.label-label.ensures in
    let some = c.if-label-eq0.false in
    let few = c.if-label-len.false in
    let many = c.len.ensures in
    let old = c.index_mut.result.now in
    let new = c.put.new.self in
    let put = subst (λ (o : Stretches). IsPutLast w i o.all.items new.all.items ⊎ IsPutNew i o.all.items new.all.items) c.index_mut.ensures.value
    c.in_ok-put.ensures in
    number_put w c.args.labels.now n i (c.label-label.result - 1) all old new h (omega (arith, few, many, some)) (omega (arith, label, some)) put
