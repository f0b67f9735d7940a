use Rattle.std.proofs.Common.{◌⊎◌, inl, inr, ◌-◌, arith, subst}
use Rattle.measuring.specs.declared.outline.Outline.{Outline}
use Rattle.measuring.specs.Seen.{IsWidened, IsBegun}
use Rattle.measuring.proofs.Labelled.{point_put, point_passed}
use Rattle.measuring.proofs.rows_of_objects.put_point.Goals as goal
use Rattle.measuring.proofs.rows_of_objects.put_point.Goals.{then-label-eq0-via-then-label-eq0, then-label-eq0-via-else-label-eq0+then-label-len}

pub returns-then-label-eq0 : goal.returns-then-label-eq0
returns-then-label-eq0 c = λ n h.
    let label = c.label-label.ensures in
    elim c.then-label-eq0.branch [
      | then-label-eq0-via-then-label-eq0 w ↦ point_passed _ _ n _ _ h (inl (let z = w.if-label-eq0.true in omega (arith, label, z)))
      | then-label-eq0-via-else-label-eq0+then-label-len w ↦ point_passed _ _ n _ _ h
          (inr (let z = w.if-label-len.true in let m = w.len.ensures in omega (arith, label, z, m)))
    ]

pub returns : goal.returns
returns c = λ n h.
    let all = c.args.all.now.items in
    let label = c.label-label.ensures in
    let some = c.if-label-eq0.false in
    let few = c.if-label-len.false in
    let many = c.len.ensures in
    let p = c.spot_at.result in
    let old = c.index_mut.result.now in
    let new = c.put.new.self in
    let put = subst (λ (o : Outline). IsWidened p o.rows.items new.rows.items ⊎ IsBegun p o.rows.items new.rows.items) c.index_mut.ensures.value
    c.in_ok-put.ensures in
    point_put _ _ c.args.labels.now n c.args.i (c.label-label.result - 1) p all old new h (omega (arith, few, many, some)) (omega (arith, label, some))
    c.spot_at.ensures.inside c.spot_at.ensures.number put
