use Rattle.std.proofs.Common.{arith, ◌≡◌, subst, sym, ◌∙◌}
use Rattle.std.proofs.lemmas.Nat.Bits.{shr_and_one}
use Rattle.shape_topo.proofs.Counting.{Counting, count_start, count_skip, count_more, count_end}
use Rattle.shape_topo.proofs.count.count_parts.Goals as goal
use Rattle.shape_topo.proofs.count.count_parts.Goals.{then-rest-place-eq1, else-rest-place-eq1}

pub loop-place-init : goal.loop-place-init
loop-place-init c = count_start c.args.links.now c.args.set c.args.seeds

pub loop-place-preserved : goal.loop-place-preserved
loop-place-preserved c = elim c.if-rest-place-eq1.branch [
  | then-rest-place-eq1 w ↦ rw (w.rest-is, w.n-is) (count_more c.args.links.now c.args.set c.args.seeds c.loop-place.rest c.loop-place.place c.loop-place.n
      w.component.result c.requires.symmetric (omega arith) (omega arith) w.component.type_inv
      (sym (shr_and_one c.loop-place.rest c.loop-place.place) ∙ w.if-rest-place-eq1.true) w.component.ensures c.loop-place.invariant)
  | else-rest-place-eq1 w ↦ rw (w.rest-is, w.n-is) (count_skip c.args.links.now c.args.set c.args.seeds c.loop-place.rest c.loop-place.place c.loop-place.n
      (λ i. w.if-rest-place-eq1.false (shr_and_one c.loop-place.rest c.loop-place.place ∙ i)) c.loop-place.invariant)
]

pub returns-clause-few : goal.returns-clause-few
returns-clause-few c = let f = c.loop-place.invariant.1.few in omega arith

pub returns-clause-parts : goal.returns-clause-parts
returns-clause-parts c =
    let e : c.loop-place.place ≡ 32 = omega arith in
    count_end c.args.links.now c.args.set c.args.seeds c.loop-place.rest 32 c.loop-place.n (omega arith) c.requires.symmetric c.requires.seeds
    (subst (λ s. Counting c.args.links.now c.args.set c.args.seeds c.loop-place.rest s c.loop-place.n) e c.loop-place.invariant)
