use Rattle.std.proofs.Common.{◌≡◌, ◌+◌, ◌-◌, subst, arith, pos, ◌<ℤ◌, ◌≤ℤ◌}
use Rattle.measure_terms.specs.Hulls.{turn, vertex}
use Rattle.measuring.specs.Corners.{corners, IsAmong}
use Rattle.measuring.specs.Chains.{IsOpen}
use Rattle.measuring.proofs.Chaining.{popped}
use Rattle.measuring.proofs.chain.kept.Goals as goal

pub loop-q-preserved : goal.loop-q-preserved
loop-q-preserved c =
    let points = corners c.args.points.now in
    let v = vertex (corners c.args.chain.now) in
    let bent = c.bends.ensures.yes c.loop-q-test.true in
    let j = bent.0 in
    let e = bent.1 in
    let f : j + 1 ≡ c.loop-q.count - 1 = omega (arith, e) in
    let within = c.loop-q.invariant.within in
    let bend = subst (λ z. turn (v j) (v (j + 1)) z ≤ℤ pos 0) c.vertex-q.ensures.is bent.2 in
    record {
      within = omega (arith, within);
      until = λ up h. subst (λ n. IsOpen up (IsAmong points c.args.at) v (vertex points c.args.at) n) f
          (popped up (IsAmong points c.args.at) v (vertex points c.args.at) j c.loop-q.count e bend (c.loop-q.invariant.until up h));
    }

pub returns-clause-kept : goal.returns-clause-kept
returns-clause-kept c = λ up h. record {
  until = c.loop-q.invariant.until up h;
  left = λ i e. subst (λ z. pos 0 <ℤ turn (vertex (corners c.args.chain.now) i) (vertex (corners c.args.chain.now) (i + 1)) z) c.vertex-q.ensures.is
      (c.bends.ensures.no c.loop-q-test.false i e);
}
