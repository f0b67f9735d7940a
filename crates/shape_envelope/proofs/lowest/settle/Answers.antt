use Rattle.std.proofs.Common.{◌≡◌, ◌-◌, ℕ, true, false, arith, rules, Fits, w32, FitsSigned, w64, to_z, of_z}
use Rattle.std.specs.Prelude.{ℤ, pos, ◌≤ℤ◌, ◌<ℤ◌}
use lib.Signed.{lt_z}
use Rattle.std.proofs.lemmas.Int.{ints, to_z-of_z}
use Rattle.shape_envelope.proofs.PartSteps.{settled, settled_none, cut_more}
use Rattle.shape_envelope.proofs.lowest.settle.Goals as goal

before : (s : ℕ) (x : ℤ) → Fits w32 s → FitsSigned w64 x → lt_z (to_z w64 s) (to_z w64 (of_z w64 x)) ≡ true → pos s <ℤ x
before s x l f h = let e : lt_z (to_z w64 s) x ≡ true = rw (to_z-of_z w64 x f) at h in omega (arith, ints)

behind : (s : ℕ) (x : ℤ) → Fits w32 s → FitsSigned w64 x → lt_z (to_z w64 s) (to_z w64 (of_z w64 x)) ≡ false → x ≤ℤ pos s
behind s x l f h = let e : lt_z (to_z w64 s) x ≡ false = rw (to_z-of_z w64 x f) at h in omega (arith, ints)

pub returns-then-x-starts-clause-settled : goal.returns-then-x-starts-clause-settled
returns-then-x-starts-clause-settled g c =
    let x = c.first_better-x.result in
    let fits : FitsSigned w64 x = search rules in
    let w = c.within.ensures in
    settled c.args.row.now c.args.places.now c.args.starts.now c.loop-kept.kept (c.loop-kept.kept - 1) c.args.j _ c.within.result x c.loop-kept.invariant.cut
    (omega arith) c.requires.filled c.first_better-x.ensures.first
    (before _ x (c.type_inv.starts (c.loop-kept.kept - 1)) fits c.if-x-starts.true) (rw (to_z-of_z w64 x fits) at w.least) (omega arith)
    (λ l. rw (to_z-of_z w64 x fits) at (w.same (omega arith)))

pub loop-kept-preserved : goal.loop-kept-preserved
loop-kept-preserved g c =
    let x = c.first_better-x.result in
    let fits : FitsSigned w64 x = search rules in
    record {
      cut = cut_more c.args.row.now c.args.places.now c.args.starts.now c.loop-kept.kept (c.loop-kept.kept - 1) c.args.j _ x c.loop-kept.invariant.cut
          (omega arith) c.first_better-x.ensures.first (behind _ x (c.type_inv.starts (c.loop-kept.kept - 1)) fits c.if-x-starts.false);
      fewer = omega arith;
      count = omega arith;
    }

pub returns-clause-settled : goal.returns-clause-settled
returns-clause-settled g c = settled_none c.args.row.now c.args.places.now c.args.starts.now c.loop-kept.kept c.args.j _ c.loop-kept.invariant.cut (omega arith)
