use Rattle.std.proofs.Common.{◌≡◌, ◌+◌, ◌-◌, arith}
use Rattle.shape_envelope.proofs.PartSteps.{written_more}
use Rattle.shape_envelope.proofs.lowest.read_out.Goals as goal
use Rattle.shape_envelope.proofs.lowest.read_out.Goals.{else-starts-k-via-then-starts-k+else-k-gt0, else-starts-k-via-else-starts-k}

pub loop-x-preserved-then-k-gt0 : goal.loop-x-preserved-then-k-gt0
loop-x-preserved-then-k-gt0 c =
    let i = c.loop-x.invariant in
    let b = c.requires.built in
    let k = c.loop-x.k in
    let rises = b.parts.rising (k - 1) k (omega arith) i.there in
    let end = c.len-x.ensures.value in
    let started = i.started (omega arith) in
    record {
      there = omega arith;
      started = λ s. omega arith;
      ended = λ q. let e : k - 1 + 1 ≡ k = omega arith in rw e (omega arith);
      written = written_more c.args.row.now c.args.places.now c.args.starts.now c.loop-x.out c.args.m k c.loop-x.x b i.there (omega arith) (omega arith) started
          i.ended (omega arith) i.written;
    }

pub loop-x-preserved : goal.loop-x-preserved
loop-x-preserved c =
    let i = c.loop-x.invariant in
    let b = c.requires.built in
    let k = c.loop-x.k in
    let end = c.len-x.ensures.value in
    let started = i.started (omega arith) in
    record {
      there = i.there;
      started = λ s. elim c.else-starts-k.branch [
        | else-starts-k-via-then-starts-k+else-k-gt0 w ↦
            let z : k ≡ 0 = omega arith in
            absurd (omega (arith, b.parts.first c.requires.some, rw z at w.if-starts-k.true))
        | else-starts-k-via-else-starts-k w ↦ omega arith
      ];
      ended = λ q. omega (arith, i.ended q);
      written = written_more c.args.row.now c.args.places.now c.args.starts.now c.loop-x.out c.args.m k c.loop-x.x b i.there (omega arith) (omega arith) started
          i.ended (omega arith) i.written;
    }
