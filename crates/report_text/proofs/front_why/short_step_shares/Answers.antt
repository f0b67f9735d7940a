use Rattle.std.proofs.Common.{◌*◌, ◌+◌, arith}
use Rattle.text_terms.specs.Weights.{step_share}
use Rattle.shape_refute.specs.Shown.{step_share_of}
use Rattle.report_text.proofs.ShortLists.{none_listed, one_listed, counted_stand, counted_fit}
use Rattle.report_text.proofs.front_why.short_step_shares.Goals as goal

pub loop-init : goal.loop-init
loop-init c = rw c.new-shares.ensures
    (record { listed = none_listed (step_share c.args.dim) c.args.bytes.now c.in_ok-few.few.end; order = omega arith; inside = c.in_ok-few.ensures.inside })

pub loop-preserved : goal.loop-preserved
loop-preserved c =
    let l = c.loop in
    let s = c.in_ok-share in
    rw c.push.ensures (record {
      listed = one_listed (step_share c.args.dim) c.args.bytes.now c.in_ok-few.few.end l.end s.share.end (12 * l.counter) 12 (12 * (l.counter + 1)) l.counter l.shares
          (step_share_of s.share.value) (omega arith) l.invariant.listed s.ensures.fits s.ensures.stands;
      order = omega (arith, c.loop-test.true);
      inside = s.ensures.inside;
    })

pub returns-clause-stands : goal.returns-clause-stands
returns-clause-stands c =
    let l = c.loop in
    let f = c.in_ok-few in
    counted_stand (step_share c.args.dim) c.args.bytes.now c.args.at f.few.end l.end (12 * l.counter) 50 f.few.value l.counter l.shares
    (omega (arith, l.invariant.order, f.ensures.few)) (omega (arith, l.invariant.order, c.loop-test.false)) f.ensures.stands l.invariant.listed

pub returns-clause-fits : goal.returns-clause-fits
returns-clause-fits c =
    let l = c.loop in
    let f = c.in_ok-few in
    counted_fit (step_share c.args.dim) c.args.bytes.now f.few.end l.end (12 * l.counter) l.counter l.shares (omega (arith, l.invariant.order, f.ensures.few)) l.invariant.listed
