use Rattle.std.proofs.Common.{◌≡◌, ◌<◌, ◌≤◌, subst, ap, ◌∙◌, set, length, take, arith, rules}
use Rattle.std.proofs.lemmas.List.{take_more_set, take_all}
use Rattle.report_text.proofs.Standing.{AreRead, none_read, one_read}
use Rattle.report_text.proofs.front.short_point.Goals as goal

pub loop-axis-init : goal.loop-axis-init
loop-axis-init g c = none_read c.args.bytes.now c.args.at

pub loop-axis-preserved : goal.loop-axis-preserved
loop-axis-preserved g c =
    let l = c.loop-axis in
    let z = c.in-Some.field.value in
    let p = g.P.Point.coords l.value in
    let e : g.P.Point.coords c.with-value.result ≡ set p l.axis z = c.with-value.ensures ∙ ap (λ y. set p l.axis y) (search rules) in
    let k : l.axis < length p = omega (arith, c.DIM-axis-end.ensures, c.loop-axis-test.true, g.met.P.Point.axes l.value) in
    rw (e, take_more_set p l.axis z k)
    (one_read c.args.bytes.now c.args.at l.end c.in-Some.field.end l.axis (take l.axis p) z l.invariant c.in-Some.ensures.narrow c.in-Some.ensures.stands)

pub returns-clause-stands : goal.returns-clause-stands
returns-clause-stands g c =
    let l = c.loop-axis in
    let p = g.P.Point.coords l.value in
    let e : take l.axis p ≡ p = take_all l.axis p (omega (arith, c.DIM-axis-end.ensures, c.loop-axis-test.false, g.met.P.Point.axes l.value)) in
    let h : AreRead c.args.bytes.now c.args.at l.end l.axis p = subst (λ q. AreRead c.args.bytes.now c.args.at l.end l.axis q) e l.invariant in
    let few : l.axis ≤ 3 = grind (arith, c.DIM-axis-end.ensures, c.loop-axis.auto.axis-end, g.met.P.Point.two_or_three) in
    record { order = h.stands.order; few = omega (arith, h.stands.few); text = h.stands.text }

pub returns-clause-fits : goal.returns-clause-fits
returns-clause-fits g c =
    let l = c.loop-axis in
    let p = g.P.Point.coords l.value in
    let e : take l.axis p ≡ p = take_all l.axis p (omega (arith, c.DIM-axis-end.ensures, c.loop-axis-test.false, g.met.P.Point.axes l.value)) in
    let h : AreRead c.args.bytes.now c.args.at l.end l.axis p = subst (λ q. AreRead c.args.bytes.now c.args.at l.end l.axis q) e l.invariant in
    record { axes = g.met.P.Point.axes l.value; fits = h.fits }
