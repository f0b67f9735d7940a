use Rattle.std.proofs.Common.{arith, ◌≡◌, ◌+◌, ◌-◌, ap, subst, sym, ◌∙◌}
use Rattle.shape_terms.specs.Covers.{Evidence}
use Rattle.shape_terms.specs.Refutations.{Refutation, point_at}
use Rattle.shape_refute.specs.Weights.{refutation_of}
use Rattle.shape_line.specs.Clashes.{span, IsClash}
use Rattle.shape_line.specs.Evidence.{crossing_weights, IsShown}
use Rattle.shape_line.proofs.Moving.{turn_shown, front_turn, crossing_shown}
use Rattle.shape_line.proofs.evidence.ahead.Goals as goal

pub returns-in-Turned-clause-front : goal.returns-in-Turned-clause-front
returns-in-Turned-clause-front c = λ t run whole h p. let k = subst (IsClash t run) c.in-Turned.is h in
    turn_shown t whole _ _ (front_turn whole run p t c.in-Turned.turn.i c.in-Turned.turn.j k.turn)

pub returns-in-Crossed-clause-front : goal.returns-in-Crossed-clause-front
returns-in-Crossed-clause-front c = λ t run whole h p.
    let x = c.in-Crossed.c in
    let k = subst (IsClash t run) c.in-Crossed.is h in
    let len = p.len in
    let s = crossing_shown t run whole (λ i. i) (let w = k.upper.within in omega arith) (λ i l. omega arith)
    (λ i l. p.same i l ∙ ap (point_at whole) (let q : 0 + i ≡ i = omega arith in q)) x k in
    let e : crossing_weights (span x.lower) (span x.upper) (x.upper.last - x.upper.first) (x.lower.last - x.lower.first) x.up ≡ refutation_of c.weights.result =
    (λ i. crossing_weights (span x.lower) (span x.upper) (sym c.gap.ensures i) (sym c.gap-in-Crossed.ensures i) x.up) ∙ sym c.weights.ensures in
    subst (λ (r : Refutation). IsShown t whole (Evidence.Cut r)) e s
