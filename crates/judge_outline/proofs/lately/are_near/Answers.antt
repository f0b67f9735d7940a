use Rattle.std.proofs.Common.{◌≤◌, ◌-ℤ◌, sym, ◌∙◌, arith}
use Rattle.std.specs.Prelude.{nat_abs}
use Rattle.std.proofs.lemmas.Bool.{false≢true}
use Rattle.std.proofs.lemmas.Int.{ints}
use Rattle.judge_outline.proofs.PlaneSteps.{equal_test}
use Rattle.judge_outline.proofs.lately.are_near.Goals as goal
use Rattle.judge_outline.proofs.lately.are_near.Goals.{then-eq-via-then-eq, then-eq-via-else-eq+then-not-are_close}
use Rattle.judge_outline.proofs.lately.are_near.Goals.{then-eq-via-else-eq+else-not-are_close+then-not-are_close-2}

pub returns-then-eq : goal.returns-then-eq
returns-then-eq c = (
  λ t. absurd (false≢true t),
  λ n. elim c.then-eq.branch [
    | then-eq-via-then-eq w ↦ absurd (n.0 ((equal_test c.args.p c.args.q c.eq.result c.eq.ensures).0 w.if-eq.true))
    | then-eq-via-else-eq+then-not-are_close w ↦
        absurd (false≢true (sym w.if-not-are_close.true ∙ w.are_close.ensures.1 (omega (arith, ints, n.1.0))))
    | then-eq-via-else-eq+else-not-are_close+then-not-are_close-2 w ↦
        absurd (false≢true (sym w.if-not-are_close-2.true ∙ w.are_close-else-not-are_close.ensures.1 (omega (arith, ints, n.1.1.0))))
  ],
)

pub returns : goal.returns
returns c =
    let p = c.args.p in
    let q = c.args.q in
    let x : nat_abs (p.x -ℤ q.x) ≤ 1 = omega (arith, ints, c.are_close.ensures.0 c.if-not-are_close.false) in
    let y : nat_abs (p.y -ℤ q.y) ≤ 1 = omega (arith, ints, c.are_close-else-not-are_close.ensures.0 c.if-not-are_close-2.false) in (
      λ t.
          let z : nat_abs (p.z -ℤ q.z) ≤ 1 = omega (arith, ints, c.are_close-2.ensures.0 t) in
          (λ e. (let same = (equal_test p q c.eq.result c.eq.ensures).1 e in false≢true (sym c.if-eq.false ∙ same)), (x, (y, (z, tt)))),
      λ n. c.are_close-2.ensures.1 (omega (arith, ints, n.1.1.1.0)),
    )
