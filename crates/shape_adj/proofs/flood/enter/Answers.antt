use Rattle.std.proofs.Common.{arith}
use Rattle.shape_adj.proofs.Entering.{entered_none, entered_then, entered_take, next_is, next_less, none_more}
use Rattle.shape_adj.proofs.flood.enter.Goals as goal

pub next_in-q-requires : goal.next_in-q-requires
next_in-q-requires g c =
    let w = c.requires.following.2.growing in
    let b = c.requires.beside in
    omega (arith, w.todo.filled, b.within, b.inside)

pub loop-q-init : goal.loop-q-init
loop-q-init g c =
    let n = next_is c.args.search.now.todo c.args.window.from c.args.window.until c.next_in-q.result c.next_in-q.ensures.before c.next_in-q.ensures.behind in
    record { entered = entered_none _ _ _ _ _ _ _ _ _; on = n.on; there = n.there; none = λ x h l m. n.none x h.0 l h.1 m }

pub take-requires-clause-low : goal.take-requires-clause-low
take-requires-clause-low g c = let a = c.loop-q.invariant.on c.loop-q-test.true in let b = c.requires.beside.on in omega arith

pub take-requires-clause-high : goal.take-requires-clause-high
take-requires-clause-high g c = let b = c.requires.beside.within in omega arith

pub take-requires-clause-within : goal.take-requires-clause-within
take-requires-clause-within g c =
    let u = c.loop-q.invariant.entered.followed c.requires.following.0 c.requires.following.1 c.requires.following.2 in
    omega (arith, u.2.following.growing.todo.filled, c.requires.beside.inside)

pub take-requires-clause-there : goal.take-requires-clause-there
take-requires-clause-there g c = c.loop-q.invariant.there c.loop-q-test.true

pub take-requires-clause-told : goal.take-requires-clause-told
take-requires-clause-told g c =
    let u = c.loop-q.invariant.entered.followed c.requires.following.0 c.requires.following.1 c.requires.following.2 in
    (u.0, u.1, omega (arith, u.2.following.growing.todo.filled, u.2.following.growing.same))

pub next_in-q-requires-in-loop-q : goal.next_in-q-requires-in-loop-q
next_in-q-requires-in-loop-q g c =
    let u = c.loop-q.invariant.entered.followed c.requires.following.0 c.requires.following.1 c.requires.following.2 in
    omega (arith, u.2.following.growing.todo.filled, c.requires.beside.within, c.requires.beside.inside, c.in_ok-behind.ensures.taken.filled.room)

pub loop-q-smaller : goal.loop-q-smaller
loop-q-smaller g c =
    let k = c.in_ok-behind.ensures in
    let n = next_is c.take.new.search.todo c.in_ok-behind.behind c.args.window.until c.next_in-q-in-loop-q.result c.next_in-q-in-loop-q.ensures.before
    c.next_in-q-in-loop-q.ensures.behind in
    next_less c.take.new.search.todo c.in_ok-behind.behind c.args.window.until c.loop-q.q c.next_in-q-in-loop-q.result n
    c.next_in-q-in-loop-q.ensures.behind (omega (arith, k.taken.high, k.ends)) c.loop-q-test.true

pub loop-q-preserved : goal.loop-q-preserved
loop-q-preserved g c =
    let k = c.in_ok-behind.ensures in
    let v = c.loop-q.invariant in
    let n = next_is c.take.new.search.todo k.run.until c.args.window.until c.next_in-q-in-loop-q.result
    (λ l. rw k.ends at c.next_in-q-in-loop-q.ensures.before (let e = k.ends in omega arith)) (λ l. c.next_in-q-in-loop-q.ensures.behind
    (let e = k.ends in omega arith)) in
    record {
      entered = entered_then _ _ _ _ _ _ _ _ _ _ _ _ _ _ _ v.entered
          (entered_take _ _ _ _ _ _ _ _ _ c.in_rows.ensures _ _ _ _ _ _ c.args.row c.args.window c.loop-q.q _ c.requires.beside
          (v.on c.loop-q-test.true, c.loop-q-test.true) k);
      on = λ l. let a = n.on l in let b = v.on c.loop-q-test.true in let h = k.taken.high in omega arith;
      there = n.there;
      none = none_more c.args.row c.args.window c.loop-q.q c.next_in-q-in-loop-q.result c.loop-q.search.todo c.take.new.search.todo k.run k.taken n v.none;
    }

pub returns-clause-entered : goal.returns-clause-entered
returns-clause-entered g c = c.loop-q.invariant.entered

pub returns-clause-none : goal.returns-clause-none
returns-clause-none g c = λ x h m. c.loop-q.invariant.none x h (let a = h.1 in omega arith) m
