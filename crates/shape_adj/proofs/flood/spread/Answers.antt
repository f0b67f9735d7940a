use Rattle.std.proofs.Common.{◌≡◌, ◌-◌, ◌%◌, ap, arith}
use Rattle.shape_adj.proofs.Entering.{entered_none, entered_then, entered_end, run_start, none_beside_more}
use Rattle.shape_adj.proofs.flood.spread.Goals as goal

pub loop-k-init : goal.loop-k-init
loop-k-init g c = record { entered = entered_none _ _ _ _ _ _ _ _ _; none = λ j l. absurd (omega arith) }

pub follow-requires-clause-below : goal.follow-requires-clause-below
follow-requires-clause-below g c = omega (arith, c.steps-k-end.ensures)

pub follow-requires-clause-start : goal.follow-requires-clause-start
follow-requires-clause-start g c = ap (λ v. c.args.run.from - c.args.run.from % v) c.row_length.ensures

pub follow-requires-clause-following : goal.follow-requires-clause-following
follow-requires-clause-following g c =
    let u = c.loop-k.invariant.entered.followed c.requires.0 c.requires.1 c.requires.2 in
    (u.0, u.1, u.2.following)

pub loop-k-preserved : goal.loop-k-preserved
loop-k-preserved g c =
    let e = c.in_ok-follow.ensures.entered in
    record {
      entered = entered_then _ _ _ _ _ _ _ _ _ _ _ _ _ _ _ c.loop-k.invariant.entered e;
      none = none_beside_more _ _ c.args.run (c.args.run.from - c.args.run.from % c.row_length.result) (g.N.RowNet.beside c.args.net.now
          (c.args.run.from - c.args.run.from % c.row_length.result)) c.loop-k.k c.loop-k.search.todo c.follow.new.search.todo e.fewer c.loop-k.invariant.none
          c.in_ok-follow.ensures.none;
    }

pub returns-clause-grown : goal.returns-clause-grown
returns-clause-grown g c = λ list t w.
    let s : c.args.run.from - c.args.run.from % c.row_length.result ≡ c.args.run.from - c.args.run.from % g.N.RowNet.width c.args.net.now =
    ap (λ v. c.args.run.from - c.args.run.from % v) c.row_length.ensures in
    let f = run_start _ _ _ _ c.args.run w.here (c.args.run.from - c.args.run.from % c.row_length.result) s in
    entered_end _ _ _ _ _ _ _ _ _ c.in_rows.ensures _ _ _ _ _ _ c.loop-k.invariant.entered
    (c.args.run.from - c.args.run.from % c.row_length.result) f.0 f.1 f.2
    (λ k l. c.loop-k.invariant.none k (omega (arith, c.steps-k-end.ensures))) list t w

pub returns-clause-less : goal.returns-clause-less
returns-clause-less g c = c.loop-k.invariant.entered.less
