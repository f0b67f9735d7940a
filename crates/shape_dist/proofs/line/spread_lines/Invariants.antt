use Rattle.shape_envelope.proofs.LinesDone.{AreLinesDone, AreLinesLeft}
use Rattle.shape_dist.specs.Spreads.{nothing, IsSpreadAt}
use Rattle.shape_dist.proofs.line.spread_lines.Given as goal

abbrev pub invariant-loop-i : goal.invariant-loop-i
invariant-loop-i g l = record {
  done : AreLinesDone (λ line x o. IsSpreadAt g.T.Spreading.keeping line l.side x o) (nothing g.T.Spreading.keeping) l.side l.i l.initial.block l.block;
  left : AreLinesLeft (λ line x o. IsSpreadAt g.T.Spreading.keeping line l.side x o) (nothing g.T.Spreading.keeping) l.side l.i l.initial.block l.block;
}
