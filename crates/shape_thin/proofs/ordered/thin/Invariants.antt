use Rattle.std.proofs.Common.{◌≡◌, ◌+◌, ◌*◌, ◌<◌, ◌≤◌, length}
use Rattle.std.specs.Prelude.{All}
use Rattle.shape_terms.specs.Points.{box_count}
use Rattle.shape_terms.specs.Pictures.{object_points}
use Rattle.shape_thin.specs.Standing.{StandsFor, room_of, ahead_of}
use Rattle.shape_thin.specs.EventLists.{events_at}
use Rattle.shape_thin.proofs.ordered.thin.Given as goal

abbrev pub invariant-loop-next : goal.invariant-loop-next
invariant-loop-next g l = record {
  same : (g.dyn-1.0.entry l.rule.vtable).1.means l.rule.value ≡ (g.dyn-1.0.entry l.fn.rule.vtable).1.means l.fn.rule.value;
  stands : StandsFor ((g.dyn-1.0.entry l.fn.rule.vtable).1.means l.fn.rule.value) l.grid (events_at l.grid.sides l.events.done)
      ((g.dyn-1.0.entry l.rule.vtable).1.state l.rule.value) l.thinner;
  places : All (λ d. d.place < box_count l.grid.sides) l.events.done;
  count : length l.events.done + room_of l.thinner ≡ length (object_points l.grid);
  room : l.events.room ≡ length (object_points l.grid);
  few : l.steps + ahead_of l.thinner ≤ l.fn.steps + length (object_points l.grid) + g.P.Pairing.NEAR_COUNT * length l.events.done;
}

abbrev pub decreases-loop-next : goal.decreases-loop-next
decreases-loop-next g l = room_of l.thinner
