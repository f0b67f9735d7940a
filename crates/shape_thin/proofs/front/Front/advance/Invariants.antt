use Rattle.std.proofs.Common.{◌≡◌, ◌+◌, ◌-◌, ◌≤◌, length}
use Rattle.shape_thin.specs.Fitting.{IsSomeFront}
use Rattle.shape_thin.specs.Fronts.{reach_of, room_in}
use Rattle.shape_thin.proofs.ThinnerSteps.{StaysFront}
use Rattle.shape_thin.proofs.front.Front.advance.Given as goal

abbrev pub invariant-loop-self : goal.invariant-loop-self
invariant-loop-self g l = record {
  fits : ∥ IsSomeFront l.left (reach_of l.self) ∥₁;
  front : StaysFront l.left (reach_of l.fn.self) (reach_of l.self);
  room : room_in l.self ≡ room_in l.fn.self;
  few : l.steps + l.self.ahead ≤ l.fn.steps + l.fn.self.ahead;
}

abbrev pub decreases-loop-self : goal.decreases-loop-self
decreases-loop-self g l = length l.self.keys.distances - l.self.passed
