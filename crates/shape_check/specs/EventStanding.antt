-- What a judge stands for: the events that it has taken.
-- How a thinning holds them is told by `shape_thin`.
use Rattle.std.specs.Prelude.{ℕ, List}
use Rattle.shape_terms.specs.Pictures.{Picture}
use Rattle.shape_terms.specs.Thinning.{Rule, Event}
use Rattle.shape_thin.specs.Standing as Steps
use Rattle.shape_check.specs.declared.events.ThinJudge.{ThinJudge}

module _ {P : Type 0} {pairs : _} {point : _} {eq : _} {order : _} {partial : _} where
  -- the judge has taken these events of the thinning of X by the rule, which is in this state now
  abbrev pub StandsFor : Rule → Picture → List Event → List ℕ → ThinJudge P pairs point eq order partial → Type 0
  StandsFor rule X events state j = Steps.StandsFor rule X events state j.thinner

  -- how many events a judge may still take
  abbrev pub room_of : ThinJudge P pairs point eq order partial → ℕ
  room_of j = Steps.room_of j.thinner
