use Rattle.std.proofs.Common.{◌≡◌, map}
use Rattle.std.specs.Prelude.{vec_capacity, vec_len}
use Rattle.shape_crack.specs.Terms.{point_of}
use Rattle.judge_outline.proofs.RoundParts.{from_place}
use Rattle.judge_outline.proofs.contour_round.load.Given as goal

abbrev pub invariant-loop-i : goal.invariant-loop-i
invariant-loop-i l = record {
  points : map point_of l.round.items ≡ from_place l.contour.points 0 l.i;
  count : vec_len l.round ≡ l.i;
  capacity : vec_capacity l.round ≡ vec_capacity l.fn.round;
}
