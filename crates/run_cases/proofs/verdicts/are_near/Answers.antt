use Rattle.std.proofs.Common.{ℕ, ◌+◌, ◌<◌, length, map, [], arith}
use Rattle.std.specs.Prelude.{pos}
use Rattle.std.proofs.lemmas.List.{get_or-map}
use borrow.Author.Count.{below_more}
use Rattle.shape_terms.specs.Steps.{AreClose}
use Rattle.shape_terms.specs.Refutations.{point_at}
use Rattle.shape_refute.specs.Terms.{flat_point}
use Rattle.run_cases.proofs.verdicts.are_near.Goals as goal

pub loop-i-preserved : goal.loop-i-preserved
loop-i-preserved c =
    let points = c.args.points.now in
    let i = c.loop-i.i in
    let next : i + 1 < length points = omega arith in
    below_more (λ (k : ℕ). AreClose (point_at (map flat_point points) k) (point_at (map flat_point points) (k + 1))) i c.loop-i.invariant
    (rw (
      get_or-map flat_point points i (record { y = pos 0; x = pos 0 }) [] (omega arith),
      get_or-map flat_point points (i + 1) (record { y = pos 0; x = pos 0 }) [] next,
    ) (c.is_close.ensures c.if-not-is_close.false))
