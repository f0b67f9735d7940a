use Rattle.std.proofs.Common.{map, sym, subst, List}
use Rattle.shape_plane.specs.declared.row.Row.{Row}
use Rattle.shape_plane.specs.Solutions.{IsElimination, IsSolution, IsExcluded}
use Rattle.shape_plane.specs.Systems.{rows_for}
use Rattle.shape_plane.specs.Weighing.{AreWeights}
use Rattle.shape_plane.proofs.Gaps.{long_pairs}
use Rattle.shape_plane.proofs.Meeting.{slopes_meet, small_slopes, excluded_slopes}
use Rattle.shape_plane.proofs.Refuting.{are_weights}
use Rattle.shape_plane.proofs.Certified.{few_axes, low_axis}
use Rattle.shape_plane.proofs.answer.find_slopes.Goals as goal

pub returns-in-Slopes : goal.returns-in-Slopes
returns-in-Slopes g c = λ points pairs places same.
    (let e : IsElimination (rows_for c.args.axis (map g.P.Point.coords points) pairs) c.eliminate.result =
    subst (λ (v : List Row). IsElimination v c.eliminate.result) same c.eliminate.ensures in
    let s : IsSolution (rows_for c.args.axis (map g.P.Point.coords points) pairs) c.in-Slopes.s =
    subst (IsElimination (rows_for c.args.axis (map g.P.Point.coords points) pairs)) c.in-Slopes.is e in (
      slopes_meet g.P.Point.DIM c.args.axis (map g.P.Point.coords points) pairs c.in-Slopes.s c.slopes_of.result g.met.P.Point.two_or_three c.requires.axis
          (long_pairs g.P.Point.coords g.P.Point.DIM points pairs g.met.P.Point.axes places) s c.slopes_of.ensures,
      small_slopes g.P.Point.DIM c.args.axis c.in-Slopes.s c.slopes_of.result g.met.P.Point.two_or_three c.requires.axis s.a_small s.b_small s.c_small
          c.slopes_of.ensures,
    ))

pub returns-in-Clash : goal.returns-in-Clash
returns-in-Clash g c = λ points pairs places same.
    (let e : IsElimination (rows_for c.args.axis (map g.P.Point.coords points) pairs) c.eliminate.result =
    subst (λ (v : List Row). IsElimination v c.eliminate.result) same c.eliminate.ensures in
    let k : IsExcluded (rows_for c.args.axis (map g.P.Point.coords points) pairs) c.in-Clash.k =
    subst (IsElimination (rows_for c.args.axis (map g.P.Point.coords points) pairs)) c.in-Clash.is e in
    record {
      weights = subst (AreWeights g.P.Point.DIM c.args.axis (map g.P.Point.coords points) pairs) (sym c.put_weights.ensures)
          (are_weights g.P.Point.coords g.P.Point.DIM c.args.axis points pairs g.met.P.Point.axes g.met.P.Point.two_or_three c.requires.axis places
          c.args.rows.now same c.in-Clash.k
          (subst (λ (v : List Row). IsExcluded v c.in-Clash.k) (sym same) k));
      none = λ a h. excluded_slopes g.P.Point.DIM c.args.axis (map g.P.Point.coords points) pairs c.in-Clash.k a
          (few_axes g.P.Point.DIM g.met.P.Point.two_or_three) (low_axis g.P.Point.DIM c.args.axis g.met.P.Point.two_or_three c.requires.axis)
          (long_pairs g.P.Point.coords g.P.Point.DIM points pairs g.met.P.Point.axes places) k h;
    })
