use Rattle.shape_plane.proofs.Solving.{small_slope, span_room, solution_is}
use Rattle.shape_plane.proofs.eliminate.slopes_within.Goals as goal

pub returns : goal.returns
returns c =
    let f = c.slope_inside-f.ensures in
    let small = small_slope c.args.rows.now c.args.r c.slope_inside-f.result c.requires.whole.range f.den f.num_small f.den_small in
    solution_is c.args.rows.now c.slope_inside-f.result c.args.r c.second_slopes-s.result c.second_slope.result c.together.result small c.requires.whole
    (f.meets_lower, f.meets_upper) c.second_slopes-s.ensures
    c.second_slope.ensures.amid c.second_slope.ensures.den c.second_slope.ensures.num_small c.second_slope.ensures.den_small c.together.ensures.a
    c.together.ensures.b c.together.ensures.c

pub second_slopes-s-requires-clause-slope : goal.second_slopes-s-requires-clause-slope
second_slopes-s-requires-clause-slope c =
    let f = c.slope_inside-f.ensures in
    small_slope c.args.rows.now c.args.r c.slope_inside-f.result c.requires.whole.range f.den f.num_small f.den_small

pub second_slope-requires-clause-slope : goal.second_slope-requires-clause-slope
second_slope-requires-clause-slope c =
    let f = c.slope_inside-f.ensures in
    small_slope c.args.rows.now c.args.r c.slope_inside-f.result c.requires.whole.range f.den f.num_small f.den_small

pub together-requires-clause-slope : goal.together-requires-clause-slope
together-requires-clause-slope c =
    let f = c.slope_inside-f.ensures in
    small_slope c.args.rows.now c.args.r c.slope_inside-f.result c.requires.whole.range f.den f.num_small f.den_small

pub second_slope-requires-clause-room : goal.second_slope-requires-clause-room
second_slope-requires-clause-room c =
    let f = c.slope_inside-f.ensures in
    let small = small_slope c.args.rows.now c.args.r c.slope_inside-f.result c.requires.whole.range f.den f.num_small f.den_small in
    span_room c.args.rows.now c.slope_inside-f.result c.args.r c.second_slopes-s.result small c.requires.whole (f.meets_lower, f.meets_upper)
    c.second_slopes-s.ensures.span
