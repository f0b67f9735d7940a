use Rattle.std.proofs.Common.{◌≡◌, ◌∙◌, ap, sym, map, pos, arith}
use Rattle.std.proofs.lemmas.List.{length-map}
use Rattle.shape_grid.proofs.SideLists.{sides_back}
use Rattle.ball_terms.specs.Lines.{Line, spelled}
use Rattle.judge_balls.specs.LineOf.{ball_of}
use Rattle.shape_balls.proofs.Fitting.{few_axes, sides_fit}
use Rattle.shape_balls.proofs.Spelling.{all_seen, made}
use Rattle.shape_balls.proofs.make.balls.Goals as goal

pub spell-requires-clause-sides : goal.spell-requires-clause-sides
spell-requires-clause-sides g c = sides_fit g.P.Point.DIM g.P.Point.MAX_SIDE (g.P.Point.coords c.sides.result.lengths)
    (g.met.P.Point.axes c.sides.result.lengths) c.sides.result.in_range g.met.P.Point.flat_side

pub spell-requires-clause-fits : goal.spell-requires-clause-fits
spell-requires-clause-fits g c = all_seen (ball_of g.P.Point.coords) (λ b. (spelled g.P.Point.DIM).IsLine (Line.Ball b)) c.in_ok-list.list.items
    c.in_ok-list.ensures.fits

pub returns : goal.returns
returns g c =
    let X = c.args.grid.now in
    let sides = g.P.Point.coords c.sides.result.lengths in
    let list = c.in_ok-list.list.items in
    let given : g.P.Point.coords c.sides.result.lengths ≡ map pos X.sides = sym (sides_back g.P.Point.MAX_SIDE sides c.sides.result.in_range)
    ∙ ap (map pos) c.sides.ensures.value in
    let m = made X g.P.Point.DIM sides c.in_ok-report.report (map (ball_of g.P.Point.coords) list) c.is_picture.ensures.picture.axes given
    c.in_ok-list.ensures.balls (record {
      axes_few = few_axes g.P.Point.DIM g.met.P.Point.two_or_three;
      sides_in = sides_fit g.P.Point.DIM g.P.Point.MAX_SIDE sides (g.met.P.Point.axes c.sides.result.lengths) c.sides.result.in_range g.met.P.Point.flat_side;
      balls_few = (let f = c.in_ok-list.ensures.few in omega (arith, length-map list (ball_of g.P.Point.coords)));
      balls_in = c.in_ok-list.ensures.fits;
      text_is = c.in_ok-report.ensures;
    }) in
    record { report = m.report; lists = m.lists; union = m.union }
