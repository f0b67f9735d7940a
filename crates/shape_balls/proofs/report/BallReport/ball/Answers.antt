use Rattle.std.proofs.Common.{◌≡◌, ◌<◌, ℕ, List, Some, length, map, get_or, refl, ap, sym, ◌∙◌, arith}
use Rattle.std.specs.Prelude.{slice_get}
use Rattle.std.proofs.lemmas.List.{length-map, get_or-map}
use Rattle.std.proofs.lemmas.Option.{slice_get_read}
use Rattle.ball_terms.specs.Balls.{Ball}
use Rattle.judge_balls.specs.LineOf.{ball_of}
use Rattle.shape_balls.specs.Listed.{Listed}
use Rattle.shape_balls.proofs.report.BallReport.ball.Goals as goal

-- the ball at a place, as it is seen
seen_at : {A : Type 0} (f : A → Ball) (xs : List A) (balls : List Ball) (i : ℕ) (x : A) → map f xs ≡ balls → i < length balls → x ≡ get_or xs i x
    → slice_get balls i ≡ Some (f x)
seen_at f xs balls i x e l is =
    let m : i < length xs = omega (arith, length-map xs f, ap length e) in
    slice_get_read balls (length balls) i (f x) refl l (ap f is ∙ sym (get_or-map f xs i x (f x) m) ∙ ap (λ bs. get_or bs i (f x)) e)

pub returns : goal.returns
returns g c = seen_at (ball_of g.P.Point.coords) c.self.inside.list.items c.args.self.now.balls c.args.i c.index.result.now
    (ap (λ (t : Listed). t.balls) c.self.view_is) c.requires c.index.ensures
