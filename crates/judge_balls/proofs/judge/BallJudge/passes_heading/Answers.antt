use Rattle.std.proofs.Common.{◌≡◌, ◌∙◌, ap, sym, map, pos, true, false, arith, length}
use Rattle.std.proofs.lemmas.Bool.{leb-true, le-leb}
use Rattle.shape_terms.specs.Pictures.{Picture, object_points}
use Rattle.shape_grid.proofs.SideLists.{sides_back}
use Rattle.judge_balls.proofs.judge.BallJudge.passes_heading.Goals as goal

pub returns-then-not-is_same : goal.returns-then-not-is_same
returns-then-not-is_same g c =
    let X = c.args.self.now.scans in
    let given : g.P.Point.coords c.sides.result.lengths ≡ map pos X.sides =
    sym (sides_back g.P.Point.MAX_SIDE (g.P.Point.coords c.sides.result.lengths) c.sides.result.in_range)
    ∙ ap (map pos) (c.sides.ensures.value ∙ ap (λ (Y : Picture). Y.sides) c.grid-grid.ensures) in (
      (λ t. absurd (let f : false ≡ true = t in cc)),
      λ h. (let t = c.is_same.ensures.1 (h.sides_are ∙ sym given) in let f : false ≡ true = sym c.if-not-is_same.true ∙ t in f),
    )

pub returns : goal.returns
returns g c =
    let X = c.args.self.now.scans in
    let given : g.P.Point.coords c.sides.result.lengths ≡ map pos X.sides =
    sym (sides_back g.P.Point.MAX_SIDE (g.P.Point.coords c.sides.result.lengths) c.sides.result.in_range)
    ∙ ap (map pos) (c.sides.ensures.value ∙ ap (λ (Y : Picture). Y.sides) c.grid-grid.ensures) in
    let same = ap (λ (Y : Picture). length (object_points Y)) c.grid-grid.ensures in
    let n = c.count.ensures in (
      (λ t. record { sides_are = c.is_same.ensures.0 c.if-not-is_same.false ∙ given; few = (let l = leb-true c.args.number c.count.result t in omega arith) }),
      λ h. le-leb c.args.number c.count.result (let f = h.few in omega arith),
    )
