use Rattle.std.proofs.Common.{arith, ◌-◌, ℕ, [], ap, refl, ◌∙◌}
use Rattle.shape_terms.proofs.WalkStarts.{starts_here, starts_next}
use Rattle.shape_refute.specs.Terms.{naive_of}
use Rattle.shape_line.specs.Entries.{stretch_of}
use Rattle.shape_line.specs.Walking.{contour_walk}
use Rattle.shape_line.proofs.ContourWalks.{contour_walks}
use Rattle.shape_line.proofs.Searching.{reach_longest}
use Rattle.shape_line.proofs.Passing.{left_by, follows}
use Rattle.shape_line.proofs.walk.first_reach.Goals as goal

pub returns-then-before-reach-clause-start : goal.returns-then-before-reach-clause-start
returns-then-before-reach-clause-start c =
    let points = c.args.contour.now.points in
    let g = c.longest_from-reach in
    let o = c.longest_from-before in
    let t = c.if-before-reach.true in
    let n = c.len-n.ensures.value in
    let e = o.ensures.first ∙ ap (λ (n : ℕ). n - 1) n in
    starts_here contour_walk contour_walks points c.len-n.ensures.path.some (stretch_of g.result.stretch) (stretch_of o.result.stretch)
    (reach_longest points g.result g.ensures.reach) (reach_longest points o.result o.ensures.reach) g.ensures.first e (omega arith)

pub returns-else-before-reach-clause-start : goal.returns-else-before-reach-clause-start
returns-else-before-reach-clause-start c =
    let points = c.args.contour.now.points in
    let g = c.longest_from-reach in
    let o = c.longest_from-before in
    let t = c.if-before-reach.false in
    let n = c.len-n.ensures.value in
    let e = o.ensures.first ∙ ap (λ (n : ℕ). n - 1) n in
    let start = c.next_start-start in
    let next = c.longest_from in
    let line = naive_of 2 g.result.stretch.line in
    starts_next contour_walk contour_walks points c.len-n.ensures.path.some (stretch_of g.result.stretch) (stretch_of o.result.stretch)
    (reach_longest points g.result g.ensures.reach) (reach_longest points o.result o.ensures.reach) g.ensures.first e (omega arith)
    (left_by points g.result next.result start.result 0 line []) refl (stretch_of next.result.stretch)
    (follows points g.result next.result start.result 0 line [] start.ensures next.ensures.reach next.ensures.first)
