use Rattle.std.proofs.Common.{ap, arith, map}
use Rattle.std.proofs.lemmas.List.{length-map}
use Rattle.shape_terms.specs.Points.{sides_of, box_count}
use Rattle.judge_outline.specs.Terms.{point_of}
use Rattle.judge_outline.specs.Listings.{Listing}
use Rattle.judge_outline.proofs.Numbering.{few_listed}
use Rattle.judge_outline.proofs.listed.Listed.len.Goals as goal

pub overflow_cast-result : goal.overflow_cast-result
overflow_cast-result c =
    let i = c.self.inside in
    let f = few_listed (sides_of (point_of i.sides.lengths)) (map point_of i.points.items) c.self.invariant.inside c.self.invariant.apart in
    let few = i.sides.few in
    omega (arith, f, few, length-map i.points.items point_of, c.len.ensures)

pub returns-clause-few : goal.returns-clause-few
returns-clause-few c =
    let i = c.self.inside in
    let f = few_listed (sides_of (point_of i.sides.lengths)) (map point_of i.points.items) c.self.invariant.inside c.self.invariant.apart in
    omega (arith, f, length-map i.points.items point_of, c.len.ensures, ap (λ (l : Listing). box_count l.sides) c.self.view_is)
