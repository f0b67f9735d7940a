use Rattle.std.proofs.Common.{◌<◌, length, ap, arith}
use Rattle.std.proofs.lemmas.List.{length-map}
use Rattle.judge_outline.specs.Terms.{point_of}
use Rattle.judge_outline.specs.Listings.{Listing}
use Rattle.judge_outline.proofs.Numbering.{item_there}
use Rattle.judge_outline.proofs.listed.Listed.point.Goals as goal

pub returns-clause-inside : goal.returns-clause-inside
returns-clause-inside c =
    let i = c.self.inside in
    let within : c.args.i < length i.points.items =
    omega (arith, c.requires, ap (λ (l : Listing). length l.points) c.self.view_is, length-map i.points.items point_of) in
    rw (← c.self.view_is)
    (c.self.invariant.inside (point_of c.index.result.now) (item_there point_of i.points.items c.args.i c.index.result.now within c.index.ensures))
