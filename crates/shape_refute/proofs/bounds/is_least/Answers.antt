use Rattle.std.proofs.Common.{rules, FitsSigned}
use Rattle.std.specs.Int.{w64}
use Rattle.std.proofs.lemmas.Int.{to_z-of_z}
use Rattle.std.proofs.lemmas.List.{length-map}
use Rattle.shape_refute.specs.Terms.{flat_point, naive_of}
use Rattle.shape_refute.specs.PairTerms.{pairs_of}
use Rattle.shape_refute.proofs.PointPairs.{is_least_short, is_least_is}
use Rattle.shape_refute.proofs.bounds.is_least.Goals as goal

pub is_lowest-requires-clause-slope : goal.is_lowest-requires-clause-slope
is_lowest-requires-clause-slope c =
    let p = c.are_places.ensures.0 c.if-not-are_places.false in
    let n = length-map c.args.points.now flat_point in
    is_least_short c.args.line.now.axis c.args.points.now c.requires.axis (pairs_of c.args.bounds.now) p.0 p.1 p.2 p.3 (naive_of 2 c.args.line.now)
    c.requires.naive _ _ _ _ c.asked-first.ensures.side c.asked-first.ensures.room c.asked-second.ensures.side c.asked-second.ensures.room
    c.asked-first.ensures.side_small c.asked-second.ensures.side_small

pub returns : goal.returns
returns c =
    let p = c.are_places.ensures.0 c.if-not-are_places.false in
    let fm : FitsSigned w64 c.main_of.result = search rules in
    let e = simp to_z-of_z at c.is_lowest.ensures in
    let k = is_least_is c.args.line.now.axis c.args.points.now c.requires.axis (pairs_of c.args.bounds.now) p.0 p.1 p.2 p.3 _ _ _ _ c.asked-first.ensures.side
    c.asked-first.ensures.room c.asked-second.ensures.side c.asked-second.ensures.room _ _ c.main_of.ensures in
    ((λ t. k.0 (e.0 t)), λ h. e.1 (k.1 h))
