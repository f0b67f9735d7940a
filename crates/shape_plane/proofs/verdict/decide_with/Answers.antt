use Rattle.std.proofs.Common.{map, length, subst, ℕ}
use Rattle.std.proofs.lemmas.List.{length-map}
use Rattle.shape_plane.specs.Pairs.{IsPair}
use Rattle.shape_plane.specs.Verdicts.{IsBroken, IsTested}
use Rattle.shape_plane.proofs.Deciding.{grown_more, slopes_small, slopes_proper, clash_refutes}
use Rattle.shape_plane.proofs.verdict.decide_with.Goals as goal

pub returns-in_err-add-in-Breaks-clause-grown : goal.returns-in_err-add-in-Breaks-clause-grown
returns-in_err-add-in-Breaks-clause-grown g c =
    let b : IsBroken g.P.Point.DIM c.args.axis (map g.P.Point.coords c.args.points.now) c.in-Some.s.a c.in-Breaks.pair =
    subst (IsTested g.P.Point.DIM c.args.axis (map g.P.Point.coords c.args.points.now) c.in-Some.s.a) c.in-Breaks.is c.try_slopes.ensures in
    let p = subst (λ (n : ℕ). IsPair n c.in-Breaks.pair) (length-map c.args.points.now g.P.Point.coords) b.places in
    grown_more (length c.args.points.now) c.args.axis (map g.P.Point.coords c.args.points.now) c.args.known.now c.loop-round.known c.add.new.self
    c.in-Breaks.pair c.loop-round.invariant p c.add.ensures.either

pub loop-round-preserved : goal.loop-round-preserved
loop-round-preserved g c =
    let b : IsBroken g.P.Point.DIM c.args.axis (map g.P.Point.coords c.args.points.now) c.in-Some.s.a c.in-Breaks.pair =
    subst (IsTested g.P.Point.DIM c.args.axis (map g.P.Point.coords c.args.points.now) c.in-Some.s.a) c.in-Breaks.is c.try_slopes.ensures in
    let p = subst (λ (n : ℕ). IsPair n c.in-Breaks.pair) (length-map c.args.points.now g.P.Point.coords) b.places in
    grown_more (length c.args.points.now) c.args.axis (map g.P.Point.coords c.args.points.now) c.args.known.now c.loop-round.known c.add.new.self
    c.in-Breaks.pair c.loop-round.invariant p c.add.ensures.either

pub add-requires-clause-pair : goal.add-requires-clause-pair
add-requires-clause-pair g c =
    let b : IsBroken g.P.Point.DIM c.args.axis (map g.P.Point.coords c.args.points.now) c.in-Some.s.a c.in-Breaks.pair =
    subst (IsTested g.P.Point.DIM c.args.axis (map g.P.Point.coords c.args.points.now) c.in-Some.s.a) c.in-Breaks.is c.try_slopes.ensures in
    subst (λ (n : ℕ). IsPair n c.in-Breaks.pair) (length-map c.args.points.now g.P.Point.coords) b.places

pub try_slopes-requires-clause-small : goal.try_slopes-requires-clause-small
try_slopes-requires-clause-small g c =
    let h = c.loop-round.invariant.rows in
    slopes_small g.P.Point.DIM c.args.axis (map g.P.Point.coords c.args.points.now) h.pairs c.find.result c.find.new.why c.in-Some.s c.in-Some.is
    (c.find.ensures h.pairs h.places h.same)

pub try_slopes-requires-clause-proper : goal.try_slopes-requires-clause-proper
try_slopes-requires-clause-proper g c =
    let h = c.loop-round.invariant.rows in
    slopes_proper g.P.Point.DIM c.args.axis (map g.P.Point.coords c.args.points.now) h.pairs c.find.result c.find.new.why c.in-Some.s c.in-Some.is
    (c.find.ensures h.pairs h.places h.same)

pub returns-in-None-clause-decided : goal.returns-in-None-clause-decided
returns-in-None-clause-decided g c =
    let h = c.loop-round.invariant.rows in
    clash_refutes g.P.Point.DIM c.args.axis (map g.P.Point.coords c.args.points.now) h.pairs c.find.result c.find.new.why c.in-None.is
    (c.find.ensures h.pairs h.places h.same)

pub returns-in-Holds-clause-decided : goal.returns-in-Holds-clause-decided
returns-in-Holds-clause-decided g c = subst (IsTested g.P.Point.DIM c.args.axis (map g.P.Point.coords c.args.points.now) c.in-Some.s.a) c.in-Holds.is
    c.try_slopes.ensures
