use Rattle.std.proofs.Common.{◌≡◌, ◌+ℤ◌, FitsSigned, w64, rules, arith, pos, sym, ◌∙◌}
use Rattle.std.proofs.lemmas.Int.{ints, to_z-of_z}
use Rattle.shape_adj.proofs.Offsets.{number_is, number_some, number_few}
use Rattle.shape_adj.proofs.number.moved_number.Goals as goal

pub passed-requires-clause-some : goal.passed-requires-clause-some
passed-requires-clause-some g c =
    let s = c.args.sides.now in
    let f : FitsSigned w64 c.offset.result = search rules in
    let l = g.met.P.Point.axes c.args.step ∙ sym (g.met.P.Point.axes s.lengths) in
    rw (to_z-of_z w64 c.offset.result f, c.offset.ensures.value)
    (number_some (g.P.Point.coords s.lengths) (g.P.Point.coords c.args.step) c.args.i (omega (arith, s.few)) l c.requires.point c.requires.inside)

pub passed-requires-clause-most : goal.passed-requires-clause-most
passed-requires-clause-most g c =
    let s = c.args.sides.now in
    let f : FitsSigned w64 c.offset.result = search rules in
    let l = g.met.P.Point.axes c.args.step ∙ sym (g.met.P.Point.axes s.lengths) in
    rw (to_z-of_z w64 c.offset.result f, c.offset.ensures.value)
    (number_few (g.P.Point.coords s.lengths) (g.P.Point.coords c.args.step) c.args.i (omega (arith, s.few)) l c.requires.point c.requires.inside)

pub returns : goal.returns
returns g c =
    let s = c.args.sides.now in
    let f : FitsSigned w64 c.offset.result = search rules in
    let l = g.met.P.Point.axes c.args.step ∙ sym (g.met.P.Point.axes s.lengths) in
    let e = number_is (g.P.Point.coords s.lengths) (g.P.Point.coords c.args.step) c.args.i (omega (arith, s.few)) l c.requires.point c.requires.inside in
    let h : pos c.passed.result ≡ pos c.args.i +ℤ c.offset.result = rw (to_z-of_z w64 c.offset.result f) at c.passed.ensures in
    let v = c.offset.ensures.value in
    omega (arith, ints)
