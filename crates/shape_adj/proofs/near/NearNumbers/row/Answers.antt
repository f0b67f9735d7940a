use Rattle.std.proofs.Common.{◌*◌, ◌≤◌, arith}
use Rattle.shape_adj.proofs.CubeRows.{inner_of, begin_below, row_fits, row_values}
use Rattle.shape_adj.proofs.near.NearNumbers.row.Goals as goal

pub known-requires-clause-known : goal.known-requires-clause-known
known-requires-clause-known g c =
    let s = c.args.self.now.sides.lengths in
    let q = inner_of (g.P.Point.coords s) c.args.i g.P.Point.DIM g.P.Pairing.NEAR_COUNT c.NEAR_COUNT.result c.requires.point (g.met.P.Point.axes s)
    g.met.P.Point.two_or_three g.met.P.Pairing.near_total c.NEAR_COUNT.ensures c.requires.inner in
    let within : 3 * c.args.r ≤ c.NEAR_COUNT.result = omega (arith, c.requires.row, c.NEAR_COUNT.ensures) in
    omega (
      arith,
      begin_below _ _ c.NEAR_COUNT.result c.args.r q within c.row_start-k.result c.row_start-k.ensures.before c.row_start-k.ensures.behind,
      c.requires.known,
      c.NEAR_COUNT.ensures,
    )

pub known-requires-clause-inside : goal.known-requires-clause-inside
known-requires-clause-inside g c =
    let s = c.args.self.now.sides.lengths in
    let q = inner_of (g.P.Point.coords s) c.args.i g.P.Point.DIM g.P.Pairing.NEAR_COUNT c.NEAR_COUNT.result c.requires.point (g.met.P.Point.axes s)
    g.met.P.Point.two_or_three g.met.P.Pairing.near_total c.NEAR_COUNT.ensures c.requires.inner in
    let within : 3 * c.args.r ≤ c.NEAR_COUNT.result = omega (arith, c.requires.row, c.NEAR_COUNT.ensures) in
    c.requires.inner c.row_start-k.result
    (omega (
      arith,
      begin_below _ _ c.NEAR_COUNT.result c.args.r q within c.row_start-k.result c.row_start-k.ensures.before c.row_start-k.ensures.behind,
      c.NEAR_COUNT.ensures,
    ))

pub three-requires : goal.three-requires
three-requires g c =
    let s = c.args.self.now.sides.lengths in
    let q = inner_of (g.P.Point.coords s) c.args.i g.P.Point.DIM g.P.Pairing.NEAR_COUNT c.NEAR_COUNT.result c.requires.point (g.met.P.Point.axes s)
    g.met.P.Point.two_or_three g.met.P.Pairing.near_total c.NEAR_COUNT.ensures c.requires.inner in
    let within : 3 * c.args.r ≤ c.NEAR_COUNT.result = omega (arith, c.requires.row, c.NEAR_COUNT.ensures) in
    omega (
      arith,
      row_fits _ _ c.NEAR_COUNT.result c.args.r q within c.row_start-k.result c.row_start-k.ensures.before c.row_start-k.ensures.behind
          c.known.result c.known.ensures,
      c.requires.filled,
    )

pub returns : goal.returns
returns g c =
    let s = c.args.self.now.sides.lengths in
    let q = inner_of (g.P.Point.coords s) c.args.i g.P.Point.DIM g.P.Pairing.NEAR_COUNT c.NEAR_COUNT.result c.requires.point (g.met.P.Point.axes s)
    g.met.P.Point.two_or_three g.met.P.Pairing.near_total c.NEAR_COUNT.ensures c.requires.inner in
    let within : 3 * c.args.r ≤ c.NEAR_COUNT.result = omega (arith, c.requires.row, c.NEAR_COUNT.ensures) in
    row_values _ _ c.NEAR_COUNT.result c.args.r q within c.row_start-k.result c.row_start-k.ensures.before c.row_start-k.ensures.behind c.args.values.now
    c.known.result c.three.result c.known.ensures c.three.ensures
