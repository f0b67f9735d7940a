use Rattle.std.proofs.Common.{◌∙◌, arith}
use Rattle.shape_terms.specs.Points.{sides_of}
use Rattle.shape_terms.specs.Pictures.{at}
use Rattle.shape_terms.specs.Adjacency.{near_point}
use Rattle.shape_plane.proofs.Neighbours.{read_near, first_yes, first_no}
use Rattle.shape_plane.proofs.around.Around.is_open.Goals as goal

pub known-q-requires-clause-known : goal.known-q-requires-clause-known
known-q-requires-clause-known g c =
    let w = c.args.self.now.fit c.if-self.true in
    omega (arith, w.known, c.requires.below)

pub known-q-requires-clause-point : goal.known-q-requires-clause-point
known-q-requires-clause-point g c =
    c.args.self.now.place.bounded

pub has_number-requires : goal.has_number-requires
has_number-requires g c =
    let w = c.args.self.now.fit c.if-self.true in
    (read_near c.args.left.now (sides_of (g.P.Point.coords c.args.self.now.near.now.sides.lengths)) (g.P.Point.coords c.args.self.now.point) c.args.self.now.number
    c.args.n c.known-q.result c.requires.left c.args.self.now.place.is (w.inside c.args.n c.requires.below) c.known-q.ensures).0

pub has_number-requires-then-has_number : goal.has_number-requires-then-has_number
has_number-requires-then-has_number g c =
    let w = c.args.self.now.fit c.if-self.true in
    (read_near c.args.tried.now (sides_of (g.P.Point.coords c.args.self.now.near.now.sides.lengths)) (g.P.Point.coords c.args.self.now.point) c.args.self.now.number
    c.args.n c.known-q.result (c.requires.left ∙ c.requires.tried) c.args.self.now.place.is (w.inside c.args.n c.requires.below) c.known-q.ensures).0

pub returns-then-has_number : goal.returns-then-has_number
returns-then-has_number g c =
    let w = c.args.self.now.fit c.if-self.true in
    let q = near_point (g.P.Point.coords c.args.self.now.point) c.args.n in
    let l = read_near c.args.left.now (sides_of (g.P.Point.coords c.args.self.now.near.now.sides.lengths)) (g.P.Point.coords c.args.self.now.point) c.args.self.now.number
    c.args.n c.known-q.result c.requires.left c.args.self.now.place.is (w.inside c.args.n c.requires.below) c.known-q.ensures in
    let t = read_near c.args.tried.now (sides_of (g.P.Point.coords c.args.self.now.near.now.sides.lengths)) (g.P.Point.coords c.args.self.now.point) c.args.self.now.number
    c.args.n c.known-q.result (c.requires.left ∙ c.requires.tried) c.args.self.now.place.is (w.inside c.args.n c.requires.below) c.known-q.ensures in
    first_yes (at c.args.left.now q) (at c.args.tried.now q) c.has_number.result c.has_number-then-has_number.result (c.has_number.ensures ∙ l.1)
    c.if-has_number.true (c.has_number-then-has_number.ensures ∙ t.1)

pub returns-else-has_number : goal.returns-else-has_number
returns-else-has_number g c =
    let w = c.args.self.now.fit c.if-self.true in
    let q = near_point (g.P.Point.coords c.args.self.now.point) c.args.n in
    let l = read_near c.args.left.now (sides_of (g.P.Point.coords c.args.self.now.near.now.sides.lengths)) (g.P.Point.coords c.args.self.now.point) c.args.self.now.number
    c.args.n c.known-q.result c.requires.left c.args.self.now.place.is (w.inside c.args.n c.requires.below) c.known-q.ensures in
    first_no (at c.args.left.now q) (at c.args.tried.now q) c.has_number.result (c.has_number.ensures ∙ l.1) c.if-has_number.false
