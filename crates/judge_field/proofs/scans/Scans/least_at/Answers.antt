use Rattle.std.proofs.Common.{◌≡◌, ◌<◌, ◌∙◌, ap, subst, sym, arith, length, ℕ, List}
use Rattle.std.proofs.lemmas.Bool.{and_parts}
use Rattle.std.proofs.lemmas.Option.{get_or_from_slice_get}
use Rattle.std.specs.Prelude.{IsTrue}
use Rattle.shape_terms.specs.Points.{Point, box_count}
use Rattle.shape_terms.specs.Pictures.{Picture, at}
use Rattle.shape_terms.specs.FramedBox.{framed_sides, framed_point}
use Rattle.shape_terms.specs.Places.{framed_number}
use Rattle.shape_terms.proofs.FramedNumbers.{framed_number_below}
use Rattle.shape_terms.proofs.FramedEnds.{in_box_in_frame}
use Rattle.shape_dist.specs.Keepings.{square_keeping}
use Rattle.shape_dist.specs.Spreads.{found, nothing, IsNearestOn}
use Rattle.shape_dist.proofs.AxisEnds.{nearest_of_all, cell_of}
use Rattle.judge_field.specs.FieldState.{IsLeastSquare}
use Rattle.judge_field.proofs.scans.Scans.least_at.Goals as goal

-- the place of an object point is one of the framed box
place_below : (X : Picture) (p : Point) (place : ℕ) → IsTrue (at X p) → place ≡ framed_number X.sides p → place < box_count (framed_sides X.sides)
place_below X p place there e = omega (arith, e, framed_number_below X.sides p (in_box_in_frame X.sides p (and_parts _ _ there).0))

pub get-requires : goal.get-requires
get-requires g c =
    let X = c.self.inside.grid in
    let h = c.requires in
    let there : IsTrue (at X h.0) = subst (λ Y. IsTrue (at Y h.0)) (sym c.self.view_is) h.1 in
    let e : c.args.place ≡ framed_number X.sides h.0 = subst (λ Y. c.args.place ≡ framed_number Y.sides h.0) (sym c.self.view_is) h.2 in
    omega (arith, place_below X h.0 c.args.place there e, c.self.invariant.0)

pub returns : goal.returns
returns g c =
    let X = c.self.inside.grid in
    let cells = c.self.inside.squares.values in
    λ p here same.
    let there : IsTrue (at X p) = subst (λ Y. IsTrue (at Y p)) (sym c.self.view_is) here in
    let inside = (and_parts _ _ there).0 in
    let i : c.args.place ≡ framed_number X.sides p = subst (λ Y. c.args.place ≡ framed_number Y.sides p) (sym c.self.view_is) same in
    let read : found square_keeping cells c.args.place ≡ c.get.result =
    get_or_from_slice_get cells c.args.place c.get.result (nothing square_keeping) c.get.ensures in
    let near = cell_of square_keeping X p cells c.args.place inside i c.self.invariant.1 in
    let t : IsNearestOn square_keeping X (box_count (framed_sides X.sides)) (framed_number X.sides p) c.get.result =
    subst (IsNearestOn square_keeping X (box_count (framed_sides X.sides)) (framed_number X.sides p)) read near in
    subst (λ Y. IsLeastSquare Y p c.get.result) c.self.view_is
    (record { q = framed_point X.sides t.q; least = nearest_of_all square_keeping X p c.get.result inside t })
