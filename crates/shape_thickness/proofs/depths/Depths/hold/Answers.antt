use Rattle.std.proofs.Common.{◌≡◌, ◌<◌, ℕ, true, sym, subst, ◌∙◌, arith, rules}
use Rattle.std.specs.Prelude.{IsTrue}
use Rattle.shape_terms.specs.Points.{box_count, raster_point}
use Rattle.shape_terms.specs.Pictures.{Picture, at}
use Rattle.shape_window.specs.Windows.{is_nearer}
use Rattle.shape_thickness.proofs.KnownPlaces.{deep}
use Rattle.shape_thickness.proofs.depths.Depths.hold.Goals as goal

pub returns-then-has_number : goal.returns-then-has_number
returns-then-has_number g c = λ t.
    let Y = c.self.inside.painted in
    let place = c.args.place in
    let s = c.args.s in
    let inside = subst (λ (X : Picture). place < box_count X.sides) (sym c.self.view_is) c.requires in
    subst (λ (X : Picture). (j : ℕ) → j < box_count X.sides → is_nearer (raster_point X.sides place) s (raster_point X.sides j) ≡ true
    → at X (raster_point X.sides j) ≡ true) c.self.view_is
    (λ j l near. deep Y c.self.inside.squares.values place s c.get.result j c.self.invariant inside (sym c.has_number.ensures ∙ c.if-has_number.true)
    c.get.ensures (c.is_within.ensures.0 t) l near)
