-- A set of points of a box has one Feret diameter, with its two points.
-- Sets of points and raster numbers alone.
use Rattle.std.proofs.Common.{◌≡◌, ℕ, sym, ap, ◌∙◌, arith, List}
use Rattle.std.specs.Prelude.{IsTrue}
use Rattle.shape_terms.specs.Points.{Point, in_box, raster_number, raster_point}
use Rattle.shape_terms.proofs.Boxes.{raster_point-raster_number}
use Rattle.measure_terms.specs.Feret.{Feret, IsFeret}

-- two points of the box with one raster number are one
one_point : (sides : List ℕ) (p q : Point) → IsTrue (in_box sides p) → IsTrue (in_box sides q) → raster_number sides p ≡ raster_number sides q → p ≡ q
one_point sides p q h k e = sym (raster_point-raster_number sides p h) ∙ ap (raster_point sides) e ∙ raster_point-raster_number sides q k

pub feret_once : (distance : Point → Point → ℕ) (sides : List ℕ) (S : Point → Type 0) → ((p : Point) → S p → IsTrue (in_box sides p)) → (f g : Feret)
    → IsFeret distance sides S f → IsFeret distance sides S g → f ≡ g
feret_once distance sides S inside f g h k =
    let a = h.greatest g.from g.to k.from_in k.to_in in
    let b = k.greatest f.from f.to h.from_in h.to_in in
    let square : f.square ≡ g.square = (let x = h.distance in let y = k.distance in omega (arith, a, b, x, y)) in
    let c = h.first g.from g.to k.from_in k.to_in (sym k.distance ∙ sym square) in
    let d = k.first f.from f.to h.from_in h.to_in (sym h.distance ∙ square) in
    let from : f.from ≡ g.from = one_point sides f.from g.from (inside f.from h.from_in) (inside g.from k.from_in) (omega (arith, c, d)) in
    let there : distance f.from g.to ≡ f.square = ap (λ p. distance p g.to) from ∙ sym k.distance ∙ sym square in
    let back : distance g.from f.to ≡ g.square = ap (λ p. distance p f.to) (sym from) ∙ sym h.distance ∙ square in
    let x = h.last g.to k.to_in there in
    let y = k.last f.to h.to_in back in
    let to : f.to ≡ g.to = one_point sides f.to g.to (inside f.to h.to_in) (inside g.to k.to_in) (omega (arith, x, y)) in
    λ i. record { square = square i; from = from i; to = to i }
