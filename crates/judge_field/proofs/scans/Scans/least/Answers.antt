use Rattle.std.proofs.Common.{◌≡◌, ◌∙◌, ℕ, List, ap, subst, sym}
use Rattle.std.proofs.lemmas.Bool.{and_parts}
use Rattle.std.specs.Prelude.{IsTrue}
use Rattle.shape_terms.specs.Points.{Point}
use Rattle.shape_terms.specs.Pictures.{Picture, at}
use Rattle.shape_terms.specs.Places.{framed_number}
use Rattle.shape_terms.proofs.FramedEnds.{in_box_in_frame}
use Rattle.judge_field.proofs.scans.Scans.least.Goals as goal

pub framed_number-requires : goal.framed_number-requires
framed_number-requires g c =
    let X = c.self.inside.grid in
    let p = g.P.Point.coords c.args.p in
    let there : IsTrue (at X p) = subst (λ Y. IsTrue (at Y p)) (sym c.self.view_is) c.requires in
    rw c.sides-sides.ensures.value (in_box_in_frame X.sides p (and_parts _ _ there).0)

-- the place of the point, and that the picture has it
placed : (X Y : Picture) (p : Point) (sides : List ℕ) (i : ℕ) → Y ≡ X → sides ≡ Y.sides → i ≡ framed_number sides p → i ≡ framed_number X.sides p
placed X Y p sides i e f h = h ∙ ap (λ s. framed_number s p) (f ∙ ap (λ (Z : Picture). Z.sides) e)

pub least_at-requires : goal.least_at-requires
least_at-requires g c =
    let p = g.P.Point.coords c.args.p in
    (p, c.requires, placed c.args.self.now c.self.inside.grid p _ c.framed_number.result c.self.view_is c.sides-sides.ensures.value c.framed_number.ensures)

pub returns : goal.returns
returns g c =
    let p = g.P.Point.coords c.args.p in
    c.least_at.ensures p c.requires
    (placed c.args.self.now c.self.inside.grid p _ c.framed_number.result c.self.view_is c.sides-sides.ensures.value c.framed_number.ensures)
