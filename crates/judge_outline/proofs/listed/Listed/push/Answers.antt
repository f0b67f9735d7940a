use Rattle.std.proofs.Common.{◌≡◌, ◌+◌, ◌<◌, ◌++◌, ◌∷◌, [], length, map, subst, ap, sym, ◌∙◌, arith}
use Rattle.std.specs.Prelude.{Contains, IsTrue}
use Rattle.std.proofs.lemmas.List.{length-map, map-append}
use Rattle.shape_terms.specs.Points.{sides_of, in_box}
use Rattle.judge_outline.specs.Terms.{point_of}
use Rattle.judge_outline.specs.Listings.{Listing, AreListed}
use Rattle.judge_outline.proofs.Numbering.{inside_push, apart_push}
use Rattle.judge_outline.proofs.listed.Listed.push.Goals as goal

pub push_reserved-requires : goal.push_reserved-requires
push_reserved-requires c =
    let r = subst (λ (l : Listing). length l.points + 1 < l.room) (sym c.self.view_is) c.requires.room in
    omega (arith, r, length-map c.self.inside.points.items point_of)

pub invariant_of-self : goal.invariant_of-self
invariant_of-self c =
    let i = c.self.inside in
    let sides = sides_of (point_of i.sides.lengths) in
    let points = map point_of i.points.items in
    let p = point_of c.args.p in
    let inside = subst (λ (l : Listing). IsTrue (in_box l.sides p)) (sym c.self.view_is) c.requires.inside in
    let new = subst (λ (l : Listing). Contains l.points p → ⊥) (sym c.self.view_is) c.requires.new in
    let items : map point_of c.push_reserved.new.self.items ≡ points ++ p ∷ [] = ap (map point_of) c.push_reserved.ensures.items
    ∙ map-append point_of i.points.items (c.args.p ∷ []) in
    subst (AreListed sides) (sym items) (record {
      inside = inside_push sides points p c.self.invariant.inside inside;
      apart = apart_push points p c.self.invariant.apart new;
    })
