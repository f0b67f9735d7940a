use Rattle.std.proofs.Common.{◌+◌, List, [], ◌∷◌, ◌++◌, get_or, ap, sym, ◌∙◌, subst, arith}
use Rattle.shape_terms.specs.Points.{sides_of}
use Rattle.measuring.specs.declared.site.Site.{Site}
use Rattle.measuring.specs.Layers.{AreEnds}
use Rattle.measuring.proofs.LayersPut.{ends_more}
use Rattle.measuring.proofs.vertices.put_ends.Goals as goal

pub site_of-requires : goal.site_of-requires
site_of-requires g c =
    (let b = c.requires.below.each c.args.at c.requires.within in let o = c.requires.order.some c.args.at c.requires.within in omega (arith, b, o))

pub site_of-requires-2 : goal.site_of-requires-2
site_of-requires-2 g c = c.requires.below.each c.args.at c.requires.within

pub returns : goal.returns
returns g c = λ h.
    let sides = sides_of (g.P.Point.coords c.args.sides.lengths) in
    let ss = c.args.stretches.now in
    let f = c.site_of.result in
    let l = c.site_of-2.result in
    let old = c.args.all.now.items in
    let items = c.in_ok-push-2.ensures.items ∙ ap (λ (xs : List Site). xs ++ l ∷ []) c.in_ok-push.ensures.items in
    subst (AreEnds sides ss (c.args.at + 1)) (sym items)
    (ends_more sides (get_or sides 0 0) ss c.args.at old f l c.requires.order c.requires.within c.site_of.ensures.site c.site_of-2.ensures.site
    c.site_of.ensures.number c.site_of-2.ensures.number h)
