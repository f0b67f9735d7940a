use Rattle.std.proofs.Common.{rules, ◌≡◌, ap, refl}
use Rattle.shape_terms.specs.Contours.{Crack}
use Rattle.shape_crack.specs.Terms.{crack_of}
use Rattle.shape_crack.proofs.CrackValues.{pixel_put, pixel_kept}
use Rattle.shape_crack.proofs.contour.advance.Goals as goal

pub returns-in_ok-push-clause-points : goal.returns-in_ok-push-clause-points
returns-in_ok-push-clause-points c =
    let next = ap (λ (d : Crack). d.pixel) c.successor-next.ensures in
    let away : c.successor-next.result.p ≡ c.args.c.p → ⊥ = search rules in
    pixel_put c.args.grid.now c.args.c.p c.successor-next.result.p (crack_of c.args.c) refl next away c.args.points.now.items c.push.new.self.items
    c.in_ok-push.ensures.items

pub returns-else-ne-clause-points : goal.returns-else-ne-clause-points
returns-else-ne-clause-points c =
    let next = ap (λ (d : Crack). d.pixel) c.successor-next.ensures in
    let same : c.successor-next.result.p ≡ c.args.c.p = search rules in
    pixel_kept c.args.grid.now c.is_picture.ensures.picture.axes c.args.c.p c.successor-next.result.p (crack_of c.args.c) c.requires refl next same
    c.args.points.now.items
