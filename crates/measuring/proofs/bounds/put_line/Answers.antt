use Rattle.std.proofs.Common.{rules, ◌≡◌, [], ◌∷◌, ◌++◌, ap, ◌∙◌, FitsSigned, w32, to_z, of_z}
use Rattle.std.proofs.lemmas.List.{map_push}
use Rattle.std.proofs.lemmas.Int.{to_z-of_z}
use Rattle.measure_terms.specs.Hulls.{Corner}
use Rattle.measuring.specs.Corners.{corner, corners}
use Rattle.measuring.specs.Lines.{first, last}
use Rattle.measuring.proofs.bounds.put_line.Goals as goal

pub returns-clause-ends : goal.returns-clause-ends
returns-clause-ends c =
    let old = c.args.points.now.items in
    let l = c.args.line in
    let fits_y : FitsSigned w32 l.y = search rules in
    let fits_left : FitsSigned w32 l.left = search rules in
    let fits_right : FitsSigned w32 l.right = search rules in
    let y = to_z-of_z w32 l.y fits_y in
    let left = to_z-of_z w32 l.left fits_left in
    let right = to_z-of_z w32 l.right fits_right in
    let begins : corner (record { x = to_z w32 (of_z w32 l.left); y = to_z w32 (of_z w32 l.y) }) ≡ first l = λ i. record { x = left i; y = y i } in
    let ends : corner (record { x = to_z w32 (of_z w32 l.right); y = to_z w32 (of_z w32 l.y) }) ≡ last l = λ i. record { x = right i; y = y i } in
    let a = ap corners c.in_ok-push.ensures.items ∙ map_push corner old (record { x = to_z w32 (of_z w32 l.left); y = to_z w32 (of_z w32 l.y) })
    ∙ ap (λ (p : Corner). corners old ++ p ∷ []) begins in
    let mid = c.push.new.self.items in
    let b = ap corners c.in_ok-push-2.ensures.items ∙ map_push corner mid (record { x = to_z w32 (of_z w32 l.right); y = to_z w32 (of_z w32 l.y) })
    ∙ ap (λ (p : Corner). corners mid ++ p ∷ []) ends in
    b ∙ ap (λ ps. ps ++ last l ∷ []) a
