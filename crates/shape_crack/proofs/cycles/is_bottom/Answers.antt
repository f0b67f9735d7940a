use Rattle.std.proofs.Common.{arith, rules, ◌+◌, ℕ, [], ◌∷◌, ap, sym, ◌∙◌, FitsSigned, w32, to_z, of_z}
use Rattle.std.specs.Prelude.{nat_abs, not}
use Rattle.std.proofs.lemmas.Int.{to_z-of_z}
use Rattle.std.proofs.lemmas.Bool.{le-leb}
use Rattle.shape_terms.specs.Pictures.{at}
use Rattle.shape_terms.specs.Points.{box_count}
use Rattle.shape_crack.specs.Terms.{side_of}
use Rattle.shape_crack.proofs.Rows.{crack_when, under_number, under_none}
use Rattle.shape_crack.proofs.cycles.is_bottom.Goals as goal

pub returns-then-below-count : goal.returns-then-below-count
returns-then-below-count c =
    let X = c.args.grid.now in
    let w = nat_abs (to_z w32 (of_z w32 c.side.result)) in
    let f : FitsSigned w32 c.side.result = search rules in
    let e = ap (λ (x : ℕ). x ∷ nat_abs c.sides-sides.result.lengths.y ∷ []) (ap nat_abs (to_z-of_z w32 c.side.result f ∙ c.side.ensures.value))
    ∙ c.sides-sides.ensures.value in
    let none = under_none X w (nat_abs c.sides-sides.result.lengths.y) e c.args.i c.requires.pixel
    (let n = c.count.ensures.value ∙ ap box_count c.sides-sides.ensures.value in let t = c.if-below-count.true in omega arith) in
    crack_when X (side_of X.sides c.args.i 2) _ (omega arith) c.requires.object (le-leb c.count.result (c.args.i + w) c.if-below-count.true ∙ sym (ap not none))

pub returns-else-below-count : goal.returns-else-below-count
returns-else-below-count c =
    let X = c.args.grid.now in
    let w = nat_abs (to_z w32 (of_z w32 c.side.result)) in
    let f : FitsSigned w32 c.side.result = search rules in
    let e = ap (λ (x : ℕ). x ∷ nat_abs c.sides-sides.result.lengths.y ∷ []) (ap nat_abs (to_z-of_z w32 c.side.result f ∙ c.side.ensures.value))
    ∙ c.sides-sides.ensures.value in
    let next = under_number X w (nat_abs c.sides-sides.result.lengths.y) e c.args.i c.requires.pixel
    (let n = c.count.ensures.value ∙ ap box_count c.sides-sides.ensures.value in let t = c.if-below-count.false in omega arith) in
    crack_when X (side_of X.sides c.args.i 2) _ (omega arith) c.requires.object (ap not (c.has_number.ensures ∙ ap (at X) (sym next)))
