use Rattle.std.proofs.Common.{arith, rules, ℕ, [], ◌∷◌, ap, sym, ◌∙◌, FitsSigned, w32, to_z, of_z}
use Rattle.std.specs.Prelude.{nat_abs, not}
use Rattle.std.proofs.lemmas.Int.{to_z-of_z}
use Rattle.std.proofs.lemmas.Bool.{lt-ltb}
use Rattle.shape_terms.specs.Pictures.{at}
use Rattle.shape_crack.specs.Terms.{side_of}
use Rattle.shape_crack.proofs.Rows.{crack_when, over_number, over_none}
use Rattle.shape_crack.proofs.cycles.is_top.Goals as goal

pub returns-then-i-width : goal.returns-then-i-width
returns-then-i-width c =
    let X = c.args.grid.now in
    let w = nat_abs (to_z w32 (of_z w32 c.side-width.result)) in
    let f : FitsSigned w32 c.side-width.result = search rules in
    let e = ap (λ (x : ℕ). x ∷ nat_abs c.sides.result.lengths.y ∷ []) (ap nat_abs (to_z-of_z w32 c.side-width.result f ∙ c.side-width.ensures.value))
    ∙ c.sides.ensures.value in
    let none = over_none X w (nat_abs c.sides.result.lengths.y) e c.args.i c.requires.pixel c.if-i-width.true in
    crack_when X (side_of X.sides c.args.i 0) _ (omega arith) c.requires.object (lt-ltb c.args.i w c.if-i-width.true ∙ sym (ap not none))

pub returns-else-i-width : goal.returns-else-i-width
returns-else-i-width c =
    let X = c.args.grid.now in
    let w = nat_abs (to_z w32 (of_z w32 c.side-width.result)) in
    let f : FitsSigned w32 c.side-width.result = search rules in
    let e = ap (λ (x : ℕ). x ∷ nat_abs c.sides.result.lengths.y ∷ []) (ap nat_abs (to_z-of_z w32 c.side-width.result f ∙ c.side-width.ensures.value))
    ∙ c.sides.ensures.value in
    let next = over_number X w (nat_abs c.sides.result.lengths.y) e c.args.i c.requires.pixel c.if-i-width.false in
    crack_when X (side_of X.sides c.args.i 0) _ (omega arith) c.requires.object (ap not (c.has_number.ensures ∙ ap (at X) (sym next)))
