use Rattle.std.proofs.Common.{◌≡◌, subst}
use Rattle.std.specs.Prelude.{Some}
use Rattle.shape_grid.specs.Sets.{IsPut}
use Rattle.shape_grid.specs.Hands.{with_hand, IsHeldApart, IsApart}
use Rattle.shape_grid.proofs.HandSteps.{hand_out, kept_by, kept_alone}
use Rattle.shape_grid.proofs.numbers.Numbers.remove.Goals.{in_default-via-in-Some+else-h-i, in_default-via-in_default}
use Rattle.shape_grid.proofs.numbers.Numbers.remove.Goals as goal

pub returns-in-Some : goal.returns-in-Some
returns-in-Some c =
    let s = c.self.inside in
    let v : with_hand (Some c.in-Some.h) s.levels ≡ c.args.self.now = subst (λ o. with_hand o s.levels ≡ c.args.self.now) c.in-Some.is c.self.view_is in
    let a : IsHeldApart s.levels c.in-Some.h = subst (λ o. IsApart o s.levels) c.in-Some.is c.self.invariant in
    subst (λ i. IsPut c.args.self.now s.levels i 0) c.if-h-i.true (subst (λ w. IsPut w s.levels c.in-Some.h 0) v (hand_out s.levels c.in-Some.h a))

pub returns-in_default : goal.returns-in_default
returns-in_default c =
    let s = c.self.inside in
    subst (λ w. IsPut w (with_hand s.hand c.remove.new.self) c.args.i 0) c.self.view_is
    (elim c.in_default.branch [
      | in_default-via-in-Some+else-h-i w ↦
          kept_by s.hand s.levels c.remove.new.self w.in-Some.h c.args.i 0 w.in-Some.is w.if-h-i.false c.self.invariant c.remove.ensures
      | in_default-via-in_default w ↦ kept_alone s.hand s.levels c.remove.new.self c.args.i 0 w.in_default.is c.remove.ensures
    ])
