use Rattle.std.proofs.Common.{◌≡◌, ℕ, sym, subst}
use Rattle.std.specs.Prelude.{Some, MatchOption, min}
use Rattle.shape_grid.specs.Sets.{In, IsLeast}
use Rattle.shape_grid.specs.Hands.{with_hand, IsHeldApart, IsApart}
use Rattle.shape_grid.proofs.HandSteps.{both_least, least_at_hand}
use Rattle.shape_grid.proofs.numbers.Numbers.least.Goals as goal

pub returns-in-Some-Some : goal.returns-in-Some-Some
returns-in-Some-Some c =
    let s = c.self.inside in
    let i = c.in-Some-Some.i in
    let h = c.in-Some-Some.h in
    let v : with_hand (Some h) s.levels ≡ c.args.self.now = subst (λ o. with_hand o s.levels ≡ c.args.self.now) c.in-Some-Some.is-1 c.self.view_is in
    let a : IsHeldApart s.levels h = subst (λ o. IsApart o s.levels) c.in-Some-Some.is-1 c.self.invariant in
    subst (IsLeast c.args.self.now) (sym c.min.ensures) (subst (λ w. IsLeast w (min i h)) v (both_least s.levels h a i c.in-Some-Some.ensures))

pub returns-in-None-default : goal.returns-in-None-default
returns-in-None-default c =
    let s = c.self.inside in
    let none : (j : ℕ) → In s.levels j → ⊥ =
    subst (λ o. MatchOption o ((j : ℕ) → In s.levels j → ⊥) (λ i. IsLeast s.levels i)) c.in-None-default.is-0 c.least.ensures in
    subst (λ w. MatchOption s.hand ((j : ℕ) → In w j → ⊥) (λ i. IsLeast w i)) c.self.view_is (least_at_hand s.hand s.levels c.self.invariant none)
