use Rattle.std.proofs.Common.{◌≡◌, ◌*◌, ◌<◌, length, sym, subst}
use Rattle.std.specs.Prelude.{Some}
use Rattle.shape_grid.specs.Sets.{bit_of, IsPut}
use Rattle.shape_grid.specs.Hands.{with_hand, IsHeldApart, IsApart}
use Rattle.shape_grid.proofs.WordSteps.{put_one}
use Rattle.shape_grid.proofs.HandSteps.{put_again, hand_in, kept_by}
use Rattle.shape_grid.proofs.numbers.Numbers.insert.Goals as goal

pub returns-in-Some : goal.returns-in-Some
returns-in-Some c =
    let s = c.self.inside in
    let now = c.args.self.now in
    let v : with_hand (Some c.in-Some.h) s.levels ≡ now = subst (λ o. with_hand o s.levels ≡ now) c.in-Some.is c.self.view_is in
    let a : IsHeldApart s.levels c.in-Some.h = subst (λ o. IsApart o s.levels) c.in-Some.is c.self.invariant in
    let there : bit_of now c.in-Some.h ≡ 1 = subst (λ w. bit_of w c.in-Some.h ≡ 1) v (hand_in s.levels c.in-Some.h a).here in
    put_again now c.args.i 1 (subst (λ k. bit_of now k ≡ 1) c.if-h-i.true there)

pub returns-in-Some-2 : goal.returns-in-Some-2
returns-in-Some-2 c =
    let s = c.self.inside in
    subst (λ w. IsPut w (with_hand s.hand c.insert.new.self) c.args.i 1) c.self.view_is
    (kept_by s.hand s.levels c.insert.new.self c.in-Some.h c.args.i 1 c.in-Some.is c.if-h-i.false c.self.invariant c.insert.ensures)

pub returns-then-not-has : goal.returns-then-not-has
returns-then-not-has c =
    let s = c.self.inside in
    let v : s.levels ≡ c.args.self.now = subst (λ o. with_hand o s.levels ≡ c.args.self.now) c.in-None.is c.self.view_is in
    let room : c.args.i < 64 * length s.levels = subst (λ w. c.args.i < 64 * length w) (sym v) c.requires in
    subst (λ w. IsPut w (with_hand (Some c.args.i) s.levels) c.args.i 1) v (put_one s.levels c.args.i room)
