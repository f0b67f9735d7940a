use Rattle.std.proofs.Common.{◌≡◌, true, false, Bool, refl, not}
use Rattle.std.specs.Prelude.{◌↔◌, MatchOption, is_some, IsTrue}
use Rattle.std.specs.declared.option.Option.{Option}
use Rattle.std.specs.declared.option.Option.TheVariants.{None, Some}
use Rattle.shape_thin.specs.Fronts.{reach_of}
use Rattle.shape_thin.specs.Standing.{key_of}
use Rattle.shape_check.proofs.EventsFollowed.{all_of_none, not_all}
use Rattle.shape_check.proofs.events.ThinJudge.finished.Goals as goal

-- whether there is none, of what tells either
none_tells : {A : Type 0} (o : Option A) (b : Bool) (E All : Type 0) (N : A → Type 0) → MatchOption o E N → is_some o ≡ not b
    → (E → All) → ((a : A) → N a → All → ⊥) → IsTrue b ↔ All
none_tells None true E All N m s all none = ((λ t. all m), λ a. refl)
none_tells None false E All N m s all none = absurd (let f : false ≡ true = s in cc)
none_tells (Some a) true E All N m s all none = absurd (let f : true ≡ false = s in cc)
none_tells (Some a) false E All N m s all none = ((λ t. cc), λ x. absurd (none a m x))

pub returns : goal.returns
returns g c = λ by X events now h.
    let t = c.args.self.now.thinner in
    none_tells c.next.result c.is_none.result _ _ _ c.next.ensures c.is_none.ensures
    (λ e. all_of_none by X events now t.left (reach_of t.front) h e.0 e.1)
    (λ n is. not_all by X events now t.left (reach_of t.front) h (key_of n) is.there (g.P.Point.coords n.point) is.place is.least _ is.near)
