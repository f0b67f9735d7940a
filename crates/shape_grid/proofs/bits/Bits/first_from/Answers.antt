use Rattle.std.proofs.Common.{List, ℕ, ◌≤◌, ◌≡◌, false, length, subst, ap, arith}
use Rattle.std.specs.Prelude.{MatchOption}
use Rattle.std.proofs.lemmas.List.{get_or_past}
use Rattle.shape_grid.specs.Sets.{In, IsLeastFrom}
use Rattle.shape_grid.specs.Truths.{truths}
use Rattle.shape_grid.proofs.TruthSteps.{length-truths, found_true}
use Rattle.shape_grid.proofs.bits.Bits.first_from.Goals as goal

pub returns-then-from-self : goal.returns-then-from-self
returns-then-from-self c =
    let words = c.self.inside.words.items in
    let from = c.args.from in
    let r = c.least_from.result in
    found_true words c.self.inside.len c.self.invariant c.args.self.now from r c.self.view_is
    (subst (λ (x : List ℕ). MatchOption r ((i : ℕ) → In x i → from ≤ i → ⊥) (λ i. IsLeastFrom x from i)) c.as_slice.ensures.value c.least_from.ensures)

pub returns-else-from-self : goal.returns-else-from-self
returns-else-from-self c = λ k l.
    let m : length (truths c.self.inside.words.items c.self.inside.len) ≡ length c.args.self.now = ap length c.self.view_is in
    get_or_past c.args.self.now k false (omega (arith, length-truths c.self.inside.words.items c.self.inside.len))
