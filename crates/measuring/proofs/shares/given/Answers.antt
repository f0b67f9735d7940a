use Rattle.std.proofs.Common.{◌≡◌, ℕ, ◌*◌, sym, ◌∙◌}
use Rattle.std.specs.Prelude.{sum_by}
use Rattle.measure_terms.specs.Shares as Terms
use Rattle.measuring.specs.Spaced.{spacing_told}
use Rattle.measuring.proofs.Gathered.{given_is, nothing_given}
use Rattle.measuring.proofs.shares.given.Goals as goal

pub returns-then-portions-eq0-clause-value : goal.returns-then-portions-eq0-clause-value
returns-then-portions-eq0-clause-value c =
    let s = spacing_told c.args.spacing in
    let parts : (a b : ℕ) → ℕ = λ a b. sum_by (Terms.portion s c.args.class) (Terms.directions_of a b) in
    let none : parts (Terms.first_of c.args.i) (Terms.second_of c.args.i) ≡ 0 =
    (λ j. parts (sym c.first_of-a.ensures.value j) (sym c.second_of-b.ensures.value j)) ∙ sym c.portions-portions.ensures.value ∙ c.if-portions-eq0.true in
    sym (nothing_given s c.args.class c.args.i none)

pub returns-clause-value : goal.returns-clause-value
returns-clause-value c =
    let s = spacing_told c.args.spacing in
    let parts : (a b : ℕ) → ℕ = λ a b. sum_by (Terms.portion s c.args.class) (Terms.directions_of a b) in
    (λ j. c.solid_angle.ensures.value j * c.portions-portions.ensures.value j)
    ∙ (λ j. Terms.solid_angle (c.first_of-a.ensures.value j) (c.second_of-b.ensures.value j) * parts (c.first_of-a.ensures.value j)
    (c.second_of-b.ensures.value j))
    ∙ sym (given_is s c.args.class c.args.i)
