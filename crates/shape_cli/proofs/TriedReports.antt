-- A report that holds gets yes from a desk that does not fail, or memory is wanting.
-- Laws of the answers of a check and of shelves, over plain variables.
use Rattle.std.proofs.Common.{◌≡◌, ◌-◌, ◌≤◌, ◌<◌, ℕ, zero, suc, List, [], ◌∷◌, refl, length, get_or, Option, Some, Ok, subst, arith}
use Rattle.std.specs.Prelude.{slice_get}
use Rattle.std.proofs.lemmas.List.{length-map}
use Rattle.std.proofs.lemmas.Option.{slice_get-get_or}
use Rattle.shape_terms.specs.Thinning.{Rule}
use Rattle.shape_terms.specs.Shelves.{Named, names_of, rules_of}
use Rattle.shape_rules.specs.Ruled.{rules_on}
use Rattle.report_terms.specs.Subjects.{Subject}
use Rattle.report_terms.specs.Holds.{Holds}
use Rattle.report_text.specs.Checks.{Answer}
use Rattle.shape_check.specs.Checks.{Checks}
use Rattle.report_text.specs.declared.answer.Judgement.TheVariants.{No}

-- a report that holds is not answered no
pub no_verdict : (X : Subject) (text : List ℕ) (left : Option (List ℕ)) (before now k : ℕ) (answer : Answer) → left ≡ Some text → Holds X text
    → Checks X left before now answer → answer ≡ Ok (No k) → ⊥
no_verdict X text left before now k answer e h c a =
    let told = subst (λ l. Checks X l before now answer) e c in
    let no = subst (λ r. Checks X (Some text) before now r) a told in
    no.1.fails h

-- the name in the last place of a shelf
pub last_name : {R : Type 0} (shelf : List (Named R)) (n : ℕ) → n ≡ length shelf → 1 ≤ length (names_of shelf)
    → slice_get (names_of shelf) (n - 1) ≡ Some (get_or (names_of shelf) (n - 1) [])
last_name shelf n e some = slice_get-get_or (names_of shelf) (n - 1) [] (omega (arith, e, some, length-map shelf (λ x. x.name)))

some_at : {T : Type 0} (xs : List T) (k : ℕ) → k < length xs → (x : T) × (slice_get xs k ≡ Some x)
some_at [] k h = absurd (omega arith)
some_at (x ∷ xs) zero h = (x, refl)
some_at (x ∷ xs) (suc k) h = some_at xs k (omega arith)

-- the rule in the last place of a shelf
pub last_rule : {R : Type 0} (means : R → Rule) (shelf : List (Named R)) (n : ℕ) → n ≡ length shelf → 1 ≤ length (names_of shelf)
    → (rule : Rule) × (slice_get (rules_of (rules_on means shelf)) (n - 1) ≡ Some rule)
    × (slice_get (rules_of (rules_on means shelf)) (length (rules_on means shelf) - 1) ≡ Some rule)
last_rule means shelf n e some =
    let rules = rules_of (rules_on means shelf) in
    let l = length-map {B = Named Rule} shelf (λ x. record { name = x.name; rule = means x.rule }) in
    let m = length-map (rules_on means shelf) (λ x. x.rule) in
    let r = some_at rules (n - 1) (omega (arith, e, some, l, m, length-map shelf (λ x. x.name))) in
    let same : n - 1 ≡ length (rules_on means shelf) - 1 = omega (arith, e, l) in
    (r.0, r.1, subst (λ k. slice_get rules k ≡ Some r.0) same r.1)
