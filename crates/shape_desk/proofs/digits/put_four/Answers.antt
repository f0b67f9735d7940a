use Rattle.std.proofs.Common.{◌≡◌, ◌+◌, ◌/◌, ◌%◌, [], ◌∷◌, ◌++◌, List, ℕ, ap, sym, arith}
use Rattle.std.specs.Fmt.{decimal}
use Rattle.std.proofs.lemmas.Fmt.{decimal_step}
use Rattle.shape_desk.proofs.Putting.{PutsLast-told, PutsLast-more}
use Rattle.shape_desk.proofs.digits.put_four.Goals as goal

pub returns-clause-put : goal.returns-clause-put
returns-clause-put c =
    let n = c.args.n in
    let whole : decimal n ≡ decimal (n / 10) ++ ((48 + n % 10) ∷ []) = decimal_step n (omega arith) (omega arith) in
    PutsLast-told (ap (λ (xs : List ℕ). 32 ∷ xs) (sym whole)) (PutsLast-more c.put_row-end.ensures.put c.put_digit.ensures.put)
