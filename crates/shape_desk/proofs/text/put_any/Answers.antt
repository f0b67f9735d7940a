use Rattle.std.proofs.Common.{◌≡◌, [], ◌∷◌, ◌∙◌, List, ℕ, negsuc, w64, to_z, to_z-of_z, ap, sym, arith}
use Rattle.std.specs.Fmt.{signed_decimal}
use Rattle.std.proofs.lemmas.Fmt.{decimal_digit}
use Rattle.shape_desk.proofs.Putting.{PutsLast-told}
use Rattle.shape_desk.proofs.text.put_any.Goals as goal

pub returns-then-n-eqminus1-clause-put : goal.returns-then-n-eqminus1-clause-put
returns-then-n-eqminus1-clause-put c =
    let least : c.args.n ≡ negsuc 0 = sym (to_z-of_z c.ranges.n) ∙ ap (to_z w64) c.if-n-eqminus1.true in
    let whole : 32 ∷ signed_decimal c.args.n ≡ 32 ∷ 45 ∷ 49 ∷ [] =
    ap (λ z. 32 ∷ signed_decimal z) least ∙ ap (λ (xs : List ℕ). 32 ∷ 45 ∷ xs) (decimal_digit 1 (omega arith)) in
    let w = c.put_word.ensures in
    PutsLast-told (sym whole) (record { place = w.place; front = w.text; same_length = w.length })
