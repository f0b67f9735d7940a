use Rattle.std.proofs.Common.{◌≡◌, map, drop}
use Rattle.shape.specs.Slips as slips
use Rattle.shape.proofs.slip.first_away.Given as goal

abbrev pub invariant-loop-form : goal.invariant-loop-form
invariant-loop-form l =
    slips.first_away l.away l.word (map (λ form. form.now) (drop l.form-index l.forms)) ≡ slips.first_away l.away l.word (map (λ form. form.now) l.forms)
