use Rattle.std.proofs.Common.{◌≡◌, map, drop}
use Rattle.shape.specs.Slips.{is_among}
use Rattle.shape.proofs.own_words.is_one_of.Given as goal

abbrev pub invariant-loop-form : goal.invariant-loop-form
invariant-loop-form l = is_among l.word (map (λ form. form.now) (drop l.form-index l.forms)) ≡ is_among l.word (map (λ form. form.now) l.forms)
