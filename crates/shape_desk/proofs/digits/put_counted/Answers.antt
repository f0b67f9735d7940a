use Rattle.std.proofs.Common.{◌+◌, ℕ, ap, arith}
use Rattle.shape_desk.proofs.Putting.{PutsAt-until}
use Rattle.shape_desk.proofs.digits.put_counted.Goals as goal

pub returns-clause-put : goal.returns-clause-put
returns-clause-put c =
    let w = c.write_digits in
    PutsAt-until w.result (ap (λ (k : ℕ). c.args.at + k) c.requires.count) (omega (arith, c.requires.room)) w.ensures.start w.ensures.before w.ensures.written
