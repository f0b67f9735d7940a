use Rattle.std.proofs.Common.{◌+◌, ◌-◌, length, arith}
use Rattle.std.proofs.lemmas.Slice.{drop-put_mid}
use Rattle.shape_desk.proofs.text.put_word.Goals as goal

pub returns-clause-rest : goal.returns-clause-rest
returns-clause-rest c =
    let at = c.args.at in
    let n = length c.args.word.now in
    drop-put_mid at (at + n - at) c.args.buf.now c.copy_from_slice.new.self (at + n) (omega arith) (omega (arith, c.requires))
    (omega (arith, c.copy_from_slice.ensures.len, c.copy_from_slice.auto.self))
