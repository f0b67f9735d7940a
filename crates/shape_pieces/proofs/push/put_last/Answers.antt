use Rattle.std.proofs.lemmas.Result.{err_from_is_err_and}
use Rattle.shape_pieces.proofs.push.put_last.Goals as goal

pub returns : goal.returns
returns g c = c.in_ok-push.ensures.items

pub returns-in_err-push : goal.returns-in_err-push
returns-in_err-push g c =
    let p = err_from_is_err_and c.from_residual.result c.from_residual.ensures.1 in
    rw p.1 tt
