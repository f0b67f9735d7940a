use Rattle.std.proofs.Common.{◌≡◌, ◌∙◌, ◌/◌, ◌<◌, length, get_or, arith}
use Rattle.std.proofs.lemmas.List.{get_or_default}
use Rattle.shape_grid.proofs.WordSteps.{put_none}
use Rattle.shape_grid.proofs.words.take_out.Goals as goal

pub returns-clause-put : goal.returns-clause-put
returns-clause-put c =
    let words = c.args.words.now.items in
    let there : c.args.i / 64 < length words = omega (arith, c.requires) in
    let read : c.index.result.now ≡ get_or words (c.args.i / 64) 0 = c.index.ensures ∙ get_or_default words (c.args.i / 64) c.index.result.now 0 there in
    rw read (put_none words c.args.i c.requires)
