use Rattle.std.proofs.Common.{◌≡◌, ◌∙◌, ◌/◌, ◌<◌, length, get_or, arith}
use Rattle.std.proofs.lemmas.List.{get_or_default}
use Rattle.shape_grid.proofs.WordSteps.{put_one}
use Rattle.shape_grid.proofs.words.put_in.Goals as goal

pub returns-clause-put : goal.returns-clause-put
returns-clause-put c =
    let words = c.args.words.now.items in
    let there : c.args.i / 64 < length words = omega (arith, c.requires) in
    let read : c.index-word.result.now ≡ get_or words (c.args.i / 64) 0 = c.index-word.ensures ∙ get_or_default words (c.args.i / 64) c.index-word.result.now 0
    there in
    rw read (put_one words c.args.i c.requires)
