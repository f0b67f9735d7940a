use Rattle.std.proofs.Common.{ap}
use Rattle.shape_desk.specs.Files.{texts}
use Rattle.shape_cli.proofs.SideWords.{no_volume}
use Rattle.shape_cli.proofs.WordLists.{four_items}
use Rattle.shape_cli.proofs.source.source_at.Goals as goal

pub returns-in_err-read_sides-in-len4 : goal.returns-in_err-read_sides-in-len4
returns-in_err-read_sides-in-len4 c =
    let e = four_items c.args.words.now c.x-item.result c.y-item.result c.z-item.result c.file-item-then-words-lt5.result c.in-len4.len_at_least
    c.in-len4.len_below c.x-item.is c.y-item.is c.z-item.is c.file-item-then-words-lt5.is in
    rw c.from_residual.ensures
    (no_volume c.args.kind.now.items c.x-item.result.items c.y-item.result.items c.z-item.result.items c.file-item-then-words-lt5.result.items
    (texts c.args.words.now) (ap texts e) c.in_err-read_sides-in-len4.ensures)
