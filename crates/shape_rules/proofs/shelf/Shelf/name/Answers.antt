use Rattle.std.proofs.Common.{◌<◌, length, slice_get, ap, sym, ◌∙◌, arith}
use Rattle.std.proofs.lemmas.List.{length-map}
use Rattle.shape_terms.specs.Shelves.{names_of}
use Rattle.shape_rules.specs.Entries.{named}
use Rattle.shape_rules.proofs.Entries.{found_at}
use Rattle.shape_rules.proofs.shelf.Shelf.name.Goals as goal

pub returns : goal.returns
returns g c =
    let es = c.self.inside.entries.items in
    let within : c.args.i < length es = omega (arith, ap length c.self.view_is, length-map es named) in
    ap (λ s. slice_get (names_of s) c.args.i) (sym c.self.view_is) ∙ found_at (λ e. e.name) named es c.args.i c.index.result.now within c.index.ensures
