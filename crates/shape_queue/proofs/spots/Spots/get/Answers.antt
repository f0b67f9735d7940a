use Rattle.std.proofs.Common.{◌≡◌, ◌∙◌, length, vec_len, get_or, ap, rules, arith}
use Rattle.shape_queue.proofs.SpotLaws.{spot_few, spot_numbered, spot_room, spot_read}
use Rattle.shape_queue.proofs.spots.Spots.get.Goals as goal

pub cell_at-requires-clause-few : goal.cell_at-requires-clause-few
cell_at-requires-clause-few c = spot_few c.args.i c.self.invariant c.self.view_is c.requires

pub cell_at-requires-clause-inside : goal.cell_at-requires-clause-inside
cell_at-requires-clause-inside c = spot_numbered c.args.i c.self.invariant c.self.view_is c.requires

pub index-requires : goal.index-requires
index-requires c =
    let b = c.self.inside in
    let v : length b.cells.items ≡ vec_len b.cells = search rules in
    omega (arith, spot_room c.args.i c.self.invariant c.self.view_is c.requires, c.cell_at.ensures, v)

pub returns : goal.returns
returns c = spot_read c.args.i c.self.invariant c.self.view_is c.requires
    (c.index.ensures ∙ ap (λ i. get_or c.self.inside.cells.items i c.index.result.now) c.cell_at.ensures)
