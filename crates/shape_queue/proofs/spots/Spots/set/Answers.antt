use Rattle.std.proofs.Common.{◌≡◌, length, vec_len, ap, rules, arith}
use Rattle.shape_cells.specs.Held.{Held}
use Rattle.shape_queue.specs.declared.spot.Spot.{Spot}
use Rattle.shape_queue.proofs.SpotLaws.{spot_few, spot_numbered, spot_room, spot_put, put_are}
use Rattle.shape_queue.proofs.spots.Spots.set.Goals as goal

pub cell_at-cell-requires-clause-few : goal.cell_at-cell-requires-clause-few
cell_at-cell-requires-clause-few c = spot_few c.args.i c.self.invariant c.self.view_is c.requires

pub cell_at-cell-requires-clause-inside : goal.cell_at-cell-requires-clause-inside
cell_at-cell-requires-clause-inside c = spot_numbered c.args.i c.self.invariant c.self.view_is c.requires

pub index_mut-requires : goal.index_mut-requires
index_mut-requires c =
    let b = c.self.inside in
    let v : length b.cells.items ≡ vec_len b.cells = search rules in
    omega (arith, spot_room c.args.i c.self.invariant c.self.view_is c.requires, c.cell_at-cell.ensures, v)

pub invariant_of-self : goal.invariant_of-self
invariant_of-self c =
    let b = c.self.inside in
    put_are b.width b.len c.cell_at-cell.result b.objects c.args.spot b.cells.items c.self.invariant

pub returns-clause-values : goal.returns-clause-values
returns-clause-values c = rw c.cell_at-cell.ensures (spot_put c.args.i c.self.invariant c.self.view_is c.requires c.args.spot)

pub returns-clause-kept : goal.returns-clause-kept
returns-clause-kept c = ap (λ (h : Held Spot). h.kept) c.self.view_is
