use Rattle.std.proofs.Common.{◌≡◌, ◌<◌, ◌∙◌, length, set, ap, arith, false, get_or-set_other}
use Rattle.std.specs.Prelude.{slice_index_or}
use Rattle.std.proofs.lemmas.List.{length-set}
use Rattle.shape_cells.specs.Held.{Held, HasCell}
use Rattle.shape_cells.proofs.ObjectCells.{cell_put}
use Rattle.shape_dist.specs.Spreads.{found, nothing}
use Rattle.shape_dist.specs.FirstAxis.{line_length}
use Rattle.shape_dist.proofs.FirstSteps.{nearest_by, near_more}
use Rattle.shape_dist.proofs.first.fill_run.Goals as goal

pub set-requires : goal.set-requires
set-requires g c =
    let within = c.requires.run.last.0 in
    omega (arith, within, c.loop-i.invariant.long, c.requires.long)

pub loop-i-preserved : goal.loop-i-preserved
loop-i-preserved g c =
    let k = g.T.Spreading.keeping in
    let X = c.args.grid.now in
    let i = c.loop-i.i in
    let v = c.loop-i.invariant in
    let within = c.requires.run.last.0 in
    let inside : i < length c.loop-i.cells.values = omega (arith, within, v.long, c.requires.long) in
    let cell : HasCell c.loop-i.cells i = ap (λ m. slice_index_or m i false) v.kept ∙ c.requires.own i (omega arith) (omega arith) in
    let put : c.set.new.self.values ≡ set c.loop-i.cells.values i c.nearer.result =
    ap (λ (h : Held g.row.T.Denot). h.values) c.set.ensures ∙ cell_put c.loop-i.cells i c.nearer.result cell in
    let here = nearest_by k X c.args.from c.args.until i c.requires.run (omega arith) (omega arith) c.nearer.result c.nearer.ensures.last
    c.nearer.ensures.next in
    record {
      near = rw put (near_more k X (line_length X.sides) c.args.from i c.loop-i.cells.values c.nearer.result inside here v.near);
      before = λ j l. ap (λ m. found k m j) put ∙ get_or-set_other c.loop-i.cells.values i j c.nearer.result (nothing k) (omega arith) ∙ v.before j l;
      behind = λ j l. ap (λ m. found k m j) put ∙ get_or-set_other c.loop-i.cells.values i j c.nearer.result (nothing k) (omega arith)
          ∙ v.behind j (omega arith);
      long = ap length put ∙ length-set c.loop-i.cells.values i c.nearer.result ∙ v.long;
      kept = ap (λ (h : Held g.row.T.Denot). h.kept) c.set.ensures ∙ v.kept;
    }
