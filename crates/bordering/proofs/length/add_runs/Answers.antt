use Rattle.std.proofs.Common.{ap, sym, ◌∙◌, take, [], ◌∷◌, ◌++◌, ◌+◌, length, subst, ◌≡◌, arith}
use Rattle.std.proofs.lemmas.List.{length-map, length-take-le, take_more, map-append, with_items_is}
use Rattle.std.proofs.lemmas.List.FromFn.{length-map-range_with_len}
use Rattle.measure_terms.specs.Lengths.{shares}
use Rattle.bordering.specs.Told.{flat, flats, runs_told, run_told}
use Rattle.bordering.specs.Cells.{AreCells, cell_of}
use Rattle.bordering.proofs.Sizes.{room_left}
use Rattle.bordering.proofs.length.add_runs.Goals as goal

pub add_run-requires-clause-all : goal.add_run-requires-clause-all
add_run-requires-clause-all c =
    let ps = flats c.args.points.now in
    let rs = runs_told (take c.loop-run.run-index c.args.runs.now) in
    ap length c.as_mut_slice.ensures.value ∙ ap length c.loop-run.invariant ∙ length-map-range_with_len (λ i. cell_of (shares ps rs i)) 0 (length ps)
    ∙ length-map c.args.points.now flat

pub add_run-requires-clause-room : goal.add_run-requires-clause-room
add_run-requires-clause-room c =
    let ps = flats c.args.points.now in
    let put = take c.loop-run.run-index c.args.runs.now in
    let some : length (runs_told put) ≡ length put = length-map put run_told in
    let more = c.loop-run-test.true in
    let few : length put ≡ c.loop-run.run-index = length-take-le c.loop-run.run-index c.args.runs.now (omega (arith, more)) in
    room_left ps (runs_told put) c.as_mut_slice.result.now 2 (subst (AreCells ps (runs_told put)) (sym c.as_mut_slice.ensures.value) c.loop-run.invariant)
    (omega (arith, some, few, more))

pub loop-run-preserved : goal.loop-run-preserved
loop-run-preserved c =
    let ps = flats c.args.points.now in
    let rs = runs_told (take c.loop-run.run-index c.args.runs.now) in
    let more = ap runs_told (take_more c.args.runs.now c.loop-run.run-index c.run-item.result c.loop-run-test.true)
    ∙ map-append run_told (take c.loop-run.run-index c.args.runs.now) _
    ∙ ap (λ r. rs ++ run_told r ∷ []) (sym c.run-item.is) in
    let items = with_items_is c.loop-run.cells c.add_run.new.cells (c.add_run.auto.cells ∙ c.as_mut_slice.ensures.len) in
    subst (AreCells ps (runs_told (take (c.loop-run.run-index + 1) c.args.runs.now))) (sym items)
    (subst (λ t. AreCells ps t c.add_run.new.cells) (sym more)
    (c.add_run.ensures rs (subst (AreCells ps rs) (sym c.as_mut_slice.ensures.value) c.loop-run.invariant)))
