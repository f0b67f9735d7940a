use Rattle.std.proofs.Common.{◌≡◌, ◌≤◌, ℕ, Bool, false, true, List, get_or, sym, ◌∙◌, ap, arith, subst}
use Rattle.shape_terms.specs.Points.{sides_of, box_count}
use Rattle.shape_terms.specs.Places.{framed_number}
use Rattle.shape_terms.proofs.FramedEnds.{in_box_in_frame}
use Rattle.shape_grid.specs.Truths.{IsFirstTrue}
use Rattle.shape_grid.specs.Runs.{IsRunEnd}
use Rattle.shape_adj.specs.Rows.{placed, IsRow}
use Rattle.shape_adj.proofs.ObjectRows.{run_some, run_within, clear_run, clear_end}
use Rattle.shape_adj.proofs.framed.background_places.Goals as goal

pub framed_number-place-requires : goal.framed_number-place-requires
framed_number-place-requires g c = in_box_in_frame (sides_of (g.P.Point.coords c.sides-sides.result.lengths)) (g.P.Point.coords c.unraster.result)
    c.unraster.ensures.inside

pub clear_all-requires-clause-within : goal.clear_all-requires-clause-within
clear_all-requires-clause-within g c =
    let X = c.args.grid.now in
    let i = c.in-Some.i in
    let end = c.end_in_row.result in
    let until = c.end_of_trues-until.result in
    let place = c.framed_number-place.result in
    let s = c.sides-sides.ensures.value in
    let f = subst (λ (v : List Bool). IsFirstTrue v c.loop-i.from i) c.values-values.ensures c.in-Some.ensures in
    let e = subst (λ (v : List Bool). IsRunEnd v true i end until) c.values-values.ensures c.end_of_trues-until.ensures in
    let q : place ≡ placed X.sides i = c.framed_number-place.ensures ∙ ap (framed_number (sides_of (g.P.Point.coords c.sides-sides.result.lengths)))
    c.unraster.ensures.value ∙ ap (λ (v : List ℕ). placed v i) s in
    let row = subst (λ (v : ℕ). IsRow X.sides i end v) (sym q) (subst (λ (v : List ℕ). IsRow v i end (placed v i)) s c.end_in_row.ensures.row) in
    let within = subst (λ (v : List ℕ). end ≤ box_count v) s c.end_in_row.ensures.within in
    run_within X c.loop-i.from i end until place c.loop-i.places c.loop-i.places c.sides-sides.ensures.picture.filled c.loop-i.invariant f e row
    c.end_in_row.ensures.behind within

pub loop-i-smaller : goal.loop-i-smaller
loop-i-smaller g c =
    let X = c.args.grid.now in
    let i = c.in-Some.i in
    let end = c.end_in_row.result in
    let until = c.end_of_trues-until.result in
    let place = c.framed_number-place.result in
    let s = c.sides-sides.ensures.value in
    let f = subst (λ (v : List Bool). IsFirstTrue v c.loop-i.from i) c.values-values.ensures c.in-Some.ensures in
    let e = subst (λ (v : List Bool). IsRunEnd v true i end until) c.values-values.ensures c.end_of_trues-until.ensures in
    let q : place ≡ placed X.sides i = c.framed_number-place.ensures ∙ ap (framed_number (sides_of (g.P.Point.coords c.sides-sides.result.lengths)))
    c.unraster.ensures.value ∙ ap (λ (v : List ℕ). placed v i) s in
    let row = subst (λ (v : ℕ). IsRow X.sides i end v) (sym q) (subst (λ (v : List ℕ). IsRow v i end (placed v i)) s c.end_in_row.ensures.row) in
    let within = subst (λ (v : List ℕ). end ≤ box_count v) s c.end_in_row.ensures.within in
    let l = run_some X c.loop-i.from i end until place c.loop-i.places c.loop-i.places c.sides-sides.ensures.picture.filled c.loop-i.invariant f e row
    c.end_in_row.ensures.behind within in
    omega (arith, f.on, f.within)

pub loop-i-preserved : goal.loop-i-preserved
loop-i-preserved g c =
    let X = c.args.grid.now in
    let i = c.in-Some.i in
    let end = c.end_in_row.result in
    let until = c.end_of_trues-until.result in
    let place = c.framed_number-place.result in
    let s = c.sides-sides.ensures.value in
    let f = subst (λ (v : List Bool). IsFirstTrue v c.loop-i.from i) c.values-values.ensures c.in-Some.ensures in
    let e = subst (λ (v : List Bool). IsRunEnd v true i end until) c.values-values.ensures c.end_of_trues-until.ensures in
    let q : place ≡ placed X.sides i = c.framed_number-place.ensures ∙ ap (framed_number (sides_of (g.P.Point.coords c.sides-sides.result.lengths)))
    c.unraster.ensures.value ∙ ap (λ (v : List ℕ). placed v i) s in
    let row = subst (λ (v : ℕ). IsRow X.sides i end v) (sym q) (subst (λ (v : List ℕ). IsRow v i end (placed v i)) s c.end_in_row.ensures.row) in
    let within = subst (λ (v : List ℕ). end ≤ box_count v) s c.end_in_row.ensures.within in
    clear_run X c.loop-i.from i end until place c.loop-i.places c.clear_all.new.self c.sides-sides.ensures.picture.filled c.loop-i.invariant f e row
    c.end_in_row.ensures.behind within c.clear_all.ensures

pub returns-clause-exactly : goal.returns-clause-exactly
returns-clause-exactly g c =
    let none = subst (λ (v : List Bool). (k : ℕ) → c.loop-i.from ≤ k → get_or v k false ≡ false) c.values-values.ensures c.in_default.ensures in
    clear_end c.args.grid.now c.loop-i.from c.loop-i.places c.sides-sides.ensures.picture.filled c.loop-i.invariant none
