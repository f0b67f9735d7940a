use Rattle.std.proofs.Common.{◌-◌, ◌≤◌, ◌∙◌, ap, sym, false, arith}
use Rattle.std.specs.Prelude.{slice_index_or}
use Rattle.shape_dist.proofs.FramedValues.{falses_passed, trues_filled}
use Rattle.shape_dist.proofs.objects.mark_row.Goals as goal

pub loop-x-preserved : goal.loop-x-preserved
loop-x-preserved g c =
    let a = c.args in
    let X = a.grid.now in
    let from = c.end_of_falses.result - a.start in
    let until = c.end_of_trues.result - a.start in
    let f = c.end_of_falses.ensures in
    let t = c.end_of_trues.ensures in
    let f_on = f.on in
    let f_within = f.within in
    let t_on = t.on in
    let t_within = t.within in
    let most : until ≤ a.n = omega (arith, t_within, t_on) in
    let less : from ≤ until = omega (arith, f_on, t_on) in
    let passed = falses_passed X a.start a.place a.n c.requires.row c.requires.inside c.loop-x.x from c.loop-x.objects (omega (arith, f_on))
    (omega (arith, f_within, f_on))
    (λ i l h. ap (λ v. slice_index_or v i false) (sym c.values-values.ensures) ∙ f.each i l (omega (arith, h, f_on))) c.loop-x.invariant.done in
    record {
      most = most;
      done = trues_filled X a.start a.place a.n c.requires.row c.requires.inside from until c.loop-x.objects c.set_all.new.self less most
          (λ i l h. ap (λ v. slice_index_or v i false) (sym c.values-values.ensures) ∙ t.each i l (omega (arith, h, t_on, f_on))) c.set_all.ensures passed;
    }
