use Rattle.std.proofs.Common.{◌≡◌, ◌<◌, ◌∙◌, set, ap, arith, length}
use Rattle.shape_adj.specs.Labels.{relabelled}
use Rattle.shape_adj.proofs.Relabelling.{relabelled_none, relabelled_more, length-relabelled}
use Rattle.shape_adj.proofs.store.VecU32LabelStore.put.Goals as goal

pub loop-i-init : goal.loop-i-init
loop-i-init c = relabelled_none c.args.self.now.items c.args.run.from c.args.label

pub index_mut-requires : goal.index_mut-requires
index_mut-requires c =
    let e = ap length c.loop-i.invariant in
    let f = ap length c.requires.told.1 in
    omega (arith, e, f, length-relabelled c.args.self.now.items c.args.run.from c.loop-i.i c.args.label, c.requires.told.2)

pub loop-i-preserved : goal.loop-i-preserved
loop-i-preserved c =
    let f = ap length c.requires.told.1 in
    let l : c.loop-i.i < length c.args.self.now.items = omega (arith, f, c.requires.told.2) in
    ap (λ v. set v c.loop-i.i c.args.label) c.loop-i.invariant
    ∙ relabelled_more c.args.self.now.items c.args.run.from c.loop-i.i c.args.label (omega arith) l

pub returns : goal.returns
returns c = λ list e.
    let s : c.loop-i.i ≡ c.args.run.until = omega (arith, c.requires.ordered) in
    c.loop-i.invariant ∙ (λ j. relabelled (e j) c.args.run.from (s j) c.args.label)
