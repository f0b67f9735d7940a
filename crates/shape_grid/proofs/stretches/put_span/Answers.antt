use Rattle.std.proofs.Common.{◌≡◌, ◌∙◌, ◌*◌, ◌<◌, length, get_or, arith, ap}
use Rattle.std.proofs.lemmas.List.{get_or_default}
use Rattle.std.specs.Int.{bit_at}
use Rattle.shape_grid.proofs.SpanSteps.{unput, put_more, put_end}
use Rattle.shape_grid.proofs.stretches.put_span.Goals as goal

pub loop-w-init : goal.loop-w-init
loop-w-init c = unput c.args.words.now.items c.args.from c.args.until c.args.kind

pub loop-w-preserved : goal.loop-w-preserved
loop-w-preserved c =
    let new = c.loop-w.words.items in
    let w = c.loop-w.w in
    let room = c.loop-w.invariant.room in
    let within : w < length c.args.words.now.items = omega arith in
    let there : w < length new = omega arith in
    let read : c.index.result.now ≡ get_or new w 0 = c.index.ensures ∙ get_or_default new w c.index.result.now 0 there in
    put_more c.args.words.now.items new c.args.from c.args.until w c.masked.result c.mask-span.result c.args.kind within c.loop-w.invariant
    c.mask-span.ensures c.masked.ensures.set (λ b l h. c.masked.ensures.left b l h ∙ ap (λ x. bit_at x b) read)

pub returns : goal.returns
returns c =
    put_end c.args.words.now.items c.loop-w.words.items c.args.from c.args.until (64 * c.loop-w.w) c.args.kind (omega arith) c.requires c.loop-w.invariant
