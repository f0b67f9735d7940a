use Rattle.std.proofs.Common.{◌∷◌, [], ◌+◌, ◌∙◌, ap, length-append}
use Rattle.shape_refute.specs.Shown.{share_of}
use Rattle.text_terms.specs.Weights.{share}
use Rattle.report_text.proofs.FormReads.{read_more}
use Rattle.report_text.proofs.why.shares.Goals as goal

pub loop-preserved : goal.loop-preserved
loop-preserved c =
    let l = c.loop in
    rw c.push.ensures (record {
      read = read_more share c.in_ok-len.len l.counter c.few.new.words l.words c.share.new.words l.shares (share_of c.in_ok-share.field-0) c.loop-test.true
          l.invariant.read c.in_ok-share.ensures;
      count = length-append l.shares (share_of c.in_ok-share.field-0 ∷ []) ∙ ap (λ n. n + 1) l.invariant.count;
    })
