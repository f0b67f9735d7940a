use Rattle.std.proofs.Common.{◌∙◌, ◌++◌, ap, arith, length}
use Rattle.std.specs.Fmt.{decimal}
use Rattle.shape_refute.specs.Shown.{share_of}
use Rattle.text_terms.specs.Weights.{share}
use Rattle.report_text.specs.Spelling.{behind_blanks}
use Rattle.report_text.proofs.Fronts.{front_more}
use Rattle.report_text.proofs.put_weights.put_shares.Goals as goal

pub loop-i-preserved : goal.loop-i-preserved
loop-i-preserved c =
    let l = c.loop-i in
    let x = share_of c.get.result in
    record {
      text = c.put_share.ensures.text ∙ ap (λ t. t ++ behind_blanks (share.words x)) l.invariant.text
          ∙ front_more share.words (decimal (length c.args.shares.now)) c.args.shares.now l.i x c.args.text.now c.get.ensures;
      room = omega (arith, c.put_share.ensures.room, l.invariant.room);
    }
