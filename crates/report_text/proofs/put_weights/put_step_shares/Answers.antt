use Rattle.std.proofs.Common.{◌∙◌, ◌++◌, ap, arith, length}
use Rattle.std.specs.Fmt.{decimal}
use Rattle.shape_refute.specs.Shown.{step_share_of}
use Rattle.text_terms.specs.Weights.{step_share}
use Rattle.report_text.specs.Spelling.{behind_blanks}
use Rattle.report_text.proofs.Fronts.{front_more}
use Rattle.report_text.proofs.put_weights.put_step_shares.Goals as goal

pub loop-i-preserved : goal.loop-i-preserved
loop-i-preserved c =
    let l = c.loop-i in
    let x = step_share_of c.get.result in
    record {
      text = c.put_step_share.ensures.text ∙ ap (λ t. t ++ behind_blanks ((step_share 3).words x)) l.invariant.text
          ∙ front_more (step_share 3).words (decimal (length c.args.shares.now)) c.args.shares.now l.i x c.args.text.now c.get.ensures;
      room = omega (arith, c.put_step_share.ensures.room, l.invariant.room);
    }
