use Rattle.std.proofs.Common.{subst, arith, ap, sym, ◌∙◌, [], ◌∷◌}
use Rattle.report_lines.specs.Made.{exactly}
use Rattle.report_lines.specs.Runs.{Ran}
use Rattle.masking.specs.Masks.{mask_bytes}
use Rattle.masking.proofs.CommandWords.{two_words}
use Rattle.masking.proofs.top.run.Goals as goal

pub returns-in-Some-clause-usage : goal.returns-in-Some-clause-usage
returns-in-Some-clause-usage g c =
    let s = g.D.Desk.state in
    let words = two_words c.args.words.now c.word-item.result c.name-item.result c.in-len2.len_at_least (omega (arith, c.in-len2.len_below)) c.word-item.is
    c.name-item.is in
    let word = sym c.as_slice.ensures.value ∙ c.in-Some.ensures in (
      λ e mask name t. subst (Ran (exactly (mask_bytes c.in-Some.mask)) c.as_slice-in-Some.result.now (s c.args.desk.now) (s c.run_named.new.desk)) e
          c.run_named.ensures.ran,
      λ none. absurd (none c.in-Some.mask c.name-item.result.items (words ∙ ap (λ x. x ∷ c.name-item.result.items ∷ []) word)),
    )
