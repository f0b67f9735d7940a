use Rattle.std.proofs.Common.{◌<◌, ◌∙◌, ap, sym, subst}
use Rattle.std.proofs.lemmas.List.{take-map, get_or-map, length-map}
use Rattle.std.specs.Option.{option_map}
use Rattle.shape_desk.specs.Files.{texts}
use Rattle.shape.specs.Slips.{own_behind}
use Rattle.shape.proofs.SlipSteps.{slip_found, slip_passed}
use Rattle.shape.proofs.slip.slip_in.Goals as goal

pub returns-in-Some : goal.returns-in-Some
returns-in-Some c =
    let words = c.args.words.now in
    let i = c.loop-i.i in
    slip_found (texts words) i (subst (λ n. i < n) (sym (length-map words (λ w. w.items))) c.loop-i-test.true)
    c.behind.result (c.behind.ensures ∙ ap own_behind (sym (take-map (λ w. w.items) i words))) _ c.texts.ensures c.as_slice-word.result.now
    (c.as_slice-word.ensures.value ∙ (ap (λ w. w.items) c.index-words-i.is ∙ sym (get_or-map (λ w. w.items) words i c.index-words-i.result _
    c.loop-i-test.true)))
    _ c.in_ok-nearest.ensures c.loop-i.invariant c.in-Some.nearest.now (ap (option_map (λ form. form.now)) c.in-Some.is)

pub loop-i-preserved : goal.loop-i-preserved
loop-i-preserved c =
    let words = c.args.words.now in
    let i = c.loop-i.i in
    slip_passed (texts words) i (subst (λ n. i < n) (sym (length-map words (λ w. w.items))) c.loop-i-test.true)
    c.behind.result (c.behind.ensures ∙ ap own_behind (sym (take-map (λ w. w.items) i words))) _ c.texts.ensures c.as_slice-word.result.now
    (c.as_slice-word.ensures.value ∙ (ap (λ w. w.items) c.index-words-i.is ∙ sym (get_or-map (λ w. w.items) words i c.index-words-i.result _
    c.loop-i-test.true)))
    _ c.in_ok-nearest.ensures c.loop-i.invariant (ap (option_map (λ form. form.now)) c.in_default.is)
