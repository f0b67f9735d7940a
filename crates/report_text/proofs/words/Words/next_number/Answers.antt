use Rattle.std.proofs.Common.{◌≡◌, [], None, Some, ap, sym, ◌∙◌, ◌+◌, ◌-◌, take, drop, length}
use Rattle.std.proofs.Math.Facts.{to_z-of_z}
use Rattle.std.specs.Int.{w64}
use Rattle.text_terms.specs.Forms.{signed}
use Rattle.text_terms.proofs.Words.{long_form}
use Rattle.report_text.specs.Reading.{split_words, words_left}
use Rattle.report_text.proofs.FormReads.{as_form}
use Rattle.report_text.proofs.NumberWords.{none_first, longer_first, whole_number, number_first, within}
use Rattle.report_text.proofs.words.Words.next_number.Goals as goal

pub returns-in_err-value : goal.returns-in_err-value
returns-in_err-value c =
    let text = c.in_ok-text.text.now in
    let is : c.args.self.now ≡ split_words text = sym c.self.view_is ∙ ap words_left c.in_ok-text.was in
    rw (c.from_residual-in_err-value.ensures, is)
    (as_form (λ z. z) (signed w64 63) long_form (split_words text) (split_words text) None (none_first text c.in_err-value.ensures))

pub returns-then-len-text : goal.returns-then-len-text
returns-then-len-text c =
    let text = c.in_ok-text.text.now in
    let s = c.in_ok-value.ensures in
    let z = c.in_ok-value.value in
    let is : c.args.self.now ≡ split_words text = sym c.self.view_is ∙ ap words_left c.in_ok-text.was in
    rw (to_z-of_z s.fits)
    (as_form (λ z. z) (signed w64 63) long_form c.args.self.now [] (Some z)
    (record { range = s.fits; split = is ∙ whole_number text z c.in_ok-value.len s c.if-len-text.true }))

pub returns-then-text-len-ne32 : goal.returns-then-text-len-ne32
returns-then-text-len-ne32 c =
    let text = c.in_ok-text.text.now in
    let is : c.args.self.now ≡ split_words text = sym c.self.view_is ∙ ap words_left c.in_ok-text.was in
    rw is (as_form (λ z. z) (signed w64 63) long_form (split_words text) (split_words text) None
    (longer_first text c.in_ok-value.value c.in_ok-value.len c.in_ok-value.ensures c.if-len-text.false c.if-text-len-ne32.true))

pub returns : goal.returns
returns c =
    let text = c.in_ok-text.text.now in
    let s = c.in_ok-value.ensures in
    let z = c.in_ok-value.value in
    let n = c.in_ok-value.len in
    let left = split_words (take (length text - (n + 1)) (drop (n + 1) text)) in
    let is : c.args.self.now ≡ split_words text = sym c.self.view_is ∙ ap words_left c.in_ok-text.was in
    rw (to_z-of_z s.fits)
    (as_form (λ z. z) (signed w64 63) long_form c.args.self.now left (Some z)
    (record { range = s.fits; split = is ∙ number_first text z n s c.if-len-text.false c.if-text-len-ne32.false }))

pub bounds-text-len : goal.bounds-text-len
bounds-text-len c = within c.in_ok-text.text.now c.in_ok-value.value c.in_ok-value.len c.in_ok-value.ensures c.if-len-text.false
