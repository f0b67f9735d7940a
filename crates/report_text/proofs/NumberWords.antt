-- The number at the front of a text as its first word.
-- Laws of texts; numbers are those of `shape_desk`, and where a text is split, `SplitWords` says.
use Rattle.std.proofs.Common.{◌≡◌, ◌≢◌, ℕ, ◌+◌, ◌-◌, ◌<◌, ℤ, FitsSigned, refl, sym, ap, ◌∙◌, arith, List, [], ◌∷◌, ◌++◌, length, get_or, take, drop, ◌⊎◌, inl}
use Rattle.std.proofs.Common.{inr, false, append-nil, length-append}
use Rattle.std.specs.Prelude.{◌==◌}
use Rattle.std.specs.Int.{w64}
use Rattle.std.specs.Fmt.{signed_decimal}
use Rattle.std.specs.Char.{is_ascii_digit}
use Rattle.std.specs.List.{join_with_byte}
use Rattle.std.proofs.lemmas.List.{take_rest, take_all, take-append-drop, get_or-append-add, drop_more}
use Rattle.std.proofs.lemmas.List.Splits.{slice_split_at}
use Rattle.text_terms.specs.Forms.{IsWord}
use Rattle.text_terms.proofs.Words.{long_form}
use Rattle.shape_desk.specs.Number.{number_front, SpellsNumber}
use Rattle.shape_desk.proofs.Numbers.{number_front-signed_decimal}
use Rattle.report_text.specs.Reading.{split_words, NoField}
use Rattle.report_text.proofs.SplitWords.{join-split_words, split_words-join, no_blanks}

-- behind the first word of a text there is nothing, or a blank
begins : (text w : List ℕ) (rest : List (List ℕ)) → split_words text ≡ w ∷ rest → (tail : List ℕ) × (text ≡ w ++ tail) × ((tail ≡ []) ⊎ (get_or tail 0 0 ≡ 32))
begins text w [] e = ([], sym (join-split_words text) ∙ ap (join_with_byte 32) e ∙ sym (append-nil w), inl refl)
begins text w (v ∷ ws) e = (32 ∷ join_with_byte 32 (v ∷ ws), sym (join-split_words text) ∙ ap (join_with_byte 32) e, inr refl)

no_digit : (tail : List ℕ) → (tail ≡ []) ⊎ (get_or tail 0 0 ≡ 32) → is_ascii_digit (get_or tail 0 0) ≡ false
no_digit tail (inl e) = ap (λ t. is_ascii_digit (get_or t 0 0)) e
no_digit tail (inr e) = ap is_ascii_digit e

-- a number that is the first word is the one at the front
front_of : (text : List ℕ) (z : ℤ) (rest : List (List ℕ)) → FitsSigned w64 z → split_words text ≡ signed_decimal z ∷ rest → number_front text ≡ signed_decimal z
front_of text z rest f e =
    let b = begins text (signed_decimal z) rest e in
    ap number_front b.1 ∙ number_front-signed_decimal z b.0 f (no_digit b.0 b.2)

-- where no number stands at the front, none is the first word
pub none_first : (text : List ℕ) → ((z : ℤ) → FitsSigned w64 z → number_front text ≢ signed_decimal z)
    → NoField (FitsSigned w64) (λ z. signed_decimal z ∷ []) (split_words text)
none_first text h z rest f e = h z f (front_of text z rest f e)

-- where something else than a blank follows the number at the front, none is the first word
pub longer_first : (text : List ℕ) (z : ℤ) (n : ℕ) → SpellsNumber text z n → n ≢ length text → get_or text n 0 ≢ 32
    → NoField (FitsSigned w64) (λ z. signed_decimal z ∷ []) (split_words text)
longer_first text z n s l b y rest f e =
    let w = signed_decimal y in
    let t = begins text w rest e in
    let k : n ≡ length w = s.len ∙ ap length (front_of text y rest f e) in
    elim t.2 [
      | inl nil ↦ l (k ∙ sym (ap length (t.1 ∙ ap (λ u. w ++ u) nil ∙ append-nil w)))
      | inr blank ↦
          let i : n ≡ length w + 0 = omega (arith, k) in
          b (ap (λ j. get_or text j 0) i ∙ ap (λ u. get_or u (length w + 0) 0) t.1 ∙ get_or-append-add w t.0 0 0 ∙ blank)
    ]

-- a text that is a number is one word
pub whole_number : (text : List ℕ) (z : ℤ) (n : ℕ) → SpellsNumber text z n → n ≡ length text → split_words text ≡ signed_decimal z ∷ []
whole_number text z n s l =
    let e : text ≡ signed_decimal z = sym (take_all n text (omega arith)) ∙ s.front ∙ s.spelling in
    ap split_words e ∙ split_words-join (signed_decimal z) [] (long_form.clean z s.fits)

-- a number that is not the whole text ends before its end
pub within : (text : List ℕ) (z : ℤ) (n : ℕ) → SpellsNumber text z n → n ≢ length text → n < length text
within text z n s d = omega (arith, s.len, ap length s.front, ap length (take-append-drop n text), length-append (take n text) (drop n text), d)

-- a number with a blank behind it is the first word, and the others are those behind the blank
pub number_first : (text : List ℕ) (z : ℤ) (n : ℕ) → SpellsNumber text z n → n ≢ length text → get_or text n 0 ≡ 32
    → split_words text ≡ signed_decimal z ∷ split_words (take (length text - (n + 1)) (drop (n + 1) text))
unfolding IsWord
number_first text z n s d b =
    let l = within text z n s d in
    let rest = drop (n + 1) text in
    let front : take n text ≡ signed_decimal z = s.front ∙ s.spelling in
    let e : text ≡ signed_decimal z ++ 32 ∷ rest =
    sym (take-append-drop n text) ∙ ap (λ t. t ++ drop n text) front ∙ ap (λ t. signed_decimal z ++ t) (drop_more text n 0 l ∙ ap (λ c. c ∷ rest) b) in
    ap split_words e
    ∙ slice_split_at (λ c. c == 32) (signed_decimal z) 32 rest (no_blanks (signed_decimal z) (long_form.clean z s.fits).0.1) refl
    ∙ ap (λ r. signed_decimal z ∷ split_words r) (sym (take_rest text (n + 1)))
