-- Numbers put behind blanks, one after another.
-- Laws of lists of whole numbers.
use Rattle.std.proofs.Common.{◌≡◌, ℕ, ℤ, pos, ◌+◌, ◌<◌, List, [], ◌∷◌, ◌++◌, length, take, get_or, sym, ap, ◌∙◌, append_assoc, append-nil, add-one}
use Rattle.std.specs.Prelude.{flat_map}
use Rattle.std.specs.Fmt.{signed_decimal}
use Rattle.std.proofs.Math.Seq.{take-suc}
use Rattle.std.proofs.lemmas.Grind.{flat_map-append}
use Rattle.report_text.specs.Spelling.{behind_blanks}

-- the words of numbers
abbrev pub number_words : List ℤ → List (List ℕ)
number_words zs = flat_map (λ z. signed_decimal z ∷ []) zs

-- with one more, the first k + 1 numbers stand behind blanks
pub one_behind : (old before after : List ℕ) (zs : List ℤ) (k : ℕ) → k < length zs → before ≡ old ++ behind_blanks (number_words (take k zs))
    → after ≡ before ++ 32 ∷ signed_decimal (get_or zs k (pos 0)) → after ≡ old ++ behind_blanks (number_words (take (k + 1) zs))
one_behind old before after zs k h b a =
    let z = get_or zs k (pos 0) in
    let w = 32 ∷ signed_decimal z in
    let t = number_words (take k zs) in
    let grown : behind_blanks (number_words (take (k + 1) zs)) ≡ behind_blanks t ++ w =
    rw (add-one, take-suc zs k (pos 0) h)
    (ap behind_blanks (flat_map-append (λ z. signed_decimal z ∷ []) (take k zs) (z ∷ [])) ∙ flat_map-append (λ v. 32 ∷ v) t (signed_decimal z ∷ [])
    ∙ ap (λ u. behind_blanks t ++ u) (append-nil w)) in
    a ∙ ap (λ u. u ++ w) b ∙ append_assoc old (behind_blanks t) w ∙ ap (λ u. old ++ u) (sym grown)
