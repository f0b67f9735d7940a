-- The forms of one word that the reports of pictures have beside those of all texts are forms: numbers of reports and senses.
-- A further form of one word brings its five facts here.
use Rattle.std.proofs.Common.{◌≡◌, ◌-◌, ◌≤◌, ℕ, true, [], ◌∷◌, length, get_or, refl, arith, lit<}
use Rattle.std.specs.Prelude.{nat_le}
use Rattle.std.proofs.lemmas.Bool.{and_parts, and_from}
use Rattle.std.proofs.lemmas.Bool.Decides.{nat_tests}
use Rattle.shape_terms.specs.Patches.{Sense}
use Rattle.report_terms.specs.Forms.{IsNumber, is_number, digit, last_number, number, sense_word, sense_value, sign}
use Rattle.text_terms.specs.Forms.{IsWord, IsForm}
use Rattle.text_terms.proofs.FormLaws.{one_form}

-- ---- numbers of reports

word_digit : (n : ℕ) → IsWord (digit n ∷ [])
unfolding IsWord
word_digit n = (omega arith, (omega arith, tt))

pub number_form : (d : ℕ) → IsForm (number d)
number_form d = one_form (IsNumber d) (is_number d) (λ n. digit n ∷ []) (λ w. get_or w 0 0 - 48) 1 (record {
  passes = λ n a. and_from (nat_le 1 n) (nat_le n (last_number d)) (grind (arith, nat_tests, a.0)) (grind (arith, nat_tests, a.1));
  ranges = λ n e. (let p = and_parts (nat_le 1 n) (nat_le n (last_number d)) e in (grind (arith, nat_tests, p.0), grind (arith, nat_tests, p.1)));
  guesses = λ n a. omega arith;
  word = λ n a. word_digit n;
  few = λ n a. omega arith;
})

-- ---- senses

pub sign_form : IsForm sign
unfolding IsWord
sign_form = one_form (λ s. Unit {0}) (λ s. true) sense_word sense_value 1
    (record { passes = λ s a. refl; ranges = λ s e. tt; guesses = λ s a. guesses s; word = λ s a. word s; few = λ s a. few s })
  where
    guesses : (s : Sense) → sense_value (sense_word s) ≡ s
    guesses Sense.Down = refl
    guesses Sense.Upward = refl

    word : (s : Sense) → IsWord (sense_word s)
    word Sense.Down = (lit< tt, (lit< tt, tt))
    word Sense.Upward = (lit< tt, (lit< tt, tt))

    few : (s : Sense) → length (sense_word s) ≤ 1
    few Sense.Down = omega arith
    few Sense.Upward = omega arith
