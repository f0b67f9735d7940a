-- The weights that refute a run are a form: their steps bring the five facts of one word, and the rest follows.
-- A further kind of step is one more clause of each.
use Rattle.std.proofs.Common.{◌≡◌, ◌≤◌, ℕ, true, length, refl, ap, arith, lit<}
use Rattle.std.proofs.lemmas.Bool.{ltb-true, lt-ltb}
use Rattle.shape_terms.specs.Refutations.{Step, IsStepOf}
use Rattle.text_terms.specs.Forms.{IsWord, IsForm, ◌⨾◌, counted}
use Rattle.text_terms.specs.Fields.{count, weight}
use Rattle.text_terms.specs.Weights.{step_word, IsStepIn, step, step_value, is_step_in, share, step_share, why}
use Rattle.text_terms.proofs.FieldLaws.{count_form, weight_form, few_form}
use Rattle.text_terms.proofs.FormLaws.{one_form, both_form, shaped_form}

-- ---- steps

word_step : (s : Step) → IsWord (step_word s)
unfolding IsWord
word_step Step.Up = (lit< tt, (lit< tt, (lit< tt, tt)))
word_step (Step.Plus u) = (omega arith, (omega arith, (omega arith, (omega arith, (omega arith, tt)))))
word_step (Step.Minus u) = (omega arith, (omega arith, (omega arith, (omega arith, (omega arith, tt)))))

pub step_form : (d : ℕ) → IsForm (step d)
step_form d = one_form (IsStepIn d) (is_step_in d) step_word step_value 4
    (record { passes = passes; ranges = ranges; guesses = λ s a. guesses s; word = λ s a. word_step s; few = λ s a. few s })
  where
    passes : (s : Step) → IsStepIn d s → is_step_in d s ≡ true
    passes Step.Up a = refl
    passes (Step.Plus u) a = lt-ltb u d a
    passes (Step.Minus u) a = lt-ltb u d a

    ranges : (s : Step) → is_step_in d s ≡ true → IsStepIn d s
    ranges Step.Up e = tt
    ranges (Step.Plus u) e = ltb-true u d e
    ranges (Step.Minus u) e = ltb-true u d e

    guesses : (s : Step) → step_value (step_word s) ≡ s
    guesses Step.Up = refl
    guesses (Step.Plus u) = ap Step.Plus (omega arith)
    guesses (Step.Minus u) = ap Step.Minus (omega arith)

    few : (s : Step) → length (step_word s) ≤ 4
    few Step.Up = omega arith
    few (Step.Plus u) = omega arith
    few (Step.Minus u) = omega arith

-- a step of an axis names one of the axes, if any
pub step_in : (d t : ℕ) (s : Step) → IsStepOf d t s → IsStepIn d s
step_in d t Step.Up h = tt
step_in d t (Step.Plus u) h = h.0
step_in d t (Step.Minus u) h = h.0

-- ---- weights

pub share_form : IsForm share
share_form = shaped_form _ _ (weight ⨾ count) (λ a. refl) (λ b. refl) (both_form _ _ weight_form count_form)

pub step_share_form : (d : ℕ) → IsForm (step_share d)
step_share_form d = shaped_form _ _ (weight ⨾ step d) (λ a. refl) (λ b. refl) (both_form _ _ weight_form (step_form d))

pub why_form : (d : ℕ) → IsForm (why d)
why_form d = shaped_form _ _ (counted 4 share ⨾ counted 4 share ⨾ counted 4 (step_share d)) (λ a. refl) (λ b. refl)
    (both_form _ _ (few_form share share_form) (both_form _ _ (few_form share share_form) (few_form (step_share d) (step_share_form d))))
