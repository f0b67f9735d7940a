-- The weights that refute a run, as fields of a line: places and steps with their weights.
-- What weights show is no matter here.
use Rattle.std.specs.Prelude.{◌==◌, ◌<◌, ◌-◌, ℕ, Bool, true, nat_lt, if◌then◌else◌, List, [], ◌∷◌, ◌++◌, get_or, codes}
use Rattle.shape_terms.specs.Refutations.{Share, StepShare, Step, Refutation}
use Rattle.shape_terms.specs.Refutations.Step.{Up, Plus, Minus}
use Rattle.text_terms.specs.Forms.{Form, one_word, axis_letter, ◌⨾◌, counted, shaped}
use Rattle.text_terms.specs.Fields.{count, weight}

-- ---- steps

-- the word of a step, and the step that is guessed of a word
abbrev pub step_word : Step → List ℕ
step_word Up = codes "up"
step_word (Plus u) = codes "up+" ++ axis_letter u ∷ []
step_word (Minus u) = codes "up-" ++ axis_letter u ∷ []

abbrev pub step_value : List ℕ → Step
step_value w = if get_or w 2 0 == 43 then Plus (get_or w 3 0 - 120) else (if get_or w 2 0 == 45 then Minus (get_or w 3 0 - 120) else Up)

-- the step names one of d axes, if any
abbrev pub IsStepIn : ℕ → Step → Type 0
IsStepIn d Up = Unit {0}
IsStepIn d (Plus u) = u < d
IsStepIn d (Minus u) = u < d

abbrev pub is_step_in : ℕ → Step → Bool
is_step_in d Up = true
is_step_in d (Plus u) = nat_lt u d
is_step_in d (Minus u) = nat_lt u d

abbrev pub step : ℕ → Form Step
step d = one_word (IsStepIn d) (is_step_in d) step_word step_value 4

-- ---- weights

-- a place with its weight before it
abbrev pub share : Form Share
share = shaped (λ p. record { weight = p.0; place = p.1 }) (λ s. (s.weight, s.place)) (weight ⨾ count)

-- a step along one of d axes with its weight before it
abbrev pub step_share : ℕ → Form StepShare
step_share d = shaped (λ p. record { weight = p.0; step = p.1 }) (λ s. (s.weight, s.step)) (weight ⨾ step d)

-- weights of at most four places on each side and of four steps
abbrev pub why : ℕ → Form Refutation
why d = shaped (λ p. record { low = p.0; high = p.1.0; steps = p.1.1 }) (λ r. (r.low, (r.high, r.steps)))
    (counted 4 share ⨾ counted 4 share ⨾ counted 4 (step_share d))
