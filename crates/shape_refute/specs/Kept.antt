-- Lists of at most four entries, kept in four places: the places past the last entry hold none.
-- What is seen of the places gives them back; a further kind of entry brings its own way back.
use Rattle.std.specs.Prelude.{◌≡◌, ◌≤◌, ◌++◌, ◌-◌, ℕ, List, [], ◌∷◌, length, map, take, drop, replicate, refl}
use Rattle.std.proofs.Common.{sym, ap, subst, ◌∙◌, take-append-drop, length-take-le}
use Rattle.std.proofs.lemmas.List.{length-map}
use Rattle.shape_terms.specs.Refutations.{Share as Weighed, Step as Shift, StepShare as WeighedStep}
use Rattle.shape_refute.specs.declared.share.Share.{Share}
use Rattle.shape_refute.specs.declared.share.Step.{Step}
use Rattle.shape_refute.specs.declared.share.StepShare.{StepShare}
use Rattle.shape_refute.specs.declared.share.Step.TheVariants.{Up, Plus, Minus}
use Rattle.shape_refute.specs.Shown.{shift_of, step_share_of}

-- ---- single entries

abbrev pub kept_share : Weighed → Share
kept_share s = record { weight = s.weight; place = s.place }

abbrev pub kept_step : Shift → Step
kept_step Shift.Up = Up
kept_step (Shift.Plus u) = Plus u
kept_step (Shift.Minus u) = Minus u

abbrev pub kept_step_share : WeighedStep → StepShare
kept_step_share s = record { weight = s.weight; step = kept_step s.step }

abbrev pub no_share : Share
no_share = record { weight = 0; place = 0 }

abbrev pub no_step_share : StepShare
no_step_share = record { weight = 0; step = Up }

-- ---- four places

-- the four places where a list is kept
abbrev pub four_places : {X Y : Type 0} → (Y → X) → X → List Y → List X
four_places back none seen = map back seen ++ replicate (4 - length seen) none

mapped_back : {X Y : Type 0} (see : X → Y) (back : Y → X) → ((x : X) → back (see x) ≡ x) → (xs : List X) → map back (map see xs) ≡ xs
mapped_back see back h [] = refl
mapped_back see back h (x ∷ xs) = λ i. h x i ∷ mapped_back see back h xs i

-- as many entries are seen as are counted
pub recounted : {X Y : Type 0} (see : X → Y) (xs : List X) (n : ℕ) → n ≤ 4 → length xs ≡ 4 → length (map see (take n xs)) ≡ n
recounted see xs n h l = length-map (take n xs) see ∙ length-take-le n xs (subst (λ k. n ≤ k) (sym l) h)

-- the places are those where what is seen of them is kept
pub refilled : {X Y : Type 0} (see : X → Y) (back : Y → X) → ((x : X) → back (see x) ≡ x) → (none : X) (xs : List X) (n : ℕ) → n ≤ 4 → length xs ≡ 4
    → drop n xs ≡ replicate (4 - n) none
    → four_places back none (map see (take n xs)) ≡ xs
refilled see back h none xs n few l e =
    ap (λ k. map back (map see (take n xs)) ++ replicate (4 - k) none) (recounted see xs n few l)
    ∙ ap (λ ys. ys ++ replicate (4 - n) none) (mapped_back see back h (take n xs))
    ∙ ap (λ ys. take n xs ++ ys) (sym e)
    ∙ take-append-drop n xs

same_step : (s : Step) → kept_step (shift_of s) ≡ s
same_step Up = refl
same_step (Plus u) = refl
same_step (Minus u) = refl

pub same_step_share : (s : StepShare) → kept_step_share (step_share_of s) ≡ s
same_step_share s = λ i. record { weight = s.weight; step = same_step s.step i }
