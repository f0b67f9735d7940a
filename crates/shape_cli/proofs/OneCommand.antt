-- Words spell one command at most, so what `run` says of the words is said of the command.
-- That no two first words are the same is found by computing, for all kinds of reports at once.
use Rattle.std.proofs.Common.{◌≡◌, ◌⊎◌, inl, inr, ℕ, ◌<◌, ◌≤◌, ◌^◌, List, [], ◌∷◌, ◌++◌, Some, get_or, refl, ap, sym, subst, ◌∙◌, arith}
use Rattle.std.specs.Prelude.{◌↔◌}
use Rattle.std.specs.Fmt.{decimal}
use Rattle.std.proofs.lemmas.Fmt.{decimal_injective}
use Rattle.shape_terms.specs.Thinning.{Rule}
use Rattle.shape_terms.specs.Shelves.{Named, names_of}
use Rattle.shape_desk.specs.Desk.{DeskState}
use Rattle.shape_cli.specs.Sources.{Kind, Source, HasSides, source_words, kind_word, most_trial_side}
use Rattle.shape_cli.specs.Kinds.{Wanted, kind_of, last_words}
use Rattle.shape_cli.specs.Commands.{Asked, First, first_of, first_word, words_of, begin_with, HasNumbers, AreTrial, IsInRange, IsNoForm, Asks, trial_words}
use Rattle.shape_cli.specs.Runs.{Ran}
use Rattle.shape_cli.specs.Complete.{HasRun}
use Rattle.shape_cli.specs.declared.outcome.Outcome.{Outcome}
use Rattle.shape_cli.specs.declared.outcome.Outcome.TheVariants as outcome
use Rattle.shape_cli.proofs.SourceWords.{same_source}

-- ---- first words

-- how words begin is found by their first
again : (f : First) → begin_with (first_word f) ≡ Some f
again f = grind arith

pub one_beginning : (f g : First) → first_word f ≡ first_word g → f ≡ g
one_beginning f g e = let s : Some f ≡ Some g = sym (again f) ∙ ap begin_with e ∙ again g in cc

pub same_beginning : (c d : Asked) → words_of c ≡ words_of d → first_of c ≡ first_of d
same_beginning c d e = let w : first_word (first_of c) ≡ first_word (first_of d) = cc in one_beginning (first_of c) (first_of d) w

-- ---- the words behind the first

-- what is wanted is told by the words behind those of the source
record SameWanted (s t : Source) (w v : Wanted) : Type 0 where
  source : s ≡ t
  wanted : w ≡ v

same_wanted : (s t : Source) (w v : Wanted) → kind_of w ≡ kind_of v → HasSides s → HasSides t → source_words s ++ last_words w ≡ source_words t ++ last_words v
    → SameWanted s t w v
same_wanted s t (Wanted.Analysis rule) (Wanted.Analysis rule') k h i e =
    let p = same_source s t (rule ∷ []) (rule' ∷ []) refl h i e in
    let n : rule ≡ rule' = (let l = p.rest in cc) in
    record { source = p.source; wanted = ap (λ r. Wanted.Analysis r) n }
same_wanted s t (Wanted.Further kind) (Wanted.Further other) k h i e =
    let n : kind ≡ other = cc in
    record { source = (same_source s t [] [] refl h i e).source; wanted = ap (λ x. Wanted.Further x) n }
same_wanted s t w v k h i e = absurd (let f = k in cc)

-- the words of trials tell them apart
same_kind : (k l : Kind) → kind_word k ≡ kind_word l → k ≡ l
same_kind Kind.Flat Kind.Flat e = refl
same_kind Kind.Solid Kind.Solid e = refl
same_kind Kind.Flat Kind.Solid e = absurd (let n = ap (λ (l : List ℕ). get_or l 0 0) e in omega arith)
same_kind Kind.Solid Kind.Flat e = absurd (let n = ap (λ (l : List ℕ). get_or l 0 0) e in omega arith)

few_sides : (kind : Kind) (side : ℕ) → side ≤ most_trial_side kind → side < 2 ^ 64
few_sides Kind.Flat side l = omega arith
few_sides Kind.Solid side l = omega arith

same_trial : (k l : Kind) (a b c d : ℕ) → AreTrial k a b → AreTrial l c d → trial_words k a b ≡ trial_words l c d → Asked.Trial k a b ≡ Asked.Trial l c d
same_trial k l a b c d h i e =
    let kinds : kind_word k ≡ kind_word l = cc in
    let seeds : decimal a ≡ decimal c = cc in
    let sides : decimal b ≡ decimal d = cc in
    let s = decimal_injective a c (omega (arith, h.seed_fits)) (omega (arith, i.seed_fits)) seeds in
    let t = decimal_injective b d (few_sides k b h.most) (few_sides l d i.most) sides in
    rw (same_kind k l kinds, s, t) refl

-- ---- commands

pub one : (c d : Asked) → HasNumbers c → HasNumbers d → words_of c ≡ words_of d → c ≡ d
one (Asked.Make s w) (Asked.Make t v) h k e =
    let b = same_beginning (Asked.Make s w) (Asked.Make t v) e in
    let kinds : kind_of w ≡ kind_of v = cc in
    let rest : source_words s ++ last_words w ≡ source_words t ++ last_words v = cc in
    let p = same_wanted s t w v kinds h k rest in
    rw (p.source, p.wanted) refl
one (Asked.Check s kind report) (Asked.Check t kind' report') h k e =
    let b = same_beginning (Asked.Check s kind report) (Asked.Check t kind' report') e in
    let kinds : kind ≡ kind' = cc in
    let rest : source_words s ++ report ∷ [] ≡ source_words t ++ report' ∷ [] = cc in
    let p = same_source s t (report ∷ []) (report' ∷ []) refl h k rest in
    let n : report ≡ report' = (let l = p.rest in cc) in
    rw (p.source, kinds, n) refl
one (Asked.Trial k a b) (Asked.Trial l x y) h i e = let rest : trial_words k a b ≡ trial_words l x y = cc in same_trial k l a b x y h i rest
one c d h k e = absurd (let b = same_beginning c d e in cc)

-- the numbers of a command in range
pub numbers_in_range : (names : List (List ℕ)) (c : Asked) → IsInRange names c → HasNumbers c
numbers_in_range names (Asked.Make source wanted) i = i.0
numbers_in_range names (Asked.Check source kind report) i = i.0
numbers_in_range names (Asked.Trial kind seed side) i = i

pub ran : (shelf : List (Named Rule)) (words : List (List ℕ)) (old new : DeskState) (o : Outcome) (c : Asked) → HasRun shelf words old new o
    → IsInRange (names_of shelf) c → words ≡ words_of c → Ran shelf c old new o
ran shelf words old new o c h i e = by_form h.ran
  where
    by_form : Asks (names_of shelf) words (λ d. Ran shelf d old new o) ⊎ IsNoForm (names_of shelf) words → Ran shelf c old new o
    by_form (inl a) = subst (λ d. Ran shelf d old new o)
        (one a.command c (numbers_in_range (names_of shelf) a.command a.in_range) (numbers_in_range (names_of shelf) c i) (sym a.spelled ∙ e)) a.holds
    by_form (inr n) = absurd (n c i e)

-- a command that was run is a form, and its outcome is not `Usage`
pub form_run : (shelf : List (Named Rule)) (names words : List (List ℕ)) (old new : DeskState) (o : Outcome) → Asks names words (λ c. Ran shelf c old new o)
    → (o ≡ outcome.Usage) ↔ IsNoForm names words
form_run shelf names words old new o a = (λ e. absurd (subst (Ran shelf a.command old new) e a.holds), λ n. absurd (n a.command a.in_range a.spelled))
