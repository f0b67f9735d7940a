-- What the program reads of the words: the one command that they spell, or that they spell none.
-- Laws of words and of what is read of them, part by part.
use Rattle.std.proofs.Common.{◌≡◌, ℕ, List, [], ◌∷◌, ◌++◌, Option, None, Some, Bool, true, false, refl, ap, sym, subst, ◌∙◌}
use Rattle.std.proofs.lemmas.Bool.{false≢true}
use Rattle.std.specs.Prelude.{◌↔◌, Contains, IsTrue, MatchOption, is_some, not, slice_get}
use Rattle.std.proofs.lemmas.Option.{slice_get_within, get_or_from_slice_get}
use Rattle.shape_terms.specs.Thinning.{Rule}
use Rattle.shape_terms.specs.Shelves.{Named, names_of}
use Rattle.shape_desk.specs.Desk.{DeskState}
use Rattle.shape_cli.specs.Sources.{Source, HasSides, kind_at, source_words}
use Rattle.shape_cli.specs.Kinds.{ReportKind, Wanted, Takes, IsNamed, IsFound, read_wanted}
use Rattle.shape_cli.specs.Commands.{Asked, First, first_of, first_word, words_of, rest_of, IsInRange, IsNoForm, IsNoRest, IsRead, IsAtHand, Asks, read_command}
use Rattle.shape_cli.specs.Runs.{Ran}
use Rattle.shape_cli.specs.declared.command.Command.{Command}
use Rattle.shape_cli.specs.declared.command.Command.TheVariants as command
use Rattle.shape_cli.specs.declared.kind.Wanted.{Wanted as ProgramWanted}
use Rattle.shape_cli.specs.declared.kind.Wanted.TheVariants as wanted
use Rattle.shape_cli.specs.declared.outcome.Outcome.{Outcome}
use Rattle.shape_cli.proofs.WordLists.{same_ends}
use Rattle.shape_cli.proofs.SideWords.{program_sides}
use Rattle.shape_cli.proofs.OneCommand.{one_beginning}

-- what is read of words that begin so is what is read of the words behind the first
pub begun : (names words : List (List ℕ)) (word : List ℕ) (rest : List (List ℕ)) (f : First) (r : Option Command) → words ≡ word ∷ rest → word ≡ first_word f
    → MatchOption r (IsNoRest names f rest) (IsRead names f rest)
    → MatchOption r (IsNoForm names words) (λ c. (words ≡ words_of (read_command c)) × IsAtHand names c)
begun names words word rest f None w b n = λ c i e.
    let h : word ∷ rest ≡ first_word (first_of c) ∷ rest_of c = sym w ∙ e in
    let g : first_word (first_of c) ≡ first_word f = cc in
    n c i (one_beginning (first_of c) f g) cc
begun names words word rest f (Some c) w b h = (w ∙ ap (λ x. x ∷ rest) b ∙ rw (h.begins, h.spelled) refl, h.at_hand)

-- ---- the words behind the first

-- an analysis is told by its source and its rule
analysis_by : (names rest : List (List ℕ))
    → ((s : Source) (rule : List ℕ) → HasSides s → Takes ReportKind.Analysis (kind_at s) → Contains names rule → rest ≡ source_words s ++ rule ∷ [] → ⊥)
    → IsNoRest names (First.Make ReportKind.Analysis) rest
analysis_by names rest n (Asked.Make s (Wanted.Analysis rule)) i b e = n s rule i.0 i.1 i.2 e
analysis_by names rest n c i b e = absurd (let f = b in cc)

-- a last word that names no rule
pub analysis_by_none : (names rest at : List (List ℕ)) (last : List ℕ) → rest ≡ at ++ last ∷ [] → (Contains names last → ⊥)
    → IsNoRest names (First.Make ReportKind.Analysis) rest
analysis_by_none names rest at last w n =
    analysis_by names rest (λ s rule h t m e. n (subst (Contains names) (sym (same_ends at (source_words s) last rule (sym w ∙ e)).last) m))

-- ---- what was read is in range

-- a name at a place is one of the names
named_at : (names : List (List ℕ)) (i : ℕ) (rule : List ℕ) → slice_get names i ≡ Some rule → Contains names rule
named_at names i rule there = (i, slice_get_within names i rule there, get_or_from_slice_get names i rule rule there)

named : (names : List (List ℕ)) (w : ProgramWanted) → IsFound names w → IsNamed names (read_wanted w)
named names (wanted.Analysis rule which) f = named_at names which rule.now f
named names (wanted.Further kind) f = tt

in_range : (names : List (List ℕ)) (c : Command) → IsAtHand names c → IsInRange names (read_command c)
in_range names (command.Make source wanted) h = (program_sides source, h.0, named names wanted h.1)
in_range names (command.Check source kind report) h = (program_sides source, h)
in_range names (command.Trial kind seed side) h = h

-- nothing is read of words exactly where they are of no form
pub judged : (names words : List (List ℕ)) (r : Option Command) (b : Bool) → is_some r ≡ not b
    → MatchOption r (IsNoForm names words) (λ c. (words ≡ words_of (read_command c)) × IsAtHand names c) → IsTrue b ↔ IsNoForm names words
judged names words None true e n = (λ t. n, λ m. refl)
judged names words None false e n = absurd (false≢true e)
judged names words (Some c) true e h = absurd (false≢true (sym e))
judged names words (Some c) false e h = (λ t. absurd (false≢true t), λ n. absurd (n (read_command c) (in_range names c h.1) h.0))

-- the words of a command that was run
pub asked : (shelf : List (Named Rule)) (names words : List (List ℕ)) (c : Command) (old new : DeskState) (o : Outcome) → names_of shelf ≡ names
    → words ≡ words_of (read_command c) → IsAtHand names c → Ran shelf (read_command c) old new o → Asks (names_of shelf) words (λ d. Ran shelf d old new o)
asked shelf names words c old new o e spelled h r = record {
  command = read_command c;
  in_range = subst (λ ns. IsInRange ns (read_command c)) (sym e) (in_range names c h);
  spelled = spelled;
  holds = r;
}
