-- The commands of the program and their words: what is asked for, times where the picture is read.
-- There are three commands for ever; which kinds of reports there are stands in `Kinds`.
use Rattle.std.specs.Prelude.{◌≡◌, ◌++◌, ◌<◌, ◌≤◌, ◌^◌, ℕ, List, [], ◌∷◌, codes, flat_map, Option, ⊤}
use Rattle.std.specs.Fmt.{decimal}
use Rattle.text_terms.specs.Tables.{kind_among}
use Rattle.shape_cli.specs.Sources.{Kind, Source, kind_at, kind_word, HasSides, source_words, most_trial_side, read_kind, read_source}
use Rattle.shape_cli.specs.Further.{further_kinds}
use Rattle.shape_cli.specs.Kinds.{ReportKind, Wanted, kind_of, make_word, check_word, last_words, IsNamed, Takes, read_report_kind, read_wanted, IsFound}
use Rattle.shape_cli.specs.declared.command.First.{First as ProgramFirst}
use Rattle.shape_cli.specs.declared.command.First.TheVariants as first
use Rattle.shape_cli.specs.declared.command.Command.{Command}
use Rattle.shape_cli.specs.declared.command.Command.TheVariants as command

-- a command: the making of a report of a picture, the check of a report of it, or the trial of a picture that is made from a seed
pub data Asked : Type 0 where
  Make : (source : Source) → (wanted : Wanted) → Asked
  Check : (source : Source) → (kind : ReportKind) → (report : List ℕ) → Asked
  Trial : (kind : Kind) → (seed side : ℕ) → Asked

-- the command reads a picture at a source that is so
abbrev pub OfSource : Asked → (Source → Type 0) → Type 0
OfSource (Asked.Make source wanted) P = P source
OfSource (Asked.Check source kind report) P = P source
OfSource (Asked.Trial kind seed side) P = ⊥

-- the source of the command is so, where it reads its picture
abbrev pub IfSource : Asked → (Source → Type 0) → Type 0
IfSource (Asked.Make source wanted) P = P source
IfSource (Asked.Check source kind report) P = P source
IfSource (Asked.Trial kind seed side) P = ⊤

-- ---- words

-- how the words begin: a report of a kind is asked for, or its check, or a trial
pub data First : Type 0 where
  Make Check : (kind : ReportKind) → First
  Trial : First

-- how the words of a command begin
abbrev pub first_of : Asked → First
first_of (Asked.Make source wanted) = First.Make (kind_of wanted)
first_of (Asked.Check source kind report) = First.Check kind
first_of (Asked.Trial kind seed side) = First.Trial

-- the first word
abbrev pub first_word : First → List ℕ
first_word (First.Make kind) = make_word kind
first_word (First.Check kind) = check_word kind
first_word First.Trial = codes "trial"

-- the words of a trial behind its first
abbrev pub trial_words : Kind → (seed side : ℕ) → List (List ℕ)
trial_words kind seed side = kind_word kind ∷ decimal seed ∷ decimal side ∷ []

-- the words behind the first
abbrev pub rest_of : Asked → List (List ℕ)
rest_of (Asked.Make source wanted) = source_words source ++ last_words wanted
rest_of (Asked.Check source kind report) = source_words source ++ report ∷ []
rest_of (Asked.Trial kind seed side) = trial_words kind seed side

-- the one spelling of a command
abbrev pub words_of : Asked → List (List ℕ)
words_of c = first_word (first_of c) ∷ rest_of c

-- ---- ranges

-- the numbers of a trial: a seed of 32 bits, and a side of the kind
pub record AreTrial (kind : Kind) (seed side : ℕ) : Type 0 where
  pub seed_fits : seed < 2 ^ 32
  pub some : 1 ≤ side
  pub most : side ≤ most_trial_side kind

-- the numbers of a command are in range
abbrev pub HasNumbers : Asked → Type 0
HasNumbers (Asked.Make source wanted) = HasSides source
HasNumbers (Asked.Check source kind report) = HasSides source
HasNumbers (Asked.Trial kind seed side) = AreTrial kind seed side

-- its numbers are in range, there are reports of its kind about such pictures, and its rule is one of these names
abbrev pub IsInRange : List (List ℕ) → Asked → Type 0
IsInRange names (Asked.Make source wanted) = HasSides source × Takes (kind_of wanted) (kind_at source) × IsNamed names wanted
IsInRange names (Asked.Check source kind report) = HasSides source × Takes kind (kind_at source)
IsInRange names (Asked.Trial kind seed side) = AreTrial kind seed side

-- the words spell no command
abbrev pub IsNoForm : (names words : List (List ℕ)) → Type 0
IsNoForm names words = (c : Asked) → IsInRange names c → words ≡ words_of c → ⊥

-- the words spell a command of which something holds
pub record Asks (names words : List (List ℕ)) (P : Asked → Type 0) : Type 0 where
  pub command : Asked
  pub in_range : IsInRange names command
  pub spelled : words ≡ words_of command
  pub holds : P command

-- ---- the program's own

-- how words for a further kind begin
abbrev pub further_firsts : List First
further_firsts = flat_map (λ kind. First.Make (ReportKind.Further kind) ∷ First.Check (ReportKind.Further kind) ∷ []) further_kinds

-- how words with this first word begin, where it is that of a further kind
abbrev pub begin_further : List ℕ → Option First
begin_further word = kind_among first_word further_firsts word

-- how words with this first word begin
abbrev pub begin_with : List ℕ → Option First
begin_with word = kind_among first_word (First.Make ReportKind.Analysis ∷ First.Check ReportKind.Analysis ∷ First.Trial ∷ further_firsts) word

-- the beginning that the program reads
abbrev pub read_first : ProgramFirst → First
read_first (first.Make kind) = First.Make (read_report_kind kind)
read_first (first.Check kind) = First.Check (read_report_kind kind)
read_first first.Trial = First.Trial

-- the words are those of no source of a picture for a report of the kind
abbrev pub IsNoSourceFor : ReportKind → List (List ℕ) → Type 0
IsNoSourceFor kind words = (s : Source) → HasSides s → Takes kind (kind_at s) → words ≡ source_words s → ⊥

-- the command that the program does
abbrev pub read_command : Command → Asked
read_command (command.Make source wanted) = Asked.Make (read_source source) (read_wanted wanted)
read_command (command.Check source kind report) = Asked.Check (read_source source) (read_report_kind kind) report.now
read_command (command.Trial kind seed side) = Asked.Trial (read_kind kind) seed side

-- the program found what the command names, and its numbers are in range
abbrev pub IsAtHand : List (List ℕ) → Command → Type 0
IsAtHand names (command.Make source wanted) = Takes (kind_of (read_wanted wanted)) (kind_at (read_source source)) × IsFound names wanted
IsAtHand names (command.Check source kind report) = Takes (read_report_kind kind) (kind_at (read_source source))
IsAtHand names (command.Trial kind seed side) = AreTrial (read_kind kind) seed side

-- the words behind such a first one are those of no command
abbrev pub IsNoRest : List (List ℕ) → First → List (List ℕ) → Type 0
IsNoRest names first rest = (c : Asked) → IsInRange names c → first_of c ≡ first → rest ≡ rest_of c → ⊥

-- the words behind such a first one are those of the command
pub record IsRead (names : List (List ℕ)) (first : First) (rest : List (List ℕ)) (c : Command) : Type 0 where
  pub begins : first_of (read_command c) ≡ first
  pub spelled : rest ≡ rest_of (read_command c)
  pub at_hand : IsAtHand names c
