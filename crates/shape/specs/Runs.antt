-- What a run of the program did by the words of its command line, and what its user sees of that.
-- Which commands and products there are stands elsewhere; a further one changes nothing here.
use Rattle.std.specs.Prelude.{◌≡◌, ◌≢◌, ◌⊎◌, ◌↔◌, ℕ, List, ◌∷◌, codes, Option, None, Result, is_ok, true, false}
use Rattle.shape_terms.specs.Shelves.{names_of}
use Rattle.shape_desk.specs.Desk.{DeskState, WritesText}
use Rattle.shape_desk.specs.declared.desk.Failed.{Failed}
use Rattle.shape_cli.specs.Rules.{program_rules}
use Rattle.shape_cli.specs.Commands.{IsNoForm, Asks}
use Rattle.shape_cli.specs.Runs as Command
use Rattle.shape_cli.specs.Outcomes as CommandOutcomes
use Rattle.shape_cli.specs.declared.outcome.Outcome.{Outcome as CommandOutcome}
use Rattle.shape_cli.specs.declared.outcome.Outcome.TheVariants as command
use Rattle.report_lines.specs.Outcomes as ProductOutcomes
use Rattle.report_lines.specs.declared.outcome.Outcome.{Outcome as ProductOutcome}
use Rattle.shape.specs.Pages.{IsWayTo, page_text}
use Rattle.shape.specs.declared.page.Page.{Page}
use Rattle.shape.specs.Products.{product_word, usage_of, AreNoWords, Ran}
use Rattle.shape.specs.declared.product.Product.{Product}
use Rattle.shape.specs.declared.ending.Ending.{Ending}

-- ---- words

-- the words are of no form: they spell no command, those behind the word of a product are none that it takes, and they ask for no page
pub record AreNoForm (words : List (List ℕ)) : Type 0 where
  pub command : IsNoForm (names_of program_rules) words
  pub product : (p : Product) (rest : List (List ℕ)) → words ≡ product_word p ∷ rest → AreNoWords p rest
  pub page : (p : Page) → IsWayTo p words → ⊥

-- the text of usage that such words get: that of the product whose word is the first, and that of all where it is the word of none
pub record IsUsageOf (words : List (List ℕ)) (text : List ℕ) : Type 0 where
  pub product : (p : Product) (rest : List (List ℕ)) → words ≡ product_word p ∷ rest → text ≡ usage_of p
  pub other : ((p : Product) (rest : List (List ℕ)) → words ≢ product_word p ∷ rest) → text ≡ CommandOutcomes.usage_text

-- ---- what the user sees

-- the exit status, the text of a refusal, and the number behind it
pub record Shows (status : ℕ) (text : List ℕ) (number : Option ℕ) (e : Ending) : Type 0 where
  pub status_is : e.status ≡ status
  pub text_is : e.text.now ≡ text
  pub number_is : e.number ≡ number

-- those of an outcome of a command
abbrev pub ShowsCommand : CommandOutcome → Ending → Type 0
ShowsCommand o e = Shows (CommandOutcomes.status_of o) (CommandOutcomes.message_of o) (CommandOutcomes.number_of o) e

-- those of an outcome of the making of a product
abbrev pub ShowsProduct : Product → ProductOutcome → Ending → Type 0
ShowsProduct p o e = Shows (ProductOutcomes.status_of o) (ProductOutcomes.message_of (usage_of p) o) (ProductOutcomes.number_of o) e

-- ---- runs

-- the words are of no form: nothing was done, and the usage is told with the status 2
pub record Refused (words : List (List ℕ)) (old new : DeskState) (e : Ending) : Type 0 where
  pub none : AreNoForm words
  pub untouched : new ≡ old
  pub text : List ℕ
  pub usage : IsUsageOf words text
  pub shown : Shows 2 text None e

-- the words spell a command by the rules of the program, which was run
pub record RanCommand (words : List (List ℕ)) (old new : DeskState) (e : Ending) : Type 0 where
  pub outcome : CommandOutcome
  pub ran : Asks (names_of program_rules) words (λ c. Command.Ran program_rules c old new outcome)
  pub shown : ShowsCommand outcome e

-- the words are the word of a product and some that it takes, and it was made
pub record RanProduct (words : List (List ℕ)) (old new : DeskState) (e : Ending) : Type 0 where
  pub product : Product
  pub rest : List (List ℕ)
  pub spelled : words ≡ product_word product ∷ rest
  pub taken : AreNoWords product rest → ⊥
  pub outcome : ProductOutcome
  pub ran : Ran product rest old new outcome
  pub shown : ShowsProduct product outcome e

-- a text was written whole, and the run is shown as done; or a front of it, where a write failed, and it is shown so
pub record PrintsPage (text : List ℕ) (old new : DeskState) (e : Ending) : Type 0 where
  pub result : Result (Unit {0}) Failed
  pub wrote : WritesText text old new result
  pub done : is_ok result ≡ true → ShowsCommand command.Done e
  pub failed : is_ok result ≡ false → ShowsCommand command.WriteFault e

-- the words ask for a page of the program itself, which was printed
pub record RanPage (words : List (List ℕ)) (old new : DeskState) (e : Ending) : Type 0 where
  pub page : Page
  pub asked : IsWayTo page words
  pub printed : PrintsPage (page_text page) old new e

-- there was no memory for the rules of the program, so nothing was done
pub record LackedMemory (old new : DeskState) (e : Ending) : Type 0 where
  pub untouched : new ≡ old
  pub shown : Shows 6 (codes "no memory") None e

-- what a run of the program did by the words of its command line, and what is shown of it
abbrev pub RanProgram : List (List ℕ) → DeskState → DeskState → Ending → Type 0
RanProgram words old new e = Refused words old new e
    ⊎ (RanCommand words old new e ⊎ (RanProduct words old new e ⊎ (RanPage words old new e ⊎ LackedMemory old new e)))

-- what is known of a run of the program: what it did; the status 2 comes exactly where the words are of no form, and then the text is that of usage
pub record HasEnded (words : List (List ℕ)) (old new : DeskState) (e : Ending) : Type 0 where
  pub did : RanProgram words old new e
  pub two : (e.status ≡ 2) ↔ AreNoForm words
  pub usage : e.status ≡ 2 → IsUsageOf words e.text.now
