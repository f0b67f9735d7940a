-- What a run of the program did, from what the calls of its parts ensure.
-- Each law goes through the outcomes once.
use Rattle.std.proofs.Common.{◌≡◌, ◌⊎◌, inl, inr, ℕ, List, ◌∷◌, refl, ap, sym, subst, ◌∙◌, arith}
use Rattle.std.specs.Prelude.{◌↔◌, is_ok}
use Rattle.std.proofs.lemmas.Bool.{cases_Bool}
use Rattle.shape_terms.specs.Thinning.{Rule}
use Rattle.shape_terms.specs.Shelves.{Named, names_of}
use Rattle.shape_desk.specs.Desk.{DeskState}
use Rattle.shape_desk.specs.Files.{KeepsFiles}
use Rattle.shape_cli.specs.Rules.{program_rules}
use Rattle.shape_cli.specs.Commands.{IsNoForm, Asks}
use Rattle.shape_cli.specs.Complete.{HasRun}
use Rattle.shape_cli.specs.Runs as Command
use Rattle.shape_cli.specs.Outcomes as CommandOutcomes
use Rattle.shape_cli.specs.declared.outcome.Outcome.{Outcome as CommandOutcome}
use Rattle.shape_cli.specs.declared.outcome.Outcome.TheVariants as command
use Rattle.report_lines.specs.declared.outcome.Outcome.{Outcome as ProductOutcome}
use Rattle.report_lines.specs.declared.outcome.Outcome.TheVariants as made
use Rattle.shape.specs.Pages.{IsWayTo, page_text}
use Rattle.shape.specs.declared.page.Page.{Page}
use Rattle.shape.specs.Products.{product_word, usage_of, AreNoWords, Ran}
use Rattle.shape.specs.Runs.{AreNoForm, IsUsageOf, ShowsCommand, ShowsProduct, Refused, PrintsPage, HasEnded}
use Rattle.shape.specs.declared.product.Product.{Product}
use Rattle.shape.specs.declared.ending.Ending.{Ending}
use Rattle.shape.proofs.FormsApart.{no_command, same_product}

-- ---- words of no form

refused : (words : List (List ℕ)) (old new : DeskState) (e : Ending) → Refused words old new e → HasEnded words old new e
refused words old new e r =
    record { did = inl r; two = (λ _. r.none, λ _. r.shown.status_is); usage = λ _. subst (IsUsageOf words) (sym r.shown.text_is) r.usage }

-- ---- products

module _ (p : Product) (rest : List (List ℕ)) (page : (q : Page) → IsWayTo q (product_word p ∷ rest) → ⊥) where
  -- words that a product does not take behind its own are of no form
  no_product : AreNoWords p rest → AreNoForm (product_word p ∷ rest)
  no_product none = record {
    command = λ c i e. no_command p rest c e;
    product = λ q more e.
        let w : product_word p ≡ product_word q = cc in
        let r : rest ≡ more = cc in
        subst (λ x. AreNoWords x more) (same_product p q w) (subst (AreNoWords p) r none);
    page = page;
  }

  -- and get the usage of the product
  its_usage : IsUsageOf (product_word p ∷ rest) (usage_of p)
  its_usage = record {
    product = λ q more e. let w : product_word p ≡ product_word q = cc in ap usage_of (same_product p q w);
    other = λ none. absurd (none p rest refl);
  }

  -- words that the product takes are of a form
  taken_form : (AreNoWords p rest → ⊥) → AreNoForm (product_word p ∷ rest) → ⊥
  taken_form taken none = taken (none.product p rest refl)

  module _ (old new : DeskState) (e : Ending) where
    pub product_ended : (o : ProductOutcome) → (o ≡ made.Usage) ↔ AreNoWords p rest → (o ≡ made.Usage → new ≡ old) → Ran p rest old new o → ShowsProduct p o e
        → HasEnded (product_word p ∷ rest) old new e
    product_ended made.Usage usage untouched ran shown =
        refused (product_word p ∷ rest) old new e
        (record { none = no_product (usage.0 refl); untouched = untouched refl; text = usage_of p; usage = its_usage; shown = shown })
    product_ended o usage untouched ran shown =
        let taken : AreNoWords p rest → ⊥ = λ n. let u = usage.1 n in cc in
        let other : e.status ≡ 2 → ⊥ = λ two. let s = sym shown.status_is ∙ two in omega (arith, s) in
        record {
          did = inr (inr (inl (record { product = p; rest = rest; spelled = refl; taken = taken; outcome = o; ran = ran; shown = shown })));
          two = (λ two. absurd (other two), λ none. absurd (taken_form taken none));
          usage = λ two. absurd (other two);
        }

-- ---- commands

module _ (words : List (List ℕ)) (none : (p : Product) (rest : List (List ℕ)) → words ≡ product_word p ∷ rest → ⊥) (page : (q : Page) → IsWayTo q words → ⊥)
    (old new : DeskState) (e : Ending) where
  no_command_words : IsNoForm (names_of program_rules) words → AreNoForm words
  no_command_words c = record { command = c; product = λ p rest s. absurd (none p rest s); page = page }

  usage_of_all : IsUsageOf words CommandOutcomes.usage_text
  usage_of_all = record { product = λ p rest s. absurd (none p rest s); other = λ _. refl }

  -- words of no form, where nothing was done
  pub words_refused : IsNoForm (names_of program_rules) words → new ≡ old → ShowsCommand command.Usage e → HasEnded words old new e
  words_refused no_form same shown =
      refused words old new e
      (record { none = no_command_words no_form; untouched = same; text = CommandOutcomes.usage_text; usage = usage_of_all; shown = shown })

  asked : (o : CommandOutcome) → HasRun program_rules words old new o → (o ≡ command.Usage → ⊥)
      → Asks (names_of program_rules) words (λ c. Command.Ran program_rules c old new o)
  asked o h other = elim h.ran [ inl a ↦ a | inr n ↦ absurd (other (h.usage.1 n)) ]

  pub command_ended : (o : CommandOutcome) → HasRun program_rules words old new o → ShowsCommand o e → HasEnded words old new e
  command_ended command.Usage h shown = words_refused (h.usage.0 refl) (h.untouched refl) shown
  command_ended o h shown =
      let other : o ≡ command.Usage → ⊥ = λ u. cc in
      let not_two : e.status ≡ 2 → ⊥ = λ two. let s = sym shown.status_is ∙ two in omega (arith, s) in
      record {
        did = inr (inl (record { outcome = o; ran = asked o h other; shown = shown }));
        two = (λ two. absurd (not_two two), λ n. absurd (other (h.usage.1 n.command)));
        usage = λ two. absurd (not_two two);
      }

-- a run of the words of a command, by rules that are those of the program
pub run_ended : (words : List (List ℕ)) (none : (p : Product) (rest : List (List ℕ)) → words ≡ product_word p ∷ rest → ⊥)
    (page : (q : Page) → IsWayTo q words → ⊥) (old new : DeskState) (e : Ending) (rules : List (Named Rule)) (o : CommandOutcome) → rules ≡ program_rules
    → (o ≡ command.Usage) ↔ IsNoForm (names_of rules) words → (o ≡ command.Usage → new ≡ old) → Asks (names_of rules) words (λ c. Command.Ran rules c old new o)
    ⊎ IsNoForm (names_of rules) words → KeepsFiles old new → ShowsCommand o e → HasEnded words old new e
run_ended words none page old new e rules o same usage untouched ran kept shown =
    command_ended words none page old new e o
    (subst (λ r. HasRun r words old new o) same (record { usage = usage; untouched = untouched; ran = ran; kept = kept })) shown

-- ---- no memory for the rules

pub memory_lacked : (words : List (List ℕ)) (old new : DeskState) (e : Ending) → (IsNoForm (names_of program_rules) words → ⊥) → new ≡ old
    → ShowsCommand command.NoMemory e → HasEnded words old new e
memory_lacked words old new e form same shown =
    let other : e.status ≡ 2 → ⊥ = λ two. let s = sym shown.status_is ∙ two in omega (arith, s) in
    record {
      did = inr (inr (inr (inr (record { untouched = same; shown = shown }))));
      two = (λ two. absurd (other two), λ n. absurd (form n.command));
      usage = λ two. absurd (other two);
    }

-- ---- pages

-- a page that was printed
pub page_ended : (words : List (List ℕ)) (old new : DeskState) (e : Ending) (page : Page) → IsWayTo page words → PrintsPage (page_text page) old new e
    → HasEnded words old new e
page_ended words old new e page asked printed =
    let other : e.status ≡ 2 → ⊥ = λ two. elim (cases_Bool (is_ok printed.result)) [
      | inl t ↦ (let s = sym (printed.done t).status_is ∙ two in omega (arith, s))
      | inr f ↦ (let s = sym (printed.failed f).status_is ∙ two in omega (arith, s))
    ] in
    record {
      did = inr (inr (inr (inl (record { page = page; asked = asked; printed = printed }))));
      two = (λ two. absurd (other two), λ n. absurd (n.page page asked));
      usage = λ two. absurd (other two);
    }
