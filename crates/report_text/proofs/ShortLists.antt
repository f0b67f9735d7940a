-- A digit and counted lists of values that stand at places of bytes, one behind another.
-- Laws of bytes and forms alone; how a value is read, its function says.
use Rattle.std.proofs.Common.{◌≡◌, ◌+◌, ◌<◌, ◌≤◌, ℕ, List, [], ◌∷◌, ◌++◌, length, take, get_or, refl, sym, ap, ◌∙◌, arith, append-nil, length-append}
use Rattle.std.specs.Prelude.{All, flat_map}
use Rattle.std.specs.Fmt.{decimal}
use Rattle.std.proofs.lemmas.Fmt.{decimal_digit}
use Rattle.std.proofs.lemmas.Grind.{flat_map-append}
use Rattle.std.proofs.lemmas.List.Elements.{All-append, All-cons, All-nil}
use Rattle.text_terms.specs.Forms.{Form, natural, counted}
use Rattle.report_text.specs.Spelling.{behind_blanks}
use Rattle.report_text.specs.Front.{StandsAt}
use Rattle.report_text.proofs.Standing.{stands_both, no_words, letter_stands}

-- a number of one digit behind a blank
pub digit_stands : (bytes : List ℕ) (at n : ℕ) → at + 1 < length bytes → n < 10 → get_or bytes at 0 ≡ 32 → get_or bytes (at + 1) 0 ≡ 48 + n
    → StandsAt bytes at (at + 2) 2 (decimal n ∷ [])
digit_stands bytes at n inside few blank there =
    let s = letter_stands bytes at (48 + n) inside blank there in
    record { order = s.order; few = s.few; text = s.text ∙ ap (λ w. take at bytes ++ behind_blanks (w ∷ [])) (sym (decimal_digit n few)) }

-- the first k of some values stand one behind another
pub record AreListed {V : Type 0} (f : Form V) (bytes : List ℕ) (from end room k : ℕ) (vs : List V) : Type 0 where
  pub stands : StandsAt bytes from end room (flat_map f.words vs)
  pub fits : All f.InRange vs
  pub count : length vs ≡ k

pub none_listed : {V : Type 0} (f : Form V) (bytes : List ℕ) (from : ℕ) → AreListed f bytes from from 0 0 []
none_listed f bytes from = record { stands = no_words bytes from; fits = All-nil f.InRange; count = refl }

pub one_listed : {V : Type 0} (f : Form V) (bytes : List ℕ) (from mid end room more all k : ℕ) (vs : List V) (v : V) → room + more ≤ all
    → AreListed f bytes from mid room k vs → f.InRange v → StandsAt bytes mid end more (f.words v) → AreListed f bytes from end all (k + 1) (vs ++ v ∷ [])
one_listed f bytes from mid end room more all k vs v few h fits one =
    let s = stands_both bytes from mid end room more (flat_map f.words vs) (f.words v) h.stands one in
    let grown : flat_map f.words vs ++ f.words v ≡ flat_map f.words (vs ++ v ∷ []) =
    ap (λ l. flat_map f.words vs ++ l) (sym (append-nil (f.words v))) ∙ sym (flat_map-append f.words vs (v ∷ [])) in
    record {
      stands = record { order = s.order; few = omega (arith, s.few, few); text = s.text ∙ ap (λ ws. take from bytes ++ behind_blanks ws) grown };
      fits = All-append f.InRange vs (v ∷ []) h.fits (All-cons f.InRange v [] fits (All-nil f.InRange));
      count = length-append vs (v ∷ []) ∙ ap (λ m. m + 1) h.count;
    }

-- behind their number they are a counted list
pub counted_stand : {V : Type 0} (f : Form V) (bytes : List ℕ) (at from end room all n k : ℕ) (vs : List V) → 2 + room ≤ all → n ≡ k
    → StandsAt bytes at from 2 ((natural 5).words n) → AreListed f bytes from end room k vs → StandsAt bytes at end all ((counted 4 f).words vs)
counted_stand f bytes at from end room all n k vs few e number h =
    let s = stands_both bytes at from end 2 room (decimal n ∷ []) (flat_map f.words vs) number h.stands in
    record {
      order = s.order;
      few = omega (arith, s.few, few);
      text = s.text ∙ ap (λ m. take at bytes ++ behind_blanks (decimal m ∷ flat_map f.words vs)) (e ∙ sym h.count);
    }

pub counted_fit : {V : Type 0} (f : Form V) (bytes : List ℕ) (from end room k : ℕ) (vs : List V) → k ≤ 4 → AreListed f bytes from end room k vs
    → (counted 4 f).InRange vs
counted_fit f bytes from end room k vs few h = (omega (arith, h.count, few), h.fits)
