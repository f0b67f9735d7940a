-- A step of the search for a slip: a place that has one, and a place that has none.
-- The words before the place and those from it on are the two parts of the words.
use Rattle.std.proofs.Common.{◌≡◌, ◌<◌, ◌+◌, ◌∙◌, ap, sym, ℕ, List, [], Option, None, Some, get_or, take, drop, length}
use Rattle.std.proofs.lemmas.List.{drop_more, take_more}
use Rattle.shape.specs.Slips.{nearest, own_behind, own_texts, slip_or, slip_behind, slip_in}
use Rattle.shape.specs.declared.own_words.OwnWords.{OwnWords}

-- what is nearest at a place
abbrev at_place : (words : List (List ℕ)) (i : ℕ) → Option (List ℕ)
at_place words i = nearest (get_or words i []) (own_texts (own_behind (take i words)))

-- the first slip from a place on, of which that is nearest there
abbrev from_place : (words : List (List ℕ)) (i : ℕ) → Option (List ℕ) → Option (List ℕ × List ℕ)
from_place words i found = slip_or found (get_or words i []) (slip_behind (take (i + 1) words) (drop (i + 1) words))

one_step : (words : List (List ℕ)) (i : ℕ) → i < length words → slip_behind (take i words) (drop i words) ≡ from_place words i (at_place words i)
one_step words i here =
    ap (slip_behind (take i words)) (drop_more words i [] here)
    ∙ ap (λ before. slip_or (at_place words i) (get_or words i []) (slip_behind before (drop (i + 1) words))) (sym (take_more words i [] here))

module _ (words : List (List ℕ)) (i : ℕ) (here : i < length words) (which : OwnWords) (front : which ≡ own_behind (take i words))
    (forms : List (List ℕ)) (own : forms ≡ own_texts which) (word : List ℕ) (is : word ≡ get_or words i [])
    (found : Option (List ℕ)) (near : found ≡ nearest word forms) (known : slip_behind (take i words) (drop i words) ≡ slip_in words) where
  its_place : found ≡ at_place words i
  its_place = near ∙ (ap (λ w. nearest w forms) is ∙ (ap (nearest (get_or words i [])) own ∙ ap (λ o. nearest (get_or words i []) (own_texts o)) front))

  whole : from_place words i found ≡ slip_in words
  whole = ap (from_place words i) its_place ∙ (sym (one_step words i here) ∙ known)

  pub slip_found : (form : List ℕ) → found ≡ Some form → Some (word, form) ≡ slip_in words
  slip_found form e = ap (λ w. Some (w, form)) is ∙ (ap (from_place words i) (sym e) ∙ whole)

  pub slip_passed : found ≡ None → slip_behind (take (i + 1) words) (drop (i + 1) words) ≡ slip_in words
  slip_passed e = ap (from_place words i) (sym e) ∙ whole
