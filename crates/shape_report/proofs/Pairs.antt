-- What forms put together read, from what each of them reads.
-- Laws for any forms and words.
use Rattle.std.proofs.Common.{◌≡◌, ◌≢◌, Bool, true, false, Option, Some, None, List, [], ◌∷◌, ℕ, refl, ap, ◌∙◌}
use Rattle.std.specs.Prelude.{if◌then◌else◌}
use Rattle.std.specs.Option.{option_map, option_and_then}
use Rattle.text_terms.specs.Forms.{Form, ◌⨾◌, behind, is_same}
use Rattle.text_terms.proofs.FormLaws.{same_yes, same_only, if_yes}

module _ {A B : Type 0} (f : Form A) (g : Form B) (old : List (List ℕ)) where
  -- the first reads nothing
  pub first_none : f.read old ≡ None → (f ⨾ g).read old ≡ None
  first_none e = ap (option_and_then (λ p. option_map (λ q. ((p.0, q.0), q.1)) (g.read p.1))) e

  -- the first reads a value, and the second nothing
  pub second_none : (a : A) (mid : List (List ℕ)) → f.read old ≡ Some (a, mid) → g.read mid ≡ None → (f ⨾ g).read old ≡ None
  second_none a mid e h = ap (option_and_then (λ p. option_map (λ q. ((p.0, q.0), q.1)) (g.read p.1))) e ∙ ap (option_map (λ q. ((a, q.0), q.1))) h

  -- each reads a value
  pub both_read : (a : A) (mid : List (List ℕ)) (b : B) (new : List (List ℕ)) → f.read old ≡ Some (a, mid) → g.read mid ≡ Some (b, new)
      → (f ⨾ g).read old ≡ Some ((a, b), new)
  both_read a mid b new e h = ap (option_and_then (λ p. option_map (λ q. ((p.0, q.0), q.1)) (g.read p.1))) e ∙ ap (option_map (λ q. ((a, q.0), q.1))) h

-- ---- behind a word

not_same : {V : Type 0} (w word : List ℕ) (ws : List (List ℕ)) (o : Option V) (b : Bool) → is_same w word ≡ b → ((rest : List (List ℕ)) → w ∷ ws ≢ word ∷ rest)
    → (if b then o else None) ≡ None
not_same w word ws o true e h = absurd (h ws (ap (λ v. v ∷ ws) (same_only w word e)))
not_same w word ws o false e h = refl

-- the word is not the next
pub behind_none : {V : Type 0} (word : List ℕ) (f : Form V) (old : List (List ℕ)) → ((rest : List (List ℕ)) → old ≢ word ∷ rest)
    → (behind word f).read old ≡ None
behind_none word f [] h = refl
behind_none word f (w ∷ ws) h = not_same w word ws (f.read ws) (is_same w word) refl h

-- it is
pub behind_read : {V : Type 0} (word : List ℕ) (f : Form V) (old mid : List (List ℕ)) → old ≡ word ∷ mid → (behind word f).read old ≡ f.read mid
behind_read word f old mid e = ap (behind word f).read e ∙ if_yes (is_same word word) (f.read mid) None (same_yes word word refl)
