-- The reader of a form follows from which values are in range and from their words.
-- One law, for forms of any values.
use Rattle.std.proofs.Common.{◌≡◌, refl, Option, Some, None, List, ℕ, ◌++◌, ap, sym, subst, ◌∙◌}
use Rattle.std.specs.Prelude.{◌↔◌}
use Rattle.text_terms.specs.Forms.{Form, IsForm}

module _ {V : Type 0} (f g : Form V) (hf : IsForm f) (hg : IsForm g) (range : (v : V) → f.InRange v ↔ g.InRange v) (spelled : (v : V) → f.words v ≡ g.words v)
  where
    -- what the one reader finds, the other finds
    found : (ws : List (List ℕ)) (v : V) (rest : List (List ℕ)) → f.read ws ≡ Some (v, rest) → g.read ws ≡ Some (v, rest)
    found ws v rest e =
        let o = hf.only ws v rest e in
        subst (λ w. g.read w ≡ Some (v, rest)) (sym (o.1 ∙ ap (λ w. w ++ rest) (spelled v))) (hg.again v rest ((range v).0 o.0))

    back : (ws : List (List ℕ)) (v : V) (rest : List (List ℕ)) → g.read ws ≡ Some (v, rest) → f.read ws ≡ Some (v, rest)
    back ws v rest e =
        let o = hg.only ws v rest e in
        subst (λ w. f.read w ≡ Some (v, rest)) (sym (o.1 ∙ ap (λ w. w ++ rest) (sym (spelled v)))) (hf.again v rest ((range v).1 o.0))

    -- two forms with the same values in range and the same words of each read the same
    pub one_reader : (ws : List (List ℕ)) → f.read ws ≡ g.read ws
    one_reader ws = both (f.read ws) (g.read ws) refl refl
      where
        both : (a b : Option (V × List (List ℕ))) → f.read ws ≡ a → g.read ws ≡ b → a ≡ b
        both None None d e = refl
        both None (Some (v, rest)) d e = sym d ∙ back ws v rest e
        both (Some (v, rest)) b d e = sym (found ws v rest d) ∙ e
