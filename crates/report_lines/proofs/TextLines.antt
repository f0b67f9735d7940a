-- A text is that of one list of lines.
-- Laws of lines and texts alone.
use Rattle.std.proofs.Common.{◌≡◌, ℕ, ◌<◌, refl, sym, ap, subst, ◌∙◌, arith, List, [], ◌∷◌, ◌++◌, length}
use Rattle.std.specs.List.{AllByRecursion}
use Rattle.std.specs.Cmp.{below_irrefl}
use Rattle.std.proofs.lemmas.List.{append_assoc, append_cancel_left, length-append}
use Rattle.text_terms.proofs.Checking.{same_front}
use Rattle.report_terms.specs.Lines.{Line, IsLineOf, spelling, line_text, text_of}
use Rattle.report_terms.proofs.Spelled.{spelling_injective, are_spelled}

pub no_lf : (w : List ℕ) → AllByRecursion (λ c. 10 < c) w → AllByRecursion (λ c. c ≡ 10 → ⊥) w
no_lf [] h = tt
no_lf (c ∷ w) h = (λ e. below_irrefl 10 (subst (λ n. 10 < n) e h.0), no_lf w h.1)

pub one_list : (d : ℕ) (ms ns : List Line) → AllByRecursion (IsLineOf d) ms → AllByRecursion (IsLineOf d) ns → text_of ms ≡ text_of ns → ms ≡ ns
one_list d [] [] f g e = refl
one_list d [] (n ∷ ns) f g e = absurd (omega (arith, ap length e, length-append (line_text n) (text_of ns), length-append (spelling n) (10 ∷ [])))
one_list d (m ∷ ms) [] f g e = absurd (omega (arith, ap length e, length-append (line_text m) (text_of ms), length-append (spelling m) (10 ∷ [])))
one_list d (m ∷ ms) (n ∷ ns) f g e =
    let s = sym (append_assoc (spelling m) (10 ∷ []) (text_of ms)) ∙ e ∙ append_assoc (spelling n) (10 ∷ []) (text_of ns) in
    let w = same_front (spelling m) (spelling n) (text_of ms) (text_of ns) (no_lf (spelling m) ((are_spelled d).clean m f.0)) ((are_spelled d).clean n g.0) s in
    let one : m ≡ n = spelling_injective d m n f.0 g.0 (sym w) in
    let rest : ms ≡ ns = one_list d ms ns f.1 g.1
    (append_cancel_left (line_text m) (text_of ms) (text_of ns) (e ∙ ap (λ l. line_text l ++ text_of ns) (sym one))) in
    λ i. one i ∷ rest i
