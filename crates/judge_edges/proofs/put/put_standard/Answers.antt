use Rattle.std.proofs.Common.{◌≡◌, ◌++◌, ◌∷◌, [], ℕ, List, rules, ap, ◌∙◌, subst, append_assoc}
use Rattle.std.specs.Prelude.{FitsSigned, nat_abs}
use Rattle.std.specs.Int.{w8, w64}
use Rattle.std.proofs.Math.Facts.{to_z-of_z}
use Rattle.text_terms.specs.Forms.{signed}
use Rattle.text_terms.specs.Fields.{weight}
use Rattle.report_text.specs.Spelling.{behind_blanks}
use Rattle.edge_terms.specs.Kinds.{sign_word, sign}
use Rattle.judge_edges.proofs.put.put_standard.Goals as goal

-- a word behind a text, and then more
behind : (old mid new word more : List ℕ) → mid ≡ old ++ 32 ∷ (word ++ []) → new ≡ mid ++ more → new ≡ old ++ 32 ∷ (word ++ more)
behind old mid new word more e f =
    f ∙ ap (λ t. t ++ more) e ∙ append_assoc old (32 ∷ (word ++ [])) more
    ∙ ap (λ t. old ++ 32 ∷ t) (append_assoc word [] more)

pub returns : goal.returns
returns c =
    let l = c.args.line.now in
    let h_fits : FitsSigned w8 l.h = search rules in
    let v_fits : FitsSigned w8 l.v = search rules in
    let a_fits : FitsSigned w64 l.a = search rules in
    let c_fits : FitsSigned w64 l.c = search rules in
    let mu_fits : FitsSigned w64 l.mu = search rules in
    let h = subst (λ z. c.put_sign.new.text ≡ c.args.text.now ++ behind_blanks (sign.words z)) (to_z-of_z h_fits) c.put_sign.ensures.text in
    let v = subst (λ z. c.put_sign-2.new.text ≡ c.put_sign.new.text ++ behind_blanks (sign.words z)) (to_z-of_z v_fits) c.put_sign-2.ensures.text in
    let a = subst (λ n. c.weight.new.self ≡ c.put_sign-2.new.text ++ behind_blanks (weight.words n))
    (c.unsigned_abs.ensures.value ∙ ap nat_abs (to_z-of_z a_fits)) c.weight.ensures.text in
    let b = subst (λ n. c.weight-2.new.self ≡ c.weight.new.self ++ behind_blanks (weight.words n))
    (c.unsigned_abs-2.ensures.value ∙ ap nat_abs (to_z-of_z c_fits)) c.weight-2.ensures.text in
    let last = subst (λ z. c.signed.new.self ≡ c.weight-2.new.self ++ behind_blanks ((signed w64 63).words z)) (to_z-of_z mu_fits) c.signed.ensures.text in
    let fourth = behind _ _ _ _ _ b last in
    let third = behind _ _ _ _ _ a fourth in
    let second = behind _ _ _ (sign_word l.v) _ v third in
    record { text = behind _ _ _ (sign_word l.h) _ h second }
