use Rattle.std.proofs.Common.{◌≡◌, ℕ, ◌-◌, ◌≤◌, ◌++◌, ◌∷◌, [], List, length, map, take, drop, subst, ap, sym, ◌∙◌, arith}
use Rattle.std.specs.Prelude.{◌↔◌, IsTrue}
use Rattle.std.proofs.lemmas.List.{length-map, length-drop, map-append, take_all, drop-map, drop-append-le}
use Rattle.shape_terms.specs.Refutations.{Refutes}
use Rattle.shape_refute.specs.Weights.{refutation_of}
use Rattle.judge_outline.specs.Terms.{point_of}
use Rattle.judge_outline.proofs.listed.refutes_with.Goals as goal

back : {A B : Type 0} (f : A → B) (items all : List A) (p : A) (start : ℕ) → start ≤ length items → all ≡ items ++ p ∷ []
    → map f (take (length all - start) (drop start all)) ≡ drop start (map f items) ++ f p ∷ []
back f items all p start l e =
    ap (map f) (take_all (length all - start) (drop start all) (omega (arith, length-drop start all)))
    ∙ sym (drop-map f start all)
    ∙ ap (λ xs. drop start (map f xs)) e
    ∙ ap (drop start) (map-append f items (p ∷ []))
    ∙ drop-append-le start (map f items) (f p ∷ []) (omega (arith, length-map items f))

pub returns-clause-answer : goal.returns-clause-answer
returns-clause-answer c =
    let run = back point_of c.args.points.now.items c.deref.result.now c.args.p c.args.start c.requires.start
    (c.deref.ensures.value ∙ c.push_reserved.ensures.items) in
    subst (λ points. IsTrue c.refutes-refuted.result ↔ Refutes 3 c.args.axis points (refutation_of c.args.why.now)) run c.refutes-refuted.ensures
