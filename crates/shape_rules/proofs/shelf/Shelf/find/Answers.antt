use Rattle.std.proofs.Common.{◌≡◌, true, false, Some, get_or, slice_get, sym, ap, ◌∙◌, arith}
use Rattle.std.proofs.lemmas.Bool.Decides.{Decides-eqb}
use Rattle.std.proofs.lemmas.List.{get_or_default}
use Rattle.std.proofs.lemmas.Slice.Eq.{slice_eq-Decides}
use native.Mathlib.Decide.{ℕ_discrete}
use Rattle.shape_rules.specs.Names.{word_of}
use Rattle.shape_terms.specs.Shelves.{names_of}
use Rattle.shape_rules.specs.Entries.{named}
use Rattle.shape_rules.proofs.Entries.{found_at, nowhere}
use Rattle.shape_rules.proofs.shelf.Shelf.find.Goals as goal

pub returns-then-eq : goal.returns-then-eq
returns-then-eq g c =
    let es = c.self.inside.entries.items in
    let same = (slice_eq-Decides Decides-eqb c.word.result.now c.word-in-loop-i.result.now c.eq.result c.eq.ensures).0 c.if-eq.true in
    let there = found_at (λ e. e.name) named es c.loop-i.i c.index.result.now (omega (arith, c.len-i-end.ensures)) c.index.ensures in
    ap (λ s. slice_get (names_of s) c.loop-i.i) (sym c.self.view_is) ∙ there ∙ ap (λ w. Some w) (sym c.word.ensures.word ∙ same ∙ c.word-in-loop-i.ensures.word)

pub loop-i-preserved : goal.loop-i-preserved
loop-i-preserved g c = λ j l d e. elim (ℕ_discrete j c.loop-i.i) [
  | no n ↦ c.loop-i.invariant j (omega arith) d e
  | yes q ↦ (
      let es = c.self.inside.entries.items in
      let here : get_or es c.loop-i.i d ≡ c.index.result.now = get_or_default es c.loop-i.i d c.index.result.now (omega (arith, c.len-i-end.ensures))
      ∙ sym c.index.ensures in
      let named : word_of c.index.result.now.name ≡ word_of c.args.name.now = ap (λ x. word_of x.name) (sym here)
      ∙ ap (λ k. word_of (get_or es k d).name) (sym q) ∙ e in
      let words : c.word.result.now ≡ c.word-in-loop-i.result.now = c.word.ensures.word ∙ named ∙ sym c.word-in-loop-i.ensures.word in
      let t : c.eq.result ≡ true = (slice_eq-Decides Decides-eqb c.word.result.now c.word-in-loop-i.result.now c.eq.result c.eq.ensures).1 words in
      let f : true ≡ false = sym t ∙ c.if-eq.false in
      cc)
]

pub returns : goal.returns
returns g c = rw (← c.self.view_is)
    (nowhere (λ e. e.name) named c.self.inside.entries.items (word_of c.args.name.now)
    (λ j l d e. c.loop-i.invariant j (omega (arith, c.len-i-end.ensures)) d e))
