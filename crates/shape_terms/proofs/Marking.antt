-- Marking the cracks from one of them until it comes again.
-- Marks are a truth value for each number of a crack.
use Rattle.std.proofs.Common.{◌≡◌, ℕ, zero, suc, ◌+◌, ◌<◌, Bool, true, ap, sym, ◌∙◌, subst, arith, List, length, ◌⊎◌, inl, inr}
use native.Mathlib.Decide.{dec_lt, ℕ_discrete}
use Rattle.shape_terms.specs.Pictures.{Picture}
use Rattle.shape_terms.specs.Contours.{Crack, IsCrack, successor}
use Rattle.shape_terms.specs.CrackNumbers.{crack_number, IsMarkedBesides, IsLevel, IsPassed, MarksCycle}
use Rattle.shape_terms.proofs.Turning.{iterate}
use Rattle.shape_terms.proofs.Walks.{walk, walk-get, length-walk}
use Rattle.shape_terms.proofs.Tracing.{Reached, reached_first, reached_more}

-- the level cracks from the start up to before c are marked, beside the old marks
pub record Marking (X : Picture) (start c : Crack) (steps : ℕ) (old new : ℕ → Bool) : Type 0 where
  pub reached : Reached X start c steps
  pub kept : (j : ℕ) → old j ≡ true → new j ≡ true
  pub added : (i : ℕ) → i < steps → IsLevel (iterate (successor X) i start) → new (crack_number X.sides (iterate (successor X) i start)) ≡ true
  pub none : (j : ℕ) → new j ≡ true → (old j ≡ true) ⊎ ((i : ℕ) × (i < steps) × (crack_number X.sides (iterate (successor X) i start) ≡ j))

-- one more mark
marks_kept : (n : ℕ) (old new : ℕ → Bool) → IsMarkedBesides n old new → (j : ℕ) → old j ≡ true → new j ≡ true
marks_kept n old new m j e = elim (ℕ_discrete j n) [ yes q ↦ subst (λ v. new v ≡ true) (sym q) m.marked | no q ↦ m.others j q ∙ e ]

marks_none : (n : ℕ) (old new : ℕ → Bool) → IsMarkedBesides n old new → (j : ℕ) → new j ≡ true → (old j ≡ true) ⊎ (n ≡ j)
marks_none n old new m j e = elim (ℕ_discrete j n) [ yes q ↦ inr (sym q) | no q ↦ inl (sym (m.others j q) ∙ e) ]

module _ (sides : List ℕ) (c : Crack) (old new : ℕ → Bool) where
  passed_kept : IsPassed sides c old new → (j : ℕ) → old j ≡ true → new j ≡ true
  passed_kept (inl (_, m)) j e = marks_kept (crack_number sides c) old new m j e
  passed_kept (inr (_, s)) j e = ap (λ (v : ℕ → Bool). v j) s ∙ e

  passed_none : IsPassed sides c old new → (j : ℕ) → new j ≡ true → (old j ≡ true) ⊎ (crack_number sides c ≡ j)
  passed_none (inl (_, m)) j e = marks_none (crack_number sides c) old new m j e
  passed_none (inr (_, s)) j e = inl (sym (ap (λ (v : ℕ → Bool). v j) s) ∙ e)

  passed_level : IsPassed sides c old new → IsLevel c → new (crack_number sides c) ≡ true
  passed_level (inl (_, m)) l = m.marked
  passed_level (inr (n, _)) l = absurd (n l)

pub marking_first : (X : Picture) (start : Crack) (old new : ℕ → Bool) → IsPassed X.sides start old new → Marking X start (successor X start) 1 old new
marking_first X start old new m = record {
  reached = reached_first X start;
  kept = passed_kept X.sides start old new m;
  added = added;
  none = λ j e. elim (passed_none X.sides start old new m j e) [ inl a ↦ inl a | inr a ↦ inr (0, omega arith, a) ];
}
  where
    added : (i : ℕ) → i < 1 → IsLevel (iterate (successor X) i start) → new (crack_number X.sides (iterate (successor X) i start)) ≡ true
    added zero h l = passed_level X.sides start old new m l
    added (suc i) h l = absurd (omega arith)

pub marking_more : (X : Picture) → length X.sides ≡ 2 → (start c : Crack) (steps : ℕ) (old mid new : ℕ → Bool) → IsCrack X start
    → Marking X start c steps old mid → (c ≡ start → ⊥) → IsPassed X.sides c mid new
    → Marking X start (successor X c) (steps + 1) old new
marking_more X axes start c steps old mid new k m away s = record {
  reached = reached_more X axes start c steps k m.reached away;
  kept = λ j e. passed_kept X.sides c mid new s j (m.kept j e);
  added = λ i b l. elim (dec_lt i steps) [
    | yes a ↦ passed_kept X.sides c mid new s (crack_number X.sides (iterate (successor X) i start)) (m.added i a l)
    | no a ↦ (let q : i ≡ steps = omega arith in
        let e : c ≡ iterate (successor X) i start = m.reached.here ∙ ap (λ n. iterate (successor X) n start) (sym q) in
        subst (λ v. new (crack_number X.sides v) ≡ true) e (passed_level X.sides c mid new s (subst IsLevel (sym e) l)))
  ];
  none = λ j e. elim (passed_none X.sides c mid new s j e) [
    | inl a ↦ elim (m.none j a) [ inl b ↦ inl b | inr b ↦ inr (b.0, omega (arith, b.1), b.2) ]
    | inr a ↦ inr (steps, omega arith, ap (crack_number X.sides) (sym m.reached.here) ∙ a)
  ];
}

-- once the start comes again, the level cracks of the walk are marked
pub marking_end : (X : Picture) (start c : Crack) (steps : ℕ) (old new : ℕ → Bool) → Marking X start c steps old new
    → MarksCycle X.sides (walk X start steps) old new
marking_end X start c steps old new m = record {
  kept = m.kept;
  added = λ x (i, l, e) level.
      let l' : i < steps = omega (arith, length-walk X steps start) in
      let q = sym (walk-get X steps start i x l') ∙ e in
      subst (λ v. new (crack_number X.sides v) ≡ true) q (m.added i l' (subst IsLevel (sym q) level));
  none = λ j e. elim (m.none j e) [
    | inl a ↦ inl a
    | inr a ↦ inr (
      iterate (successor X) a.0 start,
      (a.0, omega (arith, length-walk X steps start, a.1), walk-get X steps start a.0 _ a.1),
      a.2,
    )
  ];
}
