-- The straight runs of a closed path, for any notion of straight that a part of a run keeps.
-- Runs are pairs of places, as `Stretches` of the terms wants them.
use Rattle.std.proofs.Common.{◌≡◌, ℕ, suc, pred, ◌+◌, ◌-◌, ◌<◌, ◌≤◌, List, length, sym, subst, arith}
use native.Mathlib.Decide.{dec_lt}
use Rattle.shape_terms.specs.Points.{Point}
use Rattle.shape_terms.specs.Covers.{Stretch, arc}
use Rattle.shape_terms.proofs.Stretches.{Runs, Maximal}
use Rattle.shape_terms.proofs.ArcRuns.{IsPart, length-arc, arc_part, arc-round}
use Rattle.shape_terms.specs.RunCovers.{IsMaximalRun}
use Rattle.shape_terms.specs.RunWalks.{WalkKind, IsLongest}

-- no empty run is straight, and a part of a straight run that is not empty is straight
pub record IsStraightness (S : List Point → Type 0) : Type 0 where
  pub some : (run : List Point) → S run → 0 < length run
  pub part : (xs ys : List Point) (s : ℕ) → IsPart xs ys s → 0 < length ys → S xs → S ys

-- the laws of a kind of walk: its straight runs are such, none goes all the way round, and no run that is claimed to be bent is straight
pub record IsWalkKind {F : Type 0} (k : WalkKind F) : Type 0 where
  pub straightness : IsStraightness k.Straight
  pub short : (path : List Point) → 1 ≤ length path → (b e : ℕ) → k.Straight (arc path b e) → e < b + length path
  pub bent : (f : F) (run : List Point) → k.Bends f run → k.Straight run → ⊥

module _ (S : List Point → Type 0) (is : IsStraightness S) (path : List Point) where
  abbrev pub Straight : ℕ → ℕ → Type 0
  Straight b e = S (arc path b e)

  straight_ordered : (a b : ℕ) → Straight a b → a ≤ b
  straight_ordered a b h = let l = is.some (arc path a b) h in omega (arith, length-arc path a b)

  pub run_arcs : Runs (length path) Straight
  run_arcs = record {
    ordered = straight_ordered;
    part = λ a b c d s h k l. is.part (arc path a b) (arc path c d) (c - a) (arc_part path a b c d h k l) (omega (arith, length-arc path c d)) s;
    on = λ a b s. subst S (sym (arc-round path a b)) s;
    off = λ a b s. subst S (arc-round path a b) s;
  }

  -- the two forms of maximal runs
  pub maximal_from : (b e : ℕ) → IsMaximalRun S path b e → Maximal (length path) Straight b e
  maximal_from b e m = (
    m.straight,
    (λ s. m.before (subst (λ v. Straight v (e + length path)) (let q : pred (b + length path) ≡ b + length path - 1 = omega arith in q) s)),
    λ s. m.after (subst (Straight b) (let q : suc e ≡ e + 1 = omega arith in q) s),
  )

  pub maximal_to : (b e : ℕ) → Maximal (length path) Straight b e → IsMaximalRun S path b e
  maximal_to b e m = record {
    straight = m.0;
    before = λ s. m.1 (subst (λ v. Straight v (e + length path)) (let q : b + length path - 1 ≡ pred (b + length path) = omega arith in q) s);
    after = λ s. m.2 (subst (Straight b) (let q : e + 1 ≡ suc e = omega arith in q) s);
  }

  -- the longest straight run from a place goes as far as any
  pub goes_as_far : (g : Stretch) → IsLongest S path g → (b e : ℕ) → g.first ≡ b → Straight b e → e ≤ g.last
  goes_as_far g h b e q s = elim (dec_lt g.last e) [
    | no l ↦ omega arith
    | yes l ↦ absurd (let rises = straight_ordered g.first g.last h.straight in
        h.longest (subst (λ v. Straight v (g.last + 1)) (sym q) (run_arcs.part b e b (g.last + 1) s (omega arith) (omega arith) (omega arith))))
  ]
