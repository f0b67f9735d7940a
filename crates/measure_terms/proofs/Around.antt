-- The pixels over a crack and over the next one are joined by pixels of the background.
-- So those over the cracks of one contour lie in one component of the complement.
use Rattle.std.proofs.Common.{◌≡◌, ℕ, ◌+◌, ◌<◌, ◌%◌, Bool, true, false, refl, sym, ap, subst, arith}
use Rattle.shape_terms.specs.Parts.{Connected}
use Rattle.shape_terms.proofs.Turning.{IsEdge, ahead_by, edge_ahead}
use Rattle.shape_terms.proofs.Successor.{Place, step, moves, IsSide, move_laws}
use Rattle.measure_terms.proofs.Parted.{Beside, Outside}

-- the pixels over the sides of an object pixel, and those behind them, are in the set F
abbrev pub HasAround : (Place → Type 0) → (Place → Bool) → Type 0
HasAround F X = (p : Place) (d : ℕ) → d < 4 → X p ≡ true → F (step d p) × F (step ((d + 1) % 4) (step d p))

-- two right turns, and a left one behind a right one
back_again : (d : ℕ) (p : Place) → d < 4 → step ((d + 3) % 4) (step ((d + 1) % 4) p) ≡ p
back_again d p h =
    let e : (((d + 1) % 4 + 1) % 4 + 1) % 4 ≡ (d + 3) % 4 = omega arith in
    subst (λ k. step k (step ((d + 1) % 4) p) ≡ p) (ap (λ k. k) (let q : ((d + 1) % 4 + 1 + 1) % 4 ≡ (d + 3) % 4 = omega arith in q))
    (turned ((d + 1) % 4) p (omega arith))
  where
    turned : (k : ℕ) (p : Place) → k < 4 → step ((k + 1 + 1) % 4) (step k p) ≡ p
    turned k p l = let e : ((k + 1) % 4 + 1) % 4 ≡ (k + 1 + 1) % 4 = omega arith in subst (λ j. step j (step k p) ≡ p) e (move_laws.there_and_back k p l)

module _ (F : Place → Type 0) (X K : Place → Bool) (around : HasAround F X) (bare : (p : Place) → X p ≡ false → K p ≡ false) where
  by_values : (b a : Bool) (p : Place) (d : ℕ) → let A = step ((d + 1) % 4) p in let B = step ((d + 1) % 4) (step d p) in X B ≡ b → X A ≡ a
      → IsEdge moves X IsSide p d
      → let n = ahead_by moves X b a p A B d in Connected Beside (Outside F K) (step d p) (step n.1 n.0)
  by_values true a p d hb ha e =
      subst (λ (q : Place). Connected Beside (Outside F K) (step d p) q) (sym (back_again d (step d p) e.0))
      (Connected.here ((around p d e.0 e.1).0, bare (step d p) e.2))
  by_values false true p d hb ha e =
      subst (λ (q : Place). Connected Beside (Outside F K) (step d p) q) (sym (move_laws.across d p e.0))
      (Connected.onward ((around p d e.0 e.1).0, bare (step d p) e.2) ((d + 1) % 4, omega arith, refl) (Connected.here ((around p d e.0 e.1).1, bare _ hb)))
  by_values false false p d hb ha e =
      let A = step ((d + 1) % 4) p in
      let t : step (((d + 1) % 4 + 1) % 4) (step ((d + 1) % 4) (step d p)) ≡ A =
      subst (λ (q : Place). step (((d + 1) % 4 + 1) % 4) q ≡ A) (move_laws.across d p e.0) (there d A e.0) in
      Connected.onward ((around p d e.0 e.1).0, bare (step d p) e.2) ((d + 1) % 4, omega arith, refl)
      (Connected.onward ((around p d e.0 e.1).1, bare _ hb) (((d + 1) % 4 + 1) % 4, omega arith, t)
      (Connected.here ((around p ((d + 1) % 4) (omega arith) e.1).0, bare A ha)))
    where
      there : (k : ℕ) (q : Place) → k < 4 → step (((k + 1) % 4 + 1) % 4) (step k q) ≡ q
      there k q l = move_laws.there_and_back k q l

  pub next_joined : (p : Place) (d : ℕ) → IsEdge moves X IsSide p d → let n = edge_ahead moves X p d in Connected Beside (Outside F K) (step d p) (step n.1 n.0)
  next_joined p d e = by_values _ _ p d refl refl e
