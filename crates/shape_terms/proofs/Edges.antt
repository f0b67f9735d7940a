-- The edge ahead of an edge is an edge, and no other edge has the same one ahead.
-- Only the laws of steps and turns are used.
use Rattle.std.proofs.Common.{◌≡◌, Bool, true, false, refl, sym, ◌∙◌, ap, subst}
use Rattle.shape_terms.proofs.Turning.{Moves, MoveLaws, IsEdge, ahead_by, edge_ahead, edge_behind}

module _ {P D : Type 0} {V : D → Type 0} (m : Moves P D) (l : MoveLaws m V) where
  left_of_right : (d : D) (p : P) → V d → m.step (m.left d) (m.step (m.right d) p) ≡ p
  left_of_right d p v = subst (λ x. m.step x (m.step (m.right d) p) ≡ p) (l.round d v) (l.there_and_back (m.right d) p (l.right_good d v))

  about : (d : D) → V d → m.left (m.left d) ≡ m.right (m.right d)
  about d v = ap m.left (sym (l.round d v)) ∙ l.left_right _ (l.right_good _ (l.right_good _ v))

module _ {P D : Type 0} {V : D → Type 0} (m : Moves P D) (l : MoveLaws m V) (X : P → Bool) where
  crack_by : (a b : Bool) (p : P) (d : D) → X (m.step (m.right d) (m.step d p)) ≡ b → X (m.step (m.right d) p) ≡ a → IsEdge m X V p d →
      let n = ahead_by m X b a p (m.step (m.right d) p) (m.step (m.right d) (m.step d p)) d in IsEdge m X V n.0 n.1
  crack_by a true p d hb ha c = (l.left_good d c.0, hb, rw (left_of_right m l d (m.step d p) c.0) c.2)
  crack_by true false p d hb ha c = (c.0, ha, rw (l.across d p c.0) hb)
  crack_by false false p d hb ha c = (l.right_good d c.0, c.1, ha)

  pub ahead_crack : (p : P) (d : D) → IsEdge m X V p d → let n = edge_ahead m X p d in IsEdge m X V n.0 n.1
  ahead_crack p d c = crack_by _ _ p d refl refl c

  undo_by : (a b : Bool) (p : P) (d : D) → X (m.step (m.right d) (m.step d p)) ≡ b → X (m.step (m.right d) p) ≡ a → IsEdge m X V p d →
      let n = ahead_by m X b a p (m.step (m.right d) p) (m.step (m.right d) (m.step d p)) d in ◌≡◌ {A = P × D} (edge_behind m X n.0 n.1) (p, d)
  undo_by a true p d hb ha c = rw (left_of_right m l d (m.step d p) c.0, about m l d c.0, l.there_and_back d p c.0, c.1, l.right_left d c.0)
  undo_by true false p d hb ha c = rw (l.across d p c.0, left_of_right m l d (m.step d p) c.0, left_of_right m l d p c.0, c.1, c.2)
  undo_by false false p d hb ha c = rw (l.left_right d c.0, l.across d p c.0, hb, c.2, l.left_right d c.0)

  pub behind_ahead : (p : P) (d : D) → IsEdge m X V p d → let n = edge_ahead m X p d in ◌≡◌ {A = P × D} (edge_behind m X n.0 n.1) (p, d)
  behind_ahead p d c = undo_by _ _ p d refl refl c

  pub ahead_one_to_one : (p q : P) (d e : D) → IsEdge m X V p d → IsEdge m X V q e → ◌≡◌ {A = P × D} (edge_ahead m X p d) (edge_ahead m X q e)
      → ◌≡◌ {A = P × D} (p, d) (q, e)
  ahead_one_to_one p q d e c k h = sym (behind_ahead p d c) ∙ (ap (λ (n : P × D). edge_behind m X n.0 n.1) h ∙ behind_ahead q e k)
