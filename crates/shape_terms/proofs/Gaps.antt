-- Stretches whose gaps are bent are exactly the maximal straight runs.
-- Runs are pairs of places; what makes one straight does not matter here.
use Rattle.std.proofs.Common.{◌≡◌, ℕ, zero, suc, pred, ◌+◌, ◌<◌, ◌≤◌, arith, ap, subst, ◌∙◌, ◌↔◌}
use native.Mathlib.Decide.{dec_lt}
use Rattle.shape_terms.proofs.Stretches.{Runs, Maximal, Gapped}

-- the last k at which a rising sequence is at most b
place : (B : ℕ → ℕ) (b m : ℕ) → B 0 ≤ b → b < B m → (k : ℕ) × (k < m) × (B k ≤ b) × (b < B (suc k))
place B b zero l h = absurd (omega arith)
place B b (suc m) l h = elim (dec_lt b (B m)) [
  | yes s ↦ (let r = place B b m l s in (r.0, omega arith, r.2, r.3))
  | no s ↦ (m, omega arith, omega arith, h)
]

module _ {n : ℕ} {S : ℕ → ℕ → Type 0} {m : ℕ} {B E : ℕ → ℕ} (r : Runs n S) (g : Gapped n S m B E) where
  not_right : (k : ℕ) → k < m → S (B k) (suc (E k)) → ⊥
  not_right k h s =
      let a = g.rising_b k h in
      let b = g.wide k h in
      g.bent k h (r.part _ _ _ _ s (omega arith) (omega arith) (omega arith))

  not_left : (k : ℕ) → k < m → S (pred (B k + n)) (E k + n) → ⊥
  not_left zero h s =
      let z : suc (pred m) ≡ m = omega (arith, g.some) in
      let i : pred m < m = omega arith in
      let a = g.rising_e (pred m) i in
      let b = g.wide (pred m) i in
      let c = g.rising_b (pred m) i in
      let wb : B (suc (pred m)) ≡ B 0 + n = ap B z ∙ g.wrapped_b in
      let we : E (suc (pred m)) ≡ E 0 + n = ap E z ∙ g.wrapped_e in
      g.bent (pred m) i (r.part _ _ _ _ s (omega arith) (omega arith) (omega arith))
  not_left (suc k) h s =
      let i : k < m = omega arith in
      let a = g.rising_e k i in
      let b = g.wide k i in
      let c = g.rising_b k i in
      g.bent k i (r.part _ _ _ _ (r.off (pred (B (suc k))) (E (suc k)) (subst (λ x. S x (E (suc k) + n)) (omega arith) s)) (omega arith) (omega arith)
      (omega arith))

  pub each_maximal : (k : ℕ) → k < m → Maximal n S (B k) (E k)
  each_maximal k h = (g.straight k h, not_left k h, not_right k h)

  -- a straight run that begins from B k on and before B (k + 1) ends by E k
  ends_by : (k : ℕ) → k < m → (b e : ℕ) → S b e → B k ≤ b → b < B (suc k) → b ≤ e → e ≤ E k
  ends_by k h b e s l u w = elim (dec_lt (E k) e) [
    | yes t ↦ (let a = g.wide k h in absurd (g.bent k h (r.part _ _ _ _ s (omega arith) (omega arith) (omega arith))))
    | no t ↦ omega arith
  ]

  -- a run within a stretch that no longer run holds is the stretch
  whole : (k : ℕ) → k < m → (b e : ℕ) → 1 ≤ n → Maximal n S b e → B k ≤ b → e ≤ E k → (B k ≡ b) × (E k ≡ e)
  whole k h b e pos x l u =
      let o = r.ordered b e x.0 in
      let s = g.straight k h in
      let left : b ≤ B k = elim (dec_lt (B k) b) [
        | yes t ↦ absurd (x.1 (subst (λ y. S y (e + n)) (omega arith) (r.on (pred b) e (r.part _ _ _ _ s (omega arith) (omega arith) u))))
        | no t ↦ omega arith
      ] in
      let right : E k ≤ e = elim (dec_lt e (E k)) [
        | yes t ↦ absurd (x.2 (r.part _ _ _ _ s l (omega arith) (omega arith)))
        | no t ↦ omega arith
      ] in
      (omega arith, omega arith)

  pub each_listed : (b e : ℕ) → b < n → Maximal n S b e → (k : ℕ) × (k < m) × (B k ≡ b) × (E k ≡ e)
  each_listed b e h x =
      let o = r.ordered b e x.0 in
      elim (dec_lt b (B 0)) [
        | no t ↦ (
            let p = place B b m (omega arith) (let w = g.wrapped_b in omega arith) in
            let u = ends_by p.0 p.1 b e x.0 p.2 p.3 o in
            let w = whole p.0 p.1 b e (omega arith) x p.2 u in
            (p.0, p.1, w.0, w.1))
        | yes t ↦ (
            let p = place B (b + n) m (let w = g.low in omega arith) (let w = g.wrapped_b in omega arith) in
            let top = g.top p.0 p.1 in
            let u = ends_by p.0 p.1 (b + n) (e + n) (r.on b e x.0) p.2 p.3 (omega arith) in
            absurd (x.1 (r.part _ _ _ _ (g.straight p.0 p.1) (omega arith) (omega arith) u)))
      ]

  -- the stretches are exactly the maximal runs that begin below n
  pub exactly : (b e : ℕ) → b < n → Maximal n S b e ↔ ((k : ℕ) × (k < m) × (B k ≡ b) × (E k ≡ e))
  exactly b e h = (each_listed b e h, λ w. subst (λ y. Maximal n S y e) w.2 (subst (λ y. Maximal n S (B w.0) y) w.3 (each_maximal w.0 w.1)))
