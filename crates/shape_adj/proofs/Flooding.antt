-- Labelling the components of a set one after the other: the steps of a flood, over any set and adjacency.
-- A step is a lemma that leads from one fact of `Flood` to the next; no list or program stands here.
use Rattle.std.proofs.Common.{◌≡◌, ℕ, suc, ◌≤◌, arith, sym, ◌∙◌, ◌⊎◌, inl, inr}
use native.Mathlib.Decide.{dec_le}
use Rattle.shape_terms.specs.Parts.{Connected, NamesParts}
use Rattle.shape_terms.proofs.Paths.{joined_to, turned_back, in_greater}
use Rattle.shape_adj.specs.Flood.{Flooded, Flooding, Put}

-- ---- labels of a set

-- the same labels of a set with the same points
module _ {A : Type 0} {R : A → A → Type 0} {Y Z : A → Type 0} (to : (a : A) → Y a → Z a) (of : (a : A) → Z a → Y a) where
  pub named_as_well : {n : ℕ} {f : A → ℕ} → NamesParts R Y n f → NamesParts R Z n f
  named_as_well k = record {
    in_range = λ p z. k.in_range p (of p z);
    used = λ i a b. let u = k.used i a b in (u.0, to _ u.1, u.2);
    adjacent = λ p q y z a. k.adjacent p q (of p y) (of q z) a;
    connected = λ p q y z e. in_greater to (k.connected p q (of p y) (of q z) e);
  }

-- the same labels under another function
module _ {A : Type 0} {R : A → A → Type 0} {Y Z : A → Type 0} {f g : A → ℕ} (to : (a : A) → Y a → Z a) (of : (a : A) → Z a → Y a)
    (e : (a : A) → Y a → g a ≡ f a) where
  pub named_alike : {n : ℕ} → NamesParts R Y n f → NamesParts R Z n g
  named_alike {n} k = record {
    in_range = λ p z. let a = k.in_range p (of p z) in let b = e p (of p z) in (omega arith, omega arith);
    used = λ i a b. let u = k.used i a b in (u.0, to _ u.1, e _ u.1 ∙ u.2);
    adjacent = λ p q y z a. e p (of p y) ∙ (k.adjacent p q (of p y) (of q z) a ∙ sym (e q (of q z)));
    connected = λ p q y z h. in_greater to (k.connected p q (of p y) (of q z) (sym (e p (of p y)) ∙ (h ∙ e q (of q z))));
  }

-- one more part: the points of label n + 1
module _ {A : Type 0} {R : A → A → Type 0} {Y : A → Type 0} {n : ℕ} {f : A → ℕ}
    (k : NamesParts R (λ p. (Y p) × (f p ≤ n)) n f) (top : (p : A) → Y p → f p ≤ suc n) (c : A) (yc : Y c) (fc : f c ≡ suc n)
    (flip : (p q : A) → R p q → R q p)
    (grown : (p : A) → Y p → f p ≡ suc n → Connected R (λ q. (Y q) × (f q ≡ suc n)) c p)
    (shut : (p q : A) → Y p → Y q → R p q → f p ≡ suc n → f q ≡ suc n) where
  pub one_part_more : NamesParts R Y (suc n) f
  one_part_more = record {
    in_range = λ p y. (elim (dec_le (f p) n) [ yes l ↦ (k.in_range p (y, l)).0 | no l ↦ omega arith ], top p y);
    used = used;
    adjacent = λ p q y z a. elim (dec_le (f p) n) [
      | yes l ↦ elim (dec_le (f q) n) [
        | yes m ↦ k.adjacent p q (y, l) (z, m) a
        | no m ↦ (let e : f q ≡ suc n = (let t = top q z in omega arith) in let g = shut q p z y (flip _ _ a) e in omega arith)
      ]
      | no l ↦ (let e : f p ≡ suc n = (let t = top p y in omega arith) in let g = shut p q y z a e in omega arith)
    ];
    connected = λ p q y z e. elim (dec_le (f p) n) [
      | yes l ↦ in_greater (λ x u. u.0) (k.connected p q (y, l) (z, omega arith) e)
      | no l ↦ (
          let g : f p ≡ suc n = (let t = top p y in omega arith) in
          let h : f q ≡ suc n = omega arith in
          in_greater (λ x (u : (Y x) × (f x ≡ suc n)). u.0) (joined_to (turned_back flip (grown p y g)) (grown q z h)))
    ];
  }
    where
      used : (i : ℕ) → 1 ≤ i → i ≤ suc n → (p : A) × (Y p) × (f p ≡ i)
      used i a b = elim (dec_le i n) [
        | yes l ↦ (let u = k.used i a l in (u.0, u.1.0, u.2))
        | no l ↦ (c, yc, omega arith)
      ]

-- ---- the steps of a flood

module _ {A : Type 0} {O : A → Type 0} {R : A → A → Type 0} (flip : (p q : A) → R p q → R q p) where
  -- a new part begins with the points of Q, which are connected with s
  pub flood_start : {n : ℕ} {f g : A → ℕ} {Q : A → Type 0} (dec : (x : A) → Dec (Q x)) (s : A) → Flooded O R n f → Q s → ((x : A) → Q x → O x)
      → ((x : A) → Q x → f x ≡ 0) → Put f g Q (suc n) → ((x : A) → Q x → Connected R (λ y. g y ≡ suc n) s x) → Flooding O R n s Q g
  flood_start {n} {f} {g} {Q} dec s w first o z u joined = record {
    member = is_member;
    top = top;
    old_shut = old_shut;
    old = named_alike to of same w.parts;
    seed = u.here s first;
    grown = λ p e. elim (dec p) [
      | yes h ↦ joined p h
      | no h ↦ absurd
          (let a = other p h in let b = up p in omega arith)
    ];
    edge = λ p q e h oq r. elim (dec p) [ yes i ↦ absurd (h i) | no i ↦ absurd (let a = other p i in let b = up p in omega arith) ];
  }
    where
      up : (p : A) → f p ≤ n
      up p = elim (dec_le 1 (f p)) [ yes h ↦ (w.parts.in_range p h).1 | no h ↦ omega arith ]

      other : (p : A) → (Q p → ⊥) → g p ≡ f p
      other p h = u.there p h

      new : (p : A) → 1 ≤ g p → g p ≤ n → Q p → ⊥
      new p a b e = let h : g p ≡ suc n = u.here p e in omega arith

      labelled : (p : A) → 1 ≤ f p → Q p → ⊥
      labelled p a e = let h : f p ≡ 0 = z p e in omega arith

      to : (p : A) → 1 ≤ f p → (1 ≤ g p) × (g p ≤ n)
      to p a = let b = other p (labelled p a) in let c = up p in (omega arith, omega arith)

      of : (p : A) → (1 ≤ g p) × (g p ≤ n) → 1 ≤ f p
      of p a = let b = other p (new p a.0 a.1) in let c = a.0 in omega arith

      same : (p : A) → 1 ≤ f p → g p ≡ f p
      same p a = other p (labelled p a)

      is_member : (p : A) → 1 ≤ g p → O p
      is_member p a = elim (dec p) [ yes h ↦ o p h | no h ↦ w.member p (let b = other p h in omega arith) ]

      top : (p : A) → g p ≤ suc n
      top p = elim (dec p) [ yes h ↦ (let e : g p ≡ suc n = u.here p h in omega arith) | no h ↦ (let b = other p h in let c = up p in omega arith) ]

      old_shut : (p q : A) → 1 ≤ g p → g p ≤ n → O q → R p q → (1 ≤ g q) × (g q ≤ n)
      old_shut p q a b oq r = to q (w.shut p q (of p (a, b)) oq r)

  -- the points of Q, which are connected with s then, get the label, and join the points whose neighbours are to be looked at
  pub flood_grow : {n : ℕ} {f g : A → ℕ} {s : A} {W Q : A → Type 0} (dec : (x : A) → Dec (Q x)) → Flooding O R n s W f → ((x : A) → Q x → O x)
      → ((x : A) → Q x → f x ≡ 0) → Put f g Q (suc n) → ((x : A) → Q x → Connected R (λ y. g y ≡ suc n) s x) → Flooding O R n s (λ x. Q x ⊎ W x) g
  flood_grow {n} {f} {g} {s} {W} {Q} dec w o z u joined = record {
    member = λ x a. elim (dec x) [ yes h ↦ o x h | no h ↦ w.member x (let b = u.there x h in omega arith) ];
    top = λ x. elim (dec x)
        [ yes h ↦ (let e : g x ≡ suc n = u.here x h in omega arith) | no h ↦ (let b = u.there x h in let c = w.top x in omega arith) ];
    old_shut = λ x y a b oy r. to y (let c = of x (a, b) in w.old_shut x y c.0 c.1 oy r);
    old = named_alike to of same w.old;
    seed = keeps s w.seed;
    grown = grown;
    edge = edge;
  }
    where
      labelled : (x : A) → 1 ≤ f x → Q x → ⊥
      labelled x a e = let h : f x ≡ 0 = z x e in omega arith

      keeps : (x : A) → f x ≡ suc n → g x ≡ suc n
      keeps x e = u.there x (labelled x (omega arith)) ∙ e

      new : (x : A) → g x ≤ n → Q x → ⊥
      new x b e = let h : g x ≡ suc n = u.here x e in omega arith

      to : (x : A) → (1 ≤ f x) × (f x ≤ n) → (1 ≤ g x) × (g x ≤ n)
      to x a = let b = u.there x (labelled x a.0) in let c = a.0 in let d = a.1 in (omega arith, omega arith)

      of : (x : A) → (1 ≤ g x) × (g x ≤ n) → (1 ≤ f x) × (f x ≤ n)
      of x a = let b = u.there x (new x a.1) in let c = a.0 in let d = a.1 in (omega arith, omega arith)

      same : (x : A) → (1 ≤ f x) × (f x ≤ n) → g x ≡ f x
      same x a = u.there x (labelled x a.0)

      grown : (x : A) → g x ≡ suc n → Connected R (λ y. g y ≡ suc n) s x
      grown x e = elim (dec x) [ yes h ↦ joined x h | no h ↦ in_greater keeps (w.grown x (sym (u.there x h) ∙ e)) ]

      edge : (x y : A) → g x ≡ suc n → (Q x ⊎ W x → ⊥) → O y → R x y → g y ≡ suc n
      edge x y e h oy r = keeps y (w.edge x y (sym (u.there x (λ i. h (inl i))) ∙ e) (λ i. h (inr i)) oy r)

  -- points whose neighbours have the label are done with
  pub flood_drop : {n : ℕ} {f : A → ℕ} {s : A} {W V Q : A → Type 0} (dec : (x : A) → Dec (Q x)) → Flooding O R n s W f
      → ((p q : A) → Q p → O q → R p q → f q ≡ suc n) → ((x : A) → W x → Q x ⊎ V x) → Flooding O R n s V f
  flood_drop {n} {f} {s} {W} {V} {Q} dec w all less = record {
    member = w.member;
    top = w.top;
    old_shut = w.old_shut;
    old = w.old;
    seed = w.seed;
    grown = w.grown;
    edge = λ x y e h oy r. elim (dec x) [
      | yes i ↦ all x y i oy r
      | no i ↦ w.edge x y e (λ k. elim (less x k) [ inl a ↦ i a | inr b ↦ h b ]) oy r
    ];
  }

  -- no point is left to be looked at
  pub flood_end : {n : ℕ} {f : A → ℕ} {s : A} {W : A → Type 0} → Flooding O R n s W f → ((x : A) → W x → ⊥) → Flooded O R (suc n) f
  flood_end {n} {f} {s} {W} w none = record {
    member = w.member;
    shut = shut;
    parts = one_part_more (named_as_well (λ p a. a) (λ p a. a) w.old) (λ p y. w.top p) s (let a = w.seed in omega arith) w.seed flip
        (λ p y e. in_greater (λ q i. (let j : f q ≡ suc n = i in omega arith, i)) (w.grown p e))
        (λ p q y z r e. w.edge p q e (none p) (w.member q z) r);
  }
    where
      shut : (p q : A) → 1 ≤ f p → O q → R p q → 1 ≤ f q
      shut p q a oq r = elim (dec_le (f p) n) [
        | yes h ↦ (w.old_shut p q a h oq r).0
        | no h ↦ (let t = w.top p in let e = w.edge p q (omega arith) (none p) oq r in omega arith)
      ]

-- more points may be looked at again
pub flood_work : {A : Type 0} {O : A → Type 0} {R : A → A → Type 0} {n : ℕ} {f : A → ℕ} {s : A} {W V : A → Type 0} → Flooding O R n s W f
    → ((x : A) → W x → V x) → Flooding O R n s V f
flood_work w less = record {
  member = w.member;
  top = w.top;
  old_shut = w.old_shut;
  old = w.old;
  seed = w.seed;
  grown = w.grown;
  edge = λ x y e h oy r. w.edge x y e (λ k. h (less x k)) oy r;
}
