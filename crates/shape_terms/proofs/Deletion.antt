-- A set that loses a point whose neighbours in it are one component keeps its number of components, and a set that gains such a point as well.
-- Laws over any set and adjacency alone; a picture does not matter here.
use Rattle.std.proofs.Common.{◌≡◌, ◌≢◌, ℕ, ◌≤◌, arith, refl, sym, ◌∙◌, ap, subst, ◌⊎◌, inl, inr}
use Rattle.shape_terms.specs.Parts.{Connected, NamesParts, HasParts}
use Rattle.shape_terms.specs.Simple.{Holding}
use Rattle.shape_terms.proofs.Paths.{starts_in, joined_to, ends_in, in_greater}
use Rattle.shape_terms.proofs.PartCount.{along_path}

-- sets with the same points have the same components
module _ {A : Type 0} {R : A → A → Type 0} {Y Z : A → Type 0} (to : (a : A) → Y a → Z a) (of : (a : A) → Z a → Y a) where
  pub same_parts : {n : ℕ} → HasParts R Y n → HasParts R Z n
  same_parts k = (
    k.0,
    record {
      in_range = λ p z. k.1.in_range p (of p z);
      used = λ i a b. let u = k.1.used i a b in (u.0, to _ u.1, u.2);
      adjacent = λ p q y z a. k.1.adjacent p q (of p y) (of q z) a;
      connected = λ p q y z e. in_greater to (k.1.connected p q (of p y) (of q z) e);
    },
  )

-- so have the points that are connected to points of a set
pub same_holding : {A : Type 0} {R : A → A → Type 0} {Y Z G H : A → Type 0} → ((a : A) → Y a → Z a) → ((a : A) → Y a → G a → H a) → (a : A) → Holding R Y G a
    → Holding R Z H a
same_holding to g a (r, h, c) = (r, g r (starts_in c) h, in_greater to c)

-- one component: it has a point, and any two points are connected
module _ {A : Type 0} {R : A → A → Type 0} {Y : A → Type 0} where
  pub some_point : HasParts R Y 1 → (p : A) × Y p
  some_point k = let u = k.1.used 1 (omega arith) (omega arith) in (u.0, u.1)

  pub all_connected : HasParts R Y 1 → (p q : A) → Y p → Y q → Connected R Y p q
  all_connected k p q y z =
      let a = k.1.in_range p y in
      let b = k.1.in_range q z in
      k.1.connected p q y z (omega arith)

-- ---- the set O loses the point p

module _ {A : Type 0} (dec : (a b : A) → Dec (a ≡ b)) (N : A → A → Type 0) (flip : (a b : A) → N a b → N b a) (apart : (a : A) → N a a → ⊥)
    (O : A → Type 0) (p : A) (one : HasParts N (λ q. O q × N p q) 1) where
  -- a path from q is led round p: it may begin at q, or at a neighbour of p where q is p
  lead : {q r : A} → Connected N O q r → r ≢ p → (s : A) → O s → s ≢ p → (s ≡ q) ⊎ ((q ≡ p) × N p s) → Connected N (λ x. O x × (x ≢ p)) s r
  lead (Connected.here y) ne s os sp (inl e) = subst (λ x. Connected N (λ x. O x × (x ≢ p)) s x) e (Connected.here (os, sp))
  lead (Connected.here y) ne s os sp (inr w) = absurd (ne w.0)
  lead (Connected.onward {p = u} {q = q} y a j) ne s os sp (inl e) =
      elim (dec q p) [
        | yes h ↦ lead j ne s os sp (inr (h, flip _ _ (subst (λ x. N s x) h (subst (λ x. N x q) (sym e) a))))
        | no h ↦ Connected.onward (os, sp) (subst (λ x. N x q) (sym e) a) (lead j ne q (starts_in j) h (inl refl))
      ]
  lead (Connected.onward {p = u} {q = q} y a j) ne s os sp (inr w) =
      let n : N p q = subst (λ x. N x q) w.0 a in
      let h : q ≢ p = λ e. apart p (subst (λ x. N p x) e n) in
      joined_to (in_greater (λ x (u : O x × N p x). (u.0, λ e. apart p (subst (λ x. N p x) e u.1))) (all_connected one s q (os, w.1) (starts_in j, n)))
      (lead j ne q (starts_in j) h (inl refl))

  pub lost : {n : ℕ} → O p → HasParts N O n → HasParts N (λ x. O x × (x ≢ p)) n
  lost {n} op k = (
    k.0,
    record {
      in_range = λ q y. k.1.in_range q y.0;
      used = used;
      adjacent = λ q r y z a. k.1.adjacent q r y.0 z.0 a;
      connected = λ q r y z e. lead (k.1.connected q r y.0 z.0 e) z.1 q y.0 y.1 (inl refl);
    },
  )
    where
      used : (i : ℕ) → 1 ≤ i → i ≤ n → (q : A) × (O q × (q ≢ p)) × (k.0 q ≡ i)
      used i a b =
          let u = k.1.used i a b in
          let s = some_point one in
          elim (dec u.0 p) [
            | yes h ↦ (s.0, (s.1.0, λ e. apart p (subst (λ x. N p x) e s.1.1)), sym (k.1.adjacent p s.0 op s.1.0 s.1.1) ∙ (ap k.0 (sym h) ∙ u.2))
            | no h ↦ (u.0, (u.1, h), u.2)
          ]

-- ---- the set B gains the point p

abbrev relabel : {A : Type 0} {p q : A} → (A → ℕ) → A → Dec (q ≡ p) → ℕ
relabel {q = q} f h (yes e) = f h
relabel {q = q} f h (no e) = f q

module _ {A : Type 0} (dec : (a b : A) → Dec (a ≡ b)) (S : A → A → Type 0) (flip : (a b : A) → S a b → S b a)
    (B : A → Type 0) (Round : A → A → Type 0) (p : A) (around : (q : A) → S p q → Round p q)
    (one : HasParts S (Holding S (λ q. B q × Round p q) (S p)) 1)
    (Z : A → Type 0) (gains : Z p) (keeps : (q : A) → B q → Z q) (others : (q : A) → Z q → q ≢ p → B q) (new : B p → ⊥) where
  side_point : (h : A) × (B h × Round p h) × S p h
  side_point = let s = some_point one in (s.1.0, starts_in s.1.2, s.1.1)

  inside : (q r : A) → Connected S (λ q. B q × Round p q) q r → B q
  inside q r j = (starts_in j).0

  to_side : (q : A) → B q → S p q → Connected S B q side_point.0
  to_side q b s =
      in_greater (λ x (u : Holding S (λ q. B q × Round p q) (S p) x). (ends_in u.2).0)
      (all_connected one q side_point.0 (q, s, Connected.here (b, around q s)) (side_point.0, side_point.2, Connected.here side_point.1))

  module _ {n : ℕ} {f : A → ℕ} (k : NamesParts S B n f) where
    same_label : (q r : A) (d : Dec (q ≡ p)) (e : Dec (r ≡ p)) → Z q → Z r → S q r → relabel f side_point.0 d ≡ relabel f side_point.0 e
    same_label q r (yes a) (yes b) y z s = refl
    same_label q r (yes a) (no b) y z s = sym (along_path f k.adjacent (to_side r (others r z b) (subst (λ x. S x r) a s)))
    same_label q r (no a) (yes b) y z s = along_path f k.adjacent (to_side q (others q y a) (flip _ _ (subst (λ x. S q x) b s)))
    same_label q r (no a) (no b) y z s = k.adjacent q r (others q y a) (others r z b) s

    path : (q r : A) (d : Dec (q ≡ p)) (e : Dec (r ≡ p)) → Z q → Z r → relabel f side_point.0 d ≡ relabel f side_point.0 e → Connected S Z q r
    path q r (yes a) (yes b) y z s = subst (λ x. Connected S Z q x) (a ∙ sym b) (Connected.here y)
    path q r (yes a) (no b) y z s = Connected.onward y (subst (λ x. S x side_point.0) (sym a) side_point.2)
        (in_greater keeps (k.connected side_point.0 r side_point.1.0 (others r z b) s))
    path q r (no a) (yes b) y z s = joined_to (in_greater keeps (k.connected q side_point.0 (others q y a) side_point.1.0 s))
        (Connected.onward (keeps _ side_point.1.0) (subst (λ x. S side_point.0 x) (sym b) (flip _ _ side_point.2)) (Connected.here z))
    path q r (no a) (no b) y z s = in_greater keeps (k.connected q r (others q y a) (others r z b) s)

    range : (q : A) (d : Dec (q ≡ p)) → Z q → (1 ≤ relabel f side_point.0 d) × (relabel f side_point.0 d ≤ n)
    range q (yes a) z = k.in_range _ side_point.1.0
    range q (no a) z = k.in_range _ (others q z a)

    old : (q : A) (d : Dec (q ≡ p)) → B q → relabel f side_point.0 d ≡ f q
    old q (yes a) b = absurd (new (subst B a b))
    old q (no a) b = refl

    pub gained : HasParts S Z n
    gained = (
      (λ q. relabel f side_point.0 (dec q p)),
      record {
        in_range = λ q z. range q (dec q p) z;
        used = λ i a b. let u = k.used i a b in (u.0, keeps _ u.1, old u.0 (dec u.0 p) u.1 ∙ u.2);
        adjacent = λ q r y z s. same_label q r (dec q p) (dec r p) y z s;
        connected = λ q r y z e. path q r (dec q p) (dec r p) y z e;
      },
    )
