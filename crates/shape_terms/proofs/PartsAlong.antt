-- The components of a set of numbered places are those of the points that the places stand for.
use Rattle.std.proofs.Common.{◌≡◌, ℕ, sym, ◌∙◌, ap, subst}
use Rattle.shape_terms.specs.Parts.{Connected, NamesParts}

-- a path from place to place is one from point to point
module _ {A : Type 0} {R : A → A → Type 0} {Y : ℕ → Type 0} {Z : A → Type 0} (to : ℕ → A) (into : (i : ℕ) → Y i → Z (to i)) where
  pub path_along : {j k : ℕ} → Connected (λ i j. R (to i) (to j)) Y j k → Connected R Z (to j) (to k)
  path_along (Connected.here y) = Connected.here (into _ y)
  path_along (Connected.onward y r c) = Connected.onward (into _ y) r (path_along c)

module _ {A : Type 0} (R : A → A → Type 0) (Y : ℕ → Type 0) (Z : A → Type 0) (to : ℕ → A) (of : A → ℕ)
    (into : (i : ℕ) → Y i → Z (to i)) (back : (a : A) → Z a → (Y (of a)) × (to (of a) ≡ a)) (once : (i : ℕ) → Y i → of (to i) ≡ i) where
  pub parts_along : (n : ℕ) (f : ℕ → ℕ) → NamesParts (λ i j. R (to i) (to j)) Y n f → NamesParts R Z n (λ a. f (of a))
  parts_along n f p = record {
    in_range = λ a z. p.in_range (of a) (back a z).0;
    used = λ k l u. let w = p.used k l u in (to w.0, into w.0 w.1, ap f (once w.0 w.1) ∙ w.2);
    adjacent = λ a b y z r. p.adjacent (of a) (of b) (back a y).0 (back b z).0 (moved_back a b y z r);
    connected = λ a b y z e. path a b y z (p.connected (of a) (of b) (back a y).0 (back b z).0 e);
  }
    where
      moved_back : (a b : A) → Z a → Z b → R a b → R (to (of a)) (to (of b))
      moved_back a b y z r = subst (λ x. R x (to (of b))) (sym (back a y).1) (subst (λ x. R a x) (sym (back b z).1) r)

      path : (a b : A) → Z a → Z b → Connected (λ i j. R (to i) (to j)) Y (of a) (of b) → Connected R Z a b
      path a b y z c = subst (λ x. Connected R Z x b) (back a y).1 (subst (λ x. Connected R Z (to (of a)) x) (back b z).1 (path_along to into c))
