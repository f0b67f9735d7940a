-- What holds while the components of a set are labelled one after the other. The label 0 means that there is none yet.
-- Said of any set and adjacency; how the labels are kept and where the search goes on belongs elsewhere.
use Rattle.std.specs.Prelude.{◌≡◌, ℕ, suc, ◌≤◌}
use Rattle.shape_terms.specs.Parts.{Connected, NamesParts}

-- n whole components of O are labelled
pub record Flooded {A : Type 0} (O : A → Type 0) (R : A → A → Type 0) (n : ℕ) (f : A → ℕ) : Type 0 where
  pub member : (p : A) → 1 ≤ f p → O p
  pub shut : (p q : A) → 1 ≤ f p → O q → R p q → 1 ≤ f q
  pub parts : NamesParts R (λ p. 1 ≤ f p) n f

-- n whole components are labelled, and that of s is being labelled n + 1; W holds the points whose neighbours may lack a label
pub record Flooding {A : Type 0} (O : A → Type 0) (R : A → A → Type 0) (n : ℕ) (s : A) (W : A → Type 0) (f : A → ℕ) : Type 0 where
  pub member : (p : A) → 1 ≤ f p → O p
  pub top : (p : A) → f p ≤ suc n
  pub old_shut : (p q : A) → 1 ≤ f p → f p ≤ n → O q → R p q → (1 ≤ f q) × (f q ≤ n)
  pub old : NamesParts R (λ p. (1 ≤ f p) × (f p ≤ n)) n f
  pub seed : f s ≡ suc n
  pub grown : (p : A) → f p ≡ suc n → Connected R (λ q. f q ≡ suc n) s p
  pub edge : (p q : A) → f p ≡ suc n → (W p → ⊥) → O q → R p q → f q ≡ suc n

-- g is f with the value v at the points of Q
pub record Put {A : Type 0} (f g : A → ℕ) (Q : A → Type 0) (v : ℕ) : Type 0 where
  pub here : (x : A) → Q x → g x ≡ v
  pub there : (x : A) → (Q x → ⊥) → g x ≡ f x
