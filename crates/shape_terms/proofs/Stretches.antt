-- Straight runs of a closed contour of n places, its maximal runs, and stretches with bent gaps.
-- Runs are pairs of places; what makes one straight does not matter here.
use Rattle.std.specs.Prelude.{◌≡◌, ℕ, ◌+◌, ◌<◌, ◌≤◌, pred, suc}

-- a family of runs: a part of a straight run is straight, and a place stands for the places n further on
pub record Runs (n : ℕ) (S : ℕ → ℕ → Type 0) : Type 0 where
  pub ordered : (a b : ℕ) → S a b → a ≤ b
  pub part : (a b c d : ℕ) → S a b → a ≤ c → c ≤ d → d ≤ b → S c d
  pub on : (a b : ℕ) → S a b → S (a + n) (b + n)
  pub off : (a b : ℕ) → S (a + n) (b + n) → S a b

-- the run from b to e is straight, and neither the one from b - 1 nor the one to e + 1 is
abbrev pub Maximal : ℕ → (ℕ → ℕ → Type 0) → ℕ → ℕ → Type 0
Maximal n S b e = (S b e) × (S (pred (b + n)) (e + n) → ⊥) × (S b (suc e) → ⊥)

-- m stretches from B k to E k
pub record Gapped (n : ℕ) (S : ℕ → ℕ → Type 0) (m : ℕ) (B E : ℕ → ℕ) : Type 0 where
  pub some : 1 ≤ m
  pub low : B 0 < n
  pub wrapped_b : B m ≡ B 0 + n
  pub wrapped_e : E m ≡ E 0 + n
  pub in_range : (k : ℕ) → k < m → B k ≤ E k
  pub rising_b : (k : ℕ) → k < m → B k < B (suc k)
  pub rising_e : (k : ℕ) → k < m → E k < E (suc k)
  pub top : (k : ℕ) → k < m → B k < n
  pub straight : (k : ℕ) → k < m → S (B k) (E k)
  pub wide : (k : ℕ) → k < m → B (suc k) ≤ E k + 2
  pub bent : (k : ℕ) → k < m → S (pred (B (suc k))) (suc (E k)) → ⊥

-- a walk over stretches: each begins at the least place from which a straight run passes the end of the one before
pub record Walk (n : ℕ) (S : ℕ → ℕ → Type 0) (m : ℕ) (B E : ℕ → ℕ) : Type 0 where
  pub some : 1 ≤ m
  pub low : B 0 < n
  pub first : S (pred (B 0 + n)) (E 0 + n) → ⊥
  pub least : (b e : ℕ) → b < B 0 → Maximal n S b e → ⊥
  pub before : (k : ℕ) → k < m → B k < B 0 + n
  pub reached : B 0 + n ≤ B m
  pub in_range : (k : ℕ) → k ≤ m → B k ≤ E k
  pub rising_b : (k : ℕ) → k < m → B k < B (suc k)
  pub rising_e : (k : ℕ) → k < m → E k < E (suc k)
  pub straight : (k : ℕ) → k ≤ m → S (B k) (E k)
  pub longest : (k : ℕ) → k ≤ m → S (B k) (suc (E k)) → ⊥
  pub wide : (k : ℕ) → k < m → B (suc k) ≤ E k + 2
  pub bent : (k : ℕ) → k < m → S (pred (B (suc k))) (suc (E k)) → ⊥
