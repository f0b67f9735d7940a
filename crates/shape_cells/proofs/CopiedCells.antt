-- Places that are copied to the cells of true values, and from them, while one place is done after another, and one place of all lines.
-- Laws over lists and numbers alone.
use Rattle.std.proofs.Common.{◌≡◌, ℕ, ◌+◌, ◌*◌, ◌<◌, ◌≤◌, Bool, true, false, List, length, set, get_or, below_more, sym, ap, ◌∙◌, arith, get_or-set_same}
use Rattle.std.proofs.Common.{get_or-set_other}
use Rattle.std.proofs.lemmas.List.{get_or_default}
use Rattle.shape_envelope.proofs.Blocks.{other_beside}

-- ---- one place more of a row: the place at + j gets what stands at the place g j of another list, if its value is true

module _ {A : Type 0} (objects : List Bool) (at : ℕ) (g : ℕ → ℕ) (j : ℕ) (values from : List A) where
  pub put_more : (v : A) → at + j < length values → g j < length from → v ≡ get_or from (g j) v
      → ((d : A) (k : ℕ) → k < j → get_or objects (at + k) false ≡ true → get_or values (at + k) d ≡ get_or from (g k) d)
      → (d : A) (k : ℕ) → k < j + 1 → get_or objects (at + k) false ≡ true → get_or (set values (at + j) v) (at + k) d ≡ get_or from (g k) d
  put_more v inside there read old d = below_more
      (λ k. get_or objects (at + k) false ≡ true → get_or (set values (at + j) v) (at + k) d ≡ get_or from (g k) d) j
      (λ k l t. get_or-set_other values (at + j) (at + k) v d (λ e. omega (arith, l, e)) ∙ old d k l t)
      (λ t. get_or-set_same values (at + j) v d inside ∙ read ∙ get_or_default from (g j) v d there)

  pub others_more : (v : A) (first : List A) → get_or objects (at + j) false ≡ true
      → ((d : A) (i : ℕ) → ((k : ℕ) → k < j → i ≡ at + k → get_or objects i false ≡ true → ⊥) → get_or values i d ≡ get_or first i d)
      → (d : A) (i : ℕ) → ((k : ℕ) → k < j + 1 → i ≡ at + k → get_or objects i false ≡ true → ⊥) → get_or (set values (at + j) v) i d ≡ get_or first i d
  others_more v first t old d i none =
      get_or-set_other values (at + j) i v d (λ e. none j (omega arith) e (ap (λ i. get_or objects i false) e ∙ t)) ∙ old d i (λ k l. none k (omega (arith, l)))

  pub put_kept : get_or objects (at + j) false ≡ false
      → ((d : A) (k : ℕ) → k < j → get_or objects (at + k) false ≡ true → get_or values (at + k) d ≡ get_or from (g k) d)
      → (d : A) (k : ℕ) → k < j + 1 → get_or objects (at + k) false ≡ true → get_or values (at + k) d ≡ get_or from (g k) d
  put_kept f old d = below_more (λ k. get_or objects (at + k) false ≡ true → get_or values (at + k) d ≡ get_or from (g k) d) j
      (λ k l t. old d k l t)
      (λ t. absurd (let x : true ≡ false = sym t ∙ f in cc))

  pub others_kept : (first : List A)
      → ((d : A) (i : ℕ) → ((k : ℕ) → k < j → i ≡ at + k → get_or objects i false ≡ true → ⊥) → get_or values i d ≡ get_or first i d)
      → (d : A) (i : ℕ) → ((k : ℕ) → k < j + 1 → i ≡ at + k → get_or objects i false ≡ true → ⊥) → get_or values i d ≡ get_or first i d
  others_kept first old d i none = old d i (λ k l. none k (omega (arith, l)))

-- ---- one place more of all lines

module _ {A : Type 0} (objects : List Bool) (start step side lines y : ℕ) where
  pub lines_put : (old values block : List A) → lines ≤ step
      → ((d : A) (j z : ℕ) → j < lines → z < y → get_or objects (start + z * step + j) false ≡ true
      → get_or old (start + z * step + j) d ≡ get_or block (j * side + z) d)
      → ((d : A) (j : ℕ) → j < lines → get_or objects (start + y * step + j) false ≡ true
      → get_or values (start + y * step + j) d ≡ get_or block (j * side + y) d)
      → ((d : A) (i : ℕ) → ((j : ℕ) → j < lines → i ≡ start + y * step + j → get_or objects i false ≡ true → ⊥) → get_or values i d ≡ get_or old i d)
      → (d : A) (j z : ℕ) → j < lines → z < y + 1 → get_or objects (start + z * step + j) false ≡ true
      → get_or values (start + z * step + j) d ≡ get_or block (j * side + z) d
  lines_put old values block apart before put others d j z l = below_more
      (λ z. get_or objects (start + z * step + j) false ≡ true → get_or values (start + z * step + j) d ≡ get_or block (j * side + z) d) y
      (λ z h t. others d (start + z * step + j) (λ k m e _. other_beside start step z j y k (omega arith) (omega arith) (omega arith) e) ∙ before d j z l h t)
      (put d j l) z

  pub lines_left : (first old values : List A)
      → ((d : A) (i : ℕ) → ((j z : ℕ) → j < lines → z < y → i ≡ start + z * step + j → get_or objects i false ≡ true → ⊥) → get_or old i d ≡ get_or first i d)
      → ((d : A) (i : ℕ) → ((j : ℕ) → j < lines → i ≡ start + y * step + j → get_or objects i false ≡ true → ⊥) → get_or values i d ≡ get_or old i d)
      → (d : A) (i : ℕ) → ((j z : ℕ) → j < lines → z < y + 1 → i ≡ start + z * step + j → get_or objects i false ≡ true → ⊥)
      → get_or values i d ≡ get_or first i d
  lines_left first old values before others d i none =
      others d i (λ j l. none j y l (omega arith)) ∙ before d i (λ j z l h. none j z l (omega (arith, h)))
