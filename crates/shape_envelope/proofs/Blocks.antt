-- Places of lists that are copied one after the other, and the places of lines in a block.
-- Laws over lists and numbers alone.
use Rattle.std.proofs.Common.{◌≡◌, ◌≢◌, ℕ, ◌+◌, ◌*◌, ◌<◌, ◌≤◌, List, length, set, get_or, below_more, get_or-set_same, get_or-set_other, ◌∙◌, arith}
use Rattle.std.proofs.lemmas.List.{get_or_default}
use Rattle.std.proofs.lemmas.Nat.{mul-le, same_from_place}

-- the place of a line of a block, and that the places of other lines, or of other places of a line, are others
pub line_in_block : (side lines n j y : ℕ) → j < lines → y < side → lines * side ≤ n → j * side + y < n
line_in_block side lines n j y l h room =
    let m : (j + 1) * side ≤ lines * side = mul-le (j + 1) side lines side (omega arith) (omega arith) in
    omega (arith, m)

pub lines_apart : (side y i j : ℕ) → y < side → i < j → i * side + y ≢ j * side + y
lines_apart side y i j h l e =
    let m : (i + 1) * side ≤ j * side = mul-le (i + 1) side j side (omega arith) (omega arith) in
    omega (arith, m, e)

pub other_in_line : (side i y j z : ℕ) → y < side → z < side → y ≢ z → i * side + y ≢ j * side + z
other_in_line side i y j z h k n e = n (same_from_place i y j z side h k e).1

pub other_beside : (start step y i z j : ℕ) → i < step → j < step → y ≢ z → start + y * step + i ≢ start + z * step + j
other_beside start step y i z j h k n e = n (same_from_place y i z j step h k (omega (arith, e))).0

-- ---- one place more: the place f j of a list gets what stands at the place g j of another one

module _ {T : Type 0} (f g : ℕ → ℕ) (j : ℕ) (v : T) (to from : List T) where
  pub copied_more : ((i : ℕ) → i < j → f i ≢ f j) → f j < length to → g j < length from → v ≡ get_or from (g j) v
      → ((d : T) (i : ℕ) → i < j → get_or to (f i) d ≡ get_or from (g i) d)
      → (d : T) (i : ℕ) → i < j + 1 → get_or (set to (f j) v) (f i) d ≡ get_or from (g i) d
  copied_more apart inside there read old d = below_more _ j
      (λ i l. get_or-set_other to (f j) (f i) v d (apart i l) ∙ old d i l)
      (get_or-set_same to (f j) v d inside ∙ read ∙ get_or_default from (g j) v d there)

  pub others_stay : (first : List T) → ((d : T) (i : ℕ) → ((k : ℕ) → k < j → i ≡ f k → ⊥) → get_or to i d ≡ get_or first i d)
      → (d : T) (i : ℕ) → ((k : ℕ) → k < j + 1 → i ≡ f k → ⊥) → get_or (set to (f j) v) i d ≡ get_or first i d
  others_stay first old d i none =
      get_or-set_other to (f j) i v d (none j (omega arith)) ∙ old d i (λ k l. none k (omega arith))

-- ---- one place more of all lines

module _ {T : Type 0} (start step side lines y : ℕ) (inside : y < side) where
  pub lines_taken : (old block cells : List T)
      → ((d : T) (j z : ℕ) → j < lines → z < y → get_or old (j * side + z) d ≡ get_or cells (start + z * step + j) d)
      → ((d : T) (j : ℕ) → j < lines → get_or block (j * side + y) d ≡ get_or cells (start + y * step + j) d)
      → ((d : T) (i : ℕ) → ((j : ℕ) → j < lines → i ≡ j * side + y → ⊥) → get_or block i d ≡ get_or old i d)
      → (d : T) (j z : ℕ) → j < lines → z < y + 1 → get_or block (j * side + z) d ≡ get_or cells (start + z * step + j) d
  lines_taken old block cells before taken others d j z l = below_more (λ z. get_or block (j * side + z) d ≡ get_or cells (start + z * step + j) d) y
      (λ z h. others d (j * side + z) (λ k m. other_in_line side j z k y (omega arith) inside (omega arith)) ∙ before d j z l h)
      (taken d j l) z

  pub lines_put : (old cells block : List T) → lines ≤ step
      → ((d : T) (j z : ℕ) → j < lines → z < y → get_or old (start + z * step + j) d ≡ get_or block (j * side + z) d)
      → ((d : T) (j : ℕ) → j < lines → get_or cells (start + y * step + j) d ≡ get_or block (j * side + y) d)
      → ((d : T) (i : ℕ) → ((j : ℕ) → j < lines → i ≡ start + y * step + j → ⊥) → get_or cells i d ≡ get_or old i d)
      → (d : T) (j z : ℕ) → j < lines → z < y + 1 → get_or cells (start + z * step + j) d ≡ get_or block (j * side + z) d
  lines_put old cells block apart before put others d j z l = below_more (λ z. get_or cells (start + z * step + j) d ≡ get_or block (j * side + z) d) y
      (λ z h. others d (start + z * step + j) (λ k m. other_beside start step z j y k (omega arith) (omega arith) (omega arith)) ∙ before d j z l h)
      (put d j l) z

  pub lines_left : (first old cells : List T)
      → ((d : T) (i : ℕ) → ((j z : ℕ) → j < lines → z < y → i ≡ start + z * step + j → ⊥) → get_or old i d ≡ get_or first i d)
      → ((d : T) (i : ℕ) → ((j : ℕ) → j < lines → i ≡ start + y * step + j → ⊥) → get_or cells i d ≡ get_or old i d)
      → (d : T) (i : ℕ) → ((j z : ℕ) → j < lines → z < y + 1 → i ≡ start + z * step + j → ⊥) → get_or cells i d ≡ get_or first i d
  lines_left first old cells before others d i none =
      others d i (λ j l. none j y l (omega arith)) ∙ before d i (λ j z l h. none j z l (omega arith))
