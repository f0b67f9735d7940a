-- Lines of an axis that are done in the order of their numbers, some that stand side by side at a time, by a block that holds these one after the other.
-- Laws over lists and numbers alone: R says what is to stand at a place of a line, given the line as it was.
use Rattle.std.proofs.Common.{◌≡◌, ◌⊎◌, inl, inr, ℕ, ◌+◌, ◌-◌, ◌*◌, ◌/◌, ◌%◌, ◌<◌, ◌≤◌, List, get_or, below_more, refl, sym, ap, ◌∙◌, subst, arith, mul_comm}
use Rattle.std.proofs.lemmas.Bool.{cases_lt}
use Rattle.std.proofs.lemmas.Nat.{mul-le, same_from_place}
use Rattle.shape_terms.specs.AxisLines.{place}
use Rattle.shape_terms.proofs.AxisPlaces.{same_place, place_below}
use Rattle.shape_envelope.proofs.LineNumbers.{line_high, number_of_line}

-- ---- the numbers and places of lines side by side

-- the first place of the line with a number
abbrev pub line_from : ℕ → ℕ → ℕ → ℕ
line_from c w t = t % c + c * (w * (t / c))

pub place_beside : (c w t y j : ℕ) → line_from c w t + y * c + j ≡ place c w (t % c + j) y (t / c)
place_beside c w t y j = omega arith

-- no line is left out, and none of them lies behind the last one
pub lines_within : (c rows t lines : ℕ) → t < c * rows → t % c + lines ≤ c → t + lines ≤ c * rows
lines_within c rows t lines l beside =
    let m : c * (t / c + 1) ≤ c * rows = mul-le c (t / c + 1) c rows (omega arith) (let h = line_high c rows t l in omega arith) in
    omega (arith, m, number_of_line c t)

pub lines_inside : (c w rows t lines y : ℕ) → t < c * rows → 1 ≤ lines → t % c + lines ≤ c → y < w → line_from c w t + y * c + lines ≤ c * (w * rows)
lines_inside c w rows t lines y l some beside h =
    let last = place_below c w rows (t % c + (lines - 1)) y (t / c) (omega arith) h (line_high c rows t l) in
    omega (arith, last, place_beside c w t y (lines - 1))

module _ {A : Type 0} (R : (ℕ → A) → ℕ → A → Type 0) (d : A) (w : ℕ) where
  -- what holds of a copy of a line holds of the line
  abbrev pub IsOfCopies : Type 0
  IsOfCopies = (line copy : ℕ → A) (x : ℕ) (o : A) → ((y : ℕ) → y < w → copy y ≡ line y) → R copy x o → R line x o

  -- the lines before number t are done, and the others are as they were
  pub record AreDoneTo (c rows t : ℕ) (old new : List A) : Type 0 where
    pub done : (low x high : ℕ) → low < c → x < w → high < rows → low + c * high < t
        → R (λ y. get_or old (place c w low y high) d) x (get_or new (place c w low x high) d)
    pub rest : (low x high : ℕ) → low < c → x < w → high < rows → t ≤ low + c * high
        → get_or new (place c w low x high) d ≡ get_or old (place c w low x high) d

  pub none_done : (c rows : ℕ) (cells : List A) → AreDoneTo c rows 0 cells cells
  none_done c rows cells = record { done = λ low x high l h k m. absurd (omega arith); rest = λ low x high l h k m. refl }

  -- ---- the lines of a block

  -- the first n lines of a block are done
  abbrev pub AreLinesDone : ℕ → List A → List A → Type 0
  AreLinesDone n first block = (i x : ℕ) → i < n → x < w → R (λ y. get_or first (i * w + y) d) x (get_or block (i * w + x) d)

  -- the lines of a block from number n on are as they were
  abbrev pub AreLinesLeft : ℕ → List A → List A → Type 0
  AreLinesLeft n first block = (i x : ℕ) → n ≤ i → x < w → get_or block (i * w + x) d ≡ get_or first (i * w + x) d

  module _ (first block new : List A) (n : ℕ) (others : (i : ℕ) → ((x : ℕ) → x < w → i ≡ n * w + x → ⊥) → get_or new i d ≡ get_or block i d) where
    -- the place of another line is as before
    other_line : (i x : ℕ) → (i ≡ n → ⊥) → x < w → get_or new (i * w + x) d ≡ get_or block (i * w + x) d
    other_line i x apart l = others (i * w + x) (λ z h e. apart (same_from_place i x n z w l h (omega (arith, e))).0)

    -- one line of a block more
    pub line_done : ((x : ℕ) → x < w → R (λ y. get_or first (n * w + y) d) x (get_or new (n * w + x) d)) → AreLinesDone n first block
        → AreLinesDone (n + 1) first new
    line_done here before i x l h = below_more (λ i. R (λ y. get_or first (i * w + y) d) x (get_or new (i * w + x) d)) n
        (λ i m. subst (R (λ y. get_or first (i * w + y) d) x) (sym (other_line i x (λ e. omega arith) h)) (before i x m h))
        (here x h) i l

    pub line_left : AreLinesLeft n first block → AreLinesLeft (n + 1) first new
    line_left before i x l h = other_line i x (λ e. omega arith) h ∙ before i x (omega arith) h

  -- ---- the lines of an axis

  module _ (c rows t lines : ℕ) (old mid new : List A) (l : t < c * rows) (beside : t % c + lines ≤ c)
      (others : (i : ℕ) → ((j x : ℕ) → j < lines → x < w → i ≡ line_from c w t + x * c + j → ⊥) → get_or new i d ≡ get_or mid i d) where
    -- the place of a line that is not among them is as before
    off_lines : (low x high : ℕ) → low < c → x < w → (low + c * high < t) ⊎ (t + lines ≤ low + c * high)
        → get_or new (place c w low x high) d ≡ get_or mid (place c w low x high) d
    off_lines low x high h k out = others (place c w low x high) (λ j y m n e.
        let q = same_place c w low x high (t % c + j) y (t / c) h (omega arith) k n (e ∙ place_beside c w t y j) in
        let at : low + c * high ≡ t % c + j + c * (t / c) = ap (λ n. n + c * high) q.0 ∙ ap (λ n. t % c + j + c * n) q.2 in
        let number = number_of_line c t in
        elim out [
          | inl before ↦ omega arith
          | inr behind ↦ omega arith
        ])

    -- so many lines side by side are done more
    pub lines_done : IsOfCopies → AreDoneTo c rows t old mid
        → ((j x : ℕ) → j < lines → x < w → R (λ y. get_or mid (line_from c w t + y * c + j) d) x (get_or new (line_from c w t + x * c + j) d))
        → AreDoneTo c rows (t + lines) old new
    lines_done copies s here = record {
      done = λ low x high h k m less. elim (cases_lt (low + c * high) t) [
        | inl before ↦ subst (R (λ y. get_or old (place c w low y high) d) x) (sym (off_lines low x high h k (inl before))) (s.done low x high h k m before)
        | inr from ↦
            let j = low + c * high - t in
            let number = number_of_line c t in
            let q = same_from_place high low (t / c) (t % c + j) c h (omega arith) (omega (arith, mul_comm c high, mul_comm c (t / c), number)) in
            let at : (y : ℕ) → line_from c w t + y * c + j ≡ place c w low y high =
            λ y. place_beside c w t y j ∙ ap (λ n. place c w n y (t / c)) (sym q.1) ∙ ap (λ n. place c w low y n) (sym q.0) in
            copies (λ y. get_or old (place c w low y high) d) (λ y. get_or mid (line_from c w t + y * c + j) d) x (get_or new (place c w low x high) d)
            (λ y n. ap (λ i. get_or mid i d) (at y) ∙ s.rest low y high h n m from)
            (subst (λ i. R (λ y. get_or mid (line_from c w t + y * c + j) d) x (get_or new i d)) (at x) (here j x (omega arith) k))
      ];
      rest = λ low x high h k m more. off_lines low x high h k (inr more) ∙ s.rest low x high h k m (omega arith);
    }
