-- The first LF of a part of bytes that has none before it.
-- Laws of bytes alone.
use Rattle.std.proofs.Common.{◌≡◌, ◌+◌, ◌-◌, ◌<◌, ◌≤◌, ℕ, sym, ap, ◌∙◌, arith, List, length, get_or, take, drop, None, Some, inl, inr}
use Rattle.std.proofs.lemmas.Bool.{eqb-true, eq-eqb, cases_lt}
use Rattle.std.proofs.lemmas.List.{length-take-le, length-drop, get_or-take, get_or-drop}
use Rattle.memchr.specs.Find.{IsFirstByte, Nowhere, Passes, is_byte}
use Rattle.shape_desk.specs.Line.{HasNoLf}

-- the part of bytes that is looked at
abbrev part : List ℕ → (from to : ℕ) → List ℕ
part bs from to = take (to - from) (drop from bs)

length_part : (bs : List ℕ) (from to : ℕ) → from ≤ to → to ≤ length bs → length (part bs from to) ≡ to - from
length_part bs from to o w = length-take-le (to - from) (drop from bs) (omega (arith, length-drop from bs))

-- no LF stands before the place
none_up_to : (bs : List ℕ) (from to k : ℕ) → from + k ≤ to → to ≤ length bs → HasNoLf (take from bs) → Nowhere (Passes (is_byte 10) (part bs from to)) 0 k
    → HasNoLf (take (from + k) bs)
none_up_to bs from to k l w none h j m e =
    let n : j < from + k = omega (arith, length-take-le (from + k) bs (omega arith)) in
    let b : get_or bs j 0 ≡ 10 = sym (get_or-take (from + k) bs j 0 n) ∙ e in
    elim (cases_lt j from) [
      | inl s ↦ none j (omega (arith, length-take-le from bs (omega arith))) (get_or-take from bs j 0 s ∙ b)
      | inr s ↦
          let i : from + (j - from) ≡ j = omega arith in
          let at : get_or (part bs from to) (j - from) 0 ≡ 10 = get_or-take (to - from) (drop from bs) (j - from) 0 (omega arith)
          ∙ get_or-drop from bs (j - from) 0 ∙ ap (λ n. get_or bs n 0) i ∙ b in
          h (j - from) (omega arith) (omega arith) (eq-eqb _ _ at)
    ]

pub first_lf : (bs : List ℕ) (from to k : ℕ) → from ≤ to → to ≤ length bs → HasNoLf (take from bs) → IsFirstByte (is_byte 10) (part bs from to) (Some k)
    → (from + k < to) × HasNoLf (take (from + k) bs) × (get_or bs (from + k) 0 ≡ 10)
first_lf bs from to k o w none h =
    let xs = part bs from to in
    let m : k < to - from = omega (arith, h.0.high, length_part bs from to o w) in
    let there : get_or xs k 0 ≡ 10 = eqb-true (get_or xs k 0) 10 h.1 in (
      omega arith,
      none_up_to bs from to k (omega arith) w none h.0.before,
      sym (get_or-drop from bs k 0) ∙ sym (get_or-take (to - from) (drop from bs) k 0 m) ∙ there,
    )

pub no_lf : (bs : List ℕ) (from to : ℕ) → from ≤ to → to ≤ length bs → HasNoLf (take from bs) → IsFirstByte (is_byte 10) (part bs from to) None
    → HasNoLf (take to bs)
no_lf bs from to o w none h =
    let n : from + (to - from) ≡ to = omega arith in
    rw (← n) (none_up_to bs from to (to - from) (omega arith) w none (λ i a b. h i a (omega (arith, length_part bs from to o w))))
