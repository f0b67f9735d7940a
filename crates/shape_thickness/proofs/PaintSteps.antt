-- Painting in steps, and stretches of painted places.
-- Laws over lists of numbers alone.
use Rattle.std.proofs.Common.{◌≡◌, ◌⊎◌, inl, inr, ℕ, ◌+◌, ◌<◌, ◌≤◌, List, length, set, refl, ap, sym, ◌∙◌, subst, arith}
use Rattle.std.specs.Prelude.{slice_index}
use Rattle.std.proofs.lemmas.List.{length-set, get_or-set_same, get_or-set_other}
use native.Mathlib.Decide.{dec_lt, ℕ_discrete}
use Rattle.shape_terms.specs.Limits.{most_points}
use Rattle.shape_thickness.specs.Painting.{IsPainted, IsFrom, AreSkips}

-- ---- steps

pub painted_none : (may must : ℕ → Type 0) (s : ℕ) (xs : List ℕ) → ((j : ℕ) → j < length xs → must j → 0 < slice_index xs j) → IsPainted may must s xs xs
painted_none may must s xs h = record { same_length = refl; each = λ j l. inl refl; filled = h }

-- more may be painted, and less must be
pub painted_as : (may must may2 must2 : ℕ → Type 0) (s : ℕ) (old new : List ℕ) → ((j : ℕ) → j < length old → may j → may2 j)
    → ((j : ℕ) → j < length old → must2 j → must j) → IsPainted may must s old new → IsPainted may2 must2 s old new
painted_as may must may2 must2 s old new f g p = record {
  same_length = p.same_length;
  each = λ j l. elim (p.each j l) [ inl e ↦ inl e | inr h ↦ inr (h.0, h.1, f j l h.2) ];
  filled = λ j l h. p.filled j l (g j l h);
}

-- what is painted stays
pub painted_stays : (may must : ℕ → Type 0) (s : ℕ) (old new : List ℕ) (j : ℕ) → IsPainted may must s old new → j < length old → 0 < slice_index old j
    → slice_index new j ≡ slice_index old j
painted_stays may must s old new j p l h = elim (p.each j l) [ inl e ↦ e | inr f ↦ (let z = f.0 in absurd (omega arith)) ]

-- one painting after the other
pub painted_then : (may a b must : ℕ → Type 0) (s : ℕ) (old now new : List ℕ) → ((j : ℕ) → j < length old → must j → a j ⊎ b j) → IsPainted may a s old now
    → IsPainted may b s now new → IsPainted may must s old new
painted_then may a b must s old now new f p q =
    let m = p.same_length in
    record {
      same_length = q.same_length ∙ p.same_length;
      each = λ j l. elim (q.each j (omega arith)) [
        | inl e ↦ elim (p.each j l) [ inl d ↦ inl (e ∙ d) | inr h ↦ inr (h.0, e ∙ h.1, h.2) ]
        | inr g ↦ elim (p.each j l) [ inl d ↦ inr (sym d ∙ g.0, g.1, g.2) | inr h ↦ inr (h.0, g.1, g.2) ]
      ];
      filled = λ j l h. elim (f j l h) [
        | inl x ↦ (let o = p.filled j l x in let e = painted_stays may b s now new j q (omega arith) o in omega arith)
        | inr x ↦ q.filled j (omega arith) x
      ];
    }

-- ---- stretches

-- one place more
pub one_more : (first i end s : ℕ) (old now new : List ℕ) → first ≤ i → i < end → IsPainted (IsFrom first end) (IsFrom first i) s old now
    → IsPainted (IsFrom i (i + 1)) (IsFrom i (i + 1)) s now new → IsPainted (IsFrom first end) (IsFrom first (i + 1)) s old new
one_more first i end s old now new a b p q =
    painted_then (IsFrom first end) (IsFrom first i) (IsFrom i (i + 1)) (IsFrom first (i + 1)) s old now new
    (λ j l h. elim (dec_lt j i) [ yes m ↦ inl (h.0, m) | no m ↦ inr (omega arith, h.1) ])
    p
    (painted_as (IsFrom i (i + 1)) (IsFrom i (i + 1)) (IsFrom first end) (IsFrom i (i + 1)) s now new
    (λ j l h. (let u = h.0 in let v = h.1 in (omega arith, omega arith))) (λ j l h. h) q)

-- painted ones are passed
pub passed : (first i after end s t : ℕ) (old now new : List ℕ) → first ≤ i → new ≡ now → IsPainted (IsFrom first end) (IsFrom first i) s old now
    → IsPainted (IsFrom i after) (IsFrom i after) t now new → IsPainted (IsFrom first end) (IsFrom first after) s old new
passed first i after end s t old now new a e p q =
    let m = p.same_length in
    subst (IsPainted (IsFrom first end) (IsFrom first after) s old) (sym e) (record {
      same_length = p.same_length;
      each = p.each;
      filled = λ j l h. elim (dec_lt j i) [
        | yes b ↦ p.filled j l (h.0, b)
        | no b ↦ subst (λ (xs : List ℕ). 0 < slice_index xs j) e (q.filled j (omega arith) (omega arith, h.1))
      ];
    })

-- ---- one place

pub put_bare : (i s : ℕ) (xs : List ℕ) → i < length xs → 0 < s → slice_index xs i ≡ 0 → IsPainted (IsFrom i (i + 1)) (IsFrom i (i + 1)) s xs (set xs i s)
put_bare i s xs l some bare = record {
  same_length = length-set xs i s;
  each = λ j m. elim (ℕ_discrete j i) [
    | yes e ↦ inr (ap (slice_index xs) e ∙ bare, ap (slice_index (set xs i s)) e ∙ get_or-set_same xs i s 0 l, (omega arith, omega arith))
    | no d ↦ inl (get_or-set_other xs i j s 0 d)
  ];
  filled = λ j m h. (
      let e : j ≡ i = (let a = h.0 in let b = h.1 in omega arith) in
      let v = ap (slice_index (set xs i s)) e ∙ get_or-set_same xs i s 0 l in
      omega (arith, v, some));
}

pub put_painted : (i s : ℕ) (xs : List ℕ) → 0 < slice_index xs i → IsPainted (IsFrom i (i + 1)) (IsFrom i (i + 1)) s xs xs
put_painted i s xs h = painted_none (IsFrom i (i + 1)) (IsFrom i (i + 1)) s xs (λ j m b. (
    let e : j ≡ i = (let a = b.0 in let d = b.1 in omega arith) in
    let v = ap (slice_index xs) e in
    omega (arith, v, h)))

-- ---- what is told of the places behind

pub skips_start : (n : ℕ) (values next : List ℕ) → n ≤ most_points → length values ≡ n → length next ≡ n → ((i : ℕ) → slice_index next i ≡ 0)
    → AreSkips values next
skips_start n values next few a b none = record {
  few = omega (arith, few, a);
  same_length = b ∙ sym a;
  within = λ i l. (let z = none i in omega arith);
  painted = λ i j l m h. (let z = none i in absurd (omega arith));
}

-- more is painted
pub skips_stay : (may must : ℕ → Type 0) (s : ℕ) (old new next : List ℕ) → IsPainted may must s old new → AreSkips old next → AreSkips new next
skips_stay may must s old new next p a =
    let m = p.same_length in
    let few = a.few in
    record {
      few = omega (arith, few, m);
      same_length = a.same_length ∙ sym m;
      within = λ i l. (let w = a.within i (omega arith) in omega (arith, w, m));
      painted = λ i j l b c. (
          let w = a.within i (omega arith) in
          let o = a.painted i j (omega arith) b c in
          let e = painted_stays may must s old new j p (omega (arith, w, c)) o in
          omega (arith, e, o));
    }

-- of one place another one is told
pub skips_told : (i n : ℕ) (values next : List ℕ) → i < length values → n ≤ length values → ((j : ℕ) → i ≤ j → j < n → 0 < slice_index values j)
    → AreSkips values next → AreSkips values (set next i n)
skips_told i n values next l w h a =
    let m = a.same_length in
    record {
      few = a.few;
      same_length = length-set next i n ∙ m;
      within = λ k b. elim (ℕ_discrete k i) [
        | yes e ↦ (let v = ap (slice_index (set next i n)) e ∙ get_or-set_same next i n 0 (omega arith) in omega (arith, v, w))
        | no d ↦ (let v = get_or-set_other next i k n 0 d in let o = a.within k b in omega (arith, v, o))
      ];
      painted = λ k j b c f. elim (ℕ_discrete k i) [
        | yes e ↦ (let v = ap (slice_index (set next i n)) e ∙ get_or-set_same next i n 0 (omega arith) in h j (omega (arith, c, e)) (omega (arith, f, v)))
        | no d ↦ (let v = get_or-set_other next i k n 0 d in a.painted k j b c (omega (arith, f, v)))
      ];
    }
