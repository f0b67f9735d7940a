-- The lower envelope of the first places of a row, in parts, and one place more.
-- Laws over rows, places and numbers alone.
use Rattle.std.proofs.Common.{◌≡◌, ℕ, ◌+◌, ◌-◌, ◌<◌, ◌≤◌, List, length, get_or, set, refl, sym, ◌∙◌, subst, inl, inr, arith, get_or-set_same, get_or-set_other}
use Rattle.std.specs.Prelude.{ℤ, pos, ◌≤ℤ◌, ◌<ℤ◌, Bool, true, false, IsTrue, Option, Some, None, IsSome}
use Rattle.std.proofs.lemmas.Int.{ints}
use Rattle.std.proofs.lemmas.Bool.{cases_lt, cases_eq}
use Rattle.std.proofs.lemmas.Option.{same_Some}
use Rattle.std.proofs.lemmas.List.{get_or_past}
use Rattle.shape_terms.specs.Rows.{cell, height, IsFirstBetter, IsLowest}
use Rattle.shape_envelope.specs.Parts.{IsLowestBefore, Wins, AreParts, IsCut, IsSettled, AreBuilt}
use Rattle.shape_terms.proofs.Parabolas.{better_from, better_before}

-- ---- the last part

pub last_lowest : (row : List (Option ℕ)) (places starts : List ℕ) (m j e k : ℕ) → AreParts row places starts m j e → m ≡ k + 1 → (x : ℕ)
    → get_or starts k 0 ≤ x → x < e → IsLowestBefore row j x (get_or places k 0)
last_lowest row places starts m j e k p is x l h = p.lowest k x (omega arith) l h (λ more. absurd (omega arith))

some_is : {A : Type 0} (o : Option A) (x : A) → o ≡ Some x → IsSome o
some_is o x e = rw e refl

pub last_place : (row : List (Option ℕ)) (places starts : List ℕ) (m j e k : ℕ) → AreParts row places starts m j e → m ≡ k + 1
    → IsSome (cell row (get_or places k 0)) × (get_or places k 0 < j)
last_place row places starts m j e k p is =
    let t = last_lowest row places starts m j e k p is (get_or starts k 0) (omega arith) (p.below k (omega arith)) in
    (some_is (cell row (get_or places k 0)) t.f t.filled, t.before)

-- ---- more places

one_more : (row : List (Option ℕ)) (j x i : ℕ) (t : IsLowestBefore row j x i) → ((g : ℕ) → cell row j ≡ Some g → height t.f i (pos x) ≤ height g j (pos x))
    → IsLowestBefore row (j + 1) x i
one_more row j x i t h = record {
  f = t.f;
  filled = t.filled;
  before = omega (arith, t.before);
  least = λ k g l e. elim (cases_eq k j) [
    | inl same ↦ subst (λ k. (g : ℕ) → cell row k ≡ Some g → height t.f i (pos x) ≤ height g k (pos x)) (sym same) h g e
    | inr other ↦ t.least k g (omega arith) e
  ];
}

-- an empty cell changes nothing
empty_more : (row : List (Option ℕ)) (places starts : List ℕ) (m j e : ℕ) → cell row j ≡ None → AreParts row places starts m j e
    → AreParts row places starts m (j + 1) e
empty_more row places starts m j e none p = record {
  first = p.first;
  rising = p.rising;
  below = p.below;
  lowest = λ k x l a b c. one_more row j x (get_or places k 0) (p.lowest k x l a b c) (λ g is. cc);
}

pub built_empty : (row : List (Option ℕ)) (places starts : List ℕ) (m j n : ℕ) → cell row j ≡ None → AreBuilt row places starts m j n
    → AreBuilt row places starts m (j + 1) n
built_empty row places starts m j n none b = record {
  parts = empty_more row places starts m j n none b.parts;
  few = omega (arith, b.few);
  none = λ z k l. elim (cases_eq k j) [
    | inl same ↦ subst (λ k. cell row k ≡ None) (sym same) none
    | inr other ↦ b.none z k (omega arith)
  ];
}

-- ---- the last parts go where a new place wins

-- where j wins at x over the place that is lowest there, it wins over all
wins_all : (row : List (Option ℕ)) (j x i : ℕ) (t : IsLowestBefore row j x i) → ((g : ℕ) → cell row j ≡ Some g → height g j (pos x) ≤ height t.f i (pos x))
    → Wins row j x
wins_all row j x i t h g k f is before there = omega (arith, h g is, t.least k f before there)

-- how the first better x, told for whatever numbers the cells hold, stands to another one
wins_from : (row : List (Option ℕ)) (j i : ℕ) (x0 : ℤ) (x : ℕ) (t : IsLowestBefore row j x i)
    → ((f g : ℕ) → cell row i ≡ Some f → cell row j ≡ Some g → IsFirstBetter f i g j x0) → x0 ≤ℤ pos x → Wins row j x
wins_from row j i x0 x t first l = wins_all row j x i t (λ g is. better_from t.f i g j x0 (pos x) t.before (first t.f g t.filled is) l)

pub cut_more : (row : List (Option ℕ)) (places starts : List ℕ) (m k j n : ℕ) (x0 : ℤ) → IsCut row places starts m j n → m ≡ k + 1
    → ((f g : ℕ) → cell row (get_or places k 0) ≡ Some f → cell row j ≡ Some g → IsFirstBetter f (get_or places k 0) g j x0) → x0 ≤ℤ pos (get_or starts k 0)
    → IsCut row places starts k j n
cut_more row places starts m k j n x0 c is first l =
    let p = c.parts in
    let b = p.below k (omega arith) in
    let w = c.within in
    let wins : (x : ℕ) → get_or starts k 0 ≤ x → x < n → Wins row j x = λ x a h. elim (cases_lt x c.e) [
      | inl inside ↦ wins_from row j (get_or places k 0) x0 x (last_lowest row places starts m j c.e k p is x a inside) first (omega (arith, ints))
      | inr behind ↦ c.wins x behind h
    ] in
    record {
      e = get_or starts k 0;
      parts = record {
        first = λ s. p.first (omega arith);
        rising = λ h i a d. p.rising h i a (omega arith);
        below = λ i d. p.rising i k d (omega arith);
        lowest = λ i x d a h more. p.lowest i x (omega arith) a (omega arith) (λ q. elim (cases_lt (i + 1) k) [
          | inl r ↦ more r
          | inr r ↦ let same : i + 1 ≡ k = omega arith in rw same h
        ]);
      };
      within = omega arith;
      wins = wins;
      alone = λ z x h. wins x (let e : k ≡ 0 = z in rw (e, p.first (omega arith)) (omega arith)) h;
    }

-- ---- and stay where it does not

pub settled_none : (row : List (Option ℕ)) (places starts : List ℕ) (m j n : ℕ) → IsCut row places starts m j n → m ≡ 0 → IsSettled row places starts 0 0 j n
settled_none row places starts m j n c z = record {
  parts = record {
    first = λ s. absurd (omega arith);
    rising = λ h k a d. absurd (omega arith);
    below = λ k d. absurd (omega arith);
    lowest = λ k x d a h more. absurd (omega arith);
  };
  within = omega arith;
  wins = λ x l h. c.alone z x h;
  alone = λ e. refl;
}

some_value : {A : Type 0} (o : Option A) → IsSome o → (x : A) × (o ≡ Some x)
some_value None h = cc
some_value (Some x) h = (x, refl)

pub settled : (row : List (Option ℕ)) (places starts : List ℕ) (m k j n start : ℕ) (x0 : ℤ) → IsCut row places starts m j n → m ≡ k + 1 → IsSome (cell row j)
    → ((f g : ℕ) → cell row (get_or places k 0) ≡ Some f → cell row j ≡ Some g → IsFirstBetter f (get_or places k 0) g j x0)
    → pos (get_or starts k 0) <ℤ x0 → pos start ≤ℤ x0 → start ≤ n → (start < n → pos start ≡ x0) → IsSettled row places starts m start j n
settled row places starts m k j n start x0 c is filled first l least most same =
    let p = c.parts in
    let b = p.below k (omega arith) in
    let w = c.within in
    let i = get_or places k 0 in
    let last = last_lowest row places starts m j c.e k p is in
    let there = last (get_or starts k 0) (omega arith) b in
    let g = some_value (cell row j) filled in
    let more : get_or starts k 0 < start = elim (cases_lt start n) [
      | inl d ↦ let q = same d in omega (arith, ints, q)
      | inr d ↦ omega arith
    ] in
    let short : start ≤ c.e = elim (cases_lt c.e start) [
      | inl d ↦
          let won : height g.0 j (pos c.e) ≤ height there.f i (pos c.e) = c.wins c.e (omega arith) (omega arith) g.0 i there.f g.1 there.before there.filled in
          absurd (omega (arith, ints, (first there.f g.0 there.filled g.1).first (pos c.e) won))
      | inr d ↦ d
    ] in
    record {
      parts = record {
        first = p.first;
        rising = p.rising;
        below = λ h d. elim (cases_eq h k) [
          | inl e ↦ rw e more
          | inr e ↦ omega (arith, p.rising h k (omega arith) (omega arith))
        ];
        lowest = λ h x d a before next.
            let t = p.lowest h x d a (omega arith) next in
            one_more row j x (get_or places h 0) t (λ g2 is2.
            let low : height t.f (get_or places h 0) (pos x) ≤ height there.f i (pos x) = t.least i there.f there.before there.filled in
            let high : height there.f i (pos x) < height g2 j (pos x) = better_before there.f i g2 j x0 (pos x) (first there.f g2 there.filled is2)
            (omega (arith, ints)) in
            omega (arith, low, high));
      };
      within = most;
      wins = λ x a d. elim (cases_lt x c.e) [
        | inl inside ↦ let q = same (omega arith) in wins_from row j i x0 x (last x (omega arith) inside) first (omega (arith, ints, q))
        | inr behind ↦ c.wins x behind d
      ];
      alone = λ z. absurd (omega arith);
    }

-- ---- a place more

-- j is lowest where it wins
lowest_by : (row : List (Option ℕ)) (j x g : ℕ) → cell row j ≡ Some g → Wins row j x → IsLowestBefore row (j + 1) x j
lowest_by row j x g is wins = record {
  f = g;
  filled = is;
  before = omega arith;
  least = λ k f l e. elim (cases_eq k j) [
    | inl same ↦
        let here : cell row j ≡ Some f = subst (λ k. cell row k ≡ Some f) same e in
        let f_is : f ≡ g = same_Some f g (sym here ∙ is) in
        rw (same, f_is) (omega arith)
    | inr other ↦ wins g k f is (omega arith) e
  ];
}

pub built_more : (row : List (Option ℕ)) (places starts : List ℕ) (m start j n : ℕ) → IsSettled row places starts m start j n → IsSome (cell row j) → start < n
    → m ≤ j → m < length places → m < length starts → AreBuilt row (set places m j) (set starts m start) (m + 1) (j + 1) n
built_more row places starts m start j n s filled l few in_places in_starts =
    let p = s.parts in
    let g = some_value (cell row j) filled in
    let last_start : get_or (set starts m start) m 0 ≡ start = get_or-set_same starts m start 0 in_starts in
    let last_place : get_or (set places m j) m 0 ≡ j = get_or-set_same places m j 0 in_places in
    let old_start : (k : ℕ) → k < m → get_or (set starts m start) k 0 ≡ get_or starts k 0 = λ k d. get_or-set_other starts m k start 0 (omega arith) in
    let old_place : (k : ℕ) → k < m → get_or (set places m j) k 0 ≡ get_or places k 0 = λ k d. get_or-set_other places m k j 0 (omega arith) in
    record {
      parts = record {
        first = λ d. elim (cases_eq m 0) [
          | inl z ↦ let e : get_or (set starts m start) 0 0 ≡ start = subst (λ k. get_or (set starts m start) k 0 ≡ start) z last_start in e ∙ s.alone z
          | inr some ↦ old_start 0 (omega arith) ∙ p.first (omega arith)
        ];
        rising = λ h k a d. elim (cases_eq k m) [
          | inl e ↦ rw (e, last_start, old_start h (omega arith)) (p.below h (omega arith))
          | inr e ↦ rw (old_start k (omega arith), old_start h (omega arith)) (p.rising h k a (omega arith))
        ];
        below = λ k d. elim (cases_eq k m) [
          | inl e ↦ rw (e, last_start) l
          | inr e ↦ let b = p.below k (omega arith) in rw (old_start k (omega arith)) (omega arith)
        ];
        lowest = λ k x d a before next. elim (cases_eq k m) [
          | inl e ↦
              let at : IsLowestBefore row (j + 1) x j = lowest_by row j x g.0 g.1 (s.wins x (rw (e, last_start) at a) before) in
              rw (e, last_place) at
          | inr e ↦
              let inside : x < start = elim (cases_eq (k + 1) m) [
                | inl q ↦ rw (q, last_start) at (next (omega arith))
                | inr q ↦ omega (arith, p.below (k + 1) (omega arith), rw (old_start (k + 1) (omega arith)) at (next (omega arith)))
              ] in
              rw (old_place k (omega arith))
              (p.lowest k x (omega arith) (rw (old_start k (omega arith)) at a) inside (λ q. rw (old_start (k + 1) q) at (next (omega arith))))
        ];
      };
      few = omega arith;
      none = λ z. absurd (omega arith);
    }

-- ---- all places

past_end : (row : List (Option ℕ)) (k : ℕ) → length row ≤ k → cell row k ≡ None
past_end row k l = get_or_past row k None l

pub lowest_of_all : (row : List (Option ℕ)) (x i : ℕ) → IsLowestBefore row (length row) x i → IsLowest row (pos x) i
lowest_of_all row x i t = record {
  f = t.f;
  filled = t.filled;
  least = λ k g e. elim (cases_lt k (length row)) [
    | inl l ↦ t.least k g l e
    | inr l ↦ let no = past_end row k l in cc
  ];
}

-- the place r - 1 gets what the part k says of it
pub written_more : (row : List (Option ℕ)) (places starts out : List ℕ) (m k r : ℕ) → AreBuilt row places starts m (length row) (length row) → k < m → 0 < r
    → r ≤ length row → get_or starts k 0 < r → (k + 1 < m → r ≤ get_or starts (k + 1) 0) → length out ≡ length row
    → ((x : ℕ) → r ≤ x → x < length row → IsLowest row (pos x) (get_or out x 0)) → (x : ℕ) → r - 1 ≤ x → x < length row
    → IsLowest row (pos x) (get_or (set out (r - 1) (get_or places k 0)) x 0)
written_more row places starts out m k r b there some most started ended long old x l h = elim (cases_eq x (r - 1)) [
  | inl e ↦
      let t = lowest_of_all row (r - 1) (get_or places k 0) (b.parts.lowest k (r - 1) there (omega arith) (omega arith) (λ q. omega (arith, ended q))) in
      let same : get_or (set out (r - 1) (get_or places k 0)) (r - 1) 0 ≡ get_or places k 0 = get_or-set_same out (r - 1) (get_or places k 0) 0 (omega arith) in
      rw (e, same) t
  | inr e ↦ rw (get_or-set_other out (r - 1) x (get_or places k 0) 0 e) (old x (omega arith) h)
]

-- what the test of a cell says
pub none_by : (o : Option ℕ) (b : Bool) → (IsTrue b → IsSome o) × (IsSome o → IsTrue b) → b ≡ false → o ≡ None
none_by None b h e = refl
none_by (Some x) b h e = let t : b ≡ true = h.1 refl in cc
