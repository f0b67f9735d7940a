-- The levels that a mask of distances tells: each is the whole root of its square in hundredths, and stands at its place.
-- Numbers and lists alone; what the squares are does not matter here.
use Rattle.std.proofs.Common.{◌≡◌, inl, inr, ℕ, zero, suc, ◌+◌, ◌*◌, ◌/◌, ◌%◌, ◌<◌, ◌≤◌, min, List, [], ◌∷◌, ◌++◌, length, refl, sym, ap, subst, ◌∙◌, arith}
use Rattle.std.specs.Prelude.{slice_get, Some, codes}
use Rattle.std.specs.List.{flat_map}
use Rattle.std.proofs.lemmas.Bool.{cases_lt}
use Rattle.std.proofs.lemmas.Nat.{mul-le}
use Rattle.std.proofs.lemmas.List.{append_assoc}
use Rattle.masking.specs.Roots.{IsRoot, root}
use Rattle.masking.specs.Pictures.{side, header, level, high_first, low_first, pgm, depths}
use Rattle.masking.specs.Levels.{IsLevel, AreLevels, high_number, low_number, number_at}
use Rattle.masking.specs.Shown.{grey_front}
use Rattle.masking.proofs.RootLaws.{root_is, at_most_square}

-- ---- roots

-- each number has a whole root
some_root : (n : ℕ) → (r : ℕ) × IsRoot n r
some_root zero = (0, record { low = omega arith; high = omega arith })
some_root (suc n) =
    let s = some_root n in
    let r = s.0 in
    elim (cases_lt (suc n) ((r + 1) * (r + 1))) [
      | inl l ↦ (r, record { low = omega (arith, s.1.low); high = l })
      | inr m ↦
          let e : suc n ≡ (r + 1) * (r + 1) = omega (arith, s.1.high, m) in
          (r + 1, record { low = m; high = let k : (r + 1) * (r + 1) < (r + 1 + 1) * (r + 1 + 1) = grind arith in omega (arith, e, k) })
    ]

root_of : (n : ℕ) → IsRoot n (root n)
root_of n = let s = some_root n in subst (IsRoot n) (root_is n s.0 s.1) s.1

-- the whole root of all squares that are greater is told as that of this one
pub near_level : (square r : ℕ) → IsRoot (10000 * min square 429484) r → (r ≡ level square) × (r ≤ 65535)
near_level square r h = elim (cases_lt square 429484) [
  | inl l ↦ near (omega arith) (root_of (10000 * square))
  | inr m ↦ far (omega arith) m (root_of (10000 * square))
]
  where
    few : min square 429484 ≤ 429484 → r ≤ 65535
    few k = elim (cases_lt 65535 r) [
      | inl l ↦ (let q : 65536 * 65536 ≤ r * r = mul-le 65536 65536 r r (omega arith) (omega arith) in absurd (omega (arith, q, h.low, k)))
      | inr m ↦ m
    ]

    near : min square 429484 ≡ square → IsRoot (10000 * square) (root (10000 * square)) → (r ≡ level square) × (r ≤ 65535)
    near e k =
        let e2 : r ≡ root (10000 * square) = root_is (10000 * square) r (subst (λ n. IsRoot (10000 * n) r) e h) in
        let f = few (omega arith) in
        (omega (arith, e2, f), f)

    far : min square 429484 ≡ 429484 → 429484 ≤ square → IsRoot (10000 * square) (root (10000 * square)) → (r ≡ level square) × (r ≤ 65535)
    far e m k =
        let f = few (omega arith) in
        let g : IsRoot (10000 * 429484) r = subst (λ n. IsRoot (10000 * n) r) e h in
        let all : r ≡ 65535 = elim (cases_lt r 65535) [
          | inl l ↦ (let q : (r + 1) * (r + 1) ≤ 65535 * 65535 = mul-le (r + 1) (r + 1) 65535 65535 (omega arith) (omega arith) in
              absurd (omega (arith, q, g.high)))
          | inr n ↦ omega (arith, f, n)
        ] in
        let great : 65535 ≤ root (10000 * square) = elim (cases_lt (root (10000 * square)) 65535) [
          | inl l ↦ (let q : (root (10000 * square) + 1) * (root (10000 * square) + 1) ≤ 65535 * 65535 =
              mul-le (root (10000 * square) + 1) (root (10000 * square) + 1) 65535 65535 (omega arith) (omega arith) in
              absurd (omega (arith, q, k.high, m)))
          | inr n ↦ n
        ] in
        (omega (arith, all, great), f)

pub is_level : (square : ℕ) → IsLevel square (level square)
is_level square = by_root (root (10000 * square)) (root_of (10000 * square))
  where
    by_root : (r : ℕ) → IsRoot (10000 * square) r → IsLevel square (min r 65535)
    by_root r h = elim (cases_lt r 65535) [
      | inl l ↦
          let e : min r 65535 ≡ r = omega arith in
          record { most = omega arith; less = λ _. subst (IsRoot (10000 * square)) (sym e) h; great = λ f. absurd (omega arith) }
      | inr m ↦
          let q : 65535 * 65535 ≤ r * r = mul-le 65535 65535 r r m m in
          record { most = omega arith; less = λ l. absurd (omega arith); great = λ _. omega (arith, q, h.low) }
    ]

-- the level of nothing is 0
pub no_level : (v : ℕ) → IsLevel 0 v → v ≡ 0
no_level v h = elim (cases_lt v 65535) [
  | inl l ↦ let r = (h.less l).low in let q = at_most_square v in omega (arith, r, q)
  | inr m ↦ let most = h.most in let e : v ≡ 65535 = omega arith in let g = h.great e in absurd (omega (arith, g))
]

-- ---- bytes

-- two bytes for each square, of which the number is the level
module _ (number : ℕ → ℕ → ℕ) (pair : ℕ → List ℕ) (first second : ℕ → ℕ) (two : (n : ℕ) → pair n ≡ first n ∷ second n ∷ [])
    (back : (n : ℕ) → n < 65536 → number (first n) (second n) ≡ n) where
  pairs : List ℕ → List ℕ
  pairs squares = flat_map (λ s. pair (level s)) squares

  one_more : (s : ℕ) (squares : List ℕ) → pairs (s ∷ squares) ≡ first (level s) ∷ second (level s) ∷ pairs squares
  unfolding pairs
  one_more s squares = ap (λ l. l ++ pairs squares) (two (level s))

  as_many : (squares : List ℕ) → length (pairs squares) ≡ 2 * length squares
  unfolding pairs
  as_many [] = refl
  as_many (s ∷ squares) = omega (arith, ap length (one_more s squares), as_many squares)

  each : (squares : List ℕ) (i n : ℕ) → slice_get squares i ≡ Some n → number_at number (pairs squares) i ≡ level n
  each [] i n e = absurd (let f = e in cc)
  each (s ∷ squares) zero n e =
      let same : s ≡ n = cc in
      ap (λ l. number_at number l 0) (one_more s squares) ∙ back (level s) (let m = (is_level s).most in omega (arith, m)) ∙ ap level same
  each (s ∷ squares) (suc i) n e =
      let two : 2 * suc i ≡ suc (suc (2 * i)) = omega arith in
      let three : suc (suc (2 * i)) + 1 ≡ suc (suc (2 * i + 1)) = omega arith in
      ap (λ l. number_at number l (suc i)) (one_more s squares) ∙ rw (two, three) (each squares i n e)

  are_levels : (squares : List ℕ) → AreLevels number squares (pairs squares)
  are_levels squares = record { as_many = as_many squares; each = λ i n e. subst (IsLevel n) (sym (each squares i n e)) (is_level n) }

high_back : (n : ℕ) → n < 65536 → high_number (n / 256) (n % 256) ≡ n
high_back n l = omega arith

low_back : (n : ℕ) → n < 65536 → low_number (n % 256) (n / 256) ≡ n
low_back n l = omega arith

pub high_levels : (squares : List ℕ) → AreLevels high_number squares (flat_map (λ s. high_first (level s)) squares)
unfolding pairs
high_levels squares = are_levels high_number high_first (λ n. n / 256) (λ n. n % 256) (λ n. refl) high_back squares

pub low_levels : (squares : List ℕ) → AreLevels low_number squares (depths squares)
unfolding pairs
low_levels squares = are_levels low_number low_first (λ n. n % 256) (λ n. n / 256) (λ n. refl) low_back squares

pub grey_levels : (sides squares : List ℕ) → (rest : List ℕ) × (pgm sides squares ≡ grey_front sides ++ rest) × AreLevels high_number squares rest
grey_levels sides squares =
    let rest = flat_map (λ s. high_first (level s)) squares in
    (rest, sym (append_assoc (header (codes "P5") (side sides 0) (side sides 1)) (codes "65535\n") rest), high_levels squares)
