-- The run of a segment: it is one, it goes one way, the line holds it, and it grows as the segment does.
-- Arithmetic of the step stands in `Growing` and `Refusing`.
use Rattle.std.proofs.Common.{◌≡◌, ◌≢◌, ℕ, zero, suc, ◌+◌, ◌<◌, List, [], ◌∷◌, ◌++◌, length, refl, ap, sym, subst, ◌∙◌, arith, ◌⊎◌, inl, inr}
use Rattle.std.specs.Prelude.{ℤ, pos, negsuc, ◌+ℤ◌, ◌-ℤ◌, ◌*ℤ◌, neg_ℤ, ◌≤ℤ◌, ◌<ℤ◌, nat_abs}
use Rattle.std.proofs.lemmas.Int.{ints, by_lt_z}
use Rattle.std.proofs.lemmas.List.{get_or_default, same_lists, length-append}
use Rattle.std.proofs.lemmas.List.Elements.{All-from_get_or}
use Rattle.std.proofs.Math.ListN.{get_or-append}
use Rattle.std.proofs.Math.Seq.{get_or-append_seam}
use native.Mathlib.Decide.{dec_lt}
use Rattle.shape_terms.specs.Points.{Point, coordinate}
use Rattle.shape_terms.specs.Vectors.{dot}
use Rattle.shape_terms.specs.Naive.{Naive, IsProper, HoldsPoint, IsNaiveFor}
use Rattle.shape_terms.specs.Refutations.{point_at}
use Rattle.shape_terms.specs.Turns.{other_axis}
use Rattle.shape_terms.specs.Straight.{KeepsSense}
use Rattle.shape_terms.proofs.Products.{rings}
use Rattle.shape_terms.proofs.Order.{mul-le_ℤ}
use Rattle.shape_terms.proofs.LeastLines.{value_on}
use Rattle.shape_line.proofs.OneWay.{two_coordinates}
use Rattle.shape_line.specs.Segments.{Seg, rest, IsTaken, IsLonger}
use Rattle.shape_line.specs.Frames.{IsSense, along, height, IsRunOf, place_from, StandsAt}

-- ---- senses

pub which : (s : ℤ) → IsSense s → (s ≡ pos 1) ⊎ (s ≡ negsuc 0)
which (pos n) h = inl (ap pos (let e : n ≡ 1 = omega (arith, ints) in e))
which (negsuc n) h = inr (ap negsuc (let e : n ≡ 0 = omega (arith, ints) in e))

abbrev Either : ℤ → Type 0
Either s = (s ≡ pos 1) ⊎ (s ≡ negsuc 0)

pub sense_same : (s a b : ℤ) → IsSense s → s *ℤ a ≡ s *ℤ b → a ≡ b
sense_same s a b sense h = by (which s sense)
  where
    by : Either s → a ≡ b
    by (inl e) = let x = ap (λ (z : ℤ). z *ℤ a) e in let y = ap (λ (z : ℤ). z *ℤ b) e in omega (arith, ints, rings, h, x, y)
    by (inr e) = let x = ap (λ (z : ℤ). z *ℤ a) e in let y = ap (λ (z : ℤ). z *ℤ b) e in omega (arith, ints, rings, h, x, y)

-- ---- a point is known by how far along and how high it is

same_flat : (t : ℕ) (p q : Point) → t < 2 → length p ≡ 2 → length q ≡ 2 → coordinate p (other_axis t) ≡ coordinate q (other_axis t)
    → coordinate p t ≡ coordinate q t → p ≡ q
same_flat zero p q l hp hq e f = two_coordinates p hp ∙ ((λ i. f i ∷ e i ∷ []) ∙ sym (two_coordinates q hq))
same_flat (suc zero) p q l hp hq e f = two_coordinates p hp ∙ ((λ i. e i ∷ f i ∷ []) ∙ sym (two_coordinates q hq))
same_flat (suc (suc t)) p q l hp hq e f = absurd (omega arith)

same_height : (a b : ℤ) → neg_ℤ a ≡ neg_ℤ b → a ≡ b
same_height a b h = omega (arith, ints)

pub same_point : (t : ℕ) (s : ℤ) (p q : Point) → t < 2 → IsSense s → length p ≡ 2 → length q ≡ 2 → along t s p ≡ along t s q → height t p ≡ height t q → p ≡ q
same_point t s p q l sense hp hq e f = same_flat t p q l hp hq (sense_same s _ _ sense e) (same_height _ _ f)

-- a line has one height at each place
pub row_one : (a b mu x y z : ℤ) → pos 0 <ℤ b → mu ≤ℤ rest a b x y → rest a b x y <ℤ (mu +ℤ b) → mu ≤ℤ rest a b x z → rest a b x z <ℤ (mu +ℤ b) → y ≡ z
row_one a b mu x y z hb p q r s =
    by_lt_z y z (λ (l : y <ℤ z). absurd (off y z l p q r s))
    (λ (l : z ≤ℤ y). by_lt_z z y (λ (m : z <ℤ y). absurd (off z y m r s p q)) (λ (m : y ≤ℤ z). omega (arith, ints, l, m)))
  where
    off : (y z : ℤ) → y <ℤ z → mu ≤ℤ rest a b x y → rest a b x y <ℤ (mu +ℤ b) → mu ≤ℤ rest a b x z → rest a b x z <ℤ (mu +ℤ b) → ⊥
    off y z l p q r s = let m = mul-le_ℤ b (pos 1) (z -ℤ y) (omega (arith, ints, hb)) (omega (arith, ints, l)) in omega (arith, ints, rings, m, q, r)

pub taken_one : (seg : Seg) (x y v z : ℤ) → pos 0 <ℤ seg.b → x ≡ v → IsTaken seg x y → IsTaken seg v z → y ≡ z
taken_one seg x y v z hb e p q =
    let r = subst (λ (w : ℤ). IsTaken seg w z) (sym e) q in
    row_one seg.a seg.b seg.mu x y z hb p.low p.high r.low r.high

-- ---- places of a list with one more point

pub more : (P : ℕ → Point → Type 0) (run : List Point) (p : Point) → ((i : ℕ) → i < length run → P i (point_at run i)) → P (length run) p → (i : ℕ)
    → i < length (run ++ p ∷ []) → P i (point_at (run ++ p ∷ []) i)
more P run p each last i l = elim (dec_lt i (length run)) [
  | yes m ↦ subst (P i) (sym (get_or-append run (p ∷ []) [] i m)) (each i m)
  | no m ↦ (let e : length run ≡ i = omega (arith, length-append run (p ∷ [])) in
      subst (λ (k : ℕ). P k (point_at (run ++ p ∷ []) k)) e (subst (P (length run)) (sym (get_or-append_seam run p [] [])) last))
]

module _ (t : ℕ) (s : ℤ) (l : t < 2) (sense : IsSense s) where
  -- a segment has one run
  pub runs_same : (seg : Seg) (xs ys : List Point) → pos 0 <ℤ seg.b → IsRunOf t s seg xs → IsRunOf t s seg ys → xs ≡ ys
  runs_same seg xs ys hb p q =
      let n : length xs ≡ length ys = counts (length xs) (length ys) (p.count ∙ sym q.count) in
      same_lists xs ys n (λ k d m.
      let o : k < length ys = omega arith in
      let e = p.place k m ∙ sym (q.place k o) in
      get_or_default xs k d [] m
      ∙ (same_point t s (point_at xs k) (point_at ys k) l sense (p.flat k m) (q.flat k o) e (taken_one seg _ _ _ _ hb e (p.taken k m) (q.taken k o))
      ∙ get_or_default ys k [] d o))
    where
      counts : (m n : ℕ) → pos m ≡ pos n → m ≡ n
      counts m n e = omega (arith, ints)

  -- a point of the segment stands at its place
  pub stands : (seg : Seg) (run : List Point) → pos 0 <ℤ seg.b → IsRunOf t s seg run → (x y : ℤ) → IsTaken seg x y → StandsAt t s seg.x0 run x y
  stands seg run some h x y k =
      let i = place_from seg.x0 x in
      let m : i < length run = within (length run) seg.x0 seg.x1 x h.count k.from k.to in
      let f : along t s (point_at run i) ≡ x = h.place i m ∙ back seg.x0 x k.from in
      record { inside = m; far = f; high = taken_one seg _ _ _ _ some f (h.taken i m) k }
    where
      within : (n : ℕ) (x0 x1 x : ℤ) → pos n ≡ x1 -ℤ x0 +ℤ pos 1 → x0 ≤ℤ x → x ≤ℤ x1 → nat_abs (x -ℤ x0) < n
      within n x0 x1 x e f g = omega (arith, ints)

      back : (x0 x : ℤ) → x0 ≤ℤ x → x0 +ℤ pos (nat_abs (x -ℤ x0)) ≡ x
      back x0 x f = omega (arith, ints)

  -- a run that grows by a point is the run of the longer segment
  pub runs_longer : (seg r : Seg) (run : List Point) (p : Point) → IsRunOf t s seg run → IsLonger seg (along t s p) (height t p) r
      → along t s p ≡ seg.x1 +ℤ pos 1 → length p ≡ 2 → IsRunOf t s r (run ++ p ∷ [])
  runs_longer seg r run p h g next flat = record {
    count = count (length run) (length (run ++ p ∷ [])) seg.x0 seg.x1 r.x0 r.x1 h.count (length-append run (p ∷ [])) g.same_start (g.ends ∙ next);
    flat = more (λ i q. length q ≡ 2) run p h.flat flat;
    place = more (λ i q. along t s q ≡ r.x0 +ℤ pos i) run p (λ i m. h.place i m ∙ ap (λ (z : ℤ). z +ℤ pos i) (sym g.same_start))
        (at_end (length run) seg.x0 seg.x1 r.x0 (along t s p) h.count g.same_start next);
    taken = more (λ i q. IsTaken r (along t s q) (height t q)) run p (λ i m. g.old _ _ (h.taken i m)) g.new;
  }
    where
      count : (n m : ℕ) (x0 x1 y0 y1 : ℤ) → pos n ≡ x1 -ℤ x0 +ℤ pos 1 → m ≡ n + 1 → y0 ≡ x0 → y1 ≡ x1 +ℤ pos 1 → pos m ≡ y1 -ℤ y0 +ℤ pos 1
      count n m x0 x1 y0 y1 a b c d = omega (arith, ints)

      at_end : (n : ℕ) (x0 x1 y0 z : ℤ) → pos n ≡ x1 -ℤ x0 +ℤ pos 1 → y0 ≡ x0 → z ≡ x1 +ℤ pos 1 → z ≡ y0 +ℤ pos n
      at_end n x0 x1 y0 z a b c = omega (arith, ints)

  -- points that are one further along at each place go one way
  pub keeps : (x : ℤ) (run : List Point) → ((i : ℕ) → i < length run → along t s (point_at run i) ≡ x +ℤ pos i) → KeepsSense t run
  keeps x run place = elim (which s sense) [
    | inl e ↦ inl (λ i m. up s _ _ x i e (place i (omega arith)) (place (i + 1) m))
    | inr e ↦ inr (λ i m. down s _ _ x i e (place i (omega arith)) (place (i + 1) m))
  ]
    where
      up : (s a b x : ℤ) (i : ℕ) → s ≡ pos 1 → s *ℤ a ≡ x +ℤ pos i → s *ℤ b ≡ x +ℤ pos (i + 1) → b -ℤ a ≡ pos 1
      up s a b x i e f g = let y = ap (λ (z : ℤ). z *ℤ a) e in let z = ap (λ (z : ℤ). z *ℤ b) e in omega (arith, ints, rings, f, g, y, z)

      down : (s a b x : ℤ) (i : ℕ) → s ≡ negsuc 0 → s *ℤ a ≡ x +ℤ pos i → s *ℤ b ≡ x +ℤ pos (i + 1) → b -ℤ a ≡ negsuc 0
      down s a b x i e f g = let y = ap (λ (z : ℤ). z *ℤ a) e in let z = ap (λ (z : ℤ). z *ℤ b) e in omega (arith, ints, rings, f, g, y, z)

-- ---- the line holds the run

-- the line of the segment in the plane
pub record IsLineOf (t : ℕ) (s : ℤ) (seg : Seg) (n : Naive) : Type 0 where
  pub two : length n.a ≡ 2
  pub side : seg.a ≡ s *ℤ coordinate n.a (other_axis t)
  pub main : seg.b ≡ coordinate n.a t
  pub mu : seg.mu ≡ n.mu

sized : (s a b c : ℤ) → Either s → c ≡ s *ℤ a → neg_ℤ b ≤ℤ c → c ≤ℤ b → pos (nat_abs a) ≤ℤ b
sized s a b c (inl e) h l m = let x = ap (λ (z : ℤ). z *ℤ a) e in omega (arith, ints, rings, h, x, l, m)
sized s a b c (inr e) h l m = let x = ap (λ (z : ℤ). z *ℤ a) e in omega (arith, ints, rings, h, x, l, m)

pub proper : (t : ℕ) (s : ℤ) (seg : Seg) (n : Naive) → t < 2 → IsSense s → IsLineOf t s seg n → pos 0 <ℤ seg.b → neg_ℤ seg.b ≤ℤ seg.a → seg.a ≤ℤ seg.b
    → IsProper t n
proper t s seg n l sense h some low high = record {
  main = (let e = h.main in omega (arith, ints, e, some));
  others = λ u d. others t u n.a l d h.two (size s _ _ _ _ sense h.side h.main low high) (let e = h.main in omega (arith, ints, e, some));
}
  where
    size : (s a b c d : ℤ) → IsSense s → c ≡ s *ℤ a → d ≡ b → neg_ℤ d ≤ℤ c → c ≤ℤ d → pos (nat_abs a) ≤ℤ b
    size s a b c d sense h e l m = sized s a b c (which s sense) h (omega (arith, ints, e, l)) (omega (arith, ints, e, m))

    past : (a : List ℤ) (u : ℕ) (b : ℤ) → length a ≡ 2 → pos 1 ≤ℤ b → pos (nat_abs (coordinate a (suc (suc u)))) ≤ℤ b
    past [] u b e m = absurd (omega arith)
    past (x ∷ []) u b e m = absurd (omega arith)
    past (x ∷ y ∷ []) u b e m = omega (arith, ints)
    past (x ∷ y ∷ z ∷ a) u b e m = absurd (omega arith)

    others : (t u : ℕ) (a : List ℤ) → t < 2 → u ≢ t → length a ≡ 2 → pos (nat_abs (coordinate a (other_axis t))) ≤ℤ coordinate a t → pos 1 ≤ℤ coordinate a t
        → pos (nat_abs (coordinate a u)) ≤ℤ coordinate a t
    others zero zero a l d e h m = absurd (d refl)
    others zero (suc zero) a l d e h m = h
    others (suc zero) zero a l d e h m = h
    others (suc zero) (suc zero) a l d e h m = absurd (d refl)
    others zero (suc (suc u)) a l d e h m = past a u (coordinate a 0) e m
    others (suc zero) (suc (suc u)) a l d e h m = past a u (coordinate a 1) e m
    others (suc (suc t)) u a l d e h m = absurd (omega arith)

-- a number in a sense is itself or its opposite
pub signed_up : (s a : ℤ) → s ≡ pos 1 → s *ℤ a ≡ a
signed_up s a e = let x = ap (λ (z : ℤ). z *ℤ a) e in omega (arith, ints, x)

pub signed_down : (s a : ℤ) → s ≡ negsuc 0 → s *ℤ a ≡ neg_ℤ a
signed_down s a e = let x = ap (λ (z : ℤ). z *ℤ a) e in omega (arith, ints, x)

-- the remainder is the value of the line
pub folded : (s a u b v : ℤ) → Either s → rest (s *ℤ a) b (s *ℤ u) (neg_ℤ v) ≡ a *ℤ u +ℤ b *ℤ v
folded s a u b v (inl e) = (λ i. rest (signed_up s a e i) b (signed_up s u e i) (neg_ℤ v)) ∙ plain a u b v
  where
    plain : (a u b v : ℤ) → rest a b u (neg_ℤ v) ≡ a *ℤ u +ℤ b *ℤ v
    plain a u b v = omega (arith, ints, rings)
folded s a u b v (inr e) = (λ i. rest (signed_down s a e i) b (signed_down s u e i) (neg_ℤ v)) ∙ plain a u b v
  where
    plain : (a u b v : ℤ) → rest (neg_ℤ a) b (neg_ℤ u) (neg_ℤ v) ≡ a *ℤ u +ℤ b *ℤ v
    plain a u b v = omega (arith, ints, rings)

pub rest_is_value : (t : ℕ) (s : ℤ) (seg : Seg) (n : Naive) (p : Point) → t < 2 → IsSense s → IsLineOf t s seg n → length p ≡ 2
    → rest seg.a seg.b (along t s p) (height t p) ≡ dot n.a p
rest_is_value t s seg n p l sense h flat =
    let x : rest seg.a seg.b (along t s p) (height t p) ≡ rest (s *ℤ coordinate n.a (other_axis t)) (coordinate n.a t) (along t s p) (height t p) =
    (λ i. rest (h.side i) (h.main i) (along t s p) (height t p)) in
    x ∙ (folded s (coordinate n.a (other_axis t)) (coordinate p (other_axis t)) (coordinate n.a t) (coordinate p t) (which s sense)
    ∙ sym (value_on t n.a p l flat))

pub line_holds : (t : ℕ) (s : ℤ) (seg : Seg) (n : Naive) (run : List Point) → t < 2 → IsSense s → IsLineOf t s seg n → pos 0 <ℤ seg.b → neg_ℤ seg.b ≤ℤ seg.a
    → seg.a ≤ℤ seg.b → IsRunOf t s seg run → IsNaiveFor t run n
line_holds t s seg n run l sense h some low high r = record {
  proper = proper t s seg n l sense h some low high;
  holds = All-from_get_or (HoldsPoint t n) run [] (λ i m.
      let e = rest_is_value t s seg n (point_at run i) l sense h (r.flat i m) in
      let g = r.taken i m in
      record { low = lower _ _ _ _ h.mu e g.low; high = upper _ _ _ _ _ _ h.mu h.main e g.high });
}
  where
    lower : (mu nu v w : ℤ) → mu ≡ nu → v ≡ w → mu ≤ℤ v → nu ≤ℤ w
    lower mu nu v w e f h = omega (arith, ints)

    upper : (mu nu b c v w : ℤ) → mu ≡ nu → b ≡ c → v ≡ w → v <ℤ (mu +ℤ b) → w <ℤ (nu +ℤ c)
    upper mu nu b c v w e g f h = omega (arith, ints)
