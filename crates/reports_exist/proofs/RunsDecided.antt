-- Each run of small near points is decided for an axis: a line holds it and the other coordinate goes one way, or evidence shows that it is not straight.
-- The run is gone through from its first point on; one step stands in `SegmentsGrow`.
use Rattle.std.proofs.Common.{◌≡◌, ℕ, zero, suc, ◌+◌, ◌-◌, ◌*◌, ◌<◌, ◌≤◌, ◌^◌, ◌⊎◌, inl, inr, List, [], ◌∷◌, ◌++◌, length, refl, ap, sym, subst, ◌∙◌, arith}
use Rattle.std.proofs.Common.{append_assoc, append-nil}
use Rattle.std.specs.Prelude.{ℤ, pos, negsuc, ◌+ℤ◌, ◌-ℤ◌, ◌*ℤ◌, neg_ℤ, ◌≤ℤ◌, ◌<ℤ◌, nat_abs, All}
use Rattle.std.proofs.lemmas.Int.{ints}
use Rattle.std.proofs.lemmas.List.{length-append}
use Rattle.std.proofs.Math.ListN.{get_or-append}
use Rattle.std.proofs.Math.Seq.{get_or-append_seam}
use Rattle.shape_terms.specs.Limits.{line_coordinate, line_gap, line_area}
use Rattle.shape_terms.specs.Points.{Point, coordinate}
use Rattle.shape_terms.specs.Steps.{AreClose}
use Rattle.shape_terms.specs.Naive.{Naive, IsNaiveFor}
use Rattle.shape_terms.specs.Straight.{KeepsSense}
use Rattle.shape_terms.specs.Refutations.{point_at}
use Rattle.shape_terms.specs.Turns.{other_axis}
use Rattle.shape_terms.specs.Covers.{Evidence}
use Rattle.shape_terms.specs.Least.{Pairs, ShowsLeast}
use Rattle.shape_terms.proofs.Products.{rings}
use Rattle.shape_terms.proofs.ArcRuns.{IsPart}
use Rattle.shape_line.specs.Segments.{Seg, rest, IsTaken, paired}
use Rattle.shape_line.specs.Frames.{IsSense, row, along, height, IsRunOf, place_from}
use Rattle.shape_line.specs.Evidence.{IsShown}
use Rattle.shape_line.proofs.Frames.{IsLineOf, line_holds, keeps, which, stands}
use Rattle.shape_line.proofs.Growing.{u_taken, v_taken}
use Rattle.shape_line.proofs.Refusing.{pairs}
use Rattle.shape_line.proofs.Reasons.{turns_once}
use Rattle.shape_line.proofs.LeastSegments.{pairs_in, segment_shows, one_shows}
use Rattle.shape_line.proofs.Moving.{front_turn, turn_shown, crossing_shown}
use Rattle.shape_line.specs.Found.{IsShortLine}
use Rattle.reports_exist.proofs.SmallRuns.{IsSmallPoint, IsWithin, same_or_not, product_within, height_within, along_within}
use Rattle.reports_exist.proofs.SegmentsGrow.{IsGrownTo, Reason, one_more}

-- a line of the axis holds the run, along which the other coordinate goes one way; its numbers are small, and pairs of places show it to be least
pub record IsLineFor (t : ℕ) (run : List Point) (line : Naive) : Type 0 where
  pub naive : IsNaiveFor t run line
  pub sense : KeepsSense t run
  pub short : IsShortLine line
  pub main : coordinate line.a t ≤ℤ pos (line_gap + 1)
  pub mu : IsWithin (pos (3 * line_area)) line.mu
  pub pairs : Pairs
  pub shows : ShowsLeast t run (coordinate line.a t) pairs

-- the run has such a line, or evidence against each
abbrev pub IsDecided : ℕ → List Point → Type 0
IsDecided t run = ((line : Naive) × IsLineFor t run line) ⊎ ((e : Evidence) × IsShown t run e)

-- each point of the run is small, and each is close to the next
pub record IsNearRun (run : List Point) : Type 0 where
  pub small : (i : ℕ) → i < length run → IsSmallPoint (point_at run i)
  pub near : (i : ℕ) → i + 1 < length run → AreClose (point_at run i) (point_at run (i + 1))

-- ---- the line of a segment

abbrev plane_line : ℕ → ℤ → Seg → Naive
plane_line t s seg = record { a = row t (s *ℤ seg.a) seg.b; mu = seg.mu }

twice : (s a : ℤ) → IsSense s → a ≡ s *ℤ (s *ℤ a)
twice s a sense = by (which s sense)
  where
    by : (s ≡ pos 1) ⊎ (s ≡ negsuc 0) → a ≡ s *ℤ (s *ℤ a)
    by (inl e) = subst (λ (w : ℤ). a ≡ w *ℤ (w *ℤ a)) (sym e) (omega (arith, ints))
    by (inr e) = subst (λ (w : ℤ). a ≡ w *ℤ (w *ℤ a)) (sym e) (omega (arith, ints))

signed_within : (s a m : ℤ) → IsSense s → IsWithin m a → IsWithin m (s *ℤ a)
signed_within s a m sense h = by (which s sense)
  where
    by : (s ≡ pos 1) ⊎ (s ≡ negsuc 0) → IsWithin m (s *ℤ a)
    by (inl e) = subst (λ (w : ℤ). IsWithin m (w *ℤ a)) (sym e)
        (let l = h.low in let u = h.high in record { low = omega (arith, ints); high = omega (arith, ints) })
    by (inr e) = subst (λ (w : ℤ). IsWithin m (w *ℤ a)) (sym e)
        (let l = h.low in let u = h.high in record { low = omega (arith, ints); high = omega (arith, ints) })

line_of : (t : ℕ) (s : ℤ) (seg : Seg) → t < 2 → IsSense s → IsLineOf t s seg (plane_line t s seg)
line_of zero s seg l sense = record { two = refl; side = twice s seg.a sense; main = refl; mu = refl }
line_of (suc zero) s seg l sense = record { two = refl; side = twice s seg.a sense; main = refl; mu = refl }
line_of (suc (suc t)) s seg l sense = absurd (omega arith)

short_abs : (m z : ℤ) → m <ℤ pos (2 ^ 63) → IsWithin m z → nat_abs z < 2 ^ 63
short_abs m z l h = let a = h.low in let b = h.high in omega (arith, ints)

short_row : (t : ℕ) (r q : ℤ) → nat_abs r < 2 ^ 63 → nat_abs q < 2 ^ 63 → All (λ c. nat_abs c < 2 ^ 63) (row t r q)
short_row zero r q h k zero d l = k
short_row zero r q h k (suc zero) d l = h
short_row zero r q h k (suc (suc i)) d l = absurd (omega arith)
short_row (suc t) r q h k zero d l = h
short_row (suc t) r q h k (suc zero) d l = k
short_row (suc t) r q h k (suc (suc i)) d l = absurd (omega arith)

row_two : (t : ℕ) (r q : ℤ) → length (row t r q) ≡ 2
row_two zero r q = refl
row_two (suc t) r q = refl

-- a segment with small numbers gives a line
module _ (t : ℕ) (l : t < 2) (s : ℤ) (sense : IsSense s) (seg : Seg) (run : List Point) (some : pos 0 <ℤ seg.b) (steep : IsWithin seg.b seg.a)
    (small : seg.b ≤ℤ pos (line_gap + 1)) (mu : IsWithin (pos (3 * line_area)) seg.mu) (r : IsRunOf t s seg run)
    (pairs : Pairs) (least : ShowsLeast t run seg.b pairs) where
  line_found : (line : Naive) × IsLineFor t run line
  line_found = (
    plane_line t s seg,
    record {
      naive = line_holds t s seg (plane_line t s seg) run l sense (line_of t s seg l sense) some steep.low steep.high r;
      sense = keeps t s l sense seg.x0 run r.place;
      short = record {
        two = row_two t (s *ℤ seg.a) seg.b;
        coefficients = short_row t (s *ℤ seg.a) seg.b
            (short_abs seg.b (s *ℤ seg.a) (omega (arith, ints, small)) (signed_within s seg.a seg.b sense steep)) (main_short seg.b some small);
        mu = short_abs (pos (3 * line_area)) seg.mu (omega (arith, ints)) mu;
      };
      main = subst (λ (z : ℤ). z ≤ℤ pos (line_gap + 1)) (line_of t s seg l sense).main small;
      mu = mu;
      pairs = pairs;
      shows = subst (λ (z : ℤ). ShowsLeast t run z pairs) (line_of t s seg l sense).main least;
    },
  )
    where
      main_short : (b : ℤ) → pos 0 <ℤ b → b ≤ℤ pos (line_gap + 1) → nat_abs b < 2 ^ 63
      main_short b h k = omega (arith, ints)

-- ---- one point

only_one : (P : ℕ → Type 0) (i : ℕ) → i < 1 → P 0 → P i
only_one P zero m h = h
only_one P (suc i) m h = absurd (omega arith)

abbrev one_seg : ℤ → ℤ → Seg
one_seg x y = record { a = pos 0; b = pos 1; mu = rest (pos 0) (pos 1) x y; x0 = x; x1 = x; ux = x; uy = y; vx = x; vy = y; lx = x; ly = y; kx = x; ky = y }

flat_rest : (x y : ℤ) → rest (pos 0) (pos 1) x y ≡ neg_ℤ y
flat_rest x y = omega (arith, ints, rings)

-- the pairs of one place alone
abbrev nowhere : Pairs
nowhere = record { low1 = 0; high1 = 0; low2 = 0; high2 = 0 }

line_of_one : (t : ℕ) → t < 2 → (p : Point) → IsSmallPoint p → (line : Naive) × IsLineFor t (p ∷ []) line
line_of_one t l p h = line_found t l (pos 1) refl (one_seg x y) (p ∷ []) (omega (arith, ints))
    (record { low = omega (arith, ints); high = omega (arith, ints) }) (omega (arith, ints)) (bound x y (height_within t l p h)) (record {
      count = counted x;
      flat = λ i m. only_one (λ i. length (point_at (p ∷ []) i) ≡ 2) i m h.flat;
      place = λ i m. only_one (λ i. along t (pos 1) (point_at (p ∷ []) i) ≡ x +ℤ pos i) i m (nothing x);
      taken = λ i m. only_one (λ i. IsTaken (one_seg x y) (along t (pos 1) (point_at (p ∷ []) i)) (height t (point_at (p ∷ []) i))) i m
          (record { from = same x; to = same x; low = same _; high = less _ });
    }) nowhere (one_shows t (p ∷ []) nowhere (omega arith) refl refl refl refl (pos 1) refl)
  where
    x : ℤ
    x = along t (pos 1) p

    y : ℤ
    y = height t p

    counted : (x : ℤ) → pos 1 ≡ x -ℤ x +ℤ pos 1
    counted x = omega (arith, ints)

    nothing : (x : ℤ) → x ≡ x +ℤ pos 0
    nothing x = omega (arith, ints)

    same : (x : ℤ) → x ≤ℤ x
    same x = omega (arith, ints)

    less : (x : ℤ) → x <ℤ (x +ℤ pos 1)
    less x = omega (arith, ints)

    bound : (x y : ℤ) → IsWithin (pos line_coordinate) y → IsWithin (pos (3 * line_area)) (rest (pos 0) (pos 1) x y)
    bound x y h = let e = flat_rest x y in let a = h.low in let b = h.high in record { low = omega (arith, ints, e); high = omega (arith, ints, e) }

-- ---- two points and more

line_of_grown : (t : ℕ) → t < 2 → (run : List Point) → IsNearRun run → IsGrownTo t run → (line : Naive) × IsLineFor t run line
line_of_grown t l run near g =
    let u = u_taken g.seg g.is in
    let a = stands t g.sense l g.is_sense g.seg run g.is.b_pos g.points g.seg.ux g.seg.uy u in
    let q = point_at run (place_from g.seg.x0 g.seg.ux) in
    let wx = subst (IsWithin (pos line_coordinate)) a.far (along_within t l q (near.small _ a.inside) g.sense g.is_sense) in
    let wy = subst (IsWithin (pos line_coordinate)) a.high (height_within t l q (near.small _ a.inside)) in
    let steep : IsWithin g.seg.b g.seg.a = record { low = g.is.a_low; high = g.is.a_high } in
    let small : g.seg.b ≤ℤ pos (line_gap + 1) = short_main in
    let mu : IsWithin (pos (3 * line_area)) g.seg.mu = subst (IsWithin (pos (3 * line_area))) g.is.u_is
    (bound g.seg.a g.seg.b g.seg.ux g.seg.uy steep small wx wy) in
    line_found t l g.sense g.is_sense g.seg run g.is.b_pos steep small mu g.points (pairs_in g.seg)
    (segment_shows t g.sense l g.is_sense g.seg g.is run g.points)
  where
    wide : (m n z : ℤ) → m ≤ℤ n → IsWithin m z → IsWithin n z
    wide m n z l h = let a = h.low in let b = h.high in record { low = omega (arith, ints); high = omega (arith, ints) }

    bound : (a b x y : ℤ) → IsWithin b a → b ≤ℤ pos (line_gap + 1) → IsWithin (pos line_coordinate) x → IsWithin (pos line_coordinate) y
        → IsWithin (pos (3 * line_area)) (rest a b x y)
    bound a b x y h k hx hy =
        let al = h.low in
        let ah = h.high in
        let p = product_within (pos (line_gap + 1)) a x (wide b (pos (line_gap + 1)) a k h)
        (wide (pos line_coordinate) (pos (line_gap + 1)) x (omega (arith, ints)) hx) in
        let q = product_within (pos (line_gap + 1)) b y (record { low = omega (arith, ints); high = k })
        (wide (pos line_coordinate) (pos (line_gap + 1)) y (omega (arith, ints)) hy) in
        sum (a *ℤ x) (b *ℤ y) p q
      where
        sum : (v w : ℤ) → IsWithin (pos ((line_gap + 1) * (line_gap + 1))) v → IsWithin (pos ((line_gap + 1) * (line_gap + 1))) w
            → IsWithin (pos (3 * line_area)) (v -ℤ w)
        sum v w h k = let a = h.low in let b = h.high in let c = k.low in let d = k.high in record { low = omega (arith, ints); high = omega (arith, ints) }

    two : (n : ℕ) (x0 x1 b : ℤ) → pos n ≡ x1 -ℤ x0 +ℤ pos 1 → pos 0 <ℤ b → b ≤ℤ (x1 -ℤ x0) → 2 ≤ n
    two n x0 x1 b e h k = omega (arith, ints)

    main : (n : ℕ) (x0 x1 b z : ℤ) → pos n ≡ x1 -ℤ x0 +ℤ pos 1 → b ≤ℤ (x1 -ℤ x0) → z ≡ x0 +ℤ pos (n - 1) → 2 ≤ n
        → IsWithin (pos line_coordinate) (x0 +ℤ pos 0) → IsWithin (pos line_coordinate) z → b ≤ℤ pos (line_gap + 1)
    main n x0 x1 b z e k f m h i = let a = h.low in let c = i.high in omega (arith, ints)

    short_main : g.seg.b ≤ℤ pos (line_gap + 1)
    short_main =
        let m = two (length run) g.seg.x0 g.seg.x1 g.seg.b g.points.count g.is.b_pos g.is.b_short in
        let first = subst (IsWithin (pos line_coordinate)) (g.points.place 0 (omega arith))
        (along_within t l (point_at run 0) (near.small 0 (omega arith)) g.sense g.is_sense) in
        let last = along_within t l (point_at run (length run - 1)) (near.small (length run - 1) (omega arith)) g.sense g.is_sense in
        main (length run) g.seg.x0 g.seg.x1 g.seg.b _ g.points.count g.is.b_short (g.points.place (length run - 1) (omega arith)) m first last

-- ---- the second point

pair_grown : (t : ℕ) → t < 2 → (s : ℤ) → IsSense s → (p q : Point) → length p ≡ 2 → length q ≡ 2 → AreClose p q → along t s q ≡ along t s p +ℤ pos 1
    → IsGrownTo t (p ∷ q ∷ [])
pair_grown t l s sense p q hp hq close next =
    let h = heights (coordinate p t) (coordinate q t) (close t) in
    let seg = paired (along t s p) (height t p) (along t s q) (height t q) in
    let is = pairs (along t s p) (height t p) (along t s q) (height t q) next h.0 h.1 in
    record {
      sense = s;
      is_sense = sense;
      seg = seg;
      is = is;
      points = record {
        count = counted (along t s p) (along t s q) next;
        flat = λ i m. each (λ i. length (point_at (p ∷ q ∷ []) i) ≡ 2) i m hp hq;
        place = λ i m. each (λ i. along t s (point_at (p ∷ q ∷ []) i) ≡ along t s p +ℤ pos i) i m (nothing (along t s p)) next;
        taken = λ i m. each (λ i. IsTaken seg (along t s (point_at (p ∷ q ∷ []) i)) (height t (point_at (p ∷ q ∷ []) i))) i m (u_taken seg is) (v_taken seg is);
      };
    }
  where
    heights : (a b : ℤ) → nat_abs (a -ℤ b) ≤ 1 → (neg_ℤ b ≤ℤ (neg_ℤ a +ℤ pos 1)) × (neg_ℤ a ≤ℤ (neg_ℤ b +ℤ pos 1))
    heights a b h = (omega (arith, ints), omega (arith, ints))

    counted : (x y : ℤ) → y ≡ x +ℤ pos 1 → pos 2 ≡ y -ℤ x +ℤ pos 1
    counted x y e = omega (arith, ints)

    nothing : (x : ℤ) → x ≡ x +ℤ pos 0
    nothing x = omega (arith, ints)

    each : (P : ℕ → Type 0) (i : ℕ) → i < 2 → P 0 → P 1 → P i
    each P zero m h k = h
    each P (suc zero) m h k = k
    each P (suc (suc i)) m h k = absurd (omega arith)

second : (t : ℕ) → t < 2 → (p q : Point) → length p ≡ 2 → length q ≡ 2 → AreClose p q → IsGrownTo t (p ∷ q ∷ []) ⊎ Reason t (p ∷ q ∷ [])
second t l p q hp hq close =
    let c = coordinate q (other_axis t) in
    let d = coordinate p (other_axis t) in
    elim (same_or_not (c -ℤ d) (pos 1)) [
      | inl e ↦ inl (pair_grown t l (pos 1) refl p q hp hq close (forward d c e))
      | inr f ↦ elim (same_or_not (c -ℤ d) (negsuc 0)) [
        | inl e ↦ inl (pair_grown t l (negsuc 0) refl p q hp hq close (backward d c e))
        | inr b ↦ inr (Reason.Bends 0 0 (turns_once t (p ∷ []) p q refl f b))
      ]
    ]
  where
    forward : (d c : ℤ) → c -ℤ d ≡ pos 1 → pos 1 *ℤ c ≡ pos 1 *ℤ d +ℤ pos 1
    forward d c e = omega (arith, ints)

    backward : (d c : ℤ) → c -ℤ d ≡ negsuc 0 → negsuc 0 *ℤ c ≡ negsuc 0 *ℤ d +ℤ pos 1
    backward d c e = omega (arith, ints)

-- ---- fronts of a run

none_before : (i : ℕ) → 0 + i ≡ i
none_before i = omega arith

front_part : (xs ys : List Point) → IsPart (xs ++ ys) xs 0
front_part xs ys = record {
  len = (let e = length-append xs ys in omega arith);
  same = λ i l. sym (get_or-append xs ys [] i l) ∙ ap (point_at (xs ++ ys)) (sym (none_before i));
}

-- the first points of a run make a segment, or are one
abbrev Begun : ℕ → List Point → Type 0
Begun t run = ((p : Point) × (run ≡ p ∷ [])) ⊎ IsGrownTo t run

-- some front of the whole is not straight, for this reason
abbrev Fails : ℕ → List Point → Type 0
Fails t whole = (run : List Point) × IsPart whole run 0 × Reason t run

next_point : (t : ℕ) → t < 2 → (run : List Point) → Begun t run → (p : Point)
    → ((i : ℕ) → i < length (run ++ p ∷ []) → IsSmallPoint (point_at (run ++ p ∷ []) i)) → AreClose (point_at run (length run - 1)) p
    → IsGrownTo t (run ++ p ∷ []) ⊎ Reason t (run ++ p ∷ [])
next_point t l run (inr g) p small close = one_more t l run g p small close
next_point t l run (inl (q, e)) p small close =
    subst (λ (r : List Point). IsGrownTo t (r ++ p ∷ []) ⊎ Reason t (r ++ p ∷ [])) (sym e) (second t l q p
    (subst (λ (r : List Point). (i : ℕ) → i < length (r ++ p ∷ []) → IsSmallPoint (point_at (r ++ p ∷ []) i)) e small 0 (omega arith)).flat
    (subst (λ (r : List Point). (i : ℕ) → i < length (r ++ p ∷ []) → IsSmallPoint (point_at (r ++ p ∷ []) i)) e small 1 (omega arith)).flat
    (subst (λ (r : List Point). AreClose (point_at r (length r - 1)) p) e close))

begun_some : (t : ℕ) (run : List Point) → Begun t run → 1 ≤ length run
begun_some t run (inl (p, e)) = subst (λ (r : List Point). 1 ≤ length r) (sym e) (omega arith)
begun_some t run (inr g) = by (length run) g.seg.x0 g.seg.x1 g.seg.b g.points.count g.is.b_pos g.is.b_short
  where
    by : (n : ℕ) (x0 x1 b : ℤ) → pos n ≡ x1 -ℤ x0 +ℤ pos 1 → pos 0 <ℤ b → b ≤ℤ (x1 -ℤ x0) → 1 ≤ n
    by n x0 x1 b e h k = omega (arith, ints)

gone_through : (t : ℕ) → t < 2 → (run more : List Point) → IsNearRun (run ++ more) → Begun t run → Begun t (run ++ more) ⊎ Fails t (run ++ more)
gone_through t l run [] near b = inl (subst (Begun t) (sym (append-nil run)) b)
gone_through t l run (p ∷ more) near b =
    let e : (run ++ p ∷ []) ++ more ≡ run ++ p ∷ more = append_assoc run (p ∷ []) more in
    let part : IsPart (run ++ p ∷ more) (run ++ p ∷ []) 0 = subst (λ (w : List Point). IsPart w (run ++ p ∷ []) 0) e (front_part (run ++ p ∷ []) more) in
    let some = begun_some t run b in
    let n = length-append run (p ∷ more) in
    let last : point_at (run ++ p ∷ more) (length run - 1) ≡ point_at run (length run - 1) = get_or-append run (p ∷ more) [] (length run - 1) (omega arith) in
    let here : point_at (run ++ p ∷ more) (length run - 1 + 1) ≡ p = ap (point_at (run ++ p ∷ more))
    (let q : length run - 1 + 1 ≡ length run = omega arith in q) ∙ get_or-append_seam run p more [] in
    let close : AreClose (point_at run (length run - 1)) p = subst (λ (q : Point). AreClose q p) last
    (subst (AreClose (point_at (run ++ p ∷ more) (length run - 1))) here (near.near (length run - 1) (omega arith))) in
    let small : (i : ℕ) → i < length (run ++ p ∷ []) → IsSmallPoint (point_at (run ++ p ∷ []) i) = λ i m. subst IsSmallPoint
    (sym (part.same i m ∙ ap (point_at (run ++ p ∷ more)) (none_before i))) (near.small i (let q = part.len in omega arith)) in
    elim (next_point t l run b p small close) [
      | inr r ↦ inr (run ++ p ∷ [], part, r)
      | inl g ↦ subst (λ (w : List Point). Begun t w ⊎ Fails t w) e (gone_through t l (run ++ p ∷ []) more (subst IsNearRun (sym e) near) (inr g))
    ]

-- ---- the decision

shown_of : (t : ℕ) (whole run : List Point) → IsPart whole run 0 → Reason t run → (e : Evidence) × IsShown t whole e
shown_of t whole run part (Reason.Bends i j turn) = (Evidence.Turned i j, turn_shown t whole i j (front_turn whole run part t i j turn))
shown_of t whole run part (Reason.Crosses c h) =
    let len = part.len in (
      _,
      crossing_shown t run whole (λ i. i) (let a = h.lower.within in omega arith) (λ i m. omega arith)
          (λ i m. part.same i m ∙ ap (point_at whole) (none_before i)) c h,
    )

pub decided : (t : ℕ) → t < 2 → (run : List Point) → 0 < length run → IsNearRun run → IsDecided t run
decided t l [] some near = absurd (omega arith)
decided t l (p ∷ more) some near = elim (gone_through t l (p ∷ []) more near (inl (p, refl))) [
  | inl (inl (q, e)) ↦ inl (subst (λ (r : List Point). (line : Naive) × IsLineFor t r line) (sym e)
      (line_of_one t l q (subst (λ (r : List Point). (i : ℕ) → i < length r → IsSmallPoint (point_at r i)) e near.small 0 (omega arith))))
  | inl (inr g) ↦ inl (line_of_grown t l (p ∷ more) near g)
  | inr (run, part, r) ↦ inr (shown_of t (p ∷ more) run part r)
]

-- one point alone has a line
pub one_decided : (t : ℕ) → t < 2 → (run : List Point) → length run ≡ 1 → IsNearRun run → (line : Naive) × IsLineFor t run line
one_decided t l [] e near = absurd (omega arith)
one_decided t l (p ∷ []) e near = line_of_one t l p (near.small 0 (omega arith))
one_decided t l (p ∷ q ∷ run) e near = absurd (omega arith)
