-- Spans of the second slope that grow tighter, row by row.
-- The order in which rows are looked at is that of the loop over them.
use Rattle.std.proofs.Common.{Bool, ◌≡◌, ℕ, ◌+◌, ◌<◌, ◌≤◌, List, length, sym, subst, arith}
use Rattle.std.specs.Prelude.{IsTrue, ◌↔◌, ℤ, pos, ◌*ℤ◌, ◌≤ℤ◌, ◌<ℤ◌, unsigned_abs}
use Rattle.std.proofs.lemmas.Int.{ints}
use native.Mathlib.Decide.{ℕ_discrete}
use Rattle.shape_plane.specs.declared.row.Row.{Row}
use Rattle.shape_space.specs.declared.frac.Frac.{Frac}
use Rattle.shape_plane.specs.declared.span.Span.{Span}
use Rattle.shape_plane.specs.Rows.{row_at, level}
use Rattle.shape_plane.specs.Spans.{MeetsAt, IsSpan, IsTightened, IsTight}
use Rattle.shape_plane.proofs.Tighter.{follows_upper, follows_lower}

pub lower_taken : (rows : List Row) (f : Frac) (old : Span) (j : ℕ) → IsSpan rows old → j < length rows → 4 ≤ j → (row_at rows j).y <ℤ pos 0
    → (level f.num f.den (row_at rows old.lower) *ℤ pos (unsigned_abs (row_at rows j).y)) <ℤ
    (level f.num f.den (row_at rows j) *ℤ pos (unsigned_abs (row_at rows old.lower).y))
    → IsTightened rows f old j (record { lower = j; upper = old.upper })
lower_taken rows f old j s l k y h = record {
  span = record { lower_place = l; upper_place = s.upper_place; lower_second = omega arith; upper_second = s.upper_second; falls = y; rises = s.rises };
  closer = λ n m hm a. (
    follows_lower n m (row_at rows j).y (level f.num f.den (row_at rows j)) (row_at rows old.lower).y
        (level f.num f.den (row_at rows old.lower)) hm y s.falls (omega (arith, ints, h)) a.0,
    a.1,
  );
  met = λ n m hm a e. a.0;
}

pub lower_kept : (rows : List Row) (f : Frac) (old : Span) (j : ℕ) → IsSpan rows old → (row_at rows j).y <ℤ pos 0
    → (level f.num f.den (row_at rows j) *ℤ pos (unsigned_abs (row_at rows old.lower).y)) ≤ℤ
    (level f.num f.den (row_at rows old.lower) *ℤ pos (unsigned_abs (row_at rows j).y))
    → IsTightened rows f old j old
lower_kept rows f old j s y h =
    record {
      span = s;
      closer = λ n m hm a. a;
      met = λ n m hm a e. follows_lower n m (row_at rows old.lower).y (level f.num f.den (row_at rows old.lower))
          (row_at rows j).y (level f.num f.den (row_at rows j)) hm s.falls y h a.0;
    }

pub upper_taken : (rows : List Row) (f : Frac) (old : Span) (j : ℕ) → IsSpan rows old → j < length rows → 4 ≤ j → pos 0 <ℤ (row_at rows j).y
    → (level f.num f.den (row_at rows old.upper) *ℤ pos (unsigned_abs (row_at rows j).y)) <ℤ
    (level f.num f.den (row_at rows j) *ℤ pos (unsigned_abs (row_at rows old.upper).y))
    → IsTightened rows f old j (record { lower = old.lower; upper = j })
upper_taken rows f old j s l k y h = record {
  span = record { lower_place = s.lower_place; upper_place = l; lower_second = s.lower_second; upper_second = omega arith; falls = s.falls; rises = y };
  closer = λ n m hm a. (
    a.0,
    follows_upper n m (row_at rows j).y (level f.num f.den (row_at rows j)) (row_at rows old.upper).y
        (level f.num f.den (row_at rows old.upper)) hm y s.rises (omega (arith, ints, h)) a.1,
  );
  met = λ n m hm a e. a.1;
}

pub upper_kept : (rows : List Row) (f : Frac) (old : Span) (j : ℕ) → IsSpan rows old → pos 0 <ℤ (row_at rows j).y
    → (level f.num f.den (row_at rows j) *ℤ pos (unsigned_abs (row_at rows old.upper).y)) ≤ℤ
    (level f.num f.den (row_at rows old.upper) *ℤ pos (unsigned_abs (row_at rows j).y))
    → IsTightened rows f old j old
upper_kept rows f old j s y h =
    record {
      span = s;
      closer = λ n m hm a. a;
      met = λ n m hm a e. follows_upper n m (row_at rows old.upper).y (level f.num f.den (row_at rows old.upper))
          (row_at rows j).y (level f.num f.den (row_at rows j)) hm s.rises y h a.1;
    }

pub tight_more : (rows : List Row) (f : Frac) (old new : Span) (j : ℕ) → IsTight rows f j old → IsTightened rows f old j new → IsTight rows f (j + 1) new
tight_more rows f old new j t x = record {
  span = x.span;
  met = λ k b n m hm i e. elim (ℕ_discrete k j) [
    | yes q ↦ subst (MeetsAt rows f n m) (sym q) (x.met n m hm i (λ z. e (subst (λ (v : ℕ). (row_at rows v).y ≡ pos 0) (sym q) z)))
    | no q ↦ t.met k (omega arith) n m hm (x.closer n m hm i) e
  ];
}

pub compared : (b : Bool) (x z y w x' z' y' w' : ℤ) → x ≡ x' → z ≡ z' → y ≡ y' → w ≡ w' → IsTrue b ↔ (z *ℤ pos (unsigned_abs y)) <ℤ (w *ℤ pos (unsigned_abs x))
    → IsTrue b ↔ (z' *ℤ pos (unsigned_abs y')) <ℤ (w' *ℤ pos (unsigned_abs x'))
compared b x z y w x' z' y' w' ex ez ey ew h = rw (sym ex, sym ez, sym ey, sym ew) h
