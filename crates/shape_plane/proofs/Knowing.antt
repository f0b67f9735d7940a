-- What rows say of the first slope, where a row stands behind them.
-- Which rows are added belongs elsewhere.
use Rattle.std.proofs.Common.{◌⊎◌, map, take, get_or, ◌≡◌, ℕ, ◌+◌, ◌<◌, ◌++◌, ◌∷◌, [], List, length, ap, sym, subst, ◌∙◌, arith}
use Rattle.std.specs.Prelude.{ℤ, pos, ◌<ℤ◌}
use Rattle.std.proofs.lemmas.List.{get_or_append_left, length-append, map-append, take_more}
use Rattle.std.proofs.lemmas.List.Elements.{All-push}
use Rattle.std.proofs.Math.Seq.{get_or-append_seam}
use native.Mathlib.Decide.{ℕ_discrete}
use Rattle.shape_terms.specs.Points.{Point}
use Rattle.shape_plane.specs.declared.pair.Pair.{Pair}
use Rattle.shape_plane.specs.declared.row.Row.{Row}
use Rattle.shape_plane.specs.declared.combination.Combination.{Combination}
use Rattle.shape_plane.specs.Combinations.{IsCombination}
use Rattle.shape_plane.specs.declared.range.Range.{Range}
use Rattle.shape_plane.specs.declared.range.Narrowed.{Narrowed}
use Rattle.shape_plane.specs.declared.range.Narrowed.TheVariants.{Room, Clash}
use Rattle.shape_plane.specs.Rows.{row_at, IsGap, IsSmall, IsRow, IsSystem, level}
use Rattle.shape_plane.specs.Ranges.{IsMet, HasNarrower, IsWhole, HasWhole, LeaveRoom}
use Rattle.shape_plane.specs.Pairs.{pair_row}
use Rattle.shape_plane.specs.Systems.{bounding_rows, rows_for}
use Rattle.shape_plane.specs.Knowing.{IsKnown}
use Rattle.shape_plane.proofs.Narrowing.{whole_more}

-- ---- a row behind others

row_kept : (rows more : List Row) (i : ℕ) → i < length rows → row_at (rows ++ more) i ≡ row_at rows i
row_kept rows more i l = get_or_append_left rows more _ i l

pub last_row : (rows : List Row) (row : Row) → row_at (rows ++ row ∷ []) (length rows) ≡ row
last_row rows row = get_or-append_seam rows row [] _

pub system_more : (rows : List Row) (row : Row) → IsSystem rows → IsSmall row → IsGap row.cause → IsSystem (rows ++ row ∷ [])
system_more rows row s small gap = record {
  some = (let e = length-append rows (row ∷ []) in let l = s.some in omega (arith, e, l));
  small = All-push IsSmall rows row s.small small;
  plus_first = same_row 0 (let l = s.some in omega (arith, l)) s.plus_first;
  minus_first = same_row 1 (let l = s.some in omega (arith, l)) s.minus_first;
  plus_second = same_row 2 (let l = s.some in omega (arith, l)) s.plus_second;
  minus_second = same_row 3 (let l = s.some in omega (arith, l)) s.minus_second;
  gaps = λ j h l. elim (ℕ_discrete j (length rows)) [
    | yes e ↦ subst (λ (i : ℕ). IsGap (row_at (rows ++ row ∷ []) i).cause) (sym e) (subst (λ (r : Row). IsGap r.cause) (sym (last_row rows row)) gap)
    | no e ↦ (let k : j < length rows = below j l e in subst (λ (r : Row). IsGap r.cause) (sym (row_kept rows (row ∷ []) j k)) (s.gaps j h k))
  ];
}
  where
    same_row : (i : ℕ) → i < length rows → {a b c : ℤ} → IsRow (row_at rows i) a b c → IsRow (row_at (rows ++ row ∷ []) i) a b c
    same_row i l h = let e = row_kept rows (row ∷ []) i l in
        record { x = ap (λ (r : Row). r.x) e ∙ h.x; y = ap (λ (r : Row). r.y) e ∙ h.y; z = ap (λ (r : Row). r.z) e ∙ h.z }

    below : (j : ℕ) → j < length (rows ++ row ∷ []) → (j ≡ length rows → ⊥) → j < length rows
    below j l n = let e = length-append rows (row ∷ []) in omega (arith, e, l, n)

-- the place of the last row
pub last_place : (rows new : List Row) (row : Row) (j : ℕ) → new ≡ rows ++ row ∷ [] → j ≡ length rows → j < length new
last_place rows new row j e l = let n = ap length e ∙ length-append rows (row ∷ []) in omega (arith, n, l)

pub last_gap : (rows new : List Row) (row : Row) (j : ℕ) → new ≡ rows ++ row ∷ [] → j ≡ length rows → IsGap row.cause → IsGap (row_at new j).cause
last_gap rows new row j e l g =
    subst (λ (k : ℕ). IsGap (row_at new k).cause) (sym l)
    (subst (λ (r : List Row). IsGap (row_at r (length rows)).cause) (sym e) (subst (λ (r : Row). IsGap r.cause) (sym (last_row rows row)) g))

-- the list as callers see it
pub row_added : (rows new v : List Row) (row same : Row) → new ≡ rows ++ row ∷ [] → row ≡ same → rows ≡ v → new ≡ v ++ same ∷ []
row_added rows new v row same e r s = e ∙ ap (λ (x : Row). rows ++ x ∷ []) r ∙ ap (λ (l : List Row). l ++ same ∷ []) s

-- ---- what was left stays so

module _ (rows more : List Row) where
  combination_kept : (c : Combination) → IsCombination rows c → IsCombination (rows ++ more) c
  combination_kept c h =
      let a = row_kept rows more c.first h.first in
      let b = row_kept rows more c.second h.second in
      let e = length-append rows more in
      record {
        first = (let l = h.first in omega (arith, e, l));
        second = (let l = h.second in omega (arith, e, l));
        first_low = h.first_low;
        first_high = h.first_high;
        second_low = h.second_low;
        second_high = h.second_high;
        x = rw (a, b) h.x;
        y = rw (a, b) h.y;
        z = rw (a, b) h.z;
        x_small = h.x_small;
        z_small = h.z_small;
        kind = subst (λ (r : Row). (c.first_weight ≡ pos 0) ⊎ IsGap r.cause) (sym b) h.kind;
      }

  met_kept : (j : ℕ) (p q : ℤ) → j < length rows → IsMet rows j p q → IsMet (rows ++ more) j p q
  met_kept j p q l h = record {
    flat = subst (λ (r : Row). r.y ≡ pos 0 → level p q r <ℤ pos 0) (sym (row_kept rows more j l)) h.flat;
    room = λ i a b.
        subst (λ (r : Row). LeaveRoom p q (row_at (rows ++ more) i) r) (sym (row_kept rows more j l))
        (subst (λ (r : Row). LeaveRoom p q r (row_at rows j)) (sym (row_kept rows more i (omega (arith, b, l)))) (h.room i a b));
  }

  pub whole_kept : (n : Narrowed) → HasWhole rows (length rows) n → HasWhole (rows ++ more) (length rows) n
  whole_kept (Room r) h = record {
    range = record {
      lower = combination_kept r.lower h.range.lower;
      upper = combination_kept r.upper h.range.upper;
      falls = h.range.falls;
      rises =
          h.range.rises;
    };
    met = λ j l p q a b. met_kept j p q l (h.met j l p q a b);
  }
  whole_kept (Clash c) h = record {
    combination = combination_kept c h.combination;
    never = h.never;
    pair = subst (λ (r : Row). IsGap r.cause) (sym (row_kept rows more c.second h.combination.second)) h.pair;
  }

-- ---- what is left once the last row is met

pub narrowed_whole : (rows : List Row) (old : Range) (n : Narrowed) (j : ℕ) → IsWhole rows j old → HasNarrower rows old (IsMet rows j) n
    → HasWhole rows (j + 1) n
narrowed_whole rows old (Room new) j w h = whole_more rows old new j w h
narrowed_whole rows old (Clash c) j w h = h

pub known_more : (rows new : List Row) (row : Row) (n : Narrowed) → new ≡ rows ++ row ∷ [] → IsSystem new → HasWhole new (length rows + 1) n → IsKnown new n
known_more rows new row n e s h = record { system = s; whole = subst (λ (k : ℕ). HasWhole new k n) (sym (ap length e ∙ length-append rows (row ∷ []))) h }

-- ---- the rows of a list of pairs, where one pair more is met

pub rows_next : (t : ℕ) (points : List Point) (pairs : List Pair) (i : ℕ) (pair d : Pair) (rows new : List Row) → i < length pairs → pair ≡ get_or pairs i d
    → rows ≡ rows_for t points (take i pairs) → new ≡ rows ++ pair_row t points pair ∷ []
    → new ≡ rows_for t points (take (i + 1) pairs)
rows_next t points pairs i pair d rows new l p e n =
    n ∙ ap (λ (r : List Row). r ++ pair_row t points pair ∷ []) e
    ∙ ap (λ (r : List Row). bounding_rows t ++ r)
    (sym (map-append (pair_row t points) (take i pairs) (pair ∷ []))
    ∙ ap (map (pair_row t points)) (ap (λ (z : Pair). take i pairs ++ z ∷ []) p ∙ sym (take_more pairs i d l)))
