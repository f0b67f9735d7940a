-- Rows of pairs of a list of points, while pairs and points are added.
-- How pairs are found belongs elsewhere.
use Rattle.std.proofs.Common.{take, pos, ◌≡◌, ℕ, zero, suc, ◌+◌, ◌⊎◌, inl, inr, List, [], ◌∷◌, ◌++◌, length, map, refl, ap, sym, subst, ◌∙◌, arith}
use Rattle.std.specs.Prelude.{Option, Some, None}
use Rattle.std.proofs.lemmas.List.{get_or_append_left, length-append, map-append, append_assoc, length-map}
use Rattle.std.proofs.lemmas.List.Elements.{All-push}
use Rattle.shape_terms.specs.Points.{Point}
use Rattle.shape_terms.specs.Naive.{IsProper}
use Rattle.shape_terms.specs.Refutations.{point_at}
use Rattle.shape_refute.specs.declared.refutation.Refutation.{Refutation}
use Rattle.shape_refute.specs.Weights.{refutation_of}
use Rattle.shape_plane.specs.declared.answer.Slopes.{Slopes as Coefficients}
use Rattle.shape_plane.specs.declared.pair.Pair.{Pair}
use Rattle.shape_plane.specs.declared.row.Row.{Row}
use Rattle.shape_plane.specs.Pairs.{IsPair, ArePairs, AreSmallCoefficients, pair_row}
use Rattle.shape_plane.specs.Solved.{IsSolved, IsFound, solved_by}
use Rattle.shape_plane.specs.Systems.{bounding_rows}
use Rattle.shape_plane.specs.Verdicts.{AreRowsOf, HasGrown, IsRefuted}

-- ---- one pair more

pub rows_more : (n t : ℕ) (points : List Point) (rows new : List Row) (pair : Pair) → AreRowsOf n t points rows → IsPair n pair
    → new ≡ rows ++ pair_row t points pair ∷ [] → AreRowsOf n t points new
rows_more n t points rows new pair h p e = record {
  pairs = h.pairs ++ pair ∷ [];
  places = All-push (IsPair n) h.pairs pair h.places p;
  same = e ∙ ap (λ (r : List Row). r ++ pair_row t points pair ∷ []) h.same
      ∙ ap (λ (r : List Row). bounding_rows t ++ r) (sym (map-append (pair_row t points) h.pairs (pair ∷ [])));
}

pub grown_none : (n t : ℕ) (points : List Point) (rows : List Row) → AreRowsOf n t points rows → HasGrown n t points rows rows
grown_none n t points rows h = record { rows = h; more = []; same = empty rows }
  where
    empty : (xs : List Row) → xs ≡ xs ++ []
    empty [] = refl
    empty (x ∷ xs) = ap (λ (l : List Row). x ∷ l) (empty xs)

pub grown_more : (n t : ℕ) (points : List Point) (old mid new : List Row) (pair : Pair) → HasGrown n t points old mid → IsPair n pair
    → (new ≡ mid) ⊎ (new ≡ mid ++ pair_row t points pair ∷ []) → HasGrown n t points old new
grown_more n t points old mid new pair h p (inl e) = subst (HasGrown n t points old) (sym e) h
grown_more n t points old mid new pair h p (inr e) = record {
  rows = rows_more n t points mid new pair h.rows p e;
  more = h.more ++ pair_row t points pair ∷ [];
  same = e ∙ ap (λ (r : List Row). r ++ pair_row t points pair ∷ []) h.same ∙ append_assoc old h.more (pair_row t points pair ∷ []);
}

-- a pair first, and then more
pub grown_after : (n t : ℕ) (points : List Point) (old mid new : List Row) (row : Row) → mid ≡ old ++ row ∷ [] → HasGrown n t points mid new
    → HasGrown n t points old new
grown_after n t points old mid new row e h =
    record { rows = h.rows; more = row ∷ h.more; same = h.same ∙ ap (λ (r : List Row). r ++ h.more) e ∙ append_assoc old (row ∷ []) h.more }

-- ---- one point more

pair_kept : (t : ℕ) (points more : List Point) (pair : Pair) → IsPair (length points) pair → pair_row t (points ++ more) pair ≡ pair_row t points pair
pair_kept t points more pair h = let a : point_at (points ++ more) pair.low ≡ point_at points pair.low = get_or_append_left points more [] pair.low h.0 in
    let b : point_at (points ++ more) pair.high ≡ point_at points pair.high = get_or_append_left points more [] pair.high h.1 in rw (a, b) refl

pairs_kept : (t : ℕ) (points more : List Point) (pairs : List Pair) → ArePairs (length points) pairs
    → map (pair_row t (points ++ more)) pairs ≡ map (pair_row t points) pairs
pairs_kept t points more [] h = refl
pairs_kept t points more (pair ∷ pairs) h =
    ap (λ (r : Row). r ∷ map (pair_row t (points ++ more)) pairs) (pair_kept t points more pair (h zero pair (omega arith)))
    ∙ ap (λ (r : List Row). pair_row t points pair ∷ r) (pairs_kept t points more pairs (λ k d l. h (suc k) d (omega arith)))

wider : (n : ℕ) (pairs : List Pair) → ArePairs n pairs → ArePairs (n + 1) pairs
wider n pairs h k d l = let p = h k d l in ((let a = p.0 in omega (arith, a)), (let b = p.1 in omega (arith, b)))

pub rows_longer : (t : ℕ) (points : List Point) (p : Point) (rows : List Row) → AreRowsOf (length points) t points rows
    → AreRowsOf (length (points ++ p ∷ [])) t (points ++ p ∷ []) rows
rows_longer t points p rows h = record {
  pairs = h.pairs;
  places = subst (λ (n : ℕ). ArePairs n h.pairs) (sym (length-append points (p ∷ []))) (wider (length points) h.pairs h.places);
  same = h.same ∙ ap (λ (r : List Row). bounding_rows t ++ r) (sym (pairs_kept t points (p ∷ []) h.pairs h.places));
}

pub rows_pushed : {Q : Type 0} (f : Q → Point) (t : ℕ) (old new : List Q) (p : Q) (rows : List Row) → new ≡ old ++ p ∷ []
    → AreRowsOf (length old) t (map f old) rows → AreRowsOf (length new) t (map f new) rows
rows_pushed f t old new p rows e h =
    subst (λ (n : ℕ). AreRowsOf n t (map f new) rows) (length-map new f)
    (subst (λ (l : List Point). AreRowsOf (length l) t l rows) (sym (ap (map f) e ∙ map-append f old (p ∷ [])))
    (rows_longer t (map f old) (f p) rows (subst (λ (n : ℕ). AreRowsOf n t (map f old) rows) (sym (length-map old f)) h)))

-- ---- what slopes and clashes say

module _ (d t : ℕ) (points : List Point) (pairs : List Pair) (v : Option Coefficients) (why : Refutation) where
  pub slopes_small : (s : Coefficients) → v ≡ Some s → IsFound d t points pairs v why → AreSmallCoefficients d s.a
  slopes_small s e h = (subst (λ (w : Option Coefficients). IsFound d t points pairs w why) e h).1

  pub slopes_proper : (s : Coefficients) → v ≡ Some s → IsFound d t points pairs v why → IsProper t (record { a = take d s.a; mu = pos 0 })
  slopes_proper s e h = (subst (λ (w : Option Coefficients). IsFound d t points pairs w why) e h).0.proper

  pub clash_refutes : v ≡ None → IsFound d t points pairs v why → IsRefuted d t points (refutation_of why)
  clash_refutes e h = let w = (subst (λ (w : Option Coefficients). IsFound d t points pairs w why) e h).weights in record { refutes = w.refutes; small = w.small }

pub solved_told : (d t : ℕ) (points : List Point) (pairs : List Pair) (v : Option Coefficients) (why : Refutation) → IsFound d t points pairs v why
    → IsSolved d t points pairs (solved_by v why)
solved_told d t points pairs (Some s) why h = h
solved_told d t points pairs None why h = h
