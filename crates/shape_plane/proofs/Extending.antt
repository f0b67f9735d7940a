-- A list of points with one more put last, as the program keeps it, and back to what it was.
-- What is decided of the longer list belongs elsewhere.
use Rattle.std.proofs.Common.{◌≡◌, ℕ, ◌+◌, ◌-◌, ◌<◌, ◌≤◌, ◌^◌, List, [], ◌∷◌, ◌++◌, length, map, take, ap, sym, subst, ◌∙◌, arith}
use Rattle.std.specs.Prelude.{ℤ, pos, ◌-ℤ◌, Bool, Option, Some, None}
use Rattle.std.specs.Result.{IsErr}
use Rattle.std.specs.declared.result.Result.{Result}
use Rattle.std.specs.declared.result.Result.TheVariants.{Ok, Err}
use Rattle.std.proofs.lemmas.Bool.{false≢true}
use Rattle.std.proofs.lemmas.List.{length-append, length-map}
use Rattle.std.proofs.lemmas.List.Elements.{All-push}
use Rattle.std.proofs.Math.Seq.{take-append_seam}
use Rattle.shape_terms.specs.Points.{Point}
use Rattle.shape_terms.specs.FramedBox.{IsWithin}
use Rattle.shape_terms.specs.Refutations.{Refutation as Weights}
use Rattle.shape_refute.specs.declared.refutation.Refutation.{Refutation}
use Rattle.shape_refute.specs.Weights.{refutation_of}
use Rattle.shape_plane.specs.declared.known.Mark.{Mark}
use Rattle.shape_plane.specs.declared.pair.Pair.{Pair}
use Rattle.shape_plane.specs.declared.row.Row.{Row}
use Rattle.shape_plane.specs.Knowing.{IsMark}
use Rattle.shape_plane.specs.Pairs.{AreInside, IsPair}
use Rattle.shape_plane.specs.Systems.{bounding_rows}
use Rattle.shape_plane.specs.declared.held.Held.{Held}
use Rattle.shape_plane.specs.Verdicts.{IsDecided, IsKept, IsRefuted, AreRowsOf, HasGrown}
use Rattle.shape_plane.specs.Growth.{Grown, HasExtended, IsOffered}
use Rattle.shape_plane.proofs.Adding.{one_more}

-- ---- the longer list

module _ {Q : Type 0} (old new : List Q) (p : Q) (e : new ≡ old ++ p ∷ []) where
  counted : length new ≡ length old + 1
  counted = ap length e ∙ length-append old (p ∷ [])

  pub some_pushed : 1 ≤ length new
  some_pushed = let c = counted in omega (arith, c)

  pub few_pushed : length old < 2 ^ 31 - 1 → length new < 2 ^ 31
  few_pushed l = let c = counted in omega (arith, c, l)

  pub pair_pushed : (pair : Pair) → IsPair (length old + 1) pair → IsPair (length new) pair
  pair_pushed pair h = subst (λ (n : ℕ). IsPair n pair) (sym counted) h

  pub inside_pushed : (f : Q → Point) (greatest : ℤ) → AreInside greatest (map f old) → IsWithin (pos 0) (greatest -ℤ pos 1) (f p)
      → AreInside greatest (map f new)
  inside_pushed f greatest h w = subst (AreInside greatest) (sym (ap (map f) e ∙ one_more f old p))
      (All-push (IsWithin (pos 0) (greatest -ℤ pos 1)) (map f old) (f p) h w)

-- the rows of no pair
pub rows_none : (n t : ℕ) (points : List Point) (rows : List Row) → rows ≡ bounding_rows t → AreRowsOf n t points rows
rows_none n t points rows e = record { pairs = []; places = λ k d l. absurd (omega arith); same = e }

-- ---- what is decided of it

pub flat_extended : {Q : Type 0} (f : Q → Point) (d t : ℕ) (old mid new : List Q) (p : Q) (v : Option Held) (h : Held) (why : Refutation)
    → new ≡ old ++ p ∷ [] → mid ≡ new → v ≡ Some h → IsDecided d t (map f mid) v why → (new ≡ old ++ p ∷ []) × IsKept d t (map f new) h
flat_extended f d t old mid new p v h why e m i k =
    (e, subst (λ (l : List Point). IsKept d t l h) (ap (map f) m) (subst (λ (o : Option Held). IsDecided d t (map f mid) o why) i k))

pub refused_extended : {Q : Type 0} (f : Q → Point) (d t : ℕ) (old mid new : List Q) (p : Q) (v : Option Held) (why : Refutation) → new ≡ old → mid ≡ old ++ p ∷ []
    → v ≡ None → IsDecided d t (map f mid) v why → (new ≡ old) × IsRefuted d t (map f (old ++ p ∷ [])) (refutation_of why)
refused_extended f d t old mid new p v why e m i k = (
  e,
  subst (λ (l : List Point). IsRefuted d t l (refutation_of why)) (ap (map f) m)
      (subst (λ (o : Option Held). IsDecided d t (map f mid) o why) i k),
)

pub err_extended : {Q E : Type 0} (f : Q → Point) (d t : ℕ) (old new : List Q) (p : Q) (r : Result (Option Held) E) (why : Refutation) → IsErr r → new ≡ old
    → HasExtended f d t old new p r why
err_extended f d t old new p (Ok v) why i h = absurd (false≢true i)
err_extended f d t old new p (Err e) why i h = h

pub err_offered : {E : Type 0} (d : ℕ) (old new : Grown) (p : Point) (r : Result Bool E) (why : Refutation) → IsErr r → new ≡ old
    → IsOffered d old new p r why
err_offered d old new p (Ok v) why i h = absurd (false≢true i)
err_offered d old new p (Err e) why i h = h

-- ---- back to a mark

pub taken_back : {Q : Type 0} (old mid new : List Q) (p : Q) (n : ℕ) → mid ≡ old ++ p ∷ [] → new ≡ take n mid → n ≡ length old → new ≡ old
taken_back old mid new p n m e c = e ∙ ap (take n) m ∙ ap (λ (k : ℕ). take k (old ++ p ∷ [])) c ∙ take-append_seam old (p ∷ [])

pub rows_front : (n t : ℕ) (points : List Point) (mark : Mark) (old new : List Row) → IsMark mark old → HasGrown n t points old new → take mark.count new ≡ old
rows_front n t points mark old new m g = ap (take mark.count) g.same ∙ ap (λ (k : ℕ). take k (old ++ g.more)) m.count ∙ take-append_seam old g.more

pub marked_again : (n t : ℕ) (points : List Point) (mark : Mark) (old new : List Row) → IsMark mark old → HasGrown n t points old new
    → IsMark mark (take mark.count new)
marked_again n t points mark old new m g = subst (IsMark mark) (sym (rows_front n t points mark old new m g)) m

pub rows_same : {Q : Type 0} (f : Q → Point) (t : ℕ) (old new : List Q) (rows rows' : List Row) → new ≡ old → rows' ≡ rows
    → AreRowsOf (length old) t (map f old) rows → AreRowsOf (length new) t (map f new) rows'
rows_same f t old new rows rows' e r h =
    subst (AreRowsOf (length new) t (map f new)) (sym r)
    (subst (λ (n : ℕ). AreRowsOf n t (map f new) rows) (ap length (sym e)) (subst (λ (l : List Point). AreRowsOf (length old) t l rows) (ap (map f) (sym e)) h))

-- ---- the list as callers see it

abbrev pub shown : {Q : Type 0} → (Q → Point) → ℕ → List Q → Grown
shown f axis items = record { axis = axis; points = map f items }

module _ {Q : Type 0} (f : Q → Point) (axis : ℕ) (old : List Q) (v : Grown) (e : shown f axis old ≡ v) where
  counted_shown : length old ≡ length v.points
  counted_shown = sym (length-map old f) ∙ ap (λ (g : Grown). length g.points) e

  pub few_shown : (n : ℕ) → length v.points < n → length old < n
  few_shown n l = subst (λ (k : ℕ). k < n) (sym counted_shown) l

  pub pair_shown : (pair : Pair) → IsPair (length v.points + 1) pair → IsPair (length old + 1) pair
  pair_shown pair h = subst (λ (k : ℕ). IsPair (k + 1) pair) (sym counted_shown) h

  pub same_shown : (new : List Q) → new ≡ old → shown f axis new ≡ v
  same_shown new n = ap (shown f axis) n ∙ e

  pub added_flat : (new : List Q) (p : Q) → new ≡ old ++ p ∷ [] → shown f axis new ≡ record { axis = v.axis; points = v.points ++ f p ∷ [] }
  added_flat new p n = subst (λ (g : Grown). shown f axis new ≡ record { axis = g.axis; points = g.points ++ f p ∷ [] }) e
      (ap (λ (l : List Point). record { axis = axis; points = l }) (ap (map f) n ∙ one_more f old p))

  pub added_refused : (d : ℕ) (new : List Q) (p : Q) (why : Weights) → (new ≡ old) × IsRefuted d axis (map f (old ++ p ∷ [])) why
      → (shown f axis new ≡ v) × IsRefuted d v.axis (v.points ++ f p ∷ []) why
  added_refused d new p why h = (
    same_shown new h.0,
    subst (λ (g : Grown). IsRefuted d g.axis (g.points ++ f p ∷ []) why) e
        (subst (λ (l : List Point). IsRefuted d axis l why) (one_more f old p) h.1),
  )
