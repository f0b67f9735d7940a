-- The corner paths of the cycles of a picture, one for each of its contours.
-- A cycle is told by its first crack, so the path that was followed from there is that of the cycle.
use Rattle.std.proofs.Common.{◌≡◌, ℕ, suc, ◌+◌, ◌<◌, List, [], ◌∷◌, ◌++◌, length, map, get_or, ap, sym, ◌∙◌, subst, refl, arith}
use Rattle.std.specs.Prelude.{◌-◌, Contains, slice_get, slice_index_or, Some}
use Rattle.std.proofs.lemmas.List.{length-map, get_or-map, get_or_default, get_or_append_left}
use Rattle.std.proofs.lemmas.Option.{get_or_from_slice_get}
use Rattle.std.proofs.Math.Seq.{get_or-append_seam}
use native.Mathlib.Decide.{ℕ_discrete}
use Rattle.shape_terms.specs.Pictures.{Picture}
use Rattle.shape_terms.specs.Contours.{Crack, IsCrack, IsCycle, first_of_cycle}
use Rattle.shape_terms.specs.Traces.{Contour, AreContours, contour_of}
use Rattle.shape_terms.proofs.SameCycles.{cycle_same, cycles_same, of_list, head_in}
use Rattle.edge_terms.specs.Corners.{corner_path, IsCornerPathFrom}
use Rattle.edge_terms.specs.EdgeCycles.{EdgeCycle, edge_cycle_of, AreEdgeCycles, no_cycle}

abbrev pub no_contour : Contour
no_contour = record { start = record { pixel = []; side = 0 }; points = [] }

-- a picture has one list of corner paths
pub edge_cycles_same : (X : Picture) (a b : List EdgeCycle) → AreEdgeCycles X a → AreEdgeCycles X b → a ≡ b
edge_cycles_same X a b h k = h.cycles_are ∙ ap (map edge_cycle_of) (cycles_same X h.cracks k.cracks h.are k.are) ∙ sym k.cycles_are

-- the path of the cycle that was begun last
pub open_path_is : (cycles : List EdgeCycle) (n : ℕ) (k : EdgeCycle) → slice_get cycles n ≡ Some k → (slice_index_or cycles (n + 1 - 1) no_cycle).path ≡ k.path
open_path_is cycles n k there =
    let e : n + 1 - 1 ≡ n = omega arith in
    ap (λ i. (slice_index_or cycles i no_cycle).path) e ∙ ap (λ (c : EdgeCycle). c.path) (get_or_from_slice_get cycles n k no_cycle there)

-- the cycle was followed from the first crack of the contour
pub record IsFrom (X : Picture) (k : Contour) (c : EdgeCycle) : Type 0 where
  pub start : c.start ≡ k.start
  pub path : IsCornerPathFrom X k.start c.path

-- that of the first n contours
abbrev pub AreFrom : Picture → List Contour → List EdgeCycle → ℕ → Type 0
AreFrom X contours cycles n = (j : ℕ) → j < n → IsFrom X (get_or contours j no_contour) (get_or cycles j no_cycle)

pub from_more : (X : Picture) (contours : List Contour) (old new : List EdgeCycle) (n : ℕ) (c : EdgeCycle) → length old ≡ n → new ≡ old ++ c ∷ []
    → AreFrom X contours old n → IsFrom X (get_or contours n no_contour) c → AreFrom X contours new (n + 1)
from_more X contours old new n c len put h f j l = elim (ℕ_discrete j n) [
  | yes e ↦ subst (λ (i : ℕ). IsFrom X (get_or contours i no_contour) (get_or new i no_cycle)) (sym e)
      (subst (IsFrom X (get_or contours n no_contour))
      (sym (ap (λ (l : List EdgeCycle). get_or l n no_cycle) put
      ∙ (ap (λ i. get_or (old ++ c ∷ []) i no_cycle) (sym len) ∙ get_or-append_seam old c [] no_cycle))) f)
  | no d ↦ subst (IsFrom X (get_or contours j no_contour))
      (sym (ap (λ (l : List EdgeCycle). get_or l j no_cycle) put ∙ get_or_append_left old (c ∷ []) no_cycle j (omega arith))) (h j (omega arith))
]

module _ (X : Picture) (contours : List Contour) (are : AreContours X contours) where
  count : length contours ≡ length are.cycles
  count = ap length are.contours_are ∙ length-map are.cycles (contour_of X)

  contour_is : (j : ℕ) → j < length contours → get_or contours j no_contour ≡ contour_of X (get_or are.cycles j [])
  contour_is j l = ap (λ (c : List Contour). get_or c j no_contour) are.contours_are
      ∙ get_or-map (contour_of X) are.cycles j [] no_contour (let n = count in omega arith)

  cycle_at : (j : ℕ) → j < length contours → IsCycle X (get_or are.cycles j [])
  cycle_at j l = are.are.cycle j [] (let n = count in omega arith)

  first_in : (cracks : List Crack) → IsCycle X cracks → Contains cracks (first_of_cycle cracks)
  first_in [] y = absurd y
  first_in (c ∷ cracks) y = head_in c cracks

  -- the first crack of each contour is a crack
  pub start_crack : (j : ℕ) → j < length contours → IsCrack X (get_or contours j no_contour).start
  start_crack j l =
      let cracks = get_or are.cycles j [] in
      let i : Contains are.cycles cracks = (j, (let n = count in omega arith), get_or_default are.cycles j cracks [] (let n = count in omega arith)) in
      subst (λ (k : Contour). IsCrack X k.start) (sym (contour_is j l))
      ((are.are.each (first_of_cycle cracks)).1 (of_list are.cycles cracks (first_of_cycle cracks) i (first_in cracks (cycle_at j l))))

  -- two cycles from one crack are one
  same_cycle : (a b : List Crack) → IsCycle X a → IsCycle X b → first_of_cycle a ≡ first_of_cycle b → a ≡ b
  same_cycle [] b y z e = absurd y
  same_cycle (c ∷ a) [] y z e = absurd z
  same_cycle (c ∷ a) (d ∷ b) y z e =
      let w = subst (λ (f : Crack). IsCycle X (f ∷ b)) (sym e) z in
      λ i. e i ∷ cycle_same X c a b y w i

  pub cycle_is : (j : ℕ) (c : EdgeCycle) → j < length contours → IsFrom X (get_or contours j no_contour) c → c ≡ edge_cycle_of (get_or are.cycles j [])
  cycle_is j c l f =
      let k = contour_is j l in
      let start : c.start ≡ first_of_cycle (get_or are.cycles j []) = f.start ∙ ap (λ (k : Contour). k.start) k in
      let same = same_cycle f.path.cracks (get_or are.cycles j []) f.path.cycle (cycle_at j l) (f.path.first ∙ ap (λ (k : Contour). k.start) k) in
      let path : c.path ≡ corner_path (get_or are.cycles j []) = f.path.corners ∙ ap corner_path same in
      λ i. record { start = start i; path = path i }

  all_same : (xs : List EdgeCycle) (ys : List (List Crack)) → length xs ≡ length ys
      → ((j : ℕ) → j < length xs → get_or xs j no_cycle ≡ edge_cycle_of (get_or ys j [])) → xs ≡ map edge_cycle_of ys
  all_same [] [] e h = refl
  all_same [] (y ∷ ys) e h = absurd (omega arith)
  all_same (x ∷ xs) [] e h = absurd (omega arith)
  all_same (x ∷ xs) (y ∷ ys) e h =
      let a = h 0 (omega arith) in
      let b = all_same xs ys (omega arith) (λ j l. h (suc j) (omega arith)) in
      λ i. a i ∷ b i

  pub are_cycles : (cycles : List EdgeCycle) → length cycles ≡ length contours → AreFrom X contours cycles (length contours) → AreEdgeCycles X cycles
  are_cycles cycles len h = record {
    cracks = are.cycles;
    are = are.are;
    cycles_are = all_same cycles are.cycles (len ∙ count) (λ j l. cycle_is j (get_or cycles j no_cycle) (omega arith) (h j (omega arith)));
  }

pub contour_at : (contours : List Contour) (k : ℕ) (c : Contour) → slice_get contours k ≡ Some c → get_or contours k no_contour ≡ c
contour_at contours k c e = get_or_from_slice_get contours k c no_contour e

-- the contour at a place, as the program reads it, and its first crack
pub start_is : (contours : List Contour) (k : ℕ) (c : Contour) (start : Crack) → slice_get contours k ≡ Some c → start ≡ c.start
    → (get_or contours k no_contour).start ≡ start
start_is contours k c start e f = ap (λ (k : Contour). k.start) (contour_at contours k c e) ∙ sym f

pub is_from : (X : Picture) (contours : List Contour) (k : ℕ) (c : Contour) (start : Crack) (n : EdgeCycle) → slice_get contours k ≡ Some c → start ≡ c.start
    → n.start ≡ start → IsCornerPathFrom X start n.path → IsFrom X (get_or contours k no_contour) n
is_from X contours k c start n e f g h =
    let s = start_is contours k c start e f in
    record { start = g ∙ sym s; path = subst (λ (d : Crack). IsCornerPathFrom X d n.path) (sym s) h }
