-- What a judge of an edge report finds of a line, as the claim of the line after those that the judge stands for.
-- Laws over pictures, lines and what a judge is seen as.
use Rattle.std.proofs.Common.{◌≡◌, ℕ, zero, suc, ◌+◌, ◌-◌, ◌*◌, ◌<◌, ◌≤◌, ◌^◌, Bool, true, false, List, [], ◌∷◌, ◌++◌, length, drop, refl, ap, sym, ◌∙◌, subst}
use Rattle.std.proofs.Common.{arith}
use Rattle.std.specs.Prelude.{◌↔◌, IsTrue, Some, slice_get, map, flat_map}
use Rattle.std.specs.Bool.{OnTrue}
use Rattle.std.proofs.lemmas.List.{length-append, length-map}
use Rattle.std.proofs.lemmas.List.Sums.{sum_by-cons}
use Rattle.std.proofs.lemmas.Option.{slice_get_within}
use Rattle.shape_terms.specs.Limits.{most_pixels}
use Rattle.shape_terms.specs.Points.{box_count}
use Rattle.shape_terms.specs.Pictures.{Picture}
use Rattle.shape_terms.specs.Contours.{Crack}
use Rattle.shape_terms.specs.Traces.{contour_of}
use Rattle.shape_terms.proofs.ContourRoom.{few_cracks, few_in_all}
use Rattle.text_terms.specs.Courses.{reached}
use Rattle.text_terms.proofs.CourseLaws.{reached_push}
use Rattle.edge_terms.specs.Corners.{corner}
use Rattle.edge_terms.specs.EdgeCycles.{EdgeCycle, edge_cycle_of, AreEdgeCycles}
use Rattle.edge_terms.specs.CycleLines.{Standing, IsCycleHead, with_cycle, nothing_taken}
use Rattle.edge_terms.specs.Lines.{Line}
use Rattle.edge_terms.specs.EdgeReports.{State, next, CycleClaim, Claim, HasEnded, course}
use Rattle.edge_terms.proofs.EdgeCycles.{edge_cycles_same}
use Rattle.judge_edges.specs.declared.stage.Stage.{Stage}
use Rattle.judge_edges.specs.declared.stage.Stage.TheVariants.{Opening, Open, Ended}
use Rattle.judge_edges.specs.EdgeState.{EdgeState}
use Rattle.judge_edges.specs.Taken.{state_at, StandsFor, corners_in, room_of, IsFollowed, GivesSides, StageClaim, IsStep}

-- ---- how many lines are left

drop_here : (xs : List EdgeCycle) (n : ℕ) (k : EdgeCycle) → slice_get xs n ≡ Some k → drop n xs ≡ k ∷ drop (suc n) xs
drop_here [] n k e = cc
drop_here (x ∷ xs) zero k e = let h : x ≡ k = cc in ap (λ y. y ∷ xs) h
drop_here (x ∷ xs) (suc n) k e = drop_here xs n k e

-- the next cycle is one of those to come no more
less_to_come : (cycles : List EdgeCycle) (n m : ℕ) (k : EdgeCycle) (left : ℕ) → slice_get cycles n ≡ Some k → m ≤ length k.path
    → (m - 0) + (m - 0) + (length cycles - (n + 1)) + 2 * corners_in (drop (n + 1) cycles) < left + (length cycles - n) + 2 * corners_in (drop n cycles)
less_to_come cycles n m k left e few =
    let l = slice_get_within cycles n k e in
    let q : suc n ≡ n + 1 = omega arith in
    let s : corners_in (drop n cycles) ≡ length k.path + corners_in (drop (n + 1) cycles) =
    ap corners_in (drop_here cycles n k e ∙ ap (λ j. k ∷ drop j cycles) q) ∙ sum_by-cons (λ (c : EdgeCycle). length c.path) k (drop (n + 1) cycles) in
    omega (arith, l, s, few)

-- the cycles have as many corners as cracks
corners_of : (cracks : List (List Crack)) → corners_in (map edge_cycle_of cracks) ≡ length (flat_map (λ c. c) cracks)
corners_of [] = refl
corners_of (c ∷ cracks) =
    let s = sum_by-cons (λ (k : EdgeCycle). length k.path) (edge_cycle_of c) (map edge_cycle_of cracks) in
    let n = length-append c (flat_map (λ c. c) cracks) in
    omega (arith, s, n, length-map c corner, corners_of cracks)

-- the lines of all cycles
pub few_lines : (X : Picture) (cycles : List EdgeCycle) → AreEdgeCycles X cycles → box_count X.sides ≤ most_pixels
    → room_of (record { cycles = cycles; standing = nothing_taken }) < 2 ^ 60
few_lines X cycles are few =
    let contours = few_in_all X (map (contour_of X) are.cracks) (record { cycles = are.cracks; are = are.are; contours_are = refl }) in
    let cracks = few_cracks X (flat_map (λ c. c) are.cracks) (λ c i. (are.are.each c).1 i) are.are.once in
    let n : length cycles ≡ length are.cracks = ap length are.cycles_are ∙ length-map are.cracks edge_cycle_of in
    let p : corners_in cycles ≡ length (flat_map (λ c. c) are.cracks) = ap corners_in are.cycles_are ∙ corners_of are.cracks in
    omega (arith, few, contours.0, length-map are.cracks (contour_of X), cracks, n, p)

-- ---- lines of cycles

-- a cycle is begun
pub cycle_followed : (old new : EdgeState) (c : Crack) (n m : ℕ) (b : Bool) → (IsTrue b ↔ IsCycleHead old.cycles old.standing c n m) → new.cycles ≡ old.cycles
    → OnTrue b (new.standing ≡ with_cycle old.standing m) → IsFollowed old new (Line.Cycle c n m) b
cycle_followed old new c n m false r e s = record { answer = r; cycles = e; standing = tt; room = tt }
cycle_followed old new c n m true r e s =
    let h = r.0 refl in
    let few : m ≤ length h.path = omega (arith, h.arcs.1, h.count) in
    let less = less_to_come old.cycles old.standing.begun m (record { start = c; path = h.path })
    ((old.standing.declared - length old.standing.stretches) + (old.standing.declared - old.standing.gaps)) h.next few in
    record { answer = r; cycles = e; standing = s; room = rw (e, s) (omega (arith, less)) }

-- ---- the judge of a report

sides_claim : (X : Picture) (w h : ℕ) (l : Line) → X.sides ≡ w ∷ h ∷ [] → GivesSides w h l ↔ Claim X State.Opening l
sides_claim X w h (Line.Edges a b) e = (λ g. e ∙ (λ i. sym g.0 i ∷ sym g.1 i ∷ []), λ c. both a b w h (sym c ∙ e))
  where
    both : (a b w h : ℕ) → a ∷ b ∷ [] ≡ w ∷ h ∷ [] → (a ≡ w) × (b ≡ h)
    both a b w h e = (cc, cc)
sides_claim X w h (Line.Cycle c n m) e = (λ g. g, λ g. g)
sides_claim X w h (Line.Arc k line) e = (λ g. g, λ g. g)
sides_claim X w h (Line.Gap v) e = (λ g. g, λ g. g)
sides_claim X w h Line.End e = (λ g. g, λ g. g)

stage_claim : (X : Picture) (w h : ℕ) (stage : Stage) (j : EdgeState) (l : Line) → X.sides ≡ w ∷ h ∷ [] → AreEdgeCycles X j.cycles
    → StageClaim w h stage j l ↔ Claim X (state_at stage j.standing) l
stage_claim X w h Opening j l e are = sides_claim X w h l e
stage_claim X w h Open j l e are = (
  λ g. record { cycles = j.cycles; are = are; claim = g },
  λ g. subst (λ cs. CycleClaim cs j.standing l) (edge_cycles_same X g.cycles j.cycles g.are are)
      g.claim,
)
stage_claim X w h Ended j l e are = (λ g. g, λ g. g)

module _ (X : Picture) (w h : ℕ) (stage new_stage : Stage) (old new : EdgeState) (lines : List Line) (l : Line) where
  -- the answer is whether the line is good after those that the judge stands for
  pub good_exactly : (b : Bool) → IsStep w h stage new_stage old new l b → StandsFor X w h stage old lines → IsTrue b ↔ Claim X (reached (course X) lines) l
  good_exactly b t s =
      let c = stage_claim X w h stage old l s.sides s.are in (
        λ y. subst (λ k. Claim X k l) s.reached_now (c.0 (t.answer.0 y)),
        λ g. t.answer.1 (c.1 (subst (λ k. Claim X k l) (sym s.reached_now) g)),
      )

  -- and then it stands for them with that line
  pub stands_more : (b : Bool) → IsStep w h stage new_stage old new l b → StandsFor X w h stage old lines
      → OnTrue b (StandsFor X w h new_stage new (lines ++ l ∷ []))
  stands_more false t s = tt
  stands_more true t s = record {
    sides = s.sides;
    are = subst (AreEdgeCycles X) (sym t.cycles) s.are;
    fresh = t.fresh;
    reached_now = t.state s.fresh ∙ ap (λ k. next k l) s.reached_now ∙ sym (reached_push (course X) lines l);
  }

-- the end came exactly where the state says so
pub ended_same : (stage : Stage) (s t : Standing) → HasEnded (state_at stage s) → HasEnded (state_at stage t)
ended_same Opening s t e = e
ended_same Open s t e = e
ended_same Ended s t e = e
