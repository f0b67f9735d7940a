-- An edge report grows by one good line at a time: one law for each kind of line that is added.
-- Laws over what was found; the program stands in none.
use Rattle.std.proofs.Common.{◌≡◌, ◌+◌, ◌<◌, ◌≤◌, ◌^◌, ℕ, ℤ, pos, negsuc, List, [], ◌∷◌, ◌++◌, length, map, take, get_or, Some, refl, ap, sym, ◌∙◌, subst}
use Rattle.std.proofs.Common.{arith, append-nil}
use Rattle.std.specs.Prelude.{FitsSigned, nat_abs, slice_get, slice_index_or}
use Rattle.std.specs.Int.{w64}
use Rattle.std.proofs.lemmas.List.{length-map, length-take-le, take_all, take_more, get_or-map}
use Rattle.std.proofs.lemmas.List.Elements.{All-nil, All-push}
use Rattle.std.proofs.lemmas.Grind.{flat_map-append}
use Rattle.std.proofs.lemmas.Option.{slice_get-get_or, slice_get_within}
use Rattle.shape_terms.specs.Points.{Point}
use Rattle.shape_terms.specs.Pictures.{Picture}
use Rattle.shape_terms.specs.Contours.{Crack, IsCrack}
use Rattle.shape_terms.specs.Traces.{Contour, AreContours}
use Rattle.shape_terms.specs.Covers.{gap_run}
use Rattle.shape_terms.specs.Refutations.{Step, IsStepOf}
use Rattle.text_terms.specs.Weights.{IsStepIn}
use Rattle.text_terms.specs.Spellings.{line_text, text_of}
use Rattle.text_terms.specs.Reports.{Holds}
use Rattle.text_terms.proofs.Checking.{good_push}
use Rattle.text_terms.proofs.CourseLaws.{reached_push}
use Rattle.edge_terms.specs.Corners.{corner_path}
use Rattle.edge_terms.specs.EdgeEvidence.{EdgeEvidence, IsEdgeEvidence}
use Rattle.edge_terms.specs.EdgeCovers.{Arc, arc_in, stretches_of, IsArc, IsEdgeCover, IsShortGap, EdgeFound, IsEdgeCoverFrom}
use Rattle.edge_terms.specs.EdgeCycles.{EdgeCycle, edge_cycle_of}
use Rattle.edge_terms.specs.CycleLines.{nothing_taken}
use Rattle.edge_terms.specs.Lines.{Line, spelled}
use Rattle.edge_terms.specs.EdgeReports.{State, next, Claim, course, edge_report}
use Rattle.edge_terms.specs.EdgeFacts.{arc_line, gap_line}
use Rattle.edge_terms.proofs.LineLaws.{short_line}
use Rattle.edge_terms.proofs.EdgeCycles.{no_contour, open_path_is, cycle_is, start_crack, contour_at}
use Rattle.shape_edges.specs.Growing.{Tells, HasTold, IsFoundAt, with_arcs, with_gaps}

-- ---- texts

text_push : (text new : List ℕ) (lines : List Line) (l : Line) → text ≡ text_of spelled lines → new ≡ text ++ line_text spelled l
    → new ≡ text_of spelled (lines ++ l ∷ [])
text_push text new lines l e f =
    f ∙ ap (λ t. t ++ line_text spelled l) e
    ∙ sym (flat_map-append (line_text spelled) lines (l ∷ []) ∙ ap (λ t. text_of spelled lines ++ t) (append-nil (line_text spelled l)))

-- no line
pub tells_none : (X : Picture) → Tells X State.Opening []
tells_none X = record {
  lines = [];
  text_is = refl;
  fields = All-nil spelled.IsLine;
  short = All-nil (λ l. length (spelled.spelling l) ≤ 1024);
  good =
      λ k l e. cc;
  state = refl;
}

-- one good line more
pub tells_more : (X : Picture) (s : State) (text new : List ℕ) (l : Line) → Tells X s text → spelled.IsLine l → Claim X s l → new ≡ text ++ line_text spelled l
    → Tells X (next s l) new
tells_more X s text new l t fields claim e = record {
  lines = t.lines ++ l ∷ [];
  text_is = text_push text new t.lines l t.text_is e;
  fields = All-push spelled.IsLine t.lines l t.fields fields;
  short = All-push (λ m. length (spelled.spelling m) ≤ 1024) t.lines l t.short (short_line l fields);
  good = good_push (edge_report X) t.lines l t.good (subst (λ k. Claim X k l) (sym t.state) claim);
  state = reached_push (course X) t.lines l ∙ ap (λ k. next k l) t.state;
}

-- the end
pub tells_holds : (X : Picture) (s : State) (text new : List ℕ) → Tells X s text → Claim X s Line.End → new ≡ text ++ line_text spelled Line.End
    → Holds (edge_report X) new
unfolding tells_more
tells_holds X s text new t claim e =
    let all = tells_more X s text new Line.End t tt claim e in (
      t.lines,
      record {
        split = all.text_is ∙ sym (append-nil (text_of spelled (t.lines ++ Line.End ∷ [])));
        fields = all.fields;
        short = all.short;
        good =
            all.good;
      },
    )

-- ---- fields

fits : (z : ℤ) → nat_abs z < 2 ^ 63 → FitsSigned w64 z
fits (pos n) h = record { sfits = omega arith }
fits (negsuc n) h = record { sfits = omega arith }

-- the line of an arc, with places of 32 bits
pub arc_fits : (path : List Point) (arcs : List Arc) (j b e : ℕ) → IsEdgeCover path arcs → j < length arcs → b < 2 ^ 32 → e < 2 ^ 32
    → spelled.IsLine (Line.Arc (record { first = b; last = e }) (arc_in arcs j).line)
arc_fits path arcs j b e c l hb he =
    let held = (c.claims.arc j l).held in
    let s = c.lines j l in
    (hb, (he, (held.h_sign, (held.v_sign, (s.a, (s.c, fits (arc_in arcs j).line.mu s.mu))))))

step_in : (d t : ℕ) (s : Step) → IsStepOf d t s → IsStepIn d s
step_in d t Step.Up h = tt
step_in d t (Step.Plus u) h = h.0
step_in d t (Step.Minus u) h = h.0

-- the line of a gap
pub gap_fits : (run : List Point) (e : EdgeEvidence) → IsEdgeEvidence run e → IsShortGap e → spelled.IsLine (Line.Gap e)
gap_fits run (EdgeEvidence.Bend i j) h s = s
gap_fits run (EdgeEvidence.Fold w) h s = (
  (s.few_low, λ i d l. (s.low i d l, s.low_places i d l)),
  (
    (s.few_high, λ i d l. (s.high i d l, s.high_places i d l)),
    (s.few_steps, λ i d l. (s.steps i d l, step_in 2 1 (slice_index_or w.steps i d).step (h.refutes.steps_of_axis i d l))),
  ),
)

-- ---- lines

-- the line of the sides
pub sides_told : (X : Picture) (w h : ℕ) (text new : List ℕ) → X.sides ≡ w ∷ h ∷ [] → text ≡ [] → spelled.IsLine (Line.Edges w h)
    → new ≡ text ++ line_text spelled (Line.Edges w h) → HasTold X 0 new
sides_told X w h text new sides none fields e = record {
  standing = nothing_taken;
  begun = refl;
  full = λ some. absurd (omega arith);
  tells = tells_more X State.Opening text new (Line.Edges w h) (subst (Tells X State.Opening) (sym none) (tells_none X)) fields sides e;
}

module _ (X : Picture) (k : ℕ) (start : Crack) (f : EdgeFound) (at : IsFoundAt X k start f) (text new : List ℕ) where
  length-stretches : length (stretches_of f.arcs) ≡ length f.arcs
  length-stretches = length-map f.arcs (λ (a : Arc). a.stretch)

  stretch_is : (j : ℕ) → j < length f.arcs → slice_index_or (stretches_of f.arcs) j (record { first = 0; last = 0 }) ≡ (arc_in f.arcs j).stretch
  stretch_is j l = get_or-map (λ (a : Arc). a.stretch) f.arcs j _ _ l

  -- the line of the cycle
  pub cycle_told : (n m : ℕ) → n ≡ f.steps → m ≡ length f.arcs → HasTold X k text → spelled.IsLine (Line.Cycle start n m)
      → new ≡ text ++ line_text spelled (Line.Cycle start n m) → Tells X (State.Open (with_arcs k f 0)) new
  cycle_told n m steps arcs t fields e =
      let more = tells_more X (State.Open t.standing) text new (Line.Cycle start n m) t.tells fields (record {
        cycles = at.cycles;
        are = at.are;
        claim = record {
          full = t.full;
          path = at.path;
          next = ap (slice_get at.cycles) t.begun ∙ at.there;
          count = steps ∙ at.steps;
          arcs = ((let some = at.cover.claims.some in omega (arith, arcs)), (let few = at.cover.claims.few in let p = at.steps in omega (arith, steps, arcs)));
        };
      }) e in
      subst (λ b. Tells X (State.Open (record { begun = b + 1; declared = length f.arcs; stretches = []; gaps = 0 })) new) t.begun
      (subst (λ d. Tells X (State.Open (record { begun = t.standing.begun + 1; declared = d; stretches = []; gaps = 0 })) new) arcs more)

  -- the line of the next arc
  pub arc_told : (j : ℕ) → j < length f.arcs → Tells X (State.Open (with_arcs k f j)) text → spelled.IsLine (arc_line (arc_in f.arcs j))
      → new ≡ text ++ line_text spelled (arc_line (arc_in f.arcs j)) → Tells X (State.Open (with_arcs k f (j + 1))) new
  arc_told j l t fields e =
      let a = arc_in f.arcs j in
      let path = open_path_is at.cycles k (record { start = start; path = at.path }) at.there in
      let good = subst (λ p. IsArc p (length f.arcs) (take j (stretches_of f.arcs)) a.stretch.first a.stretch.last a.line) (sym path) (at.cover.claims.arc j l)
      in
      let more = tells_more X (State.Open (with_arcs k f j)) text new (arc_line a) t fields (record {
        cycles = at.cycles;
        are = at.are;
        claim = record { more = omega (arith, length-take-le j (stretches_of f.arcs) (omega (arith, length-stretches)), l); early = refl; arc = good };
      }) e in
      let taken : take j (stretches_of f.arcs) ++ a.stretch ∷ [] ≡ take (j + 1) (stretches_of f.arcs) =
      ap (λ s. take j (stretches_of f.arcs) ++ s ∷ []) (sym (stretch_is j l))
      ∙ sym (take_more (stretches_of f.arcs) j (record { first = 0; last = 0 }) (omega (arith, length-stretches))) in
      subst (λ ss. Tells X (State.Open (record { begun = k + 1; declared = length f.arcs; stretches = ss; gaps = 0 })) new) taken more

  -- the evidence for the next gap
  pub gap_told : (j : ℕ) → j < length f.arcs → Tells X (State.Open (with_gaps k f j)) text → spelled.IsLine (gap_line (arc_in f.arcs j))
      → new ≡ text ++ line_text spelled (gap_line (arc_in f.arcs j)) → Tells X (State.Open (with_gaps k f (j + 1))) new
  gap_told j l t fields e =
      let a = arc_in f.arcs j in
      let path = open_path_is at.cycles k (record { start = start; path = at.path }) at.there in
      let good = subst (λ p. IsEdgeEvidence (gap_run p (stretches_of f.arcs) j) a.gap) (sym path) (at.cover.claims.gap j l) in
      tells_more X (State.Open (with_gaps k f j)) text new (gap_line a) t fields (record {
        cycles = at.cycles;
        are = at.are;
        claim = record { arcs = length-stretches; more = l; shows = good };
      }) e

-- all arcs are told
pub arcs_all : (X : Picture) (k : ℕ) (f : EdgeFound) (n : ℕ) (text : List ℕ) → length f.arcs ≤ n → Tells X (State.Open (with_arcs k f n)) text
    → Tells X (State.Open (with_gaps k f 0)) text
arcs_all X k f n text l t =
    let all : take n (stretches_of f.arcs) ≡ stretches_of f.arcs =
    take_all n (stretches_of f.arcs) (omega (arith, length-map f.arcs (λ (a : Arc). a.stretch), l)) in
    subst (λ ss. Tells X (State.Open (record { begun = k + 1; declared = length f.arcs; stretches = ss; gaps = 0 })) text) all t

-- and all gaps, so the cycle is told whole
pub gaps_all : (X : Picture) (k : ℕ) (f : EdgeFound) (n : ℕ) (text : List ℕ) → n ≡ length f.arcs → Tells X (State.Open (with_gaps k f n)) text
    → HasTold X (k + 1) text
gaps_all X k f n text e t = record {
  standing = with_gaps k f n;
  begun = refl;
  full = λ some. record { arcs = length-map f.arcs (λ (a : Arc). a.stretch); gaps = e };
  tells = t;
}

-- ---- the cycles of the contours

module _ (X : Picture) (contours : List Contour) (are : AreContours X contours) where
  count : length contours ≡ length are.cycles
  count = ap length are.contours_are ∙ length-map are.cycles _

  -- what is found from the first crack of a contour is found of its cycle
  pub found_at : (k : ℕ) (c : Contour) (start : Crack) (f : EdgeFound) → slice_get contours k ≡ Some c → start ≡ c.start → IsEdgeCoverFrom X start f
      → IsFoundAt X k start f
  found_at k c start f there same h =
      let l = slice_get_within contours k c there in
      let first : start ≡ (get_or contours k no_contour).start = same ∙ ap (λ (d : Contour). d.start) (sym (contour_at contours k c there)) in
      let mine : EdgeCycle = record { start = start; path = corner_path h.cracks } in
      let is = cycle_is X contours are k mine l
      (record { start = first; path = record { cracks = h.cracks; cycle = h.cycle; first = h.first ∙ first; corners = refl } }) in
      record {
        cycles = map edge_cycle_of are.cycles;
        are = record { cracks = are.cycles; are = are.are; cycles_are = refl };
        path = corner_path h.cracks;
        there = slice_get-get_or (map edge_cycle_of are.cycles) k mine (omega (arith, length-map are.cycles edge_cycle_of, count, l))
            ∙ ap Some (get_or-map edge_cycle_of are.cycles k [] mine (omega (arith, count, l)) ∙ sym is);
        steps = h.steps ∙ sym (length-map h.cracks _);
        cover = h.cover;
      }

  pub crack_there : (k : ℕ) (c : Contour) (start : Crack) → slice_get contours k ≡ Some c → start ≡ c.start → IsCrack X start
  crack_there k c start there same =
      let l = slice_get_within contours k c there in
      subst (IsCrack X) (ap (λ (d : Contour). d.start) (contour_at contours k c there) ∙ sym same) (start_crack X contours are k l)

  -- where all cycles are told, the end is good
  pub all_told : (text new : List ℕ) → HasTold X (length contours) text → new ≡ text ++ line_text spelled Line.End → Holds (edge_report X) new
  all_told text new t e = tells_holds X (State.Open t.standing) text new t.tells (record {
    cycles = map edge_cycle_of are.cycles;
    are = record { cracks = are.cycles; are = are.are; cycles_are = refl };
    claim = record { all = t.begun ∙ count ∙ sym (length-map are.cycles edge_cycle_of); full = t.full };
  }) e
