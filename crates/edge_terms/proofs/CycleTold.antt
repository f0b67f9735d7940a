-- What the good lines of one cycle tell of it, one after another: its start, its arcs so far, and the evidence for its gaps so far.
-- Laws of one cycle's lines; how the cycles follow each other stands in `EdgesShown`.
use Rattle.std.proofs.Common.{◌≡◌, ◌<◌, ◌≤◌, inl, inr, ℕ, zero, suc, List, [], ◌∷◌, ◌++◌, length, map, take, Some, refl, ap, sym, ◌∙◌, subst, arith, append-nil}
use Rattle.std.proofs.Common.{append_assoc}
use Rattle.std.specs.Prelude.{slice_get}
use Rattle.std.proofs.lemmas.List.{map-append, take-map}
use Rattle.shape_terms.specs.Contours.{Crack}
use Rattle.shape_terms.specs.Covers.{Stretch, gap_run}
use Rattle.text_terms.proofs.ListPushes.{get_push}
use Rattle.edge_terms.specs.EdgeStraight.{Standard}
use Rattle.edge_terms.specs.EdgeEvidence.{EdgeEvidence, IsEdgeEvidence}
use Rattle.edge_terms.specs.EdgeCovers.{Arc, IsArc, AreArcs, arc_in, stretches_of}
use Rattle.edge_terms.specs.EdgeCycles.{EdgeCycle}
use Rattle.edge_terms.specs.Lines.{Line}
use Rattle.edge_terms.specs.EdgeFacts.{CycleFact, arc_line, gap_line, cycle_lines, CycleShows}
use Rattle.edge_terms.proofs.EdgeCoverOf.{arcs_cover}

-- a stretch with its line, as an `arc` line gives them
pub record Held : Type 0 where
  pub stretch : Stretch
  pub line : Standard

abbrev pub held_stretches : List Held → List Stretch
held_stretches arcs = map (λ (a : Held). a.stretch) arcs

-- what was told of a cycle so far: its first crack, how many cracks and arcs it has, and the arcs and the evidence that were given
pub record Told : Type 0 where
  pub start : Crack
  pub steps : ℕ
  pub declared : ℕ
  pub arcs : List Held
  pub gaps : List EdgeEvidence

abbrev pub held_line : Held → Line
held_line a = Line.Arc a.stretch a.line

-- the lines that tell it
abbrev pub told_lines : Told → List Line
told_lines t = Line.Cycle t.start t.steps t.declared ∷ (map held_line t.arcs ++ map Line.Gap t.gaps)

-- and it is so of the cycle
pub record SaysCycle (c : EdgeCycle) (t : Told) : Type 0 where
  pub start : t.start ≡ c.start
  pub steps : t.steps ≡ length c.path
  pub some : 1 ≤ t.declared
  pub few : t.declared ≤ length c.path
  pub arc : (k : ℕ) (a : Held) → slice_get t.arcs k ≡ Some a → IsArc c.path t.declared (held_stretches (take k t.arcs)) a.stretch.first a.stretch.last a.line
  pub gap : (k : ℕ) (e : EdgeEvidence) → slice_get t.gaps k ≡ Some e → IsEdgeEvidence (gap_run c.path (held_stretches t.arcs) k) e

-- ---- one line more

-- one arc more, before any gap line
abbrev pub told_arc : Told → Held → Told
told_arc t a = record t { arcs = t.arcs ++ a ∷ []; gaps = [] }

abbrev pub told_gap : Told → EdgeEvidence → Told
told_gap t e = record t { gaps = t.gaps ++ e ∷ [] }

module _ (c : EdgeCycle) (t : Told) (w : SaysCycle c t) where
  pub says_arc : (a : Held) → IsArc c.path t.declared (held_stretches t.arcs) a.stretch.first a.stretch.last a.line → SaysCycle c (told_arc t a)
  says_arc a good = record {
    start = w.start;
    steps = w.steps;
    some = w.some;
    few = w.few;
    arc = λ k b e. elim (get_push t.arcs a k b e) [
      | inl h ↦ subst (λ (xs : List Held). IsArc c.path t.declared (held_stretches xs) b.stretch.first b.stretch.last b.line) (sym h.1) (w.arc k b h.0)
      | inr h ↦ subst (λ (xs : List Held). IsArc c.path t.declared (held_stretches xs) b.stretch.first b.stretch.last b.line) (sym h.1)
          (subst (λ (b : Held). IsArc c.path t.declared (held_stretches t.arcs) b.stretch.first b.stretch.last b.line) h.0 good)
    ];
    gap = λ k e f. cc;
  }

  pub says_gap : (e : EdgeEvidence) → IsEdgeEvidence (gap_run c.path (held_stretches t.arcs) (length t.gaps)) e → SaysCycle c (told_gap t e)
  says_gap e good = record {
    start = w.start;
    steps = w.steps;
    some = w.some;
    few = w.few;
    arc = w.arc;
    gap = λ k f there. elim (get_push t.gaps e k f there) [
      | inl h ↦ w.gap k f h.0
      | inr h ↦ subst (λ (j : ℕ). IsEdgeEvidence (gap_run c.path (held_stretches t.arcs) j) f) (sym h.2)
          (subst (IsEdgeEvidence (gap_run c.path (held_stretches t.arcs) (length t.gaps))) h.0 good)
    ];
  }

pub lines_arc : (t : Told) (a : Held) → t.gaps ≡ [] → told_lines t ++ held_line a ∷ [] ≡ told_lines (told_arc t a)
lines_arc t a e =
    let head = Line.Cycle t.start t.steps t.declared in
    let before : map held_line t.arcs ++ map Line.Gap t.gaps ≡ map held_line t.arcs = ap (λ g. map held_line t.arcs ++ map Line.Gap g) e
    ∙ append-nil (map held_line t.arcs) in
    let more : map held_line t.arcs ++ held_line a ∷ [] ≡ map held_line (t.arcs ++ a ∷ []) = sym (map-append held_line t.arcs (a ∷ [])) in
    ap (λ ls. head ∷ (ls ++ held_line a ∷ [])) before ∙ ap (λ ls. head ∷ ls) (more ∙ sym (append-nil (map held_line (t.arcs ++ a ∷ []))))

pub lines_gap : (t : Told) (e : EdgeEvidence) → told_lines t ++ Line.Gap e ∷ [] ≡ told_lines (told_gap t e)
lines_gap t e =
    let head = Line.Cycle t.start t.steps t.declared in
    ap (λ ls. head ∷ ls) (append_assoc (map held_line t.arcs) (map Line.Gap t.gaps) (Line.Gap e ∷ [])
    ∙ ap (λ ls. map held_line t.arcs ++ ls) (sym (map-append Line.Gap t.gaps (e ∷ []))))

-- ---- all lines of a cycle

-- each arc with the evidence for the gap after it
pub with_gaps : List Held → List EdgeEvidence → List Arc
with_gaps [] gaps = []
with_gaps (a ∷ arcs) [] = []
with_gaps (a ∷ arcs) (e ∷ gaps) = record { stretch = a.stretch; line = a.line; gap = e } ∷ with_gaps arcs gaps

pub length-with_gaps : (arcs : List Held) (gaps : List EdgeEvidence) → length arcs ≡ length gaps → length (with_gaps arcs gaps) ≡ length arcs
unfolding with_gaps
length-with_gaps [] gaps h = refl
length-with_gaps (a ∷ arcs) [] h = absurd (omega arith)
length-with_gaps (a ∷ arcs) (e ∷ gaps) h = ap suc (length-with_gaps arcs gaps (omega arith))

stretches-with_gaps : (arcs : List Held) (gaps : List EdgeEvidence) → length arcs ≡ length gaps → stretches_of (with_gaps arcs gaps) ≡ held_stretches arcs
unfolding with_gaps
stretches-with_gaps [] gaps h = refl
stretches-with_gaps (a ∷ arcs) [] h = absurd (omega arith)
stretches-with_gaps (a ∷ arcs) (e ∷ gaps) h = ap (λ ss. a.stretch ∷ ss) (stretches-with_gaps arcs gaps (omega arith))

arc_lines : (arcs : List Held) (gaps : List EdgeEvidence) → length arcs ≡ length gaps → map arc_line (with_gaps arcs gaps) ≡ map held_line arcs
unfolding with_gaps
arc_lines [] gaps h = refl
arc_lines (a ∷ arcs) [] h = absurd (omega arith)
arc_lines (a ∷ arcs) (e ∷ gaps) h = ap (λ ls. held_line a ∷ ls) (arc_lines arcs gaps (omega arith))

gap_lines : (arcs : List Held) (gaps : List EdgeEvidence) → length arcs ≡ length gaps → map gap_line (with_gaps arcs gaps) ≡ map Line.Gap gaps
unfolding with_gaps
gap_lines [] [] h = refl
gap_lines [] (e ∷ gaps) h = absurd (omega arith)
gap_lines (a ∷ arcs) [] h = absurd (omega arith)
gap_lines (a ∷ arcs) (e ∷ gaps) h = ap (λ ls. Line.Gap e ∷ ls) (gap_lines arcs gaps (omega arith))

abbrev held_of : Arc → Held
held_of a = record { stretch = a.stretch; line = a.line }

at_both : (arcs : List Held) (gaps : List EdgeEvidence) → length arcs ≡ length gaps → (k : ℕ) → k < length (with_gaps arcs gaps)
    → (slice_get arcs k ≡ Some (held_of (arc_in (with_gaps arcs gaps) k))) × (slice_get gaps k ≡ Some (arc_in (with_gaps arcs gaps) k).gap)
unfolding with_gaps
at_both [] gaps h k l = absurd (omega arith)
at_both (a ∷ arcs) [] h k l = absurd (omega arith)
at_both (a ∷ arcs) (e ∷ gaps) h zero l = (refl, refl)
at_both (a ∷ arcs) (e ∷ gaps) h (suc k) l = at_both arcs gaps (omega arith) k (omega arith)

module _ (c : EdgeCycle) (t : Told) (w : SaysCycle c t) (all : length t.arcs ≡ t.declared) (each : length t.gaps ≡ t.declared) where
  abbrev pub whole_fact : CycleFact
  whole_fact = record { start = t.start; steps = t.steps; arcs = with_gaps t.arcs t.gaps }

  same : length t.arcs ≡ length t.gaps
  same = all ∙ sym each

  count : length (with_gaps t.arcs t.gaps) ≡ t.declared
  count = length-with_gaps t.arcs t.gaps same ∙ all

  are_arcs : AreArcs c.path (with_gaps t.arcs t.gaps)
  are_arcs =
      let arcs = with_gaps t.arcs t.gaps in
      record {
        some = (let s = w.some in omega (arith, count));
        few = (let f = w.few in omega (arith, count));
        arc = λ k l.
            let a = arc_in arcs k in
            let good = w.arc k (held_of a) (at_both t.arcs t.gaps same k l).0 in
            let before : held_stretches (take k t.arcs) ≡ take k (stretches_of arcs) = sym (take-map (λ (x : Held). x.stretch) k t.arcs)
            ∙ ap (take k) (sym (stretches-with_gaps t.arcs t.gaps same)) in
            subst (λ (m : ℕ). IsArc c.path m (take k (stretches_of arcs)) a.stretch.first a.stretch.last a.line) (sym count)
            (subst (λ (ss : List Stretch). IsArc c.path t.declared ss a.stretch.first a.stretch.last a.line) before good);
        gap = λ k l. subst (λ (ss : List Stretch). IsEdgeEvidence (gap_run c.path ss k) (arc_in arcs k).gap) (sym (stretches-with_gaps t.arcs t.gaps same))
            (w.gap k (arc_in arcs k).gap (at_both t.arcs t.gaps same k l).1);
      }

  -- a cycle that is told whole is shown
  pub whole_shows : CycleShows c whole_fact
  whole_shows = record { start = w.start; steps = w.steps; arcs = are_arcs; cover = arcs_cover c.path (with_gaps t.arcs t.gaps) are_arcs }

  pub whole_lines : told_lines t ≡ cycle_lines whole_fact
  whole_lines = λ i. Line.Cycle t.start t.steps (sym count i) ∷ (sym (arc_lines t.arcs t.gaps same) i ++ sym (gap_lines t.arcs t.gaps same) i)
