-- An edge report that holds shows what it tells: the claims of its lines, one after another, are facts about the whole picture.
-- How the lines of one cycle tell it stands in `CycleTold`.
use Rattle.std.proofs.Common.{◌≡◌, ◌+◌, ℕ, List, [], ◌∷◌, ◌++◌, length, take, Some, refl, ap, sym, ◌∙◌, subst, arith, append-nil, append_assoc, length-append}
use Rattle.std.specs.Prelude.{slice_get, flat_map, All}
use Rattle.std.specs.List.{AllZip}
use Rattle.std.proofs.lemmas.List.{length-map, map-append, take_all, nil_from_length}
use Rattle.std.proofs.lemmas.Grind.{flat_map-append}
use Rattle.shape_terms.specs.Pictures.{Picture}
use Rattle.shape_terms.specs.Covers.{Stretch, gap_run}
use Rattle.text_terms.specs.Courses.{reached}
use Rattle.text_terms.specs.Reports.{Holds, GoodSoFar}
use Rattle.text_terms.proofs.CourseLaws.{told_all}
use Rattle.text_terms.proofs.ListPushes.{take_front, get_last, take_more}
use Rattle.text_terms.proofs.FirstBadOnce.{good_take}
use Rattle.edge_terms.specs.EdgeEvidence.{IsEdgeEvidence}
use Rattle.edge_terms.specs.EdgeCovers.{IsArc}
use Rattle.edge_terms.specs.EdgeCycles.{EdgeCycle, AreEdgeCycles}
use Rattle.edge_terms.specs.CycleLines.{Standing, IsFull, AreAllTold, IsCycleHead, IsNextArc, IsNextGap, nothing_taken}
use Rattle.edge_terms.specs.Lines.{Line, spelled}
use Rattle.edge_terms.specs.EdgeReports.{State, next, CycleClaim, Claim, course, edge_report}
use Rattle.edge_terms.specs.EdgeFacts.{CycleFact, cycle_lines, edge_lines, CycleShows, EdgesShow}
use Rattle.edge_terms.proofs.EdgeCycles.{edge_cycles_same, open_path_is}
use Rattle.edge_terms.proofs.CycleTold.{Held, held_stretches, Told, told_lines, SaysCycle, told_arc, told_gap, says_arc, says_gap, lines_arc, lines_gap}
use Rattle.edge_terms.proofs.CycleTold.{whole_fact, whole_shows, whole_lines}

-- ---- lists

zip_push : {A B : Type 0} (R : A → B → Type 0) (xs : List A) (ys : List B) (x : A) (y : B) → AllZip R xs ys → R x y → AllZip R (xs ++ x ∷ []) (ys ++ y ∷ [])
zip_push R [] [] x y h r = (r, tt)
zip_push R [] (z ∷ ys) x y h r = absurd h
zip_push R (z ∷ xs) [] x y h r = absurd h
zip_push R (z ∷ xs) (w ∷ ys) x y h r = (h.0, zip_push R xs ys x y h.1 r)

front_good : (X : Picture) (front more : List Line) → GoodSoFar (edge_report X) (front ++ more) → GoodSoFar (edge_report X) front
front_good X front more good = subst (GoodSoFar (edge_report X)) (take_front front more) (good_take (edge_report X) (front ++ more) (length front) good)

-- ---- where lines stand

-- how many cycles were told whole, and what was told of the one after them
abbrev standing_of : ℕ → Told → Standing
standing_of n t = record { begun = n + 1; declared = t.declared; stretches = held_stretches t.arcs; gaps = length t.gaps }

-- the lines tell these cycles, of which the first ones are shown, and something of the next one
record SaysLast (X : Picture) (cycles : List EdgeCycle) (w h : ℕ) (front : List CycleFact) (t : Told) (lines : List Line) : Type 0 where
  sides : X.sides ≡ w ∷ h ∷ []
  lines_are : lines ≡ Line.Edges w h ∷ (flat_map cycle_lines front ++ told_lines t)
  shown : AllZip CycleShows (take (length front) cycles) front
  cycle : EdgeCycle
  there : slice_get cycles (length front) ≡ Some cycle
  said : SaysCycle cycle t

-- the lines tell the first cycles, each of them whole, and nothing else
record SaysWhole (X : Picture) (cycles : List EdgeCycle) (n : ℕ) (lines : List Line) : Type 0 where
  width : ℕ
  height : ℕ
  sides : X.sides ≡ width ∷ height ∷ []
  facts : List CycleFact
  lines_are : lines ≡ Line.Edges width height ∷ flat_map cycle_lines facts
  shown : AllZip CycleShows (take (length facts) cycles) facts
  count : n ≡ length facts

-- no line came; the sides came; some cycle was begun; the end came
data Says (X : Picture) (cycles : List EdgeCycle) (lines : List Line) (s : State) : Type 0 where
  Nothing : lines ≡ [] → s ≡ State.Opening → Says X cycles lines s
  Sides : (w h : ℕ) → X.sides ≡ w ∷ h ∷ [] → lines ≡ Line.Edges w h ∷ [] → s ≡ State.Open nothing_taken → Says X cycles lines s
  Cycles : (w h : ℕ) (front : List CycleFact) (t : Told) → SaysLast X cycles w h front t lines → s ≡ State.Open (standing_of (length front) t)
      → Says X cycles lines s
  Ended : s ≡ State.Ended → Says X cycles lines s

module _ (X : Picture) (cycles : List EdgeCycle) (are : AreEdgeCycles X cycles) where
  -- the sides alone
  sides_whole : (lines : List Line) (w h : ℕ) → X.sides ≡ w ∷ h ∷ [] → lines ≡ Line.Edges w h ∷ [] → SaysWhole X cycles 0 lines
  sides_whole lines w h sides e = record { width = w; height = h; sides = sides; facts = []; lines_are = e; shown = tt; count = refl }

  -- a cycle that has all its lines is one more that is told whole
  last_whole : (lines : List Line) (w h : ℕ) (front : List CycleFact) (t : Told) → SaysLast X cycles w h front t lines → IsFull (standing_of (length front) t)
      → SaysWhole X cycles (length front + 1) lines
  last_whole lines w h front t says full =
      let f = full (omega arith) in
      let all : length t.arcs ≡ t.declared = sym (length-map t.arcs (λ (a : Held). a.stretch)) ∙ f.arcs in
      let fact = whole_fact says.cycle t says.said all f.gaps in
      let n : length front + 1 ≡ length (front ++ fact ∷ []) = sym (length-append front (fact ∷ [])) in
      record {
        width = w;
        height = h;
        sides = says.sides;
        facts = front ++ fact ∷ [];
        lines_are = says.lines_are ∙ ap (λ ls. Line.Edges w h ∷ ls)
            (ap (λ ls. flat_map cycle_lines front ++ ls) (whole_lines says.cycle t says.said all f.gaps ∙ sym (append-nil (cycle_lines fact)))
            ∙ sym (flat_map-append cycle_lines front (fact ∷ [])));
        shown = subst (λ (k : ℕ). AllZip CycleShows (take k cycles) (front ++ fact ∷ [])) n
            (subst (λ (cs : List EdgeCycle). AllZip CycleShows cs (front ++ fact ∷ [])) (take_more cycles (length front) says.cycle says.there)
            (zip_push CycleShows (take (length front) cycles) front says.cycle fact says.shown (whole_shows says.cycle t says.said all f.gaps)));
        count = n;
      }

  -- the next cycle is begun
  begins : (lines : List Line) (s : Standing) (c : _) (n m : ℕ) → SaysWhole X cycles s.begun lines → IsCycleHead cycles s c n m
      → Says X cycles (lines ++ Line.Cycle c n m ∷ []) (next (State.Open s) (Line.Cycle c n m))
  begins lines s c n m w head =
      let t : Told = record { start = c; steps = n; declared = m; arcs = []; gaps = [] } in
      Cycles w.width w.height w.facts t (record {
        sides = w.sides;
        lines_are = ap (λ ls. ls ++ Line.Cycle c n m ∷ []) w.lines_are;
        shown = w.shown;
        cycle = record { start = c; path = head.path };
        there = ap (slice_get cycles) (sym w.count) ∙ head.next;
        said = record {
          start = refl;
          steps = head.count;
          some = head.arcs.0;
          few = (let h = head.arcs.1 in let e = head.count in omega arith);
          arc =
              λ k a e. cc;
          gap = λ k e f. cc;
        };
      }) (ap (λ k. State.Open (record { begun = k + 1; declared = m; stretches = []; gaps = 0 })) w.count)

  more_lines : (w h : ℕ) (front : List CycleFact) (lines told now : List Line) (l : Line) → lines ≡ Line.Edges w h ∷ (flat_map cycle_lines front ++ told)
      → told ++ l ∷ [] ≡ now → lines ++ l ∷ [] ≡ Line.Edges w h ∷ (flat_map cycle_lines front ++ now)
  more_lines w h front lines told now l e f = ap (λ ls. ls ++ l ∷ []) e
      ∙ ap (λ ls. Line.Edges w h ∷ ls) (append_assoc (flat_map cycle_lines front) told (l ∷ []) ∙ ap (λ ls. flat_map cycle_lines front ++ ls) f)

  -- one arc more
  arc_more : (lines : List Line) (w h : ℕ) (front : List CycleFact) (t : Told) (k : Stretch) (line : _) → SaysLast X cycles w h front t lines
      → IsNextArc cycles (standing_of (length front) t) k.first k.last line
      → Says X cycles (lines ++ Line.Arc k line ∷ []) (next (State.Open (standing_of (length front) t)) (Line.Arc k line))
  arc_more lines w h front t k line says g =
      let a : Held = record { stretch = k; line = line } in
      let none : t.gaps ≡ [] = nil_from_length t.gaps g.early in
      let good = subst (λ p. IsArc p t.declared (held_stretches t.arcs) k.first k.last line) (open_path_is cycles (length front) says.cycle says.there) g.arc in
      Cycles w h front (told_arc t a) (record {
        sides = says.sides;
        lines_are = more_lines w h front lines (told_lines t) (told_lines (told_arc t a)) (Line.Arc k line) says.lines_are (lines_arc t a none);
        shown = says.shown;
        cycle = says.cycle;
        there = says.there;
        said = says_arc says.cycle t says.said a good;
      }) (λ i. State.Open (record {
        begun = length front + 1;
        declared = t.declared;
        stretches = sym (map-append (λ (x : Held). x.stretch) t.arcs (a ∷ [])) i;
        gaps = g.early i;
      }))

  -- the evidence for one gap more
  gap_more : (lines : List Line) (w h : ℕ) (front : List CycleFact) (t : Told) (e : _) → SaysLast X cycles w h front t lines
      → IsNextGap cycles (standing_of (length front) t) e
      → Says X cycles (lines ++ Line.Gap e ∷ []) (next (State.Open (standing_of (length front) t)) (Line.Gap e))
  gap_more lines w h front t e says g =
      let good = subst (λ p. IsEdgeEvidence (gap_run p (held_stretches t.arcs) (length t.gaps)) e) (open_path_is cycles (length front) says.cycle says.there)
      g.shows in
      Cycles w h front (told_gap t e) (record {
        sides = says.sides;
        lines_are = more_lines w h front lines (told_lines t) (told_lines (told_gap t e)) (Line.Gap e) says.lines_are (lines_gap t e);
        shown = says.shown;
        cycle = says.cycle;
        there = says.there;
        said = says_gap says.cycle t says.said e good;
      }) (ap (λ k. State.Open (record { begun = length front + 1; declared = t.declared; stretches = held_stretches t.arcs; gaps = k }))
      (sym (length-append t.gaps (e ∷ []))))

  -- ---- one more good line

  after_nothing : (l : Line) → Claim X State.Opening l → Says X cycles (l ∷ []) (next State.Opening l)
  after_nothing (Line.Edges w h) g = Sides w h g refl refl
  after_nothing (Line.Cycle c n m) g = absurd g
  after_nothing (Line.Arc k line) g = absurd g
  after_nothing (Line.Gap e) g = absurd g
  after_nothing Line.End g = absurd g

  after_sides : (lines : List Line) (w h : ℕ) (l : Line) → X.sides ≡ w ∷ h ∷ [] → lines ≡ Line.Edges w h ∷ [] → CycleClaim cycles nothing_taken l
      → Says X cycles (lines ++ l ∷ []) (next (State.Open nothing_taken) l)
  after_sides lines w h (Line.Edges a b) sides e g = absurd g
  after_sides lines w h (Line.Cycle c n m) sides e g = begins lines nothing_taken c n m (sides_whole lines w h sides e) g
  after_sides lines w h (Line.Arc k line) sides e g = absurd (let m = g.more in omega arith)
  after_sides lines w h (Line.Gap v) sides e g = absurd (let m = g.more in omega arith)
  after_sides lines w h Line.End sides e g = Ended refl

  after_cycle : (lines : List Line) (w h : ℕ) (front : List CycleFact) (t : Told) (l : Line) → SaysLast X cycles w h front t lines
      → CycleClaim cycles (standing_of (length front) t) l → Says X cycles (lines ++ l ∷ []) (next (State.Open (standing_of (length front) t)) l)
  after_cycle lines w h front t (Line.Edges a b) says g = absurd g
  after_cycle lines w h front t (Line.Cycle c n m) says g = begins lines (standing_of (length front) t) c n m (last_whole lines w h front t says g.full) g
  after_cycle lines w h front t (Line.Arc k line) says g = arc_more lines w h front t k line says g
  after_cycle lines w h front t (Line.Gap e) says g = gap_more lines w h front t e says g
  after_cycle lines w h front t Line.End says g = Ended refl

  -- the claim of a line among those of cycles, of the picture's cycles
  cycle_claim : (s : Standing) (l : Line) → Claim X (State.Open s) l → CycleClaim cycles s l
  cycle_claim s l g = subst (λ cs. CycleClaim cs s l) (edge_cycles_same X g.cycles cycles g.are are) g.claim

  says_more : (lines : List Line) (s : State) (l : Line) → Says X cycles lines s → Claim X s l → Says X cycles (lines ++ l ∷ []) (next s l)
  says_more lines s l (Nothing n e) g = subst (λ t. Says X cycles (lines ++ l ∷ []) (next t l)) (sym e)
      (subst (λ ls. Says X cycles (ls ++ l ∷ []) (next State.Opening l)) (sym n) (after_nothing l (subst (λ t. Claim X t l) e g)))
  says_more lines s l (Sides w h sides n e) g = subst (λ t. Says X cycles (lines ++ l ∷ []) (next t l)) (sym e)
      (after_sides lines w h l sides n (cycle_claim nothing_taken l (subst (λ t. Claim X t l) e g)))
  says_more lines s l (Cycles w h front t says e) g =
      let here = standing_of (length front) t in
      subst (λ t. Says X cycles (lines ++ l ∷ []) (next t l)) (sym e) (after_cycle lines w h front t l says (cycle_claim here l (subst (λ t. Claim X t l) e g)))
  says_more lines s l (Ended e) g = absurd (subst (λ t. Claim X t l) e g)

  -- good lines, each good after those before it
  says : (lines : List Line) → GoodSoFar (edge_report X) lines → Says X cycles lines (reached (course X) lines)
  says lines good = told_all (course X) (λ s ls. Says X cycles ls s) (Nothing refl refl) (λ s ls l h. says_more ls s l h) lines good

  -- ---- the whole report

  -- where the end is good, all cycles are told whole
  at_end : (lines : List Line) (s : State) → Says X cycles lines s → Claim X s Line.End → SaysWhole X cycles (length cycles) lines
  at_end lines s (Nothing n e) g = absurd (subst (λ t. Claim X t Line.End) e g)
  at_end lines s (Sides w h sides n e) g =
      let c : AreAllTold cycles nothing_taken = cycle_claim nothing_taken Line.End (subst (λ t. Claim X t Line.End) e g) in
      subst (λ k. SaysWhole X cycles k lines) c.all (sides_whole lines w h sides n)
  at_end lines s (Cycles w h front t says e) g =
      let c : AreAllTold cycles (standing_of (length front) t) = cycle_claim (standing_of (length front) t) Line.End (subst (λ t. Claim X t Line.End) e g) in
      subst (λ k. SaysWhole X cycles k lines) c.all (last_whole lines w h front t says c.full)
  at_end lines s (Ended e) g = absurd (subst (λ t. Claim X t Line.End) e g)

  shows_with : (text : List ℕ) → Holds (edge_report X) text → EdgesShow X text
  shows_with text (front, b) =
      let last : Claim X (reached (course X) (take (length front) (front ++ Line.End ∷ []))) Line.End = b.good (length front) Line.End (get_last front Line.End)
      in
      let claim = subst (λ ls. Claim X (reached (course X) ls) Line.End) (take_front front (Line.End ∷ [])) last in
      let w = at_end front (reached (course X) front) (says front (front_good X front (Line.End ∷ []) b.good)) claim in
      let all : front ++ Line.End ∷ [] ≡ edge_lines w.width w.height w.facts = ap (λ ls. ls ++ Line.End ∷ []) w.lines_are in
      record {
        width = w.width;
        height = w.height;
        sides = w.sides;
        cycles = cycles;
        are = are;
        facts = w.facts;
        each = subst (λ cs. AllZip CycleShows cs w.facts) (take_all (length w.facts) cycles (let n = w.count in omega arith)) w.shown;
        fields = subst (All spelled.IsLine) all b.fields;
        text_is = b.split ∙ append-nil _ ∙ ap (λ ls. flat_map (λ l. spelled.spelling l ++ 10 ∷ []) ls) all;
      }

-- the end is good, so the lines stand among those of cycles
with_cycles : (X : Picture) (s : State) → Claim X s Line.End → (cycles : List EdgeCycle) × AreEdgeCycles X cycles
with_cycles X State.Opening g = absurd g
with_cycles X (State.Open s) g = (g.cycles, g.are)
with_cycles X State.Ended g = absurd g

-- an edge report that holds of a picture shows each of its cycles
pub holds_shows : (X : Picture) (text : List ℕ) → Holds (edge_report X) text → EdgesShow X text
holds_shows X text h =
    let last = h.1.good (length h.0) Line.End (get_last h.0 Line.End) in
    let c = with_cycles X (reached (course X) (take (length h.0) (h.0 ++ Line.End ∷ []))) last in
    shows_with X c.0 c.1 text h
