-- Lines that are good one after the other, up to the last contour, list a shortest split of each contour.
-- Laws over lines alone; how a judge tests them belongs elsewhere.
use Rattle.std.proofs.Common.{◌≡◌, ℕ, zero, suc, ◌+◌, ◌-◌, ◌<◌, ◌≤◌, List, [], ◌∷◌, length, drop, refl, ap, sym, subst, ◌∙◌, arith}
use Rattle.std.specs.Prelude.{slice_get, slice_index_or, Some}
use Rattle.std.specs.List.{AllZip}
use Rattle.std.proofs.lemmas.List.{drop_all}
use Rattle.std.proofs.lemmas.Option.{get_or_from_slice_get}
use Rattle.shape_terms.specs.Points.{Point}
use Rattle.shape_terms.specs.Contours.{Crack}
use Rattle.shape_terms.specs.Traces.{Contour}
use Rattle.shape_terms.specs.Covers.{Evidence, IsEvidence, arc}
use Rattle.shape_terms.specs.Naive.{Naive}
use Rattle.text_terms.proofs.ListPushes.{drop_here}
use Rattle.piece_terms.specs.Pieces.{Piece, piece_at, place_after, IsPiece, IsRefusedPiece, ArePieces}
use Rattle.piece_terms.specs.SplitLines.{SplitLine, Standing, after_line, no_contour, open_contour, IsNextChain, IsNextPiece, IsNextLine, AllListed}
use Rattle.piece_terms.specs.Shown.{SplitFact, SplitShows}
use Rattle.piece_terms.proofs.Fewest.{shortest, breaks_each, no_step_shared}

-- ---- what lines tell

-- the evidence of the first line, and of the second one, where these are gap lines; else it means nothing
abbrev pub first_reason : List SplitLine → Evidence
first_reason (SplitLine.Gap t why ∷ lines) = why
first_reason _ = Evidence.Turned 0 0

abbrev pub second_reason : List SplitLine → Evidence
second_reason (l ∷ lines) = first_reason lines
second_reason [] = Evidence.Turned 0 0

-- the pieces that the lines give before the next chain, each with the evidence of the two lines behind it
abbrev pub pieces_of : List SplitLine → List Piece
pieces_of [] = []
pieces_of (SplitLine.Chain c n m ∷ lines) = []
pieces_of (SplitLine.Gap t why ∷ lines) = pieces_of lines
pieces_of (SplitLine.Piece b e t line ∷ lines) = record { first = b; last = e; axis = t; line = line; x = first_reason lines; y = second_reason lines }
    ∷ pieces_of lines

-- what the lines tell of each contour: its chain, with the pieces behind it
abbrev pub facts_of : List SplitLine → List SplitFact
facts_of [] = []
facts_of (SplitLine.Chain c n m ∷ lines) = record { start = c; points = n; pieces = pieces_of lines } ∷ facts_of lines
facts_of (SplitLine.Piece b e t line ∷ lines) = facts_of lines
facts_of (SplitLine.Gap t why ∷ lines) = facts_of lines

-- ---- what good lines show

-- each line is good after those before it, and after the last each contour has all its pieces
abbrev pub GoodFrom : List Contour → Standing → List SplitLine → Type 0
GoodFrom contours s [] = AllListed contours s
GoodFrom contours s (l ∷ lines) = IsNextLine contours s l × GoodFrom contours (after_line s l) lines

-- the pieces go on from place c to the last place of the contour
pub record GoOn (points : List Point) (c m : ℕ) (pieces : List Piece) : Type 0 where
  pub count : length pieces ≡ m
  pub begins : 0 < m → (piece_at pieces 0).first ≡ c
  pub goes_on : (k : ℕ) → k + 1 < m → (piece_at pieces (suc k)).first ≡ (piece_at pieces k).last + 1
  pub ends : (k : ℕ) → k + 1 ≡ m → (piece_at pieces k).last + 1 ≡ length points
  pub piece : (k : ℕ) → k < m → IsPiece points (piece_at pieces k)
  pub refused : (k : ℕ) → k + 1 < m → IsRefusedPiece points (piece_at pieces k)

one_before : (points : List Point) (c m : ℕ) (p : Piece) (pieces : List Piece) → p.first ≡ c → IsPiece points p → (0 < m → IsRefusedPiece points p)
    → (m ≡ 0 → p.last + 1 ≡ length points) → GoOn points (p.last + 1) m pieces → GoOn points c (suc m) (p ∷ pieces)
one_before points c m p pieces first is refused last h = record {
  count = (let n = h.count in omega arith);
  begins = λ l. first;
  goes_on = λ k l. next k l;
  ends = λ k l. end k l;
  piece = λ k l. each k l;
  refused = λ k l. no k l;
}
  where
    next : (k : ℕ) → k + 1 < suc m → (piece_at (p ∷ pieces) (suc k)).first ≡ (piece_at (p ∷ pieces) k).last + 1
    next zero l = h.begins (omega arith)
    next (suc k) l = h.goes_on k (omega arith)

    end : (k : ℕ) → k + 1 ≡ suc m → (piece_at (p ∷ pieces) k).last + 1 ≡ length points
    end zero l = last (omega arith)
    end (suc k) l = h.ends k (omega arith)

    each : (k : ℕ) → k < suc m → IsPiece points (piece_at (p ∷ pieces) k)
    each zero l = is
    each (suc k) l = h.piece k (omega arith)

    no : (k : ℕ) → k + 1 < suc m → IsRefusedPiece points (piece_at (p ∷ pieces) k)
    no zero l = refused (omega arith)
    no (suc k) l = h.refused k (omega arith)

none_left : (points : List Point) (c : ℕ) → GoOn points c 0 []
none_left points c = record {
  count = refl;
  begins = λ l. absurd (omega arith);
  goes_on = λ k l. absurd (omega arith);
  ends = λ k l. absurd (omega arith);
  piece = λ k l. absurd (omega arith);
  refused = λ k l. absurd (omega arith);
}

-- pieces that go on from place 0 are pieces of the whole contour
pub whole_pieces : (points : List Point) (m : ℕ) (pieces : List Piece) → 1 ≤ m → m ≤ length points → GoOn points 0 m pieces → ArePieces points pieces
whole_pieces points m pieces some few h = record {
  some = (let n = h.count in omega arith);
  few = (let n = h.count in omega arith);
  goes_on = λ k l. each k (let n = h.count in omega arith);
  ends = whole m h.count some;
  piece = λ k l. h.piece k (let n = h.count in omega arith);
  refused = λ k l. h.refused k (let n = h.count in omega arith);
}
  where
    each : (k : ℕ) → k < m → (piece_at pieces k).first ≡ place_after pieces k
    each zero l = h.begins (omega arith)
    each (suc k) l = h.goes_on k (omega arith)

    whole : (n : ℕ) → length pieces ≡ n → 1 ≤ n → place_after pieces (length pieces) ≡ length points
    whole zero e l = absurd (omega arith)
    whole (suc n) e l = ap (place_after pieces) e ∙ h.ends n (let q = h.count in omega arith)

drop_next : (xs : List Contour) (n : ℕ) (x : Contour) → slice_get xs n ≡ Some x → drop n xs ≡ x ∷ drop (n + 1) xs
drop_next xs n x e = drop_here xs n x e ∙ ap (λ k. x ∷ drop k xs) (let q : suc n ≡ n + 1 = omega arith in q)

module _ (contours : List Contour) where
  -- after the last piece of a contour no line of it comes
  pub ended : (s : Standing) (lines : List SplitLine) → GoodFrom contours s lines → s.pieces ≡ s.declared → pieces_of lines ≡ []
  ended s [] g e = refl
  ended s (SplitLine.Chain c n m ∷ lines) g e = refl
  ended s (SplitLine.Piece b l t line ∷ lines) g e = absurd (let m = g.0.places.more in omega arith)
  ended s (SplitLine.Gap t why ∷ lines) g e = absurd (let m = g.0.turn.more in omega arith)

  -- what a piece line says of its piece
  abbrev points_at : Standing → List Point
  points_at s = (open_contour contours s).points

  is_piece : (s : Standing) (b e t : ℕ) (line : Naive) (x y : Evidence) → IsNextPiece contours s b e t line
      → IsPiece (points_at s) (record { first = b; last = e; axis = t; line = line; x = x; y = y })
  is_piece s b e t line x y h = record { rises = h.places.rises; within = h.places.within; axis = h.axis; naive = h.naive; sense = h.sense }

  -- it is the last one of its contour
  is_last : (s : Standing) (b e t : ℕ) (line : Naive) (lines : List SplitLine) → GoodFrom contours s (SplitLine.Piece b e t line ∷ lines)
      → s.pieces + 1 ≡ s.declared → GoOn (points_at s) s.next (s.declared - s.pieces) (pieces_of (SplitLine.Piece b e t line ∷ lines))
  is_last s b e t line lines g last =
      let h = g.0 in
      let none = ended (after_line s (SplitLine.Piece b e t line)) lines g.1 last in
      let one : 1 ≡ s.declared - s.pieces = omega arith in
      let p : Piece = record { first = b; last = e; axis = t; line = line; x = first_reason lines; y = second_reason lines } in
      subst (λ m. GoOn (points_at s) s.next m (p ∷ pieces_of lines)) one
      (subst (λ (l : List Piece). GoOn (points_at s) s.next 1 (p ∷ l)) (sym none)
      (one_before (points_at s) s.next 0 p [] h.places.begins (is_piece s b e t line p.x p.y h) (λ l. absurd (omega arith)) (λ q. h.places.ends.0 last)
      (none_left (points_at s) (e + 1))))

  -- the pieces that are still wanted go on from the last place that was given
  pub rest : (s : Standing) (lines : List SplitLine) → GoodFrom contours s lines → s.pieces < s.declared → (0 < s.pieces → s.gaps ≡ 2)
      → GoOn (points_at s) s.next (s.declared - s.pieces) (pieces_of lines)
  rest s [] g l r = absurd (let f = g.full in omega arith)
  rest s (SplitLine.Chain c n m ∷ lines) g l r = absurd (let f : s.pieces ≡ s.declared = g.0.full in omega arith)
  rest s (SplitLine.Gap t why ∷ lines) g l r = absurd (let f = g.0.turn.few in let k = r g.0.turn.some in omega arith)
  rest s (SplitLine.Piece b e t line ∷ []) g l r = is_last s b e t line [] g g.1.full
  rest s (SplitLine.Piece b e t line ∷ (SplitLine.Chain c n m ∷ lines)) g l r = is_last s b e t line (SplitLine.Chain c n m ∷ lines) g g.1.0.full
  rest s (SplitLine.Piece b e t line ∷ (SplitLine.Piece b2 e2 t2 line2 ∷ lines)) g l r = absurd (let k : 0 ≡ 2 = g.1.0.places.gaps (omega arith) in omega arith)
  rest s (SplitLine.Piece b e t line ∷ (SplitLine.Gap u why ∷ [])) g l r = absurd (let m = g.1.0.turn.more in let f = g.1.1.full in omega arith)
  rest s (SplitLine.Piece b e t line ∷ (SplitLine.Gap u why ∷ (SplitLine.Chain c n m ∷ lines))) g l r =
      absurd (let m = g.1.0.turn.more in let f : s.pieces + 1 ≡ s.declared = g.1.1.0.full in omega arith)
  rest s (SplitLine.Piece b e t line ∷ (SplitLine.Gap u why ∷ (SplitLine.Piece b2 e2 t2 line2 ∷ lines))) g l r =
      absurd (let k : 1 ≡ 2 = g.1.1.0.places.gaps (omega arith) in omega arith)
  rest s (SplitLine.Piece b e t line ∷ (SplitLine.Gap u why ∷ (SplitLine.Gap v why2 ∷ lines))) g l r =
      let h = g.0 in
      let gx = g.1.0 in
      let gy = g.1.1.0 in
      let more : s.pieces + 1 < s.declared = gx.turn.more in
      let s2 : Standing = record { begun = s.begun; declared = s.declared; pieces = s.pieces + 1; first = b; next = e + 1; gaps = 2 } in
      let tail : GoOn (points_at s) (e + 1) (s.declared - (s.pieces + 1)) (pieces_of lines) = rest s2 lines g.1.1.1 more (λ k. refl) in
      let p : Piece = record { first = b; last = e; axis = t; line = line; x = why; y = why2 } in
      let one : suc (s.declared - (s.pieces + 1)) ≡ s.declared - s.pieces = omega arith in
      let ax : u ≡ 0 = gx.turn.axis in
      let ay : v ≡ 1 = gy.turn.axis in
      subst (λ m. GoOn (points_at s) s.next m (p ∷ pieces_of lines)) one
      (one_before (points_at s) s.next (s.declared - (s.pieces + 1)) p (pieces_of lines) h.places.begins (is_piece s b e t line why why2 h) (λ k. record {
        x = subst (λ a. IsEvidence a (arc (points_at s) b (e + 1)) why) ax gx.good;
        y = subst (λ a. IsEvidence a (arc (points_at s) b (e + 1)) why2) ay gy.good;
      }) (λ q. absurd (omega arith)) tail)

  -- a chain with the pieces behind it shows a shortest split of its contour
  chain_shows : (s : Standing) (c : Crack) (n m : ℕ) (lines : List SplitLine) (h : IsNextChain contours s c n m)
      → GoodFrom contours (after_line s (SplitLine.Chain c n m)) lines
      → SplitShows (record { start = c; points = h.points }) (record { start = c; points = n; pieces = pieces_of lines })
  chain_shows s c n m lines h g =
      let now = after_line s (SplitLine.Chain c n m) in
      let here : points_at now ≡ h.points =
      ap (λ (k : Contour). k.points) (ap (λ i. slice_index_or contours i no_contour) (let q : s.begun + 1 - 1 ≡ s.begun = omega arith in q)
      ∙ get_or_from_slice_get contours s.begun (record { start = c; points = h.points }) no_contour h.next) in
      let on : GoOn h.points 0 m (pieces_of lines) = subst (λ ps. GoOn ps 0 m (pieces_of lines)) here
      (subst (λ v. GoOn (points_at now) 0 v (pieces_of lines)) (let q : m - 0 ≡ m = omega arith in q) (rest now lines g h.some (λ k. absurd (omega arith))))
      in
      let are = whole_pieces h.points m (pieces_of lines) h.some (let f = h.few in let k = h.count in omega arith) on in
      record {
        start = refl;
        count = h.count;
        pieces = are;
        shortest = shortest h.points (pieces_of lines) are;
        breaks = breaks_each h.points (pieces_of lines) are;
        apart = no_step_shared h.points (pieces_of lines) are;
      }

  -- so lines that are good one after the other, up to the last contour, show a shortest split of each contour that they begin
  pub all_shown : (s : Standing) (lines : List SplitLine) → GoodFrom contours s lines → AllZip SplitShows (drop s.begun contours) (facts_of lines)
  all_shown s [] g = subst (λ cs. AllZip SplitShows cs []) (sym (drop_all s.begun contours (let a = g.all in omega arith))) tt
  all_shown s (SplitLine.Piece b e t line ∷ lines) g = all_shown (after_line s (SplitLine.Piece b e t line)) lines g.1
  all_shown s (SplitLine.Gap t why ∷ lines) g = all_shown (after_line s (SplitLine.Gap t why)) lines g.1
  all_shown s (SplitLine.Chain c n m ∷ lines) g =
      let h = g.0 in
      subst (λ cs. AllZip SplitShows cs (facts_of (SplitLine.Chain c n m ∷ lines)))
      (sym (drop_next contours s.begun (record { start = c; points = h.points }) h.next))
      (chain_shows s c n m lines h g.1, all_shown (after_line s (SplitLine.Chain c n m)) lines g.1)
