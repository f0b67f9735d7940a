-- A report of pieces grows by one good line at a time.
-- One law for each kind of line that is added.
use Rattle.std.proofs.Common.{◌≡◌, ℕ, suc, ◌+◌, ◌-◌, ◌<◌, ◌≤◌, List, [], ◌∷◌, ◌++◌, length, map, refl, ap, sym, ◌∙◌, subst, arith, append-nil, Some}
use Rattle.std.specs.Prelude.{pos, slice_get, slice_index_or}
use Rattle.std.proofs.lemmas.List.Elements.{All-push}
use Rattle.std.proofs.lemmas.Option.{get_or_from_slice_get}
use native.Mathlib.Decide.{dec_lt}
use Rattle.shape_terms.specs.Points.{Point}
use Rattle.shape_terms.specs.Pictures.{Picture}
use Rattle.shape_terms.specs.Contours.{Crack}
use Rattle.shape_terms.specs.Naive.{IsNaiveFor}
use Rattle.shape_terms.specs.Straight.{KeepsSense}
use Rattle.shape_terms.specs.Covers.{arc, IsEvidence}
use Rattle.shape_terms.specs.Traces.{Contour, AreContours}
use Rattle.text_terms.specs.Spellings.{line_text}
use Rattle.text_terms.specs.Reports.{BeginsWith, Holds}
use Rattle.text_terms.proofs.CourseLaws.{reached_push}
use Rattle.text_terms.proofs.Checking.{good_push, text_push, begins_none}
use Rattle.piece_terms.specs.Pieces.{Piece, piece_at, place_after, ArePieces}
use Rattle.piece_terms.specs.SplitLines.{SplitLine, Standing, after_line, at_start, no_contour, open_contour, IsNextLine}
use Rattle.piece_terms.specs.Lines.{Line, spelled}
use Rattle.piece_terms.specs.PieceReports.{State, step, Claim, course, piece_report}
use Rattle.piece_terms.proofs.LineLaws.{short_line}
use Rattle.shape_pieces.specs.Growing.{LeadsTo, HasSplits, HasPieces, IsContourAt}

-- ---- any line

pub front_more : (X : Picture) (s : State) (text : List ℕ) (l : Line) (h : LeadsTo X s text) → Claim X s l → spelled.IsLine l
    → BeginsWith (piece_report X) (text ++ line_text spelled l) (h.lines ++ l ∷ []) []
front_more X s text l h good fields = record {
  split = ap (λ t. t ++ line_text spelled l) (h.front.split ∙ append-nil _) ∙ sym (text_push spelled h.lines l []);
  fields = All-push spelled.IsLine h.lines l h.front.fields fields;
  short = All-push (λ m. length (spelled.spelling m) ≤ 1024) h.lines l h.front.short (short_line l fields);
  good = good_push (piece_report X) h.lines l h.front.good (subst (λ v. Claim X v l) (sym h.state) good);
}

pub line_more : (X : Picture) (s : State) (text : List ℕ) (l : Line) → LeadsTo X s text → Claim X s l → spelled.IsLine l
    → LeadsTo X (step s l) (text ++ line_text spelled l)
line_more X s text l h good fields = record {
  lines = h.lines ++ l ∷ [];
  front = front_more X s text l h good fields;
  state = reached_push (course X) h.lines l ∙ ap (λ v. step v l) h.state;
}

-- ---- the heading and the end

pub heading_put : (X : Picture) (sides : Point) → sides ≡ map pos X.sides → spelled.IsLine (Line.Pieces sides)
    → HasSplits X 0 ([] ++ line_text spelled (Line.Pieces sides))
heading_put X sides e fields = record {
  stand = at_start;
  leads = line_more X State.Opening [] (Line.Pieces sides) (record { lines = []; front = begins_none (piece_report X) []; state = refl }) e fields;
  full = refl;
  begun = refl;
}

pub end_put : (X : Picture) (contours : List Contour) (text : List ℕ) → AreContours X contours → HasSplits X (length contours) text
    → Holds (piece_report X) (text ++ line_text spelled Line.End)
end_put X contours text are h =
    (h.leads.lines, front_more X (State.Listing h.stand) text Line.End h.leads (contours, are, record { full = h.full; all = h.begun }) tt)

-- ---- the lines of a contour

module _ (X : Picture) (k : ℕ) (contour : Contour) (at : IsContourAt X k contour) where
  -- the next line of the contours
  next_put : (w : Standing) (text : List ℕ) (l : SplitLine) → LeadsTo X (State.Listing w) text → IsNextLine at.contours w l → spelled.IsLine (Line.Listed l)
      → LeadsTo X (State.Listing (after_line w l)) (text ++ line_text spelled (Line.Listed l))
  next_put w text l h good fields = line_more X (State.Listing w) text (Line.Listed l) h (at.contours, at.are, good) fields

  open_is : (w : Standing) → w.begun ≡ k + 1 → open_contour at.contours w ≡ contour
  open_is w b = ap (λ i. slice_index_or at.contours i no_contour) (let q : w.begun - 1 ≡ k = omega arith in q)
      ∙ get_or_from_slice_get at.contours k contour no_contour at.there

  module _ (pieces : List Piece) (are : ArePieces contour.points pieces) where
    pub chain_put : (c : Crack) (n m : ℕ) (text : List ℕ) → c ≡ contour.start → n ≡ length contour.points → m ≡ length pieces → HasSplits X k text
        → spelled.IsLine (Line.Listed (SplitLine.Chain c n m)) → HasPieces X k pieces 0 (text ++ line_text spelled (Line.Listed (SplitLine.Chain c n m)))
    chain_put c n m text start count all h fields = record {
      stand = after_line h.stand (SplitLine.Chain c n m);
      leads = next_put h.stand text (SplitLine.Chain c n m) h.leads (record {
        full = h.full;
        points = contour.points;
        next = ap (slice_get at.contours) h.begun ∙ at.there
            ∙ ap Some (let e : contour ≡ record { start = c; points = contour.points } = λ i. record { start = sym start i; points = contour.points } in e);
        count = count;
        some = (let s = are.some in omega arith);
        few = (let s = are.few in omega arith);
      }) fields;
      begun = ap (λ b. b + 1) h.begun;
      declared = all;
      given = refl;
      next = refl;
      gaps = λ l. absurd (omega arith);
    }

    module _ (j : ℕ) (l : j < length pieces) (text : List ℕ) (h : HasPieces X k pieces j text) where
      abbrev p : Piece
      p = piece_at pieces j

      abbrev piece_line : SplitLine
      piece_line = SplitLine.Piece p.first p.last p.axis p.line

      -- the piece, whose line tells that it is the last exactly where it is
      pub piece_put : spelled.IsLine (Line.Listed piece_line)
          → LeadsTo X (State.Listing (after_line h.stand piece_line)) (text ++ line_text spelled (Line.Listed piece_line))
      piece_put fields =
          let is = are.piece j l in
          let here = sym (open_is h.stand h.begun) in
          let given = h.given in
          let declared = h.declared in
          next_put h.stand text piece_line h.leads (record {
            places = record {
              more = omega arith;
              gaps = λ s. h.gaps (omega arith) l;
              begins = are.goes_on j l ∙ sym h.next;
              rises = is.rises;
              within = subst (λ (c : Contour). p.last < length c.points) here is.within;
              ends = (
                λ e. ends_last (omega arith) ∙ ap (λ (c : Contour). length c.points) here,
                λ e. last_ends (e ∙ ap (λ (c : Contour). length c.points) (sym here)),
              );
            };
            axis = is.axis;
            naive = subst (λ (c : Contour). IsNaiveFor p.axis (arc c.points p.first p.last) p.line) here is.naive;
            sense = subst (λ (c : Contour). KeepsSense p.axis (arc c.points p.first p.last)) here is.sense;
          }) fields
        where
          ends_last : j + 1 ≡ length pieces → p.last + 1 ≡ length contour.points
          ends_last e = ap (place_after pieces) (let q : suc j ≡ length pieces = omega arith in q) ∙ are.ends

          last_ends : p.last + 1 ≡ length contour.points → h.stand.pieces + 1 ≡ h.stand.declared
          last_ends e = elim (dec_lt (j + 1) (length pieces)) [
            | no n ↦ (let given = h.given in let declared = h.declared in omega arith)
            | yes m ↦ absurd (
                let begins : (piece_at pieces (j + 1)).first ≡ p.last + 1 = are.goes_on (j + 1) m
                ∙ ap (place_after pieces) (let q : j + 1 ≡ suc j = omega arith in q) in
                let next = are.piece (j + 1) m in
                let rises = next.rises in
                let within = next.within in
                omega arith)
          ]

      -- so the last piece ends the contour
      pub last_put : j + 1 ≡ length pieces → spelled.IsLine (Line.Listed piece_line)
          → HasPieces X k pieces (j + 1) (text ++ line_text spelled (Line.Listed piece_line))
      last_put e fields = record {
        stand = after_line h.stand piece_line;
        leads = piece_put fields;
        begun = h.begun;
        declared = h.declared;
        given = ap (λ v. v + 1) h.given;
        next = ap (place_after pieces) (let q : suc j ≡ j + 1 = omega arith in q);
        gaps = λ s m. absurd (omega arith);
      }

      -- and another one is given its two gap lines
      module _ (more : j + 1 < length pieces) where
        abbrev x_line : SplitLine
        x_line = SplitLine.Gap 0 p.x

        abbrev y_line : SplitLine
        y_line = SplitLine.Gap 1 p.y

        pub gaps_put : spelled.IsLine (Line.Listed piece_line) → spelled.IsLine (Line.Listed x_line) → spelled.IsLine (Line.Listed y_line)
            → HasPieces X k pieces (j + 1)
            (((text ++ line_text spelled (Line.Listed piece_line)) ++ line_text spelled (Line.Listed x_line)) ++ line_text spelled (Line.Listed y_line))
        gaps_put fields x y =
            let w = after_line h.stand piece_line in
            let refused = are.refused j more in
            let here = sym (open_is w h.begun) in
            let given = h.given in
            let declared = h.declared in
            let one = next_put w _ x_line (piece_put fields) (record {
              turn = record { some = omega arith; more = omega arith; few = omega arith; axis = refl };
              good = subst (λ (c : Contour). IsEvidence 0 (arc c.points p.first (p.last + 1)) p.x) here refused.x;
            }) x in
            let two = next_put (after_line w x_line) _ y_line one (record {
              turn = record { some = omega arith; more = omega arith; few = omega arith; axis = refl };
              good = subst (λ (c : Contour). IsEvidence 1 (arc c.points p.first (p.last + 1)) p.y) here refused.y;
            }) y in
            record {
              stand = after_line (after_line w x_line) y_line;
              leads = two;
              begun = h.begun;
              declared = h.declared;
              given = ap (λ v. v + 1) h.given;
              next = ap (place_after pieces) (let q : suc j ≡ j + 1 = omega arith in q);
              gaps = λ s m. refl;
            }

    -- the contour has all its pieces
    pub split_put : (text : List ℕ) → HasPieces X k pieces (length pieces) text → HasSplits X (k + 1) text
    split_put text h = record { stand = h.stand; leads = h.leads; full = h.given ∙ sym h.declared; begun = h.begun }
