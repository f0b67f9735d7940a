-- A report grows by one good line at a time, up to its `near` lines.
-- One law for each kind of line that is added; those of contours stand in `ContourGrowth`.
use Rattle.std.proofs.Common.{◌≡◌, ◌+◌, ◌≤◌, ℕ, zero, suc, ℤ, pos, negsuc, ◌≤ℤ◌, List, [], ◌∷◌, ◌++◌, length, map, drop, refl, sym, ap, ◌∙◌, subst, arith, Some}
use Rattle.std.proofs.Common.{Option}
use Rattle.std.specs.Prelude.{◌<◌, All, FitsSigned, slice_get}
use Rattle.std.specs.Int.{w32}
use Rattle.std.proofs.lemmas.Int.{ints}
use Rattle.std.proofs.lemmas.List.{append-nil, append_assoc, length-append, length-drop}
use Rattle.std.proofs.lemmas.Grind.{flat_map-append}
use Rattle.std.proofs.lemmas.List.Elements.{All-nil, All-push, All-head, All-tail, All-from_get_or}
use Rattle.shape_terms.specs.Limits.{most_flat, most_coordinate}
use Rattle.shape_terms.specs.Points.{Point, coordinate, AreSides, sides_of}
use Rattle.shape_terms.specs.Pictures.{object_points, Least}
use Rattle.shape_terms.specs.Parts.{Counts}
use Rattle.shape_terms.specs.FramedBox.{IsWithin}
use Rattle.text_terms.specs.Forms.{IsName}
use Rattle.report_terms.specs.Forms.{last_number}
use Rattle.report_terms.specs.Lines.{Line, spelling, line_text, text_of, IsLineOf}
use Rattle.report_terms.specs.Subjects.{IsOnShelf}
use Rattle.report_terms.specs.Sections.{Section, lines_of, NamesRule, GoodAfter, analysis}
use Rattle.text_terms.proofs.Checking.{good_push}
use Rattle.report_terms.proofs.HeadingFirst.{past_heading}
use Rattle.report_terms.proofs.SectionLaws.{come_none, come_more, come_past, good_at, lines_push, lines_skip}
use Rattle.text_terms.proofs.FramedFields.{within_short, distance_fits}
use Rattle.report_terms.proofs.Spelled.{short_line}
use Rattle.shape_grid.proofs.SideLists.{sides_back}
use Rattle.shape_desk.specs.Desk.{DeskState}
use Rattle.report_text.specs.Telling.{Tells, TellsMore}
use Rattle.report_text.proofs.Telling.{tells_more}
use Rattle.shape_analyse.specs.Growing.{Aim, heading_of, HasHeading, AreGood, IsGrowing, IsTextOf, near_line}

-- ---- texts

-- a line is added to a text
pub text_push : (old new : List ℕ) (lines : List Line) (l : Line) → old ≡ text_of lines → new ≡ old ++ line_text l → new ≡ text_of (lines ++ l ∷ [])
text_push old new lines l e f =
    f ∙ ap (λ t. t ++ line_text l) e
    ∙ sym (flat_map-append line_text lines (l ∷ []) ∙ ap (λ t. text_of lines ++ t) (append-nil (line_text l)))

pub text_more : (IsSo : List Line → Type 0) (old new : List ℕ) (lines : List Line) (l : Line) → old ≡ text_of lines → new ≡ old ++ line_text l
    → IsSo (lines ++ l ∷ []) → IsTextOf IsSo new
text_more IsSo old new lines l e f h = record { lines = lines ++ l ∷ []; is = text_push old new lines l e f; so = h }

-- behind the same text
pub text_behind : {new : List ℕ} (before old more : List ℕ) → new ≡ old ++ more → before ++ new ≡ (before ++ old) ++ more
text_behind before old more e = ap (λ t. before ++ t) e ∙ sym (append_assoc before old more)

-- where a line is told, the lines of a text that is told are those before it and this one
pub tells_line : {Was IsSo : List Line → Type 0} {begun before after : DeskState} {old new : Option (List ℕ)} (l : Line)
    → TellsMore (line_text l) old new before after → ((lines : List Line) → Was lines → IsSo (lines ++ l ∷ [])) → Tells (IsTextOf Was) begun old before
    → Tells (IsTextOf IsSo) begun new after
tells_line {IsSo = IsSo} l call f h = tells_more (line_text l) call (λ text t. text_more IsSo text (text ++ line_text l) t.lines l t.is refl (f t.lines t.so)) h

-- what is so of the lines of a text, where it follows from what was
pub text_as : {Was IsSo : List Line → Type 0} {text : List ℕ} → ((lines : List Line) → Was lines → IsSo lines) → IsTextOf Was text → IsTextOf IsSo text
text_as f h = record { lines = h.lines; is = h.is; so = f h.lines h.so }

-- ---- the first two lines

sides_fit : (greatest : ℤ) (n : Point) → AreSides greatest n → greatest ≤ℤ pos most_flat → All (FitsSigned w32) n
sides_fit g n h m = All-from_get_or (FitsSigned w32) n (pos 0) (λ k l. let c = h k l in fits (coordinate n k) c.0 (omega (arith, ints, c.1)))
  where
    fits : (z : ℤ) → pos 1 ≤ℤ z → z ≤ℤ pos most_flat → FitsSigned w32 z
    fits (pos n) l h = record { sfits = omega (arith, ints) }
    fits (negsuc n) l h = absurd (omega (arith, ints))

pub heading_fits : (greatest : ℤ) (d : ℕ) (n : Point) (rule : List ℕ) → AreSides greatest n → greatest ≤ℤ pos most_flat → length n ≡ d → IsName rule
    → IsLineOf d (Line.Shape (record { number = last_number d; sides = n; rule = rule }))
heading_fits g d n rule h m e k = ((some d, omega arith), (record { axes = e; fits = sides_fit g n h m }, k))
  where
    some : (d : ℕ) → 1 ≤ last_number d
    some (suc (suc zero)) = omega arith
    some _ = omega arith

-- ---- one more line

-- the heading stands there first
good_first : (X : Aim) (sides : Point) → length X.subject.picture.sides ≤ 3 → IsLineOf (length X.subject.picture.sides) (Line.Shape (heading_of X sides))
    → IsOnShelf X.subject.shelf X.name X.rule → GoodAfter X.subject [] (Line.Shape (heading_of X sides)) → AreGood X (Line.Shape (heading_of X sides) ∷ [])
good_first X sides three fields on good =
    let l = Line.Shape (heading_of X sides) in
    record {
      fields = All-push (IsLineOf (length X.subject.picture.sides)) [] l (All-nil (IsLineOf (length X.subject.picture.sides))) fields;
      short = All-push (λ m. length (spelling m) ≤ 1024) [] l (All-nil (λ m. length (spelling m) ≤ 1024))
          (short_line (length X.subject.picture.sides) l three fields);
      good = good_push (analysis X.subject) [] l (λ k m e. cc) good;
      named = record { sides = sides; first = refl; on_shelf = on };
    }

-- a line of a later section keeps the heading
heading_kept : (X : Aim) (lines : List Line) (l : Line) → HasHeading X lines → GoodAfter X.subject lines l → HasHeading X (lines ++ l ∷ [])
heading_kept X lines l named good = record {
  sides = named.sides;
  first = lines_skip Section.Heading lines l (past_heading X.subject lines l (Line.Shape (heading_of X named.sides)) named.first good) ∙ named.first;
  on_shelf = named.on_shelf;
}

pub good_more : (X : Aim) (lines : List Line) (l : Line) → AreGood X lines → length X.subject.picture.sides ≤ 3 → IsLineOf (length X.subject.picture.sides) l
    → GoodAfter X.subject lines l → AreGood X (lines ++ l ∷ [])
good_more X lines l a three fields good = record {
  fields = All-push (IsLineOf (length X.subject.picture.sides)) lines l a.fields fields;
  short = All-push (λ m. length (spelling m) ≤ 1024) lines l a.short (short_line (length X.subject.picture.sides) l three fields);
  good = good_push (analysis X.subject) lines l a.good good;
  named = heading_kept X lines l a.named good;
}

-- so it names the rule
pub names_rule : (X : Aim) (lines : List Line) → HasHeading X lines → NamesRule X.subject.shelf (lines_of Section.Heading lines) X.rule
names_rule X lines h = record { heading = heading_of X h.sides; first_is = h.first; on_shelf = h.on_shelf }

pub growing_none : (greatest : ℤ) (X : Aim) (sides : Point) (n o b : ℕ) → AreSides greatest sides → sides_of sides ≡ X.subject.picture.sides
    → length X.subject.picture.sides ≤ 3
    → IsLineOf (length X.subject.picture.sides) (Line.Shape (heading_of X sides)) → IsOnShelf X.subject.shelf X.name X.rule
    → IsLineOf (length X.subject.picture.sides) (Line.Parts n o b) → Counts X.subject.picture n o b
    → IsGrowing X 0 (Line.Shape (heading_of X sides) ∷ Line.Parts n o b ∷ [])
growing_none g X sides n o b h e three first on second counts =
    let l = Line.Shape (heading_of X sides) in
    let m = Line.Parts n o b in
    let S = X.subject in
    let claim : sides ≡ map pos S.picture.sides = sym (sides_back g sides h) ∙ ap (map pos) e in
    let come = come_past S Section.Heading Section.Counted (l ∷ []) refl (come_more S Section.Heading [] l (come_none S) refl) refl in
    let good : GoodAfter S [] l = good_at S Section.Heading [] l (come_none S) refl (refl, (claim, (X.rule, on))) in
    let next : GoodAfter S (l ∷ []) m = good_at S Section.Counted (l ∷ []) m come refl (refl, counts) in
    record {
      lines_good = good_more X (l ∷ []) m (good_first X sides three first on good) three second next;
      come = come_past S Section.Counted Section.Nearest (l ∷ m ∷ []) refl (come_more S Section.Counted (l ∷ []) m come refl) refl;
      nears = refl;
    }

-- ---- the `near` lines

pub growing_more : (X : Aim) (n : ℕ) (lines : List Line) (p q : Point) (s : ℕ) → IsGrowing X n lines → length X.subject.picture.sides ≤ 3
    → IsLineOf (length X.subject.picture.sides) (Line.Near p q s) → slice_get (object_points X.subject.picture) n ≡ Some p → Least X.subject.picture p q s
    → IsGrowing X (n + 1) (lines ++ Line.Near p q s ∷ [])
growing_more X n lines p q s h three fields there least =
    let l = Line.Near p q s in
    let good : GoodAfter X.subject lines l = good_at X.subject Section.Nearest lines l h.come refl
    (ap (slice_get (object_points X.subject.picture)) h.nears ∙ there, least) in
    record {
      lines_good = good_more X lines l h.lines_good three fields good;
      come = come_more X.subject Section.Nearest lines l h.come refl;
      nears = ap length (lines_push Section.Nearest lines l refl) ∙ length-append (lines_of Section.Nearest lines) (l ∷ []) ∙ ap (λ k. k + 1) h.nears;
    }

-- ---- the object points, one after another

-- the point with this number comes next, and behind it the rest
pub next_point : (xs ys : List Point) (i : ℕ) (x : Point) → drop i xs ≡ x ∷ ys → (slice_get xs i ≡ Some x) × (drop (i + 1) xs ≡ ys) × (i < length xs)
next_point [] ys zero x e = cc
next_point [] ys (suc i) x e = cc
next_point (z ∷ xs) ys zero x e =
    let here : z ≡ x = cc in
    let rest : xs ≡ ys = cc in
    (ap Some here, rest, omega arith)
next_point (z ∷ xs) ys (suc i) x e =
    let r = next_point xs ys i x e in
    let next : suc (i + 1) ≡ suc i + 1 = omega arith in
    (r.0, subst (λ n. drop n (z ∷ xs) ≡ ys) next r.1, omega (arith, r.2))

-- and all came where none is left
pub none_left : (xs : List Point) (i : ℕ) → i ≤ length xs → drop i xs ≡ [] → i ≡ length xs
none_left xs i l e = omega (arith, l, length-drop i xs, ap length e)

pub all_get : {A : Type 0} (P : A → Type 0) (xs : List A) (i : ℕ) (x : A) → All P xs → slice_get xs i ≡ Some x → P x
all_get P [] i x a e = cc
all_get P (y ∷ xs) zero x a e = let h : y ≡ x = cc in subst P h (All-head P y xs a)
all_get P (y ∷ xs) (suc i) x a e = all_get P xs i x (All-tail P y xs a) e

-- the line of two points near the box
pub near_fits : (d : ℕ) (p q : Point) → d ≤ 3 → length p ≡ d → length q ≡ d → IsWithin (negsuc 0) (pos most_coordinate) p
    → IsWithin (negsuc 0) (pos most_coordinate) q → IsLineOf d (near_line p q)
near_fits d p q few lp lq wp wq = (within_short d p lp wp, (within_short d q lq wq, distance_fits p q (omega (arith, few, lp)) wp wq))
