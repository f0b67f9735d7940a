-- The heading of a report, and what is known of a report behind it.
-- Laws over shelves, texts and lines; the program stands in none.
use Rattle.std.proofs.Common.{◌≡◌, ◌≤◌, ℕ, refl, sym, ap, ◌∙◌, subst, arith, List, [], ◌∷◌, ◌++◌, length, map, Bool, Option, None, Some, Result, Ok, Err}
use Rattle.std.specs.Prelude.{⊤, pos, slice_get, ◌↔◌, IsTrue, IfOk, MatchOption}
use Rattle.std.specs.Bool.{OnTrue}
use Rattle.std.proofs.lemmas.Bool.{OnTrue_at, OnTrue_from}
use Rattle.std.proofs.lemmas.List.{length-append}
use Rattle.shape_desk.specs.Desk.{DeskState}
use Rattle.shape_desk.specs.Line.{IfTold, TakenAhead, ahead_of}
use Rattle.shape_terms.specs.Points.{Point}
use Rattle.shape_terms.specs.Pictures.{Picture}
use Rattle.shape_terms.specs.Thinning.{Rule}
use Rattle.shape_terms.specs.Shelves.{Named, AreNames, names_of, rules_of}
use Rattle.report_terms.specs.Subjects.{Subject, subject_of, IsOnShelf}
use Rattle.report_terms.specs.Lines.{Line, Heading, spelled}
use Rattle.report_terms.specs.Sections as Sections
use Rattle.report_terms.specs.Sections.{Section, rank, lines_of, number_of, GoodAfter, NamesRule, analysis}
use Rattle.report_terms.specs.Holds.{FirstBad}
use Rattle.report_terms.specs.Progress.{StartsWithLine}
use Rattle.report_terms.proofs.SectionLaws.{come_none, come_more, come_past, none_past, lines_skip}
use Rattle.report_terms.proofs.NamedRules.{one_named}
use Rattle.report_terms.proofs.HeadingFirst.{past_heading}
use Rattle.report_terms.proofs.Spelled.{are_spelled}
use Rattle.text_terms.specs.Reports.{report_of}
use Rattle.text_terms.specs.Going.{GoingOn}
use Rattle.text_terms.proofs.Checking.{begins_none, begins_next, first_bad, one_line}
use Rattle.report_text.specs.Checks as Reports
use Rattle.report_text.specs.Checks.{Answer, HasCome}
use Rattle.report_text.specs.declared.answer.CheckFault.TheVariants.{ReadFault, NoMemory}
use Rattle.report_text.specs.declared.answer.Judgement.TheVariants.{Yes, No}
use Rattle.report_text.proofs.Told.{if_told, told_start, told_few, none_ahead}
use Rattle.shape_terms.proofs.Members.{Contains-map}
use Rattle.shape_report.specs.Next.{TakesClaim}
use Rattle.shape_check.specs.Rows.{IsRuledBy, MayCome}
use Rattle.shape_check.specs.Going.{Ruled, BehindHeading}
use Rattle.shape_rules.specs.Ruled.{rules_on}
use Rattle.shape_rules.proofs.Ruled.{names_on, rule_there}
use Rattle.shape_check.specs.Checks.{Checks, TakesFew, HasChecked}
use Rattle.shape_check.specs.declared.heading.Given.{Given}
use Rattle.shape_check.specs.Heading.{IsHeading, IsNoHeading, TakesHeading, LacksHeading, HeadingAnswer}

-- ---- what looking for the heading answers

module _ (d : ℕ) (sides : Point) (names : List (List ℕ)) (old new : Option (List ℕ)) (before now : ℕ) where
  pub answer_claim : (l : Line) (r : Option Given) → IfTold old (λ bytes. TakesClaim d bytes new l)
      → MatchOption r (IsNoHeading sides names l) (IsHeading sides names l)
      → HeadingAnswer d sides names old new before now (Ok r)
  answer_claim l None t h =
      if_told old (λ bytes k m rest starts. subst (IsNoHeading sides names) (sym (one_line (spelled d) (are_spelled d) bytes m l rest k.rest starts k.starts).0)
      h) t
  answer_claim l (Some given) t h = if_told old (λ bytes k. record { line = l; takes = k; heading = h }) t

-- a heading that names a rule on a shelf of distinct names names no other
ruled_by : (X : Subject) → AreNames (names_of X.shelf) → (heading : List Line) (rule : Rule) → NamesRule X.shelf heading rule
    → IsRuledBy X heading (number_of heading) rule
ruled_by X apart heading rule names = record { numbered = refl; names = names; alone = λ other o. one_named X.shelf apart heading other rule o names }

-- ---- behind the heading

module _ (X : Subject) (h : Heading) (rule : Rule) (given : h.sides ≡ map pos X.picture.sides) (on : IsOnShelf X.shelf h.rule rule) where
  -- the heading is good where no line stands before it
  good_first : GoodAfter X [] (Line.Shape h)
  good_first = record { come = come_none X; claim = (refl, (given, (rule, on))) }

  pub behind_heading : AreNames (names_of X.shelf) → (s : Section) → rank s ≡ 1 → (text : List ℕ) (new : Option (List ℕ))
      → TakesClaim (length X.picture.sides) text new (Line.Shape h) → GoingOn (analysis X) text new (BehindHeading X h.number rule s) 2
  behind_heading apart s one text new t = record {
    lines = Line.Shape h ∷ [];
    bytes = t.rest;
    told = t.left;
    front = begins_next (analysis X) text [] text (Line.Shape h) t.rest (begins_none (analysis X) text) t.starts good_first;
    follows = record {
      ruled = ruled_by X apart _ rule (record { heading = h; first_is = refl; on_shelf = on });
      come = come_past X Section.Heading s (Line.Shape h ∷ []) one (come_more X Section.Heading [] (Line.Shape h) (come_none X) refl) refl;
      none = none_past Section.Heading s (Line.Shape h ∷ []) (omega (arith, one)) (come_more X Section.Heading [] (Line.Shape h) (come_none X) refl).order;
    };
    number = omega arith;
  }

-- a text that begins with no heading has a bad first line
pub no_heading : (X : Subject) (sides : Point) (text : List ℕ) → sides ≡ map pos X.picture.sides
    → LacksHeading (length X.picture.sides) sides (names_of X.shelf) text → FirstBad X text 1
no_heading X sides text given lacks = first_bad (analysis X) (are_spelled (length X.picture.sides)) text [] text (begins_none (analysis X) text)
    (λ l rest starts good. bad l rest starts good) (λ front e z. let m = ap length e in omega (arith, m, length-append front (Line.End ∷ [])))
  where
    bad : (l : Line) (rest : List ℕ) → StartsWithLine (length X.picture.sides) text l rest → GoodAfter X [] l → ⊥
    bad (Line.Shape h) rest starts good = lacks (Line.Shape h) rest starts h refl (good.claim.1.0 ∙ sym given)
        (Contains-map (λ e. e.name) X.shelf _ good.claim.1.1.1)
    bad l rest starts good = absurd (let c = good.come.complete Section.Heading (omega arith) in omega (arith, c))

-- ---- the heading, where the rules stand on a shelf

module _ {R : Type 0} (means : R → Rule) (X : Picture) (shelf : List (Named R)) (d : ℕ) (axes : length X.sides ≡ d) (sides : Point)
    (given : sides ≡ map pos X.sides) where
  -- it was taken, and the rule of the entry that it names goes on
  pub heading_taken : AreNames (names_of shelf) → (i : Given) (r : R) → slice_get (rules_of shelf) i.entry ≡ Some r → (s : Section) → rank s ≡ 1
      → (text new : Option (List ℕ))
      → IfTold text (λ bytes. TakesHeading d sides (names_of shelf) bytes new i)
      → HasCome (analysis (subject_of X (rules_on means shelf))) (BehindHeading (subject_of X (rules_on means shelf)) i.number (means r) s) text new 2
  heading_taken apart i r there s one text new h = if_told text (λ t k.
      subst (λ n. GoingOn (analysis (subject_of X (rules_on means shelf))) t new (BehindHeading (subject_of X (rules_on means shelf)) n (means r) s) 2)
      k.heading.number
      (behind_heading (subject_of X (rules_on means shelf)) k.heading.heading (means r) (k.heading.sides_are ∙ given)
      (rule_there means shelf i.entry r k.heading.heading.rule there k.heading.there) (subst AreNames (sym (names_on means shelf)) apart) s one t new
      (subst (λ l. TakesClaim (length X.sides) t new l) k.heading.is (subst (λ e. TakesClaim e t new k.line) (sym axes) k.takes)))) h

  -- there is none
  pub heading_missed : (text : Option (List ℕ)) → IfTold text (LacksHeading d sides (names_of shelf))
      → IfTold text (λ t. FirstBad (subject_of X (rules_on means shelf)) t 1)
  heading_missed text h = if_told text (λ t k. no_heading (subject_of X (rules_on means shelf)) sides t given (rw (axes, names_on means shelf) k)) h

-- ---- behind the heading, where a line comes

module _ (X : Subject) (n : ℕ) (rule : Rule) (s : Section) (one : rank s ≡ 1) (lines : List Line) (l : Line)
    (ruled : IsRuledBy X (lines_of Section.Heading lines) n rule) where
  pub may_come : MayCome X s lines l
  may_come good = omega (arith, one, past_heading X lines l _ ruled.names.first_is good)

  pub still_ruled : GoodAfter X lines l → IsRuledBy X (lines_of Section.Heading (lines ++ l ∷ [])) n rule
  still_ruled good = subst (λ ls. IsRuledBy X ls n rule) (sym (lines_skip Section.Heading lines l (past_heading X lines l _ ruled.names.first_is good))) ruled

-- a row and its rule stand for one more line, where it is good
more_by : {E : Type 0} (X : Subject) (rule : Rule) (s : Section) → rank s ≡ 1 → (lines : List Line) (l : Line) (F G : ℕ → List Line → Type 0)
    (h : Ruled X rule F lines) (answer : Result Bool E) → IfOk answer (λ b. IsTrue b ↔ GoodAfter X lines l)
    → IfOk answer (λ b. OnTrue b (G h.number (lines ++ l ∷ []))) → IfOk answer (λ b. OnTrue b (Ruled X rule G (lines ++ l ∷ [])))
more_by X rule s one lines l F G h (Ok b) a f = OnTrue_from b (Ruled X rule G (lines ++ l ∷ [])) (λ e. record {
  number = h.number;
  ruled = still_ruled X h.number rule s one lines l h.ruled (a.0 e);
  follows = OnTrue_at e f;
})
more_by X rule s one lines l F G h (Err e) a f = tt

-- and where the rule means the same now
pub ruled_more : {E : Type 0} (X : Subject) (rule now : Rule) → now ≡ rule → (s : Section) → rank s ≡ 1 → (lines : List Line) (l : Line)
    (F : ℕ → List Line → Type 0) (G : Rule → ℕ → List Line → Type 0) (h : Ruled X rule F lines) (answer : Result Bool E)
    → IfOk answer (λ b. IsTrue b ↔ GoodAfter X lines l) → IfOk answer (λ b. OnTrue b (G rule h.number (lines ++ l ∷ [])))
    → IfOk answer (λ b. OnTrue b (Ruled X now (G now) (lines ++ l ∷ [])))
ruled_more X rule now same s one lines l F G h answer a f = subst (λ r. IfOk answer (λ b. OnTrue b (Ruled X r (G r) (lines ++ l ∷ [])))) (sym same)
    (more_by X rule s one lines l F (G rule) h answer a f)

-- ---- where a row that waits goes on

module _ (X : Subject) (d : ℕ) (axes : length X.picture.sides ≡ d) (text : Option (List ℕ)) where
  -- it stands for the lines, by the reports of the pictures with d axes
  pub row_goes_on : (n : ℕ) (rule : Rule) (s : Section) (F : ℕ → List Line → Type 0) (left : Option (List ℕ)) (k : ℕ)
      → ((lines : List Line) → Sections.HasCome X s lines → lines_of s lines ≡ [] → F n lines)
      → HasCome (analysis X) (BehindHeading X n rule s) text left k
      → HasCome (report_of (spelled d) Line.End (GoodAfter X)) (Ruled X rule F) text left k
  row_goes_on n rule s F left k enters h = subst (λ e. HasCome (report_of (spelled e) Line.End (GoodAfter X)) (Ruled X rule F) text left k) axes
      (if_told text (λ t g. record {
        lines = g.lines;
        bytes = g.bytes;
        told = g.told;
        front = g.front;
        follows = record { number = n; ruled = g.follows.ruled; follows = enters g.lines g.follows.come g.follows.none };
        number = g.number;
      }) h)

  pub checked_all : (old new : DeskState) (r : Answer) → Reports.HasChecked (report_of (spelled d) Line.End (GoodAfter X)) text old new r
      → HasChecked X text old new r
  checked_all old new r = subst (λ e. Reports.HasChecked (report_of (spelled e) Line.End (GoodAfter X)) text old new r) (sym axes)

-- ---- bytes taken ahead, faults before

pub checks_later : (X : Subject) (text : Option (List ℕ)) (before middle now : ℕ) (r : Answer) → before ≤ middle → Checks X text middle now r
    → Checks X text before now r
checks_later X text before middle now (Ok Yes) l h = h
checks_later X text before middle now (Ok (No k)) l h = h
checks_later X text before middle now (Err ReadFault) l h = omega (arith, h)
checks_later X text before middle now (Err NoMemory) l h = tt

-- little was taken of a text that no byte was taken ahead of
pub few_ahead : (X : Subject) (ahead : List ℕ) (text left : Option (List ℕ)) → ahead ≡ [] → TakenAhead (ahead_of ahead text) left
    → IfTold text (λ t. TakesFew X t left)
few_ahead X ahead text left e t = told_few (analysis X) (are_spelled (length X.picture.sides)) (λ ls. ⊤) 1 text text left
    (told_start (analysis X) text (λ ls. ⊤) tt) (subst (λ l. TakenAhead l left) (none_ahead ahead text e) t)
