-- A text of good lines grows by one good line at a time, and the last of them ends a report.
-- Laws for every course whose lines are short; what the states are does not matter here.
use Rattle.std.proofs.Common.{◌≡◌, ◌≤◌, ℕ, List, [], ◌∷◌, ◌++◌, length, refl, ap, sym, ◌∙◌, subst, append-nil}
use Rattle.std.proofs.lemmas.List.Elements.{All-push}
use Rattle.text_terms.specs.Spellings.{Spelled, line_text}
use Rattle.text_terms.specs.Reports.{BeginsWith, Holds}
use Rattle.text_terms.specs.Courses.{Course, by_course, LeadsTo}
use Rattle.text_terms.proofs.CourseLaws.{reached_push}
use Rattle.text_terms.proofs.Checking.{good_push, text_push, begins_none}

module _ {L S : Type 0} (T : Spelled L) (last : L) (c : Course L S) where
  -- before the first line
  pub leads_none : LeadsTo T last c c.start []
  leads_none = record { lines = []; front = begins_none (by_course T last c) []; state = refl }

  module _ (short : (l : L) → T.IsLine l → length (T.spelling l) ≤ 1024) (s : S) (text new : List ℕ) (h : LeadsTo T last c s text) (l : L) (good : c.Claim s l)
      (fields : T.IsLine l) (put : new ≡ text ++ line_text T l) where
    -- one more good line
    front_more : BeginsWith (by_course T last c) new (h.lines ++ l ∷ []) []
    front_more = record {
      split = put ∙ ap (λ t. t ++ line_text T l) (h.front.split ∙ append-nil _) ∙ sym (text_push T h.lines l []);
      fields = All-push T.IsLine h.lines l h.front.fields fields;
      short = All-push (λ m. length (T.spelling m) ≤ 1024) h.lines l h.front.short (short l fields);
      good = good_push (by_course T last c) h.lines l h.front.good (subst (λ v. c.Claim v l) (sym h.state) good);
    }

    pub leads_more : LeadsTo T last c (c.next s l) new
    leads_more = record { lines = h.lines ++ l ∷ []; front = front_more; state = reached_push c h.lines l ∙ ap (λ v. c.next v l) h.state }

    -- the last one
    pub leads_end : l ≡ last → Holds (by_course T last c) new
    leads_end e = (h.lines, subst (λ m. BeginsWith (by_course T last c) new (h.lines ++ m ∷ []) []) e front_more)
