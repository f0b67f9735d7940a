-- What is made of a text is made of one list of lines, and a text that is no report has one first bad line.
-- Laws of texts; what is made does not matter here.
use Rattle.std.proofs.Common.{◌≡◌, ◌⊎◌, inl, inr, ℕ, ◌+◌, zero, suc, sym, ap, subst, ◌∙◌, arith, List, [], ◌∷◌, length, length-append}
use Rattle.text_terms.specs.Reports.{LineIsGood}
use Rattle.text_terms.proofs.FirstBadOnce.{good_front, first_bad_once}
use Rattle.report_terms.specs.Lines.{Line}
use Rattle.report_lines.specs.Reports.{Space, flat, solid, in_order, IsReport, FirstBad}
use Rattle.report_lines.proofs.Holding.{never_both}
use Rattle.report_lines.proofs.OneReading.{one_reading, one_space, never_of_both}
use Rattle.report_lines.specs.Made.{Maker, IsSpace, IsMadeOf, IsNoReport}
use Rattle.report_lines.specs.Complete.{IsSomeReport}

-- ---- the space

pub same_space : (text : List ℕ) (s t : Space) (lines other : List Line) → IsSpace s → IsSpace t → IsReport s text lines → IsReport t text other → s ≡ t
same_space text s t lines other (inl e) (inl f) r q = e ∙ sym f
same_space text s t lines other (inr e) (inr f) r q = e ∙ sym f
same_space text s t lines other (inl e) (inr f) r q =
    absurd (never_of_both text lines other (subst (λ u. IsReport u text lines) e r) (subst (λ u. IsReport u text other) f q))
same_space text s t lines other (inr e) (inl f) r q =
    absurd (never_of_both text other lines (subst (λ u. IsReport u text other) f q) (subst (λ u. IsReport u text lines) e r))

pub one_space_made : (make other : Maker) (text bytes more : List ℕ) (m : IsMadeOf make text bytes) (n : IsMadeOf other text more) → m.space ≡ n.space
one_space_made make other text bytes more m n = same_space text m.space n.space m.lines n.lines m.known n.known m.report n.report

pub one_list_made : (make other : Maker) (text bytes more : List ℕ) (m : IsMadeOf make text bytes) (n : IsMadeOf other text more) → m.lines ≡ n.lines
one_list_made make other text bytes more m n =
    one_reading n.space text m.lines n.lines (subst (λ u. IsReport u text m.lines) (one_space_made make other text bytes more m n) m.report) n.report

-- ---- the first line

-- no text begins with a good line of a flat picture and with one of a volume
not_both_good : (text : List ℕ) → LineIsGood (in_order flat) text 1 → LineIsGood (in_order solid) text 1 → ⊥
not_both_good text ([], r, e, b) other = omega (arith, e)
not_both_good text (l ∷ ls, r, e, b) ([], s, f, c) = omega (arith, f)
not_both_good text (l ∷ ls, r, e, b) (n ∷ ns, s, f, c) = one_space text l n ls ns r s b c

-- the first line of a report is good
first_good : (s : Space) (text : List ℕ) (lines : List Line) → IsReport s text lines → LineIsGood (in_order s) text 1
first_good s text lines r = good_front (in_order s) text lines [] r.whole 1 (omega (arith, ap length r.ends.is, length-append r.ends.front (Line.End ∷ [])))

-- the first bad line is the first of all, or the first of all is good
first_or_good : (s : Space) (text : List ℕ) (k : ℕ) → FirstBad s text k → (k ≡ 1) ⊎ LineIsGood (in_order s) text 1
first_or_good s text k bad = by_front bad.before.0 bad.before.1 bad.before.2
  where
    by_front : (j : ℕ) → j + 1 ≡ k → LineIsGood (in_order s) text j → (k ≡ 1) ⊎ LineIsGood (in_order s) text 1
    by_front zero e g = inl (omega (arith, e))
    by_front (suc j) e (lines, rest, n, b) = inr (good_front (in_order s) text lines rest b 1 (omega (arith, n)))

pick : (s : Space) (text : List ℕ) → IsSpace s → FirstBad flat text 1 × FirstBad solid text 1 → FirstBad s text 1
pick s text (inl e) b = subst (λ u. FirstBad u text 1) (sym e) b.0
pick s text (inr e) b = subst (λ u. FirstBad u text 1) (sym e) b.1

-- ---- the first bad line

-- where the first line is good in a space, a first bad line is one of that space
module _ (text : List ℕ) (s t : Space) (k : ℕ) (bad : FirstBad t text k) where
  other_bad : LineIsGood (in_order s) text 1 → (k ≡ 1 → FirstBad s text 1) → (LineIsGood (in_order t) text 1 → ⊥) → FirstBad s text k
  other_bad good one none = elim (first_or_good t text k bad) [
    | inl e ↦ subst (FirstBad s text) (sym e) (one e)
    | inr g ↦ absurd (none g)
  ]

  bad_where : IsSpace s → IsSpace t → LineIsGood (in_order s) text 1 → (k ≡ 1 → FirstBad s text 1) → FirstBad s text k
  bad_where (inl e) (inl f) good one = subst (λ u. FirstBad u text k) (f ∙ sym e) bad
  bad_where (inr e) (inr f) good one = subst (λ u. FirstBad u text k) (f ∙ sym e) bad
  bad_where (inl e) (inr f) good one =
      other_bad good one (λ g. not_both_good text (subst (λ u. LineIsGood (in_order u) text 1) e good) (subst (λ u. LineIsGood (in_order u) text 1) f g))
  bad_where (inr e) (inl f) good one =
      other_bad good one (λ g. not_both_good text (subst (λ u. LineIsGood (in_order u) text 1) f g) (subst (λ u. LineIsGood (in_order u) text 1) e good))

bad_there : (text : List ℕ) (s : Space) (k : ℕ) → IsSpace s → LineIsGood (in_order s) text 1 → IsNoReport text k → FirstBad s text k
bad_there text s k known good n = bad_where text s n.space k n.bad known n.known good (λ e. pick s text known (n.either e))

-- no text is a report and has a first bad line
pub made_or_bad : (text : List ℕ) (k : ℕ) → IsSomeReport text → IsNoReport text k → ⊥
made_or_bad text k r n = never_both r.space text r.lines k r.report (bad_there text r.space k r.known (first_good r.space text r.lines r.report) n)

-- it has one at most
pub one_first_bad : (text : List ℕ) (k m : ℕ) → IsNoReport text k → IsNoReport text m → k ≡ m
one_first_bad text k m n p = elim (first_or_good n.space text k n.bad) [
  | inl e ↦ e ∙ first_bad_once (in_order p.space) text 1 m (pick p.space text p.known (n.either e)) p.bad
  | inr g ↦ first_bad_once (in_order n.space) text k m n.bad (bad_there text n.space m n.known g p)
]

-- what is made of a text is made of a report
pub is_report : (make : Maker) (text bytes : List ℕ) → IsMadeOf make text bytes → IsSomeReport text
is_report make text bytes m = record { space = m.space; known = m.known; lines = m.lines; report = m.report }
