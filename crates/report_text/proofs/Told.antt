-- Where a check has come to in a text that may be told, and what it knows when it stops.
-- Laws over reports, texts and lines; the judge stands in none.
use Rattle.std.proofs.Common.{◌≡◌, ℕ, ◌+◌, List, [], ◌∷◌, ◌++◌, Option, None, Some, refl, sym}
use Rattle.shape_desk.specs.Line.{IfTold, TakenAhead, ahead_of}
use Rattle.text_terms.specs.Spellings.{IsSpelled}
use Rattle.text_terms.specs.Reports.{Report, FirstBad, EndsWith, Holds}
use Rattle.text_terms.specs.Going.{GoingOn, TakesFew, IsTextOf}
use Rattle.text_terms.proofs.GoingLaws as Texts
use Rattle.report_text.specs.Next.{TakesClaim, IsBad}
use Rattle.report_text.specs.Checks.{HasCome}

-- a fact of a text that is told, from another one
pub if_told : {P Q : List ℕ → Type 0} (text : Option (List ℕ)) → ((t : List ℕ) → P t → Q t) → IfTold text P → IfTold text Q
if_told None f h = tt
if_told (Some t) f h = f t h

pub none_ahead : (ahead : List ℕ) (left : Option (List ℕ)) → ahead ≡ [] → ahead_of ahead left ≡ left
none_ahead ahead None e = refl
none_ahead ahead (Some bytes) e = λ i. Some (e i ++ bytes)

-- where all bytes of the text are left
pub told_start : {L : Type 0} (R : Report L) (text : Option (List ℕ)) (F : List L → Type 0) → F [] → HasCome R F text text 1
told_start R None F f = tt
told_start R (Some t) F f = Texts.at_start R t F f

-- nothing was taken
pub takes_none : {L : Type 0} (R : Report L) (text : Option (List ℕ)) → IfTold text (λ t. TakesFew R t text)
takes_none R None = tt
takes_none R (Some t) = Texts.takes_nothing R t

untold : {L : Type 0} {R : Report L} {text : List ℕ} {F : List L → Type 0} {n : ℕ} → GoingOn R text None F n → ⊥
untold g = let e = g.told in cc

module _ {L : Type 0} (R : Report L) (is : IsSpelled R.text) (F : List L → Type 0) (n : ℕ) (text : List ℕ) where
  -- the end of the text after the last line
  pub text_at_end : (left : Option (List ℕ)) (g : GoingOn R text left F n) → EndsWith R.last g.lines → IfTold left (λ bytes. bytes ≡ []) → IsTextOf R F text
  text_at_end None g e z = absurd (untold g)
  text_at_end (Some bytes) g e z = Texts.text_at_end R is text bytes F n g e z

  pub holds_at_end : (left : Option (List ℕ)) (g : GoingOn R text left F n) → EndsWith R.last g.lines → IfTold left (λ bytes. bytes ≡ []) → Holds R text
  holds_at_end left g e z = let t = text_at_end left g e z in (t.front, t.whole)

  -- and before it
  pub bad_at_end : (left : Option (List ℕ)) (g : GoingOn R text left F n) → (EndsWith R.last g.lines → ⊥) → IfTold left (λ bytes. bytes ≡ [])
      → FirstBad R text n
  bad_at_end None g more z = absurd (untold g)
  bad_at_end (Some bytes) g more z = Texts.bad_at_end R is text bytes F n g more z

  -- no line comes next, though bytes are left
  pub bad_line : (left : Option (List ℕ)) (g : GoingOn R text left F n) → IfTold left (IsBad R.text) → FirstBad R text n
  bad_line None g bad = absurd (untold g)
  bad_line (Some bytes) g bad = Texts.bad_line R is text bytes F n g bad.some bad.none

  -- the next line is not good
  pub not_good : (left new : Option (List ℕ)) (l : L) (g : GoingOn R text left F n) → IfTold left (λ bytes. TakesClaim R.text bytes new l)
      → (R.GoodAfter g.lines l → ⊥) → FirstBad R text n
  not_good None new l g taken bad = absurd (untold g)
  not_good (Some bytes) new l g taken bad = Texts.not_good R is text bytes F n g l taken.rest taken.starts bad

  -- the next line is good
  pub one_more : (left new : Option (List ℕ)) (l : L) (G : List L → Type 0) (g : GoingOn R text left F n) → IfTold left (λ bytes. TakesClaim R.text bytes new l)
      → R.GoodAfter g.lines l → G (g.lines ++ l ∷ []) → GoingOn R text new G (n + 1)
  one_more None new l G g taken good follows = absurd (untold g)
  one_more (Some bytes) new l G g taken good follows = Texts.one_more R is text bytes F n g l taken.rest new G taken.starts taken.left good follows

-- what was taken of the bytes left, where that was little
few_of : {L : Type 0} (R : Report L) (is : IsSpelled R.text) (F : List L → Type 0) (n : ℕ) (text : List ℕ) (left at_place : Option (List ℕ))
    → GoingOn R text left F n → TakenAhead left at_place → TakesFew R text at_place
few_of R is F n text None at_place g t = absurd (untold g)
few_of R is F n text (Some bytes) None g t = absurd (let e = t.is in cc)
few_of R is F n text (Some bytes) (Some rest) g t = Texts.takes_few R is text bytes F n g t.front rest (Some rest) (let e = sym t.is in cc) t.few refl

pub told_few : {L : Type 0} (R : Report L) (is : IsSpelled R.text) (F : List L → Type 0) (n : ℕ) (text left at_place : Option (List ℕ))
    → HasCome R F text left n → TakenAhead left at_place → IfTold text (λ t. TakesFew R t at_place)
told_few R is F n text left at_place g t = if_told text (λ b h. few_of R is F n b left at_place h t) g
