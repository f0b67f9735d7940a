-- What a judge finds of a line, as the claim of the line in the state that the lines before it led to.
-- Laws over pictures, lines and what a judge is seen as.
use Rattle.std.proofs.Common.{◌≡◌, Bool, List, map, refl, sym, subst}
use Rattle.std.specs.Prelude.{◌↔◌, IsTrue, pos}
use Rattle.shape_terms.specs.Points.{Point}
use Rattle.shape_terms.specs.Pictures.{Picture}
use Rattle.shape_terms.specs.Traces.{AreContours}
use Rattle.text_terms.specs.Reports.{EndsWith}
use Rattle.text_terms.specs.Courses.{reached}
use Rattle.text_terms.proofs.CourseLaws.{ended_exactly}
use Rattle.piece_terms.specs.SplitLines.{Standing}
use Rattle.piece_terms.specs.Lines.{Line}
use Rattle.piece_terms.specs.PieceReports.{State, IsHeading, ListClaim, Claim, HasEnded, course}
use Rattle.shape_terms.proofs.ContourLists.{contours_same}
use Rattle.piece_terms.proofs.LineLaws.{ends_by}
use Rattle.shape_crack.specs.Terms.{point_of}
use Rattle.judge_pieces.specs.PieceState.{Listed}
use Rattle.judge_pieces.specs.Judged.{IsFoundGood, IsState, StandsFor}
use Rattle.judge_pieces.specs.declared.judge.PieceJudge.{PieceJudge}
use Rattle.judge_pieces.specs.declared.phase.Phase.{Phase}
use Rattle.judge_pieces.specs.declared.phase.Phase.TheVariants.{Opening, Listing, Ended}

-- a line is good where its claim is true of the judge's sides and contours
good_test : (X : Picture) (phase : Phase) (sides : Point) (j : Listed) (s : State) (l : Line) → sides ≡ map pos X.sides → AreContours X j.contours
    → IsState phase j.standing s → (IsFoundGood phase sides j l → Claim X s l) × (Claim X s l → IsFoundGood phase sides j l)
good_test X Opening sides j s l e are h =
    (λ g. subst (λ v. Claim X v l) (sym h.1) (subst (λ v. IsHeading v l) e g), λ g. subst (λ v. IsHeading v l) (sym e) (subst (λ v. Claim X v l) h.1 g))
good_test X Listing sides j s l e are h = (
  λ g. subst (λ v. Claim X v l) (sym h) (j.contours, are, g),
  λ g. (let k : Claim X (State.Listing j.standing) l = subst (λ v. Claim X v l) h g in
      subst (λ cs. ListClaim cs j.standing l) (contours_same X k.0 j.contours k.1 are) k.2),
)
good_test X Ended sides j s l e are h = (λ g. absurd g, λ g. subst (λ v. Claim X v l) h g)

module _ (X : Picture) (old new : PieceJudge) (lines : List Line) (l : Line) (b : Bool) (f : StandsFor X old lines) where
  pub claim_test : (IsTrue b ↔ IsFoundGood old.phase (point_of old.sides) old.lister l) → (IsTrue b ↔ Claim X (reached (course X) lines) l)
  claim_test r = let g = good_test X old.phase (point_of old.sides) old.lister (reached (course X) lines) l f.sides f.are f.state in
      (λ t. g.0 (r.0 t), λ c. r.1 (g.1 c))

-- the phase tells whether the end has come
phase_ends : (phase : Phase) (w : Standing) (s : State) → IsState phase w s → (phase ≡ Ended → HasEnded s) × (HasEnded s → phase ≡ Ended)
phase_ends Opening w s h = (λ e. cc, λ e. absurd (subst HasEnded h.1 e))
phase_ends Listing w s h = (λ e. cc, λ e. absurd (subst HasEnded h e))
phase_ends Ended w s h = (λ e. subst HasEnded (sym h) tt, λ e. refl)

pub end_test : (X : Picture) (j : PieceJudge) (lines : List Line) (b : Bool) → StandsFor X j lines → (IsTrue b ↔ (j.phase ≡ Ended))
    → (IsTrue b ↔ EndsWith Line.End lines)
end_test X j lines b f r =
    let s = reached (course X) lines in
    let p = phase_ends j.phase j.lister.standing s f.state in
    let e = ended_exactly (course X) Line.End HasEnded (ends_by X) s lines refl in
    (λ t. e.0 (p.0 (r.0 t)), λ w. r.1 (p.1 (e.1 w)))
