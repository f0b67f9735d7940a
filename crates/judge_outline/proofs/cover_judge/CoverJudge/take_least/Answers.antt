use Rattle.std.proofs.Common.{◌≡◌, refl, ap, sym, ◌∙◌, subst}
use Rattle.std.specs.Prelude.{Some}
use Rattle.std.specs.Option.{option_map}
use Rattle.judge_outline.specs.Segments.{segment_of}
use Rattle.judge_outline.specs.CoverState.{CoverState, LastIsTaken}
use Rattle.judge_outline.proofs.cover_judge.CoverJudge.take_least.Goals as goal

pub is_shown-requires : goal.is_shown-requires
is_shown-requires c =
    let now = c.args.self.now in
    let is : now.standing.last ≡ Some (segment_of c.in-Some.segment) = ap (λ (t : CoverState). t.standing.last) (sym c.self.view_is)
    ∙ ap (option_map segment_of) c.in-Some.is in
    let taken = subst (λ (t : CoverState). LastIsTaken t.contours t.standing t.standing.last) c.self.view_is c.self.invariant.0.last_taken in
    subst (LastIsTaken now.contours now.standing) is taken

pub returns-clause-answer : goal.returns-clause-answer
returns-clause-answer c =
    let now = c.args.self.now in
    let is : now.standing.last ≡ Some (segment_of c.in-Some.segment) = ap (λ (t : CoverState). t.standing.last) (sym c.self.view_is)
    ∙ ap (option_map segment_of) c.in-Some.is in
    let second : now.number ≡ 2 = ap (λ (t : CoverState). t.number) (sym c.self.view_is) ∙ c.if-self-ne2.false in
    (λ t. record { second = second; segment = segment_of c.in-Some.segment; before = is; shows = c.is_shown.ensures.0 c.if-not-is_shown.false }, λ h. refl)
