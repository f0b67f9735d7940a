use Rattle.std.proofs.Common.{◌≡◌, ◌<◌, ◌∙◌, ℕ, List, [], length, ap, sym, subst, arith, rules}
use Rattle.shape_terms.specs.Pictures.{Picture, blank, object_points}
use Rattle.judge_outline.specs.Listings.{Listing, listing_of}
use Rattle.judge_outline.specs.Exposure.{AreMarked}
use Rattle.shape_terms.specs.Points.{sides_of}
use Rattle.judge_outline.specs.Terms.{point_of}
use Rattle.judge_outline.specs.PlaneState.{AreInStep}
use Rattle.judge_outline.proofs.PlaneSteps.{step_none}
use Rattle.judge_outline.proofs.Marking.{marked_none}
use Rattle.judge_outline.proofs.PlaneStandings.{few_lines}
use Rattle.judge_outline.proofs.plane_judge.PlaneJudge.new.Goals as goal

-- at first no point is taken
marked_first : (l : Listing) (R : Picture) (box sides : List ℕ) (room : ℕ) → l ≡ listing_of box [] room → R ≡ blank sides → AreMarked l.points R
marked_first l R box sides room e f = subst (λ ps. AreMarked ps R) (sym (ap (λ (k : Listing). k.points) e)) (subst (AreMarked []) (sym f) (marked_none sides))

-- and no face is begun
never : {P : Type 0} → 0 < 0 → P
never l = absurd (omega arith)

pub invariant_of-result : goal.invariant_of-result
invariant_of-result c =
    let X = c.in_ok-copy.field-0 in
    let box : sides_of (point_of c.sides-sides.result.lengths) ≡ X.sides = c.sides-sides.ensures.value
    ∙ ap (λ (Y : Picture). Y.sides) (sym c.in_ok-copy.ensures) in
    let objects = ap (λ (Y : Picture). length (object_points Y)) c.in_ok-copy.ensures in
    let sides = λ (Y : Picture). Y.sides in
    let none = ap (λ (k : Listing). k.points) (sym c.in_ok-new-2.ensures) in
    record {
      solid = search rules;
      near_box = search rules;
      left_box = ap sides c.in_ok-new-3.ensures ∙ box;
      are_left = never;
      recent_box = ap sides c.in_ok-new-4.ensures ∙ box;
      are_recent = marked_first _ _ _ _ _ c.in_ok-new-2.ensures c.in_ok-new-4.ensures;
      taken_box = ap (λ (k : Listing). k.sides) c.in_ok-new-2.ensures ∙ box;
      marks_box = ap sides c.in_ok-new-5.ensures ∙ box;
      unmarked = subst (AreMarked []) (sym c.in_ok-new-5.ensures) (marked_none _);
      taken_fits = omega (arith, objects, ap (λ (k : Listing). k.room) c.in_ok-new-2.ensures, c.count-2.ensures);
      fits = omega (arith, objects, c.in_ok-touching.ensures.exact, c.count.ensures);
      axis = never;
      step = subst (λ ps. AreInStep X _ ps c.in_ok-touching.touching.items) none (step_none X c.in_ok-touching.touching.items c.in_ok-touching.ensures.items);
    }

pub returns-clause-room : goal.returns-clause-room
returns-clause-room c = rw (c.in_ok-copy.ensures, c.in_ok-new-2.ensures) (few_lines c.args.grid.now c.is_picture.ensures.few)
