use Rattle.std.proofs.Common.{[], ◌∷◌, ◌++◌, ◌∙◌, subst}
use Rattle.std.proofs.lemmas.Option.{MatchOption-at_some, MatchOption-at_none}
use Rattle.shape_plane.specs.Parting.{IsNextPatch}
use Rattle.shape_plane.proofs.Parted.{fewer_left}
use Rattle.shape_analyse.proofs.Growth.{text_as}
use Rattle.shape_analyse.proofs.FaceGrowth.{found_more, face_done}
use Rattle.shape_analyse.proofs.faces.add_patches.Goals as goal

pub loop-patch-smaller : goal.loop-patch-smaller
loop-patch-smaller c = fewer_left 3 c.loop-patch.parting.axis c.loop-patch.parting.left c.next_patch.new.self.left c.in-Some.patch.found
    (MatchOption-at_some _ _ _ c.in-Some.is c.in_ok-patch.ensures.next)

pub loop-patch-preserved : goal.loop-patch-preserved
loop-patch-preserved c =
    let old = c.loop-patch.invariant in
    let next = MatchOption-at_some _ _ _ c.in-Some.is c.in_ok-patch.ensures.next in (
      c.in_ok-patch.ensures.axis ∙ old.0,
      λ X f before axis are begun.
          let so_far = old.1 X f before axis are begun in
          let more = found_more X f so_far.0 c.loop-patch.parting.left c.next_patch.new.self.left c.in-Some.patch.found so_far.1
          (subst (λ t. IsNextPatch 3 t c.loop-patch.parting.left c.next_patch.new.self.left c.in-Some.patch.found) (old.0 ∙ axis) next) in
          (so_far.0 ++ c.in-Some.patch.found ∷ [], more, c.in_ok-add_patch.ensures X f so_far.0 c.next_patch.new.self.left before more so_far.2),
    )

pub returns : goal.returns
returns c =
    let old = c.loop-patch.invariant in
    let none = MatchOption-at_none _ _ c.in_default.is c.in_ok-patch.ensures.next in
    λ X f before axis are begun.
    let so_far = old.1 X f before axis are begun in
    text_as (λ lines h. face_done X f so_far.0 c.loop-patch.parting.left lines so_far.1 none.0 h) so_far.2
