use Rattle.std.proofs.Common.{length, ap, sym, subst, ◌∙◌}
use Rattle.shape_terms.specs.Pictures.{object_points}
use Rattle.shape_terms.specs.Parts.{Counts}
use Rattle.shape_analyse.specs.Finding.{AreFindingsOf}
use Rattle.shape_analyse.proofs.TallyGrowth.{has_thinning, tally_of}
use Rattle.shape_analyse.proofs.findings.Findings.tally.Goals as goal

pub returns : goal.returns
returns g c = λ X names rules which rule are there.
    let f = c.self.inside in
    let Y = f.grid.now in
    let found = c.self.invariant in
    let mine = subst (AreFindingsOf X names rules which) (sym c.self.view_is) are in
    let counts = subst (λ n. Counts Y n f.counted.object f.counted.background) (sym c.count.ensures) found.counts in
    let left = c.count-2.ensures ∙ ap (λ y. length (object_points y)) c.left.ensures in
    tally_of Y X mine.by rule _ mine.about (mine.entry rule there) counts found.extent (has_thinning mine.by Y f.thinning _ _ mine.thinned c.len.ensures left)
