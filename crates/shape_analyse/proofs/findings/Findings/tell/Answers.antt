use Rattle.std.proofs.Common.{[], length, refl, sym, subst, ◌∙◌}
use Rattle.shape_terms.specs.Pictures.{object_points}
use Rattle.report_terms.specs.Subjects.{subject_of}
use Rattle.report_text.specs.Telling.{Tells, TellsMore}
use Rattle.report_text.proofs.Telling.{tells_more, tells_as}
use Rattle.shape_rules.specs.Names.{word_of}
use Rattle.shape_analyse.specs.Analyses.{IsReportBy}
use Rattle.shape_analyse.specs.Finding.{AreFindingsOf}
use Rattle.shape_analyse.specs.Growing.{aim_of}
use Rattle.shape_analyse.proofs.ThinningGrowth.{renamed}
use Rattle.shape_analyse.proofs.findings.Findings.tell.Goals as goal

pub returns : goal.returns
returns g c = λ X names rules which name begun are there start.
    let state = g.D.Desk.state in
    let f = c.self.inside in
    let Y = f.grid.now in
    let found = c.self.invariant in
    let mine = subst (AreFindingsOf X names rules which) (sym c.self.view_is) are in
    let by = mine.by in
    let aim = aim_of Y rules (word_of f.rule) by in
    let nears = c.tell_beginning.ensures rules by begun mine.on_shelf (record { text = []; so = refl; telling = start }) in
    let told = subst (λ t. TellsMore t c.tell_beginning.new.page c.text-2.new.self (state c.tell_beginning.new.desk) (state c.text-2.new.desk)) c.text.ensures
    c.text-2.ensures in
    let surveyed = tells_more f.outline.lines told (λ text h. found.outline rules (word_of f.rule) by text h) nears in
    let counts = found.kept (length (object_points Y)) f.counted.object f.counted.background found.counts in
    let whole = c.tell_thinning.ensures aim mine.thinned.stage begun mine.thinned.thinning mine.thinned.left counts surveyed in
    let about = subst (λ Z. Tells (IsReportBy (subject_of Z rules) (word_of f.rule)) begun c.tell_thinning.new.page (state c.tell_thinning.new.desk)) mine.about
    whole in
    tells_as (λ text r. renamed (subject_of X rules) _ _ text (sym mine.named ∙ there) r) about
