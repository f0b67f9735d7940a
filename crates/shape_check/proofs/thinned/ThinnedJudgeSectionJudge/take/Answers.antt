use Rattle.std.proofs.Common.{refl, sym, ◌∙◌, subst, [], ◌∷◌, ◌++◌}
use Rattle.std.specs.Bool.{OnTrue}
use Rattle.std.proofs.lemmas.Bool.{OnTrue_from}
use Rattle.std.proofs.lemmas.Result.{IfOk-weaker}
use Rattle.shape_terms.specs.Thinning.{Event}
use Rattle.report_terms.specs.Lines.{Line}
use Rattle.report_terms.specs.ThinningLines.{events_of}
use Rattle.shape_check.specs.EventStanding.{StandsFor}
use Rattle.shape_check.proofs.ThinningJudged.{restarted, early, event_stands, kept_stands, event_answer, kept_answer}
use Rattle.shape_check.proofs.thinned.ThinnedJudgeSectionJudge.take.Goals as goal

pub returns-in-Del-clause-answer : goal.returns-in-Del-clause-answer
returns-in-Del-clause-answer g c = rw c.in-Del.is (λ X n heading lines ruled t.
    let same = c.start.ensures.same_rule in
    let state = (g.dyn-1.0.entry c.args.rule.now.0).1.state in
    let stood = c.start.ensures.stands X.picture (events_of lines) t.followed in
    event_answer X heading ruled _ same lines (early t c.if-self.false) c.event.result (Event.Del (g.P.Point.coords c.in-Del.p))
    (Line.Del (g.P.Point.coords c.in-Del.p)) (λ z. z, λ z. z)
    (c.event.ensures.answer X.picture (events_of lines)
    (subst (λ r. StandsFor r X.picture (events_of lines) (state c.start.new.rule) c.start.new.self.events) (sym same) stood)))

pub returns-in-Del-clause-stands : goal.returns-in-Del-clause-stands
returns-in-Del-clause-stands g c = rw c.in-Del.is (λ X n lines t.
    let s = c.start.ensures in
    let me = c.start.new.self in
    let by = (g.dyn-1.0.entry c.args.rule.now.0).1.means c.args.rule.now.1 in
    let state = (g.dyn-1.0.entry c.args.rule.now.0).1.state in
    let stood = s.stands X (events_of lines) t.followed in
    event_stands (restarted t (λ events now. StandsFor by X events now me.events) me.begun me.kept me.object me.background (state c.start.new.rule) s.begun
    s.kept s.object s.background stood)
    (λ events now. StandsFor by X events now c.event.new.self) (state c.event.new.rule) c.event.result (Event.Del (g.P.Point.coords c.in-Del.p))
    (Line.Del (g.P.Point.coords c.in-Del.p)) s.begun (s.kept ∙ c.if-self.false) refl refl
    (IfOk-weaker c.event.result _ _
    (λ z h. subst (λ r. OnTrue z
    (StandsFor r X (events_of lines ++ Event.Del (g.P.Point.coords c.in-Del.p) ∷ []) (state c.event.new.rule) c.event.new.self)) s.same_rule h)
    (c.event.ensures.stands X (events_of lines) (subst (λ r. StandsFor r X (events_of lines) (state c.start.new.rule) me.events) (sym s.same_rule) stood))))

pub returns-in-Tip-clause-answer : goal.returns-in-Tip-clause-answer
returns-in-Tip-clause-answer g c = rw c.in-Tip.is (λ X n heading lines ruled t.
    let same = c.start.ensures.same_rule in
    let state = (g.dyn-1.0.entry c.args.rule.now.0).1.state in
    let stood = c.start.ensures.stands X.picture (events_of lines) t.followed in
    event_answer X heading ruled _ same lines (early t c.if-self.false) c.event-in-Tip.result (Event.Tip (g.P.Point.coords c.in-Tip.p))
    (Line.Tip (g.P.Point.coords c.in-Tip.p)) (λ z. z, λ z. z)
    (c.event-in-Tip.ensures.answer X.picture (events_of lines)
    (subst (λ r. StandsFor r X.picture (events_of lines) (state c.start.new.rule) c.start.new.self.events) (sym same) stood)))

pub returns-in-Tip-clause-stands : goal.returns-in-Tip-clause-stands
returns-in-Tip-clause-stands g c = rw c.in-Tip.is (λ X n lines t.
    let s = c.start.ensures in
    let me = c.start.new.self in
    let by = (g.dyn-1.0.entry c.args.rule.now.0).1.means c.args.rule.now.1 in
    let state = (g.dyn-1.0.entry c.args.rule.now.0).1.state in
    let stood = s.stands X (events_of lines) t.followed in
    event_stands (restarted t (λ events now. StandsFor by X events now me.events) me.begun me.kept me.object me.background (state c.start.new.rule) s.begun
    s.kept s.object s.background stood)
    (λ events now. StandsFor by X events now c.event-in-Tip.new.self) (state c.event-in-Tip.new.rule) c.event-in-Tip.result
    (Event.Tip (g.P.Point.coords c.in-Tip.p)) (Line.Tip (g.P.Point.coords c.in-Tip.p)) s.begun (s.kept ∙ c.if-self.false) refl refl
    (IfOk-weaker c.event-in-Tip.result _ _
    (λ z h. subst (λ r. OnTrue z
    (StandsFor r X (events_of lines ++ Event.Tip (g.P.Point.coords c.in-Tip.p) ∷ []) (state c.event-in-Tip.new.rule) c.event-in-Tip.new.self)) s.same_rule
    h)
    (c.event-in-Tip.ensures.stands X (events_of lines)
    (subst (λ r. StandsFor r X (events_of lines) (state c.start.new.rule) me.events) (sym s.same_rule) stood))))

pub returns-in-Kept-clause-answer : goal.returns-in-Kept-clause-answer
returns-in-Kept-clause-answer g c = rw c.in-Kept.is (λ X n heading lines ruled t.
    let s = c.start.ensures in
    let me = c.start.new.self in
    let by = (g.dyn-1.0.entry c.args.rule.now.0).1.means c.args.rule.now.1 in
    let state = (g.dyn-1.0.entry c.args.rule.now.0).1.state in
    let stood = s.stands X.picture (events_of lines) t.followed in
    kept_answer X heading ruled lines c.are_left-good.result c.in-Kept.points c.in-Kept.object c.in-Kept.background
    (c.are_left-good.ensures X.picture _ _ lines s.begun (s.kept ∙ c.if-self.false)
    (restarted t (λ events now. StandsFor by X.picture events now me.events) me.begun me.kept me.object me.background (state c.start.new.rule) s.begun s.kept
    s.object s.background stood)))

pub returns-in-Kept-clause-stands : goal.returns-in-Kept-clause-stands
returns-in-Kept-clause-stands g c = rw c.in-Kept.is (λ X n lines t.
    let s = c.start.ensures in
    let me = c.start.new.self in
    let by = (g.dyn-1.0.entry c.args.rule.now.0).1.means c.args.rule.now.1 in
    let state = (g.dyn-1.0.entry c.args.rule.now.0).1.state in
    let stood = s.stands X (events_of lines) t.followed in
    OnTrue_from c.are_left-good.result _ (λ yes.
    kept_stands (restarted t (λ events now. StandsFor by X events now me.events) me.begun me.kept me.object me.background (state c.start.new.rule) s.begun
    s.kept s.object s.background stood)
    me.begun c.in-Kept.points c.in-Kept.object c.in-Kept.background (s.kept ∙ c.if-self.false) refl))
