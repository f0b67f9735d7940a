use Rattle.std.proofs.Common.{◌≡◌, true, false, refl, sym, ◌∙◌, ap, not}
use Rattle.shape_thin.specs.Fronts.{reach_of}
use Rattle.shape_thin.specs.Standing.{key_of}
use Rattle.shape_check.proofs.EventsFollowed.{none_next, next_is, not_false, same_truth, other_truth}
use Rattle.shape_check.proofs.events.ThinJudge.event.Goals as goal

-- ---- where the answer is false

pub returns-in_default-clause-answer : goal.returns-in_default-clause-answer
returns-in_default-clause-answer g c = λ X events h. (
  (λ b. cc),
  λ e. absurd (
      let t = c.args.self.now.thinner in
      none_next _ X events _ t.left (reach_of t.front) h c.in_default.ensures.0 c.in_default.ensures.1 _ e),
)

pub returns-then-ne-clause-answer : goal.returns-then-ne-clause-answer
returns-then-ne-clause-answer g c = λ X events h. (
  (λ b. cc),
  λ e. absurd (
      let t = c.args.self.now.thinner in
      let n = c.in-Some.next in
      let is = c.in-Some.ensures in
      let w = (next_is _ X events _ t.left (reach_of t.front) h (key_of n) is.there (g.P.Point.coords n.point) is.place is.least _ is.near _ refl
      c.args.tips (g.P.Point.coords c.args.p)).0 e in
      let same = g.met.P.Point.same n.point c.args.p w.1 in
      let equal : g.P.PartialEq.eq c.args.p n.point ≡ true = ap (g.P.PartialEq.eq c.args.p) same ∙ g.met.P.Eq.laws.refl c.args.p in
      let f : true ≡ false = c.if-ne.ensures ∙ ap not equal in
      cc),
)

pub returns-then-marked-tips-clause-answer : goal.returns-then-marked-tips-clause-answer
returns-then-marked-tips-clause-answer g c = λ X events h. (
  (λ b. cc),
  λ e. absurd (
      let t = c.args.self.now.thinner in
      let n = c.in-Some.next in
      let is = c.in-Some.ensures in
      let next = next_is _ X events _ t.left (reach_of t.front) h (key_of n) is.there (g.P.Point.coords n.point) is.place is.least _ is.near
      c.keep-marked.result (sym c.keep-marked.ensures.0) in
      other_truth c.keep-marked.result c.args.tips c.if-marked-tips.true ((next c.args.tips (g.P.Point.coords c.args.p)).0 e).0),
)

-- ---- where the answer is true

pub returns-clause-answer : goal.returns-clause-answer
returns-clause-answer g c = λ X events h.
    let t = c.args.self.now.thinner in
    let n = c.in-Some.next in
    let is = c.in-Some.ensures in
    let next = next_is _ X events _ t.left (reach_of t.front) h (key_of n) is.there (g.P.Point.coords n.point) is.place is.least _ is.near
    c.keep-marked.result (sym c.keep-marked.ensures.0) in
    let p = sym (ap g.P.Point.coords (g.met.P.Point.equal c.args.p n.point (not_false _ c.if-ne.ensures))) in
    ((λ b. (next c.args.tips (g.P.Point.coords c.args.p)).1 (same_truth c.keep-marked.result c.args.tips c.if-marked-tips.false, p)), λ e. refl)

pub returns-clause-stands : goal.returns-clause-stands
returns-clause-stands g c = λ X events h.
    let p = sym (ap g.P.Point.coords (g.met.P.Point.equal c.args.p c.in-Some.next.point (not_false _ c.if-ne.ensures))) in
    let told = sym c.keep-marked.ensures.0 ∙ same_truth c.keep-marked.result c.args.tips c.if-marked-tips.false in
    rw (c.keep-marked.ensures.1.0, ← p) (c.settled.ensures.stands _ X events _ h told)
