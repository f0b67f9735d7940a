use Rattle.std.proofs.Common.{length, sym, ◌∙◌, ap}
use Rattle.shape_terms.specs.Pictures.{Picture, object_points}
use Rattle.shape_terms.specs.Thinning.{Stage}
use Rattle.shape_thin.specs.Fronts.{reach_of}
use Rattle.shape_check.proofs.EventsFollowed.{same_stage}
use Rattle.shape_check.proofs.events.ThinJudge.left.Goals as goal

pub returns : goal.returns
returns g c = λ by X events now h s st.
    let t = c.args.self.now.thinner in
    let is = same_stage by X events now t.left (reach_of t.front) h s st in
    let here = ap (λ (Y : Picture). length (object_points Y)) c.left.ensures in
    c.count.ensures ∙ here ∙ sym (ap (λ (s : Stage). length (object_points s.left)) is)
