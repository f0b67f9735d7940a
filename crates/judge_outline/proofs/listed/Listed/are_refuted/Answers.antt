use Rattle.std.proofs.Common.{◌<◌, length, subst, sym, arith}
use Rattle.std.proofs.lemmas.List.{length-map}
use Rattle.judge_outline.specs.Terms.{point_of}
use Rattle.judge_outline.specs.Listings.{Listing}
use Rattle.judge_outline.proofs.listed.Listed.are_refuted.Goals as goal

pub refutes_with-requires-clause-room : goal.refutes_with-requires-clause-room
refutes_with-requires-clause-room c =
    let r = subst (λ (l : Listing). length l.points < l.room) (sym c.self.view_is) c.requires.room in
    omega (arith, r, length-map c.self.inside.points.items point_of)
