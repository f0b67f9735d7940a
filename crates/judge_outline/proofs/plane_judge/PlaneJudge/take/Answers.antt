use Rattle.std.proofs.Common.{◌≡◌, ℤ, take, subst, arith, to_z, of_z, w64}
use Rattle.std.specs.Prelude.{◌↔◌, IsTrue}
use Rattle.std.specs.Bool.{OnTrue}
use Rattle.std.proofs.lemmas.Int.{ints}
use Rattle.report_terms.specs.FaceLines.{IsPatchHead}
use Rattle.judge_outline.specs.PlaneState.{with_patch}
use Rattle.report_terms.specs.Lines as Terms
use Rattle.shape_refute.specs.Senses.{sense_of}
use Rattle.shape_refute.specs.Weights.{refutation_of}
use Rattle.judge_outline.specs.Terms.{point_of}
use Rattle.judge_outline.proofs.PlaneStandings.{claim_test, face_stands, patch_stands, on_stands, off_stands, face_less, patch_less, on_less, off_less}
use Rattle.judge_outline.proofs.plane_judge.PlaneJudge.take.Goals as goal

pub returns-in-Face-clause-answer : goal.returns-in-Face-clause-answer
returns-in-Face-clause-answer c =
    let l = c.in-Face in
    rw l.is (λ X lines s. claim_test X c.args.self.now lines (Terms.Line.Face l.axis (sense_of l.sense) l.points) c.begin.result s c.begin.ensures.answer)

pub returns-in-Face-clause-stands : goal.returns-in-Face-clause-stands
returns-in-Face-clause-stands c =
    let l = c.in-Face in
    rw l.is (λ X lines s. face_stands X c.args.self.now c.begin.new.self lines l.axis (sense_of l.sense) l.points c.begin.result s c.begin.ensures.picture
    c.begin.ensures.next)

pub returns-in-Face-clause-room : goal.returns-in-Face-clause-room
returns-in-Face-clause-room c =
    let l = c.in-Face in
    face_less c.args.self.now c.begin.new.self l.axis (sense_of l.sense) l.points c.begin.result c.begin.ensures.picture c.begin.ensures.answer
    c.begin.ensures.next

pub returns-in-Patch-clause-stands : goal.returns-in-Patch-clause-stands
returns-in-Patch-clause-stands c =
    let l = c.in-Patch in
    let now = c.args.self.now in
    let same : to_z w64 (of_z w64 l.mu) ≡ l.mu = omega (arith, ints) in
    let answer = subst (λ (mu : ℤ). IsTrue c.begin_patch.result ↔ IsPatchHead now.picture now.standing l.points (record { a = take 3 l.a; mu = mu })) same
    c.begin_patch.ensures.answer in
    let next = subst (λ (mu : ℤ). OnTrue c.begin_patch.result
    (c.begin_patch.new.self.standing ≡ with_patch now.standing l.points (record { a = take 3 l.a; mu = mu }))) same c.begin_patch.ensures.next in
    rw l.is (λ X lines s. patch_stands X now c.begin_patch.new.self lines l.points (take 3 l.a) l.mu c.begin_patch.result s c.begin_patch.ensures.picture answer
    next)

pub returns-in-Patch-clause-room : goal.returns-in-Patch-clause-room
returns-in-Patch-clause-room c =
    let l = c.in-Patch in
    patch_less c.args.self.now c.begin_patch.new.self l.points (take 3 l.a) _ c.begin_patch.result c.begin_patch.ensures.picture c.begin_patch.ensures.answer
    c.begin_patch.ensures.next

pub returns-in-On-clause-answer : goal.returns-in-On-clause-answer
returns-in-On-clause-answer c =
    rw c.in-On.is (λ X lines s. claim_test X c.args.self.now lines (Terms.Line.On (point_of c.in-On.p)) c.take_on.result s c.take_on.ensures.answer)

pub returns-in-On-clause-stands : goal.returns-in-On-clause-stands
returns-in-On-clause-stands c =
    rw c.in-On.is (λ X lines s. on_stands X c.args.self.now c.take_on.new.self lines (point_of c.in-On.p) c.take_on.result s c.take_on.ensures.picture
    c.take_on.ensures.answer c.take_on.ensures.next)

pub returns-in-On-clause-room : goal.returns-in-On-clause-room
returns-in-On-clause-room c = on_less c.args.self.now c.take_on.new.self (point_of c.in-On.p) c.take_on.result c.take_on.ensures.picture c.take_on.ensures.left
    c.take_on.ensures.next

pub returns-in-Off-clause-answer : goal.returns-in-Off-clause-answer
returns-in-Off-clause-answer c =
    let l = c.in-Off in
    rw l.is (λ X lines s. claim_test X c.args.self.now lines (Terms.Line.Off (point_of l.p) (refutation_of l.why)) c.take_off.result s
    c.take_off.ensures.answer)

pub returns-in-Off-clause-stands : goal.returns-in-Off-clause-stands
returns-in-Off-clause-stands c =
    let l = c.in-Off in
    rw l.is (λ X lines s. off_stands X c.args.self.now c.take_off.new.self lines (point_of l.p) (refutation_of l.why) c.take_off.result s
    c.take_off.ensures.picture c.take_off.ensures.answer c.take_off.ensures.next)

pub returns-in-Off-clause-room : goal.returns-in-Off-clause-room
returns-in-Off-clause-room c =
    let l = c.in-Off in
    off_less c.args.self.now c.take_off.new.self (point_of l.p) (refutation_of l.why) c.take_off.result c.take_off.ensures.picture c.take_off.ensures.answer
    c.take_off.ensures.left c.take_off.ensures.next
