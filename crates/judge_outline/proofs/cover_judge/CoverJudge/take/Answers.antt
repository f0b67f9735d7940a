use Rattle.std.specs.Prelude.{take}
use Rattle.report_terms.specs.Lines as Terms
use Rattle.shape_refute.specs.Terms.{naive_of}
use Rattle.shape_refute.specs.Evidences.{evidence_of}
use Rattle.shape_refute.specs.PairTerms.{pairs_of}
use Rattle.shape_crack.specs.Terms.{point_of, crack_of}
use Rattle.judge_outline.proofs.CoverStandings.{claim_test, begun_stands, point_stands, segment_stands, least_stands, gap_stands, begun_room, point_room}
use Rattle.judge_outline.proofs.CoverStandings.{segment_room, least_room, gap_room}
use Rattle.judge_outline.proofs.cover_judge.CoverJudge.take.Goals as goal

pub returns-in-Contour-clause-answer : goal.returns-in-Contour-clause-answer
returns-in-Contour-clause-answer c =
    let l = c.in-Contour in
    rw l.is (λ X lines s. claim_test X c.args.self.now lines (Terms.Line.Contour (point_of l.p) l.side l.points l.segments) c.begin.result s
    c.begin.ensures.answer)

pub returns-in-Contour-clause-stands : goal.returns-in-Contour-clause-stands
returns-in-Contour-clause-stands c =
    let l = c.in-Contour in
    rw l.is (λ X lines s. begun_stands X c.args.self.now c.begin.new.self lines (point_of l.p) l.side l.points l.segments c.begin.result s
    c.begin.ensures.contours c.begin.ensures.next)

pub returns-in-Contour-clause-room : goal.returns-in-Contour-clause-room
returns-in-Contour-clause-room c =
    let l = c.in-Contour in
    begun_room c.args.self.now c.begin.new.self (crack_of (record { p = l.p; side = l.side })) l.points l.segments c.begin.result c.begin.ensures.contours
    c.begin.ensures.answer c.begin.ensures.next

pub returns-in-At-clause-answer : goal.returns-in-At-clause-answer
returns-in-At-clause-answer c =
    rw c.in-At.is (λ X lines s. claim_test X c.args.self.now lines (Terms.Line.At (point_of c.in-At.p)) c.go_on.result s c.go_on.ensures.answer)

pub returns-in-At-clause-stands : goal.returns-in-At-clause-stands
returns-in-At-clause-stands c =
    rw c.in-At.is (λ X lines s. point_stands X c.args.self.now c.go_on.new.self lines (point_of c.in-At.p) c.go_on.result s c.go_on.ensures.contours
    c.go_on.ensures.answer c.go_on.ensures.next)

pub returns-in-At-clause-room : goal.returns-in-At-clause-room
returns-in-At-clause-room c = point_room c.args.self.now c.go_on.new.self (point_of c.in-At.p) c.go_on.result c.go_on.ensures.contours c.go_on.ensures.answer
    c.go_on.ensures.next

pub returns-in-Seg-clause-answer : goal.returns-in-Seg-clause-answer
returns-in-Seg-clause-answer c =
    let l = c.in-Seg in
    rw l.is (λ X lines s. claim_test X c.args.self.now lines (Terms.Line.Seg l.first l.last l.line.axis (take 2 l.line.a) l.line.mu) c.take_segment.result s
    c.take_segment.ensures.answer)

pub returns-in-Seg-clause-stands : goal.returns-in-Seg-clause-stands
returns-in-Seg-clause-stands c =
    let l = c.in-Seg in
    rw l.is (λ X lines s. segment_stands X c.args.self.now c.take_segment.new.self lines l.first l.last l.line.axis (take 2 l.line.a) l.line.mu
    c.take_segment.result s c.take_segment.ensures.contours c.take_segment.ensures.answer c.take_segment.ensures.next)

pub returns-in-Seg-clause-room : goal.returns-in-Seg-clause-room
returns-in-Seg-clause-room c =
    let l = c.in-Seg in
    segment_room c.args.self.now c.take_segment.new.self l.first l.last l.line.axis (naive_of 2 l.line) c.take_segment.result c.take_segment.ensures.contours
    c.take_segment.ensures.answer c.take_segment.ensures.next

pub returns-in-Least-clause-answer : goal.returns-in-Least-clause-answer
returns-in-Least-clause-answer c =
    let l = c.in-Least in
    rw l.is (λ X lines s. claim_test X c.args.self.now lines (Terms.Line.Least (pairs_of l.bounds)) c.take_least.result s c.take_least.ensures.answer)

pub returns-in-Least-clause-stands : goal.returns-in-Least-clause-stands
returns-in-Least-clause-stands c =
    let l = c.in-Least in
    rw l.is (λ X lines s. least_stands X c.args.self.now c.take_least.new.self lines (pairs_of l.bounds) c.take_least.result s c.take_least.ensures.taken
    c.take_least.ensures.contours c.take_least.ensures.answer c.take_least.ensures.next)

pub returns-in-Least-clause-room : goal.returns-in-Least-clause-room
returns-in-Least-clause-room c =
    let l = c.in-Least in
    least_room c.args.self.now c.take_least.new.self (pairs_of l.bounds) c.take_least.result c.take_least.ensures.contours c.take_least.ensures.answer
    c.take_least.ensures.next

pub returns-in-Gap-clause-answer : goal.returns-in-Gap-clause-answer
returns-in-Gap-clause-answer c =
    let l = c.in-Gap in
    rw l.is (λ X lines s. claim_test X c.args.self.now lines (Terms.Line.Gap l.axis (evidence_of l.refusal)) c.take_gap.result s c.take_gap.ensures.answer)

pub returns-in-Gap-clause-stands : goal.returns-in-Gap-clause-stands
returns-in-Gap-clause-stands c =
    let l = c.in-Gap in
    rw l.is (λ X lines s. gap_stands X c.args.self.now c.take_gap.new.self lines l.axis (evidence_of l.refusal) c.take_gap.result s c.take_gap.ensures.contours
    c.take_gap.ensures.answer c.take_gap.ensures.next)

pub returns-in-Gap-clause-room : goal.returns-in-Gap-clause-room
returns-in-Gap-clause-room c =
    let l = c.in-Gap in
    gap_room c.args.self.now c.take_gap.new.self l.axis (evidence_of l.refusal) c.take_gap.result c.take_gap.ensures.contours c.take_gap.ensures.answer
    c.take_gap.ensures.next
