use Rattle.std.proofs.Common.{◌≡◌, ◌≤◌, ◌<◌, ◌+◌, ◌-◌, ℕ, List, length, take, drop, ap, ◌∙◌, arith}
use Rattle.std.proofs.lemmas.List.{length-take}
use Rattle.shape_desk.specs.Line.{Reader}
use Rattle.shape_desk.proofs.Lines.{behind_passed, passed}
use Rattle.shape_desk.proofs.line.LineReader.pass.Goals as goal

pub returns-clause-ahead : goal.returns-clause-ahead
returns-clause-ahead c =
    let i = c.self.inside in
    let n = c.args.len in
    let m = i.end - i.start in
    let order : i.start ≤ i.end = c.self.invariant.1 in
    let ahead : take m (drop i.start i.buf.items) ≡ c.args.self.now.ahead = ap (λ (r : Reader). r.ahead) c.self.view_is in
    let inside : n < m = omega (arith, c.requires.inside, ap length ahead, length-take m (drop i.start i.buf.items)) in
    let all : i.end - (i.start + n + 1) ≡ (i.start + m) - (i.start + n + 1) = omega arith in
    ap (λ k. take k (drop (i.start + n + 1) i.buf.items)) all ∙ behind_passed i.start n m i.buf.items inside ∙ ap (λ (l : List ℕ). drop (n + 1) l) ahead

pub returns-clause-line : goal.returns-clause-line
returns-clause-line c =
    let i = c.self.inside in
    let n = c.args.len in
    let m = i.end - i.start in
    let ahead : take m (drop i.start i.buf.items) ≡ c.args.self.now.ahead = ap (λ (r : Reader). r.ahead) c.self.view_is in
    let inside : n < m = omega (arith, c.requires.inside, ap length ahead, length-take m (drop i.start i.buf.items)) in
    passed i.start n m i.buf.items i.last.items inside ∙ ap (λ (l : List ℕ). take n l) ahead
