use Rattle.std.proofs.Common.{◌≡◌, ◌+◌, ◌<◌, ◌∙◌, length, take, set, ap, arith}
use Rattle.std.proofs.lemmas.List.{take-take, length-take-le}
use Rattle.report_text.proofs.PageLines.{line_behind}
use Rattle.report_text.proofs.text.Text.put_line_behind.Goals as goal

pub returns-clause-ok : goal.returns-clause-ok
returns-clause-ok c =
    let s = c.self.inside in
    let before = c.args.bytes.now.items in
    let more = take 32 s.bytes in
    let e = c.len.result + s.len in
    let few : s.len < 32 = omega (arith, c.if-self-ge-SHORT.false) in
    let long : s.len < length more = omega (arith, few, length-take-le 32 s.bytes (omega (arith, c.self.told))) in
    let place : e ≡ length before + s.len = omega (arith, c.len.ensures) in
    let same : take s.len more ≡ c.args.self.now = take-take s.len 32 s.bytes (omega (arith, few)) ∙ c.self.view_is in
    c.truncate.ensures.items ∙ ap (λ xs. take (e + 1) (set xs e 10)) c.in_ok-extend_from_slice.ensures.items
    ∙ line_behind before more c.args.self.now e s.len place long same
