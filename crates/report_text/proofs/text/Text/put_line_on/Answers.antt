use Rattle.std.proofs.Common.{◌≡◌, ◌+◌, ◌-◌, ◌∙◌, length, take, ap, arith}
use Rattle.std.proofs.lemmas.List.{take-take, length-take-le}
use Rattle.report_text.proofs.PageLines.{line_put}
use borrow.Rule.Slice.PartMut.{same_len_mid}
use Rattle.report_text.proofs.text.Text.put_line_on.Goals as goal

pub returns-then-self-lt-SHORT-clause-line : goal.returns-then-self-lt-SHORT-clause-line
returns-then-self-lt-SHORT-clause-line c =
    let at = c.args.at in
    let s = c.self.inside in
    let part = c.copy_from_slice.new.self in
    let copied : part ≡ take 32 s.bytes = c.copy_from_slice.ensures.after in
    let same : take s.len part ≡ c.args.self.now =
    ap (take s.len) copied ∙ take-take s.len 32 s.bytes (omega (arith, c.if-self-lt-SHORT.true)) ∙ c.self.view_is in
    let long : length part ≡ 32 = ap length copied ∙ length-take-le 32 s.bytes (omega (arith, c.self.told)) in
    line_put at (at + 32 - at) s.len c.args.page.now part c.args.self.now (omega (arith, c.requires)) (omega (arith, long))
    (omega (arith, c.if-self-lt-SHORT.true)) same (same_len_mid at (at + 32 - at) c.args.page.now part c.copy_from_slice.ensures.len)
