use Rattle.std.proofs.Common.{sym, ◌∙◌}
use Rattle.report_terms.specs.Kinds.{Kind}
use Rattle.report_text.specs.Reading.{split_words}
use Rattle.shape_report.proofs.Claims.{of_kind, of_fields, read_bytes, of_claim}
use Rattle.shape_report.proofs.line.LineReportLine.read.Goals as goal

pub returns-in-Near : goal.returns-in-Near
returns-in-Near g c =
    let text = c.args.bytes.now in
    let word = c.in_ok-word.word.now in
    let left = c.next_word.new.self in
    let is = sym c.new-words.ensures ∙ c.in_ok-word.ensures in
    let fields = of_kind g.P.Point.DIM g.P.Point.coords Kind.Near word left c.near.result c.in-Near.ensures c.near.ensures in
    read_bytes g.P.Point.DIM g.P.Point.coords text c.near.result (of_fields g.P.Point.DIM g.P.Point.coords (split_words text) word left c.near.result is fields)

pub returns-in-At : goal.returns-in-At
returns-in-At g c =
    let text = c.args.bytes.now in
    let word = c.in_ok-word.word.now in
    let left = c.next_word.new.self in
    let is = sym c.new-words.ensures ∙ c.in_ok-word.ensures in
    let fields = of_kind g.P.Point.DIM g.P.Point.coords Kind.At word left c.at.result c.in-At.ensures c.at.ensures in
    read_bytes g.P.Point.DIM g.P.Point.coords text c.at.result (of_fields g.P.Point.DIM g.P.Point.coords (split_words text) word left c.at.result is fields)

pub returns-in-On : goal.returns-in-On
returns-in-On g c =
    let text = c.args.bytes.now in
    let word = c.in_ok-word.word.now in
    let left = c.next_word.new.self in
    let is = sym c.new-words.ensures ∙ c.in_ok-word.ensures in
    let fields = of_kind g.P.Point.DIM g.P.Point.coords Kind.On word left c.on.result c.in-On.ensures c.on.ensures in
    read_bytes g.P.Point.DIM g.P.Point.coords text c.on.result (of_fields g.P.Point.DIM g.P.Point.coords (split_words text) word left c.on.result is fields)

pub returns-in-Del : goal.returns-in-Del
returns-in-Del g c =
    let text = c.args.bytes.now in
    let word = c.in_ok-word.word.now in
    let left = c.next_word.new.self in
    let is = sym c.new-words.ensures ∙ c.in_ok-word.ensures in
    let fields = of_kind g.P.Point.DIM g.P.Point.coords Kind.Del word left c.del.result c.in-Del.ensures c.del.ensures in
    read_bytes g.P.Point.DIM g.P.Point.coords text c.del.result (of_fields g.P.Point.DIM g.P.Point.coords (split_words text) word left c.del.result is fields)

pub returns-in-Other : goal.returns-in-Other
returns-in-Other g c = of_claim g.P.Point.DIM g.P.Point.coords c.args.bytes.now c.read_claim.result c.read_claim.ensures
