use Rattle.std.proofs.Common.{sym, ◌∙◌, subst, arith}
use Rattle.judge_outline.specs.Listings.{AreNumbered}
use Rattle.judge_outline.proofs.Numbering.{numbered_more, put_new, put_again}
use Rattle.judge_outline.proofs.numbered.put.Goals as goal

pub returns-then-has_number-clause-points : goal.returns-then-has_number-clause-points
returns-then-has_number-clause-points c = put_again c.args.marks.now c.args.numbers.now.items c.requires.numbered c.args.i c.requires.place
    (sym c.has_number.ensures ∙ c.if-has_number.true)

pub push_reserved-requires : goal.push_reserved-requires
push_reserved-requires c = let r = c.requires.room (sym c.has_number.ensures ∙ c.if-has_number.false) in omega (arith, r)

pub returns-clause-numbered : goal.returns-clause-numbered
returns-clause-numbered c =
    let new = sym c.has_number.ensures ∙ c.if-has_number.false in
    subst (AreNumbered c.set_number.new.self) (sym c.push_reserved.ensures.items)
    (numbered_more c.args.marks.now c.args.numbers.now.items c.requires.numbered c.args.i c.requires.place c.is_picture.ensures.picture.filled
    c.set_number.new.self c.set_number.ensures new)

pub returns-clause-points : goal.returns-clause-points
returns-clause-points c = put_new c.args.marks.now c.args.numbers.now.items c.requires.numbered c.args.i c.requires.place c.is_picture.ensures.picture.filled
    c.set_number.new.self c.set_number.ensures
