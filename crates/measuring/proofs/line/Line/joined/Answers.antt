use Rattle.std.proofs.Common.{inl, inr, ap, arith}
use Rattle.std.proofs.lemmas.Int.{ints}
use Rattle.measuring.specs.declared.line.Line.{Line}
use Rattle.measuring.proofs.LinesPut.{joined_short}
use Rattle.measuring.proofs.line.Line.joined.Goals as goal

pub returns-clause-joined : goal.returns-clause-joined
returns-clause-joined c =
    let y = ap (λ (l : Line). l.y) c.line_of.ensures in
    let left = ap (λ (l : Line). l.left) c.line_of.ensures in
    let right = ap (λ (l : Line). l.right) c.line_of.ensures in
    let a = c.least.ensures.left in
    let b = c.least.ensures.right in
    let d = c.greatest.ensures.left in
    let e = c.greatest.ensures.right in
    record {
      row = omega (arith, ints, y);
      left = omega (arith, ints, left, a);
      left_too = omega (arith, ints, left, b);
      right = omega (arith, ints, right, d);
      right_too = omega (arith, ints, right, e);
      begins = elim c.least.ensures.one [ inl f ↦ inl (omega (arith, ints, left, f)) | inr f ↦ inr (omega (arith, ints, left, f)) ];
      ends = elim c.greatest.ensures.one [ inl f ↦ inl (omega (arith, ints, right, f)) | inr f ↦ inr (omega (arith, ints, right, f)) ];
    }

pub returns-clause-short : goal.returns-clause-short
returns-clause-short c = joined_short c.args.self c.args.other _ (returns-clause-joined c) c.requires.one c.requires.two
