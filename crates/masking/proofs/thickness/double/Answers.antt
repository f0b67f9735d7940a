use Rattle.std.proofs.Common.{◌≡◌, ◌≢◌, ℕ, ◌<◌, length, get_or, ap, sym, ◌∙◌, arith, below_more, get_or-set_other, get_or-set_same}
use Rattle.std.proofs.lemmas.List.{ext_get_or, length-map, get_or-map}
use Rattle.masking.specs.Pictures.{told_diameter}
use Rattle.masking.proofs.thickness.double.Goals as goal

pub loop-square-preserved : goal.loop-square-preserved
loop-square-preserved c =
    let i = c.loop-square.square-index in
    let s = c.loop-square.squares in
    let v = c.told_diameter.result in
    record {
      done = below_more _ _ (λ k h. let ne : k ≢ i = omega arith in get_or-set_other s i k v 0 ne ∙ c.loop-square.invariant.done k h)
          (let lt : i < length s = omega arith in get_or-set_same s i v 0 lt ∙ c.told_diameter.ensures
          ∙ ap told_diameter (c.loop-square.invariant.left i (omega arith)));
      left = λ k h. let ne : k ≢ i = omega arith in get_or-set_other s i k v 0 ne ∙ c.loop-square.invariant.left k (omega arith);
    }

pub returns : goal.returns
returns c =
    let s = c.loop-square.squares in
    let old = c.args.squares.now in
    let kept : length s ≡ length old = c.loop-square.auto.squares in
    ext_get_or 0 _ _ (kept ∙ sym (length-map old told_diameter))
    (λ k l. c.loop-square.invariant.done k (omega arith) ∙ sym (get_or-map told_diameter old k 0 0 (omega (arith, l, kept))))
