use Rattle.std.proofs.Common.{◌≡◌, ◌≤◌, ◌<◌, ◌+◌, ℕ, Bool, List, length, ap, sym, subst, ◌∙◌, arith}
use Rattle.shape_terms.specs.Points.{Point, box_count}
use Rattle.shape_terms.specs.Pictures.{at}
use Rattle.shape_adj.specs.FacePoints.{gap_of, sense_up, exposed_at}
use Rattle.shape_adj.proofs.Layers.{gap_least}
use Rattle.shape_adj.proofs.ShownFaces.{shown_up, shown_down}
use Rattle.shape_adj.proofs.exposed.expose.Goals as goal

pub overflow_sub-block : goal.overflow_sub-block
overflow_sub-block g c =
    let X = c.args.grid.now in
    let some : 0 < box_count X.sides = (let s = c.sides-sides.result.some in let e = ap box_count c.sides-sides.ensures.value in omega (arith, s, e)) in
    let axis : c.args.axis < length X.sides = (let a = c.sides-sides.ensures.picture.axes in omega (arith, a, c.requires.axis)) in
    let gap : c.gap_on-gap.result ≡ gap_of X.sides c.args.axis = c.gap_on-gap.ensures.value
    ∙ ap (λ (s : List ℕ). gap_of s c.args.axis) c.sides-sides.ensures.value in
    let block : c.gap_on-block.result ≡ gap_of X.sides (c.args.axis + 1) = c.gap_on-block.ensures.value
    ∙ ap (λ (s : List ℕ). gap_of s (c.args.axis + 1)) c.sides-sides.ensures.value in
    let few : c.gap_on-gap.result ≤ c.gap_on-block.result = (let l = gap_least X.sides c.args.axis some axis in omega (arith, l, gap, block)) in
    few

pub show_ends-requires-clause-within : goal.show_ends-requires-clause-within
show_ends-requires-clause-within g c =
    let X = c.args.grid.now in
    let some : 0 < box_count X.sides = (let s = c.sides-sides.result.some in let e = ap box_count c.sides-sides.ensures.value in omega (arith, s, e)) in
    let axis : c.args.axis < length X.sides = (let a = c.sides-sides.ensures.picture.axes in omega (arith, a, c.requires.axis)) in
    let gap : c.gap_on-gap.result ≡ gap_of X.sides c.args.axis = c.gap_on-gap.ensures.value
    ∙ ap (λ (s : List ℕ). gap_of s c.args.axis) c.sides-sides.ensures.value in
    let block : c.gap_on-block.result ≡ gap_of X.sides (c.args.axis + 1) = c.gap_on-block.ensures.value
    ∙ ap (λ (s : List ℕ). gap_of s (c.args.axis + 1)) c.sides-sides.ensures.value in
    let few : c.gap_on-gap.result ≤ c.gap_on-block.result = (let l = gap_least X.sides c.args.axis some axis in omega (arith, l, gap, block)) in
    omega (arith, few)

pub show_ends-requires-else-is_up-clause-within : goal.show_ends-requires-else-is_up-clause-within
show_ends-requires-else-is_up-clause-within g c =
    let X = c.args.grid.now in
    let some : 0 < box_count X.sides = (let s = c.sides-sides.result.some in let e = ap box_count c.sides-sides.ensures.value in omega (arith, s, e)) in
    let axis : c.args.axis < length X.sides = (let a = c.sides-sides.ensures.picture.axes in omega (arith, a, c.requires.axis)) in
    let gap : c.gap_on-gap.result ≡ gap_of X.sides c.args.axis = c.gap_on-gap.ensures.value
    ∙ ap (λ (s : List ℕ). gap_of s c.args.axis) c.sides-sides.ensures.value in
    let block : c.gap_on-block.result ≡ gap_of X.sides (c.args.axis + 1) = c.gap_on-block.ensures.value
    ∙ ap (λ (s : List ℕ). gap_of s (c.args.axis + 1)) c.sides-sides.ensures.value in
    let few : c.gap_on-gap.result ≤ c.gap_on-block.result = (let l = gap_least X.sides c.args.axis some axis in omega (arith, l, gap, block)) in
    omega (arith, few)

pub returns-then-is_up-clause-points : goal.returns-then-is_up-clause-points
returns-then-is_up-clause-points g c =
    let X = c.args.grid.now in
    let some : 0 < box_count X.sides = (let s = c.sides-sides.result.some in let e = ap box_count c.sides-sides.ensures.value in omega (arith, s, e)) in
    let axis : c.args.axis < length X.sides = (let a = c.sides-sides.ensures.picture.axes in omega (arith, a, c.requires.axis)) in
    let gap : c.gap_on-gap.result ≡ gap_of X.sides c.args.axis = c.gap_on-gap.ensures.value
    ∙ ap (λ (s : List ℕ). gap_of s c.args.axis) c.sides-sides.ensures.value in
    let block : c.gap_on-block.result ≡ gap_of X.sides (c.args.axis + 1) = c.gap_on-block.ensures.value
    ∙ ap (λ (s : List ℕ). gap_of s (c.args.axis + 1)) c.sides-sides.ensures.value in
    let few : c.gap_on-gap.result ≤ c.gap_on-block.result = (let l = gap_least X.sides c.args.axis some axis in omega (arith, l, gap, block)) in
    let some_block : 0 < c.gap_on-block.result = (let s = c.gap_on-block.ensures.some in omega (arith, s)) in
    subst (λ (b : Bool). (q : Point) → at c.show_ends.new.exposed q ≡ exposed_at X c.args.axis (sense_up b) q) (sym c.if-is_up.true)
    (shown_up X c.args.axis c.gap_on-gap.result c.gap_on-block.result axis gap block some_block few c.clear.new.exposed c.expose_run.new.exposed
    c.show_ends.new.exposed (c.clear.ensures.sides ∙ c.requires.box_) c.clear.ensures.none c.expose_run.ensures c.show_ends.ensures)

pub returns-else-is_up-clause-points : goal.returns-else-is_up-clause-points
returns-else-is_up-clause-points g c =
    let X = c.args.grid.now in
    let some : 0 < box_count X.sides = (let s = c.sides-sides.result.some in let e = ap box_count c.sides-sides.ensures.value in omega (arith, s, e)) in
    let axis : c.args.axis < length X.sides = (let a = c.sides-sides.ensures.picture.axes in omega (arith, a, c.requires.axis)) in
    let gap : c.gap_on-gap.result ≡ gap_of X.sides c.args.axis = c.gap_on-gap.ensures.value
    ∙ ap (λ (s : List ℕ). gap_of s c.args.axis) c.sides-sides.ensures.value in
    let block : c.gap_on-block.result ≡ gap_of X.sides (c.args.axis + 1) = c.gap_on-block.ensures.value
    ∙ ap (λ (s : List ℕ). gap_of s (c.args.axis + 1)) c.sides-sides.ensures.value in
    let few : c.gap_on-gap.result ≤ c.gap_on-block.result = (let l = gap_least X.sides c.args.axis some axis in omega (arith, l, gap, block)) in
    let some_block : 0 < c.gap_on-block.result = (let s = c.gap_on-block.ensures.some in omega (arith, s)) in
    subst (λ (b : Bool). (q : Point) → at c.show_ends-else-is_up.new.exposed q ≡ exposed_at X c.args.axis (sense_up b) q) (sym c.if-is_up.false)
    (shown_down X c.args.axis c.gap_on-gap.result c.gap_on-block.result axis gap block some_block few c.clear.new.exposed c.expose_run-else-is_up.new.exposed
    c.show_ends-else-is_up.new.exposed (c.clear.ensures.sides ∙ c.requires.box_) c.clear.ensures.none c.expose_run-else-is_up.ensures
    c.show_ends-else-is_up.ensures)
