use Rattle.std.proofs.Common.{refl}
use Rattle.shape_check.proofs.whole.FlatRowP2.begin.Goals as goal

pub returns-clause-waits : goal.returns-clause-waits
returns-clause-waits c =
    let k = c.in_ok-common.ensures in
    let cover = c.in_ok-cover.ensures in
    let X = c.args.grid.now in
    let n = c.args.number in
    let thinned = c.before-row.ensures.waits X n k.thinned refl in
    let faces = c.before-row-2.ensures.waits X n (λ by now. (c.is_picture.ensures.picture.axes, refl)) thinned in
    let contours = c.before-row-3.ensures.waits X n (λ by now. (cover.number, cover.stands)) faces in
    let nearest = c.before-row-4.ensures.waits X n (λ by now. (k.picture, k.field)) contours in
    c.before-row-5.ensures.waits X n (λ by now. (k.counts, rw k.counts_wait refl)) nearest
