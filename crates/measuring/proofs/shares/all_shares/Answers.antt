use Rattle.std.proofs.Common.{◌≡◌, ℕ, ◌+◌, sym, ◌∙◌}
use Rattle.measure_terms.specs.Shares.{gathered_by_all}
use Rattle.measuring.specs.Spaced.{spacing_told}
use Rattle.measuring.proofs.Gathered.{all_gathered, is_share}
use Rattle.measuring.proofs.shares.all_shares.Goals as goal

pub returns : goal.returns
returns c =
    let s = spacing_told c.args.spacing in
    let x = c.gathered-x.result in
    let y = c.gathered-y.result in
    let xy = c.gathered-xy.result in
    let z = c.gathered-z.result in
    let xz = c.gathered-xz.result in
    let yz = c.gathered-yz.result in
    let xyz = c.gathered-xyz.result in
    let sum : ℕ = x + (y + (xy + (z + (xz + (yz + xyz))))) in
    let all : sum ≡ gathered_by_all s =
    (λ i. c.gathered-x.ensures.value i + (c.gathered-y.ensures.value i + (c.gathered-xy.ensures.value i + (c.gathered-z.ensures.value i
    + (c.gathered-xz.ensures.value i + (c.gathered-yz.ensures.value i + c.gathered-xyz.ensures.value i))))))
    ∙ sym (all_gathered s) in
    record {
      x = record { value = is_share s 1 x sum c.share.result c.gathered-x.ensures.value all c.share.ensures.value; few = c.share.ensures.few };
      y = record { value = is_share s 2 y sum c.share-2.result c.gathered-y.ensures.value all c.share-2.ensures.value; few = c.share-2.ensures.few };
      z = record { value = is_share s 4 z sum c.share-3.result c.gathered-z.ensures.value all c.share-3.ensures.value; few = c.share-3.ensures.few };
      xy = record { value = is_share s 3 xy sum c.share-4.result c.gathered-xy.ensures.value all c.share-4.ensures.value; few = c.share-4.ensures.few };
      xz = record { value = is_share s 5 xz sum c.share-5.result c.gathered-xz.ensures.value all c.share-5.ensures.value; few = c.share-5.ensures.few };
      yz = record { value = is_share s 6 yz sum c.share-6.result c.gathered-yz.ensures.value all c.share-6.ensures.value; few = c.share-6.ensures.few };
      xyz = record { value = is_share s 7 xyz sum c.share-7.result c.gathered-xyz.ensures.value all c.share-7.ensures.value; few = c.share-7.ensures.few };
    }
