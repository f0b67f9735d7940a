use Rattle.std.proofs.Common.{◌≡◌, ◌≤◌, ◌+◌, ◌-◌, List, [], ◌∷◌, ◌++◌, take, length, ap, sym, subst, ◌∙◌, arith}
use Rattle.std.proofs.lemmas.List.{length-map}
use Rattle.shape_space.specs.declared.point.P2.{P2}
use Rattle.measure_terms.specs.Hulls.{vertex}
use Rattle.measuring.specs.Corners.{corner, corners, IsAmong}
use Rattle.measuring.specs.Chains.{IsChain, IsOpen, IsKept}
use Rattle.measuring.proofs.Listing.{stayed, opens, put}
use Rattle.measuring.proofs.Reading as Reading
use Rattle.measuring.proofs.chain.put.Goals as goal

pub returns-then-are_same-clause-side : goal.returns-then-are_same-clause-side
returns-then-are_same-clause-side c = λ up h. (
    let items = c.args.chain.now.items in
    let some = c.requires.some in
    let all = length-map items corner in
    let count : c.len.result ≡ length (corners items) = (let l = c.len.ensures in omega (arith, l, all)) in
    let read : corner c.vertex.result ≡ vertex (corners items) (length (corners items) - 1) =
    c.vertex.ensures.is ∙ ap (λ (l : List P2). vertex (corners l) (c.len.result - 1)) c.as_slice.ensures.value
    ∙ ap (λ n. vertex (corners items) (n - 1)) count in
    let is = c.are_same.ensures.0 c.if-are_same.true in
    stayed up (corners c.args.points.now) (corners items) c.args.at (omega (arith, some, all)) (sym read ∙ is ∙ c.vertex-q.ensures.is) h)

pub returns-clause-side : goal.returns-clause-side
returns-clause-side c = λ up h. (
    let items = c.args.chain.now.items in
    let points = c.args.points.now in
    let at = c.args.at in
    let k = c.kept-count.result in
    let some = c.requires.some in
    let all = length-map items corner in
    let every = length-map points corner in
    let q = corner c.vertex-q.result in
    let is = c.vertex-q.ensures.is in
    let count : c.len.result ≡ length (corners items) = (let l = c.len.ensures in omega (arith, l, all)) in
    let read : corner c.vertex.result ≡ vertex (corners items) (length (corners items) - 1) =
    c.vertex.ensures.is ∙ ap (λ (l : List P2). vertex (corners l) (c.len.result - 1)) c.as_slice.ensures.value
    ∙ ap (λ n. vertex (corners items) (n - 1)) count in
    let slice = c.as_slice-2.ensures.value in
    let other = λ (e : vertex (corners items) (length (corners items) - 1) ≡ vertex (corners points) at). (
    let t = c.are_same.ensures.1 (read ∙ e ∙ sym is) in
    let f = c.if-are_same.false in
    let no : ⊥ = cc in no) in
    let place = c.requires.place in
    let within = subst (λ (l : List P2). k ≤ length l) slice c.kept-count.ensures.within in
    let new : c.push.new.self.items ≡ take k items ++ c.vertex-q.result ∷ [] = c.in_ok-push.ensures.items
    ∙ ap (λ (l : List P2). l ++ c.vertex-q.result ∷ []) c.truncate.ensures.items in
    let seen : corners c.push.new.self.items ≡ take k (corners items) ++ vertex (corners points) at ∷ [] =
    ap corners new ∙ Reading.put items k c.vertex-q.result ∙ ap (λ z. take k (corners items) ++ z ∷ []) is in
    record {
      chain = λ o. (
          let opened = opens up (corners points) (corners items) at (omega (arith, place, every)) (omega (arith, some, all)) other o (h.chain o) in
          let opened' = subst (λ n. IsOpen up (IsAmong (corners points) at) (vertex (corners items)) (vertex (corners points) at) n) all opened in
          let kept = subst (λ (l : List P2). IsKept up (IsAmong (corners points) at) (vertex (corners l)) (vertex (corners points) at) k) slice
          (c.kept-count.ensures.kept up
          (subst (λ (l : List P2). IsOpen up (IsAmong (corners points) at) (vertex (corners l)) (vertex (corners points) at) (length l)) (sym slice)
          opened')) in
          subst (λ l. IsChain up (IsAmong (corners points) (at + 1)) (vertex l) (length l)) (sym seen)
          (put up (corners points) (corners items) at k (omega (arith, place, every)) (omega (arith, within, all)) o kept));
    })
