-- Arcs of a path forward and backward: their points, one place more, and where they end.
-- What makes a run straight does not matter here.
use Rattle.std.proofs.Common.{◌≡◌, ℕ, ◌+◌, ◌-◌, ◌<◌, ◌≤◌, ◌%◌, List, [], ◌∷◌, ◌++◌, length, map, ap, sym, ◌∙◌, arith}
use Rattle.std.specs.List.{range_with_len}
use Rattle.std.proofs.lemmas.List.FromFn.{length-map-range_with_len, get_or-map-range_with_len, map-range_with_len_more}
use Rattle.shape_terms.specs.Points.{Point}
use Rattle.shape_terms.specs.Refutations.{point_at}
use Rattle.shape_terms.specs.Covers.{arc}
use Rattle.shape_terms.proofs.ArcRuns.{arc-get, length-arc}
use Rattle.shape_terms.specs.BackArcs.{back_arc, end_point, IsBackward}

module _ (path : List Point) where
  abbrev back_point : ℕ → ℕ → Point
  back_point e i = point_at path ((e - i) % length path)

  pub length-back : (b e : ℕ) → length (back_arc path b e) ≡ e + 1 - b
  length-back b e = length-map-range_with_len (back_point e) 0 (e + 1 - b)

  pub back-get : (b e i : ℕ) → i < e + 1 - b → point_at (back_arc path b e) i ≡ point_at path ((e - i) % length path)
  back-get b e i l = get_or-map-range_with_len (back_point e) 0 (e + 1 - b) i i [] l (omega arith)

  -- one place more
  pub back-more : (b e : ℕ) → 1 ≤ b → b ≤ e → back_arc path (b - 1) e ≡ back_arc path b e ++ point_at path ((b - 1) % length path) ∷ []
  back-more b e l m =
      ap (λ n. map (back_point e) (range_with_len 0 n)) (let q : e + 1 - (b - 1) ≡ e + 1 - b + 1 = omega arith in q)
      ∙ (map-range_with_len_more (back_point e) 0 (e + 1 - b) (e + 1 - b) (omega arith)
      ∙ ap (λ v. back_arc path b e ++ point_at path (v % length path) ∷ []) (let q : e - (e + 1 - b) ≡ b - 1 = omega arith in q))

  pub arc-more : (b e : ℕ) → b ≤ e → arc path b (e + 1) ≡ arc path b e ++ point_at path ((e + 1) % length path) ∷ []
  arc-more b e l =
      ap (λ n. map (λ i. point_at path (i % length path)) (range_with_len b n)) (let q : e + 1 + 1 - b ≡ e + 1 - b + 1 = omega arith in q)
      ∙ map-range_with_len_more (λ i. point_at path (i % length path)) b (e + 1 - b) (e + 1) (omega arith)

  -- the first and the last points
  pub arc_first : (b e : ℕ) → b ≤ e → point_at (arc path b e) 0 ≡ point_at path (b % length path)
  arc_first b e l = arc-get path b e 0 (omega arith) ∙ ap (λ v. point_at path (v % length path)) (let q : b + 0 ≡ b = omega arith in q)

  pub arc_end : (b e : ℕ) → b ≤ e → end_point (arc path b e) ≡ point_at path (e % length path)
  arc_end b e l = arc-get path b e (length (arc path b e) - 1) (let n = length-arc path b e in omega arith)
      ∙ ap (λ v. point_at path (v % length path)) (let q : b + (length (arc path b e) - 1) ≡ e = (let n = length-arc path b e in omega arith) in q)

  pub back_first : (b e : ℕ) → b ≤ e → point_at (back_arc path b e) 0 ≡ point_at path (e % length path)
  back_first b e l = back-get b e 0 (omega arith) ∙ ap (λ v. point_at path (v % length path)) (let q : e - 0 ≡ e = omega arith in q)

  pub back_end : (b e : ℕ) → b ≤ e → end_point (back_arc path b e) ≡ point_at path (b % length path)
  back_end b e l = back-get b e (length (back_arc path b e) - 1) (let n = length-back b e in omega arith)
      ∙ ap (λ v. point_at path (v % length path)) (let q : e - (length (back_arc path b e) - 1) ≡ b = (let n = length-back b e in omega arith) in q)

  -- an arc of one place
  pub arc_one : (b : ℕ) → arc path b b ≡ point_at path (b % length path) ∷ []
  arc_one b = ap (λ n. map (λ i. point_at path (i % length path)) (range_with_len b n)) (let q : b + 1 - b ≡ 1 = omega arith in q)

  pub back_one : (b : ℕ) → back_arc path b b ≡ point_at path (b % length path) ∷ []
  back_one b = ap (λ n. map (back_point b) (range_with_len 0 n)) (let q : b + 1 - b ≡ 1 = omega arith in q)
      ∙ ap (λ v. point_at path (v % length path) ∷ []) (let q : b - 0 ≡ b = omega arith in q)

  -- the one arc is the other, backward
  pub arc_back : (b e : ℕ) → b ≤ e → IsBackward (arc path b e) (back_arc path b e)
  arc_back b e l = record {
    len = omega (arith, length-back b e, length-arc path b e);
    same = λ i k.
        let n = length-arc path b e in
        let k' : i < e + 1 - b = omega (arith, length-back b e) in
        back-get b e i k' ∙ (ap (λ v. point_at path (v % length path)) (let q : e - i ≡ b + (length (arc path b e) - 1 - i) = omega arith in q)
        ∙ sym (arc-get path b e (length (arc path b e) - 1 - i) (omega arith)));
  }

  pub back_forth : (b e : ℕ) → b ≤ e → IsBackward (back_arc path b e) (arc path b e)
  back_forth b e l = record {
    len = omega (arith, length-back b e, length-arc path b e);
    same = λ i k.
        let n = length-back b e in
        let k' : i < e + 1 - b = omega (arith, length-arc path b e) in
        arc-get path b e i k'
        ∙ (ap (λ v. point_at path (v % length path)) (let q : b + i ≡ e - (length (back_arc path b e) - 1 - i) = omega arith in q)
        ∙ sym (back-get b e (length (back_arc path b e) - 1 - i) (omega arith)));
  }
