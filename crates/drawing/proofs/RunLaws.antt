-- The run that points begin with: how it is found by going from point to point.
-- Laws of lists of points alone.
use Rattle.std.proofs.Common.{◌≡◌, ℕ, zero, suc, ◌+◌, ◌-◌, ◌<◌, ◌≤◌, Bool, true, false, List, [], ◌∷◌, ◌++◌, length, get_or, drop, add-zero, refl, ap, sym}
use Rattle.std.proofs.Common.{subst, ◌∙◌, arith}
use Rattle.std.specs.Prelude.{flat_map}
use Rattle.std.proofs.lemmas.Bool.{cond-true, cond-false}
use Rattle.std.proofs.lemmas.List.{get_or-map, length-drop, get_or-drop, drop-map, drop-drop}
use Rattle.shape_space.specs.declared.point.P2.{P2}
use Rattle.shape_terms.specs.Points.{Point}
use Rattle.drawing.specs.Seen.{flat, flats}
use Rattle.drawing.specs.Svg.{run_text, runs_text}
use Rattle.drawing.specs.Runs.{Run, is_next, before, runs, BeginsWithRun}

-- up to place n each point lies right of the one before
abbrev pub GoesOn : List Point → ℕ → Type 0
GoesOn ps n = (k : ℕ) → suc k < n → is_next (get_or ps k []) (get_or ps (suc k) []) ≡ true

-- and the one at n does not, or there is none
abbrev pub Stops : List Point → ℕ → Type 0
Stops ps n = (k : ℕ) → suc k ≡ n → n < length ps → is_next (get_or ps k []) (get_or ps (suc k) []) ≡ false

-- the runs of a point and those behind it begin with a run that begins with it
before_first : (p : Point) (rs : List Run) → (c : ℕ) × (t : List Run) × (before p rs ≡ record { first = p; count = c } ∷ t)
before_first p [] = (1, [], refl)
before_first p (r ∷ rs) = by_test (is_next p r.first) refl
  where
    by_test : (b : Bool) → is_next p r.first ≡ b → (c : ℕ) × (t : List Run) × (before p (r ∷ rs) ≡ record { first = p; count = c } ∷ t)
    by_test true e = (
      r.count + 1,
      rs,
      cond-true (is_next p r.first) (record { first = p; count = r.count + 1 } ∷ rs)
          (record { first = p; count = 1 } ∷ (r ∷ rs)) e,
    )
    by_test false e = (
      1,
      r ∷ rs,
      cond-false (is_next p r.first) (record { first = p; count = r.count + 1 } ∷ rs) (record { first = p; count = 1 } ∷ (r ∷ rs))
          e,
    )

lengthens : (p q : Point) (c : ℕ) (rs : List Run) → is_next p q ≡ true → before p (record { first = q; count = c } ∷ rs) ≡ record { first = p; count = c + 1 }
    ∷ rs
lengthens p q c rs e = cond-true (is_next p q) (record { first = p; count = c + 1 } ∷ rs)
    (record { first = p; count = 1 } ∷ (record { first = q; count = c } ∷ rs)) e

begins_anew : (p q : Point) (c : ℕ) (rs : List Run) → is_next p q ≡ false
    → before p (record { first = q; count = c } ∷ rs) ≡ record { first = p; count = 1 } ∷ (record { first = q; count = c } ∷ rs)
begins_anew p q c rs e = cond-false (is_next p q) (record { first = p; count = c + 1 } ∷ rs)
    (record { first = p; count = 1 } ∷ (record { first = q; count = c } ∷ rs)) e

-- the points up to where they stop to go on are the first run
pub first_run : (ps : List Point) (n : ℕ) → 0 < n → n ≤ length ps → GoesOn ps n → Stops ps n → BeginsWithRun ps n
first_run [] n some within goes stops = absurd (omega arith)
first_run (p ∷ ps) zero some within goes stops = absurd (omega arith)
first_run (p ∷ []) (suc zero) some within goes stops = refl
first_run (p ∷ []) (suc (suc n)) some within goes stops = absurd (omega arith)
first_run (p ∷ q ∷ ps) (suc zero) some within goes stops =
    let h = before_first q (runs ps) in
    let e : is_next p q ≡ false = stops 0 refl (omega arith) in
    ap (before p) h.2 ∙ begins_anew p q h.0 h.1 e ∙ ap (λ t. record { first = p; count = 1 } ∷ t) (sym h.2)
first_run (p ∷ q ∷ ps) (suc (suc n)) some within goes stops =
    let e : is_next p q ≡ true = goes 0 (omega arith) in
    let h = first_run (q ∷ ps) (suc n) (omega arith) (omega arith) (goes_behind p q ps n goes) (λ k e l. stops (suc k) (ap suc e) (omega arith)) in
    let m : suc n + 1 ≡ suc (suc n) = omega arith in
    ap (before p) h ∙ lengthens p q (suc n) (runs (drop n ps)) e ∙ ap (λ c. record { first = p; count = c } ∷ runs (drop n ps)) m
  where
    goes_behind : (p q : Point) (ps : List Point) (n : ℕ) → GoesOn (p ∷ q ∷ ps) (suc (suc n)) → GoesOn (q ∷ ps) (suc n)
    goes_behind p q ps n goes k below = goes (suc k) (omega arith)

-- one step of the search, at a place of the program's points
pub step_at : (points : List P2) (i k : ℕ) (b : Bool) (d e : P2) → suc k ≡ i → i < length points
    → is_next (flat (get_or points (i - 1) d)) (flat (get_or points i e)) ≡ b → is_next (get_or (flats points) k []) (get_or (flats points) (suc k) []) ≡ b
step_at points i k b d e at within h =
    let there : k < length points = omega arith in
    let next : suc k < length points = omega arith in
    let one : suc k - 1 ≡ k = omega arith in
    let h' = subst (λ j. is_next (flat (get_or points (j - 1) d)) (flat (get_or points j e)) ≡ b) (sym at) h in
    let h'' = subst (λ j. is_next (flat (get_or points j d)) (flat (get_or points (suc k) e)) ≡ b) one h' in
    let f = get_or-map flat points k d [] there in
    let g = get_or-map flat points (suc k) e [] next in
    (λ i. is_next (f i) (g i)) ∙ h''

-- the text of the runs from a place on, where a run begins there
pub one_run : (points : List P2) (at n : ℕ) (d : P2) → at < length points → BeginsWithRun (flats (drop at points)) n
    → runs_text (flats (drop at points)) ≡ run_text (record { first = flat (get_or points at d); count = n }) ++ runs_text (flats (drop (at + n) points))
one_run points at n d within run =
    let some : 0 < length (drop at points) = omega (arith, length-drop at points) in
    let first : get_or (flats (drop at points)) 0 [] ≡ flat (get_or points at d) =
    get_or-map flat (drop at points) 0 d [] some ∙ ap flat (get_or-drop at points 0 d ∙ ap (λ k. get_or points k d) (add-zero at)) in
    let rest : drop n (flats (drop at points)) ≡ flats (drop (at + n) points) = drop-map flat n (drop at points) ∙ ap flats (drop-drop n at points) in
    ap (flat_map run_text) run ∙ (λ i. run_text (record { first = first i; count = n }) ++ flat_map run_text (runs (rest i)))
