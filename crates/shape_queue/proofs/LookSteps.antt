-- The queue while the near neighbours of a point are looked at.
-- Laws over pictures and keys alone.
use Rattle.std.proofs.Common.{◌≡◌, ◌≢◌, ◌⊎◌, inl, inr, ℕ, ◌+◌, ◌<◌, ◌≤◌, ◌↔◌, Bool, true, List, length, sym, ◌∙◌, ap, subst, arith}
use Rattle.std.specs.Prelude.{IsTrue}
use Rattle.shape_terms.specs.Points.{Point, in_box, box_count, raster_number, raster_point}
use Rattle.shape_terms.specs.Pictures.{Picture}
use Rattle.shape_terms.specs.Adjacency.{Near, near_point, near_steps}
use Rattle.shape_terms.specs.Parts.{Object}
use Rattle.shape_terms.specs.Simple.{IsSimple}
use Rattle.shape_terms.proofs.Boxes.{raster_below, raster_number-raster_point, raster_point-raster_number}
use Rattle.shape_terms.proofs.ObjectPlaces.{object_in_box}
use Rattle.shape_terms.proofs.NeighbourNumbers.{near_number}
use Rattle.shape_queue.specs.declared.key.Key.{Key}
use Rattle.shape_queue.specs.Ranks.{key_at}
use Rattle.shape_queue.specs.Waiting.{Waits, Put}
use Rattle.shape_queue.specs.Standing.{IsAhead, LaterFrom}
use Rattle.shape_queue.proofs.WaitingSteps.{settled_more, passed_more, waits_less}

module _ (sides : List ℕ) (left reached : Picture) (ds : List ℕ) (passed : ℕ) (p : Point) (n : ℕ) where
  pub round_start : n ≡ length (near_steps (length p)) → (keys : Key → Bool)
      → Waits sides left reached ds (λ i. IsAhead ds passed i ⊎ Near p (raster_point sides i)) keys
      → Waits sides left reached ds (LaterFrom ds passed sides p n 0) keys
  round_start e keys w = waits_less sides left reached ds (λ i. IsAhead ds passed i ⊎ Near p (raster_point sides i)) (LaterFrom ds passed sides p n 0) keys
      numbered w
    where
      numbered : (i : ℕ) → i < box_count sides → IsAhead ds passed i ⊎ Near p (raster_point sides i) → LaterFrom ds passed sides p n 0 i
      numbered i l (inl a) = inl a
      numbered i l (inr h) = inr (let m = near_number p (raster_point sides i) h in (m.0, omega arith, omega (arith, m.1), m.2))

  less : (k i : ℕ) → raster_point sides i ≢ near_point p k → LaterFrom ds passed sides p n k i → LaterFrom ds passed sides p n (k + 1) i
  less k i d (inl a) = inl a
  less k i d (inr (m, a, b, e)) = inr (m, (let f : m ≢ k = λ h. d (sym e ∙ ap (near_point p) h) in omega arith), b, e)

  pub round_more : (k : ℕ) (old new : Key → Bool) (b : Bool) → Waits sides left reached ds (LaterFrom ds passed sides p n k) old
      → IsTrue (in_box sides (near_point p k)) → Object reached (near_point p k) → (b ≡ true) ↔ IsSimple left (near_point p k)
      → Put old new (key_at ds (raster_number sides (near_point p k))) b → Waits sides left reached ds (LaterFrom ds passed sides p n (k + 1)) new
  round_more k old new b w h o is put =
      let e = raster_point-raster_number sides (near_point p k) h in
      settled_more sides left reached ds (LaterFrom ds passed sides p n k) (LaterFrom ds passed sides p n (k + 1)) old new w
      (raster_number sides (near_point p k)) b
      (raster_below sides (near_point p k) h) (subst (Object reached) (sym e) o)
      ((λ t. (subst (Object reached) (sym e) o, subst (IsSimple left) (sym e) (is.0 t))), λ m. is.1 (subst (IsSimple left) e m.1)) put
      (λ j m d f. less k j (λ q. d (sym (raster_number-raster_point sides j m) ∙ ap (raster_number sides) q)) f)

  -- the same where the neighbour is named
  pub round_more_at : (k : ℕ) (q : Point) (old new : Key → Bool) → q ≡ near_point p k → reached.sides ≡ sides
      → Waits sides left reached ds (LaterFrom ds passed sides p n k) old → Object reached q
      → (b : Bool) × ((b ≡ true) ↔ IsSimple left q) × Put old new (key_at ds (raster_number sides q)) b
      → Waits sides left reached ds (LaterFrom ds passed sides p n (k + 1)) new
  round_more_at k q old new e s w o (b, is, put) = round_more k old new b w
      (subst (λ z. IsTrue (in_box z (near_point p k))) s (object_in_box reached (near_point p k) (subst (Object reached) e o))) (subst (Object reached) e o)
      (subst (λ r. (b ≡ true) ↔ IsSimple left r) e is) (subst (λ r. Put old new (key_at ds (raster_number sides r)) b) e put)

  pub round_pass : (k : ℕ) (old : Key → Bool) → Waits sides left reached ds (LaterFrom ds passed sides p n k) old → (Object reached (near_point p k) → ⊥)
      → Waits sides left reached ds (LaterFrom ds passed sides p n (k + 1)) old
  round_pass k old w closed = passed_more sides left reached ds (LaterFrom ds passed sides p n k) (LaterFrom ds passed sides p n (k + 1)) old old w
      (near_point p k) closed (λ j m d f. less k j d f)

  pub round_end : (k : ℕ) (old : Key → Bool) → n ≤ k → Waits sides left reached ds (LaterFrom ds passed sides p n k) old
      → Waits sides left reached ds (IsAhead ds passed) old
  round_end k old l w = waits_less sides left reached ds (LaterFrom ds passed sides p n k) (IsAhead ds passed) old none w
    where
      none : (i : ℕ) → i < box_count sides → LaterFrom ds passed sides p n k i → IsAhead ds passed i
      none i m (inl a) = a
      none i m (inr (j, a, b, e)) = absurd (omega arith)
