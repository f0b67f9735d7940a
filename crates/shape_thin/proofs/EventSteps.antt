-- The list of the events while it grows, and as it is kept.
-- Laws over lists; what an event does stands in `ThinnerSteps`.
use Rattle.std.proofs.Common.{◌≡◌, ℕ, ◌<◌, Bool, true, false, List, [], ◌∷◌, ◌++◌, length, set, get_or, sym, ◌∙◌, ap, subst, arith}
use Rattle.std.specs.Prelude.{Some, slice_get, slice_index}
use Rattle.std.proofs.lemmas.List.{map-append, length_push, length-set, get_or_append_left, get_or_push, get_or-set_same, get_or-set_other, ext_get_or}
use Rattle.std.proofs.lemmas.List.FromFn.{length-map-range_with_len, get_or-map-range_with_len}
use Rattle.std.proofs.lemmas.Option.{slice_get-get_or}
use native.Mathlib.Decide.{ℕ_discrete}
use Rattle.shape_terms.specs.Points.{Point, raster_point}
use Rattle.shape_queue.specs.Events.{event_by}
use Rattle.shape_thin.specs.declared.events.Done.{Done}
use Rattle.shape_thin.specs.EventLists.{EventList, all_done, AreKept, events_at}

pub events_push : (sides : List ℕ) (done : List Done) (i : ℕ) (m : Bool) (q : Point) → q ≡ raster_point sides i
    → events_at sides (done ++ record { place = i; tips = m } ∷ []) ≡ events_at sides done ++ event_by m q ∷ []
events_push sides done i m q e = map-append (λ (d : Done). event_by d.tips (raster_point sides d.place)) done (record { place = i; tips = m } ∷ []) ∙
    ap (λ r. events_at sides done ++ event_by m r ∷ []) (sym e)

-- ---- the list as it is kept

abbrev nothing : Done
nothing = record { place = 0; tips = false }

abbrev done_at : List ℕ → List Bool → ℕ → Done
done_at places tips i = record { place = slice_index places i; tips = get_or tips i false }

pub length-done : (places : List ℕ) (tips : List Bool) → length (all_done places tips) ≡ length places
length-done places tips = length-map-range_with_len (done_at places tips) 0 (length places)

done_is : (places : List ℕ) (tips : List Bool) (i : ℕ) → i < length places → get_or (all_done places tips) i nothing ≡ done_at places tips i
done_is places tips i l = get_or-map-range_with_len (done_at places tips) 0 (length places) i i nothing l (omega arith)

-- what is read at a place of the list
pub done_read : (places : List ℕ) (tips : List Bool) (e : EventList) → record { done = all_done places tips; room = length tips } ≡ e
    → (i p : ℕ) (t : Bool) → i < length places
    → p ≡ slice_index places i → t ≡ get_or tips i false → slice_get e.done i ≡ Some (record { place = p; tips = t })
done_read places tips e is i p t l a b = subst (λ (e : EventList). slice_get e.done i ≡ Some (record { place = p; tips = t })) is (
    slice_get-get_or (all_done places tips) i nothing (let n = length-done places tips in omega (arith, l, n))
    ∙ ap Some (done_is places tips i l ∙ ap (λ p. record { place = p; tips = get_or tips i false }) (sym a) ∙ ap (λ t. record { place = p; tips = t }) (sym b)))

-- a place more, and its value
module _ (places : List ℕ) (tips tips' : List Bool) (place : ℕ) (tip : Bool) (same : (i : ℕ) → i < length places → get_or tips' i false ≡ get_or tips i false)
    (here : get_or tips' (length places) false ≡ tip) where
  abbrev longer : List ℕ
  longer = places ++ place ∷ []

  grown_long : length (all_done longer tips') ≡ length (all_done places tips ++ record { place = place; tips = tip } ∷ [])
  grown_long =
      let a = length-done longer tips' in
      let b = length_push places place in
      let c = length-done places tips in
      let d = length_push (all_done places tips) (record { place = place; tips = tip }) in
      omega (arith, a, b, c, d)

  pub done_push : all_done longer tips' ≡ all_done places tips ++ record { place = place; tips = tip } ∷ []
  done_push = ext_get_or nothing (all_done longer tips') (all_done places tips ++ record { place = place; tips = tip } ∷ []) grown_long (λ i l.
      let n = length-done longer tips' in
      let m = length_push places place in
      let k = length-done places tips in
      let inside : i < length longer = omega (arith, l, n) in
      done_is longer tips' i inside ∙ elim (ℕ_discrete i (length places)) [
        | yes e ↦ (
            ap (λ p. record { place = p; tips = get_or tips' i false }) (get_or_push places place 0 i (sym e))
            ∙ ap (λ t. record { place = place; tips = t }) (ap (λ i. get_or tips' i false) e ∙ here)
            ∙ sym (get_or_push (all_done places tips) (record { place = place; tips = tip }) nothing i (k ∙ sym e)))
        | no d ↦ (
            let before : i < length places = omega (arith, inside, m, d) in
            ap (λ p. record { place = p; tips = get_or tips' i false }) (get_or_append_left places (place ∷ []) 0 i before)
            ∙ ap (λ t. record { place = slice_index places i; tips = t }) (same i before)
            ∙ sym (done_is places tips i before)
            ∙ sym (get_or_append_left (all_done places tips) (record { place = place; tips = tip } ∷ []) nothing i (omega (arith, before, k))))
      ])

module _ (places : List ℕ) (tips : List Bool) (h : AreKept places tips) (room : length places < length tips) (place : ℕ) where
  -- the point of the place is deleted
  pub deleted_kept : AreKept (places ++ place ∷ []) tips
  deleted_kept = let m = length_push places place in record { few = h.few; room = omega arith; rest = λ i l. h.rest i (omega arith) }

  pub deleted_done : all_done (places ++ place ∷ []) tips ≡ all_done places tips ++ record { place = place; tips = false } ∷ []
  deleted_done = done_push places tips tips place false (λ i l j. get_or tips i false) (h.rest (length places) (omega arith))

  -- or marked
  pub marked_kept : AreKept (places ++ place ∷ []) (set tips (length places) true)
  marked_kept =
      let m = length_push places place in
      let n = length-set tips (length places) true in
      record {
        few = (let f = h.few in omega arith);
        room = omega arith;
        rest = λ i l. get_or-set_other tips (length places) i true false (λ e. omega arith) ∙ h.rest i (omega arith);
      }

  pub marked_done : all_done (places ++ place ∷ []) (set tips (length places) true) ≡ all_done places tips ++ record { place = place; tips = true } ∷ []
  marked_done = done_push places tips (set tips (length places) true) place true
      (λ i l. get_or-set_other tips (length places) i true false (λ e. omega arith)) (get_or-set_same tips (length places) true false room)
