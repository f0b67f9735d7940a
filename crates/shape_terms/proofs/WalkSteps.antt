-- A walk from stretch to stretch: its beginning, and one more stretch.
-- Stated of the values alone; how the stretches are searched belongs elsewhere.
use Rattle.std.proofs.Common.{◌≡◌, ℕ, ◌+◌, ◌<◌, ◌≤◌, List, [], ◌∷◌, ◌++◌, length, length-append, get_or, map, ap, sym, subst, ◌∙◌, arith}
use Rattle.std.proofs.Math.Seq.{get_or-append_seam}
use Rattle.std.proofs.lemmas.List.{get_or_append_left, get_or-map, get_or_past, length-map, map-append}
use Rattle.std.proofs.lemmas.List.Elements.{All-push}
use native.Mathlib.Decide.{dec_lt, dec_le}
use Rattle.shape_terms.specs.Points.{Point}
use Rattle.shape_terms.specs.Covers.{Stretch, arc}
use Rattle.shape_terms.specs.RunWalks.{WalkKind, IsStart, IsLongest, IsFollowedBy, IsWalk, stretch_of_walk}

module _ {F : Type 0} (k : WalkKind F) where
  pub length-stretches : (found : List F) → length (map k.stretch found) ≡ length found
  length-stretches found = length-map found k.stretch

  pub walk_found : (found : List F) (now : Stretch) (i : ℕ) (d : F) → i < length found → stretch_of_walk k found now i ≡ k.stretch (get_or found i d)
  walk_found found now i d l = get_or-map k.stretch found i d now l

  pub walk_now : (found : List F) (now : Stretch) (i : ℕ) → length found ≤ i → stretch_of_walk k found now i ≡ now
  walk_now found now i l = get_or_past (map k.stretch found) i now (omega (arith, length-stretches found))

  pub walk_begins : (path : List Point) (now : Stretch) → IsStart k.Straight path now → IsLongest k.Straight path now
      → IsWalk k path [] now (now.first + length path)
  walk_begins path now s h = record {
    start = s;
    comes = λ i. now.first + length path;
    before = λ i d l. absurd (omega arith);
    held = λ i d l. absurd (omega arith);
    longest = λ i l. h;
    followed = λ i d l. absurd (omega arith);
    near = omega arith;
  }

  module _ (path : List Point) (found : List F) (f : F) (next : Stretch) (round : ℕ) where
    old : (i : ℕ) (d : F) → i < length found → get_or (found ++ f ∷ []) i d ≡ get_or found i d
    old i d l = get_or_append_left found (f ∷ []) d i l

    new : (i : ℕ) (d : F) → i ≡ length found → get_or (found ++ f ∷ []) i d ≡ f
    new i d e = ap (λ j. get_or (found ++ f ∷ []) j d) e ∙ get_or-append_seam found f [] d

    more : length (found ++ f ∷ []) ≡ length found + 1
    more = length-append found (f ∷ [])

    -- the stretches of the walk stay where they were
    same : (i : ℕ) → i ≤ length found → stretch_of_walk k found (k.stretch f) i ≡ stretch_of_walk k (found ++ f ∷ []) next i
    same i l = elim (dec_lt i (length found)) [
      | yes b ↦ walk_found found (k.stretch f) i f b ∙ sym (walk_found (found ++ f ∷ []) next i f (omega (arith, more)) ∙ ap k.stretch (old i f b))
      | no b ↦ walk_now found (k.stretch f) i (omega arith)
          ∙ sym (walk_found (found ++ f ∷ []) next i f (omega (arith, more)) ∙ ap k.stretch (new i f (omega arith)))
    ]

    last : (i : ℕ) → length found < i → next ≡ stretch_of_walk k (found ++ f ∷ []) next i
    last i l = sym (walk_now (found ++ f ∷ []) next i (omega (arith, more)))

    -- the walk goes on to the next stretch
    walk_more : IsWalk k path found (k.stretch f) round → (k.stretch f).first < round → (k.stretch f).last < (k.stretch f).first + length path
        → k.Holds f (arc path (k.stretch f).first (k.stretch f).last)
        → IsFollowedBy k path f next → IsLongest k.Straight path next → IsWalk k path (found ++ f ∷ []) next round
    walk_more w low short held followed h = record {
      start = subst (IsStart k.Straight path) (same 0 (omega arith)) w.start;
      comes = subst (λ (s : Stretch). s.first + length path ≡ round) (same 0 (omega arith)) w.comes;
      before = All-push (λ g. (k.stretch g).first < round) found f w.before low;
      held = All-push (λ g. k.Holds g (arc path (k.stretch g).first (k.stretch g).last)) found f w.held held;
      longest = λ i l. elim (dec_le i (length found)) [
        | yes b ↦ subst (IsLongest k.Straight path) (same i b) (w.longest i b)
        | no b ↦ subst (IsLongest k.Straight path) (last i (omega arith)) h
      ];
      followed = λ i d l. elim (dec_lt i (length found)) [
        | yes b ↦ subst (λ g. IsFollowedBy k path g (stretch_of_walk k (found ++ f ∷ []) next (i + 1))) (sym (old i d b))
            (subst (IsFollowedBy k path (get_or found i d)) (same (i + 1) (omega arith)) (w.followed i d b))
        | no b ↦ subst (λ g. IsFollowedBy k path g (stretch_of_walk k (found ++ f ∷ []) next (i + 1))) (sym (new i d (omega (arith, more))))
            (subst (IsFollowedBy k path f) (last (i + 1) (omega arith)) followed)
      ];
      near = (let n = followed.near in omega arith);
    }

  -- the same where a program keeps entries, each of which tells what was found
  module _ {E : Type 0} (told : E → F) (path : List Point) (entries : List E) (e : E) (now next : Stretch) (round : ℕ) where
    pub walk_goes_on : IsWalk k path (map told entries) now round → k.stretch (told e) ≡ now → now.first < round → now.last < now.first + length path
        → k.Holds (told e) (arc path now.first now.last)
        → IsFollowedBy k path (told e) next → IsLongest k.Straight path next → IsWalk k path (map told (entries ++ e ∷ [])) next round
    walk_goes_on w same low short held followed h =
        subst (λ l. IsWalk k path l next round) (sym (map-append told entries (e ∷ [])))
        (subst (λ (s : Stretch). IsWalk k path (map told entries) s round → s.first < round → s.last < s.first + length path
        → k.Holds (told e) (arc path s.first s.last) → IsWalk k path (map told entries ++ told e ∷ []) next round)
        same (λ w l s r. walk_more path (map told entries) (told e) next round w l s r followed h) w low short held)
