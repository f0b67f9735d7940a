-- No two lines have the same spelling, no word of a line has a blank, and no line is too long.
-- Each follows from the laws of tables, and none has a clause for a kind.
use Rattle.std.proofs.Common.{◌≡◌, ◌≤◌, ◌<◌, ℕ, length, refl, ap, sym, subst, ◌∙◌}
use Rattle.std.specs.List.{AllByRecursion, join_with_byte}
use Rattle.shape_terms.specs.Covers.{Evidence}
use Rattle.report_terms.specs.Kinds.{Split, split_words, table}
use Rattle.report_terms.specs.Lines.{Line, split, joined, IsLineOf, line_words, spelling, spelled}
use Rattle.text_terms.specs.Forms.{IsWord}
use Rattle.text_terms.specs.Spellings.{IsSpelled}
use Rattle.text_terms.proofs.WordLists.{join_injective}
use Rattle.text_terms.proofs.TableLaws.{past_join, split_injective, words_of_split, split_short}
use Rattle.report_terms.proofs.LineLaws.{is_table, is_roomy}

-- a line is known from its kind and its fields
joined_split : (l : Line) → joined (split l).kind (split l).fields ≡ l
joined_split (Line.Shape h) = refl
joined_split (Line.Gap t (Evidence.Turned i j)) = refl
joined_split (Line.Gap t (Evidence.Cut why)) = refl
joined_split _ = refl

-- the words of a line are those of its fields, for as many axes as the picture has
pub same_words : (d : ℕ) (l : Line) → IsLineOf d l → split_words d (split l) ≡ line_words l
same_words d (Line.Shape h) a = let e = sym a.1.0.axes in rw e refl
same_words d (Line.Gap t (Evidence.Turned i j)) a = refl
same_words d (Line.Gap t (Evidence.Cut why)) a = refl
same_words d _ a = refl

-- no word of a line has a blank
pub words_of_line : (d : ℕ) (l : Line) → IsLineOf d l → AllByRecursion IsWord (line_words l)
words_of_line d l a = subst (AllByRecursion IsWord) (same_words d l a) (words_of_split (table d) (is_table d) (split l) a)

-- no two lines have the same spelling
pub spelling_injective : (d : ℕ) (l m : Line) → IsLineOf d l → IsLineOf d m → spelling l ≡ spelling m → l ≡ m
spelling_injective d l m a b e =
    let words = join_injective (line_words l) (line_words m) (words_of_line d l a) (words_of_line d m b) e in
    let same = split_injective (table d) (is_table d) (split l) (split m) a b (same_words d l a ∙ words ∙ sym (same_words d m b)) in
    sym (joined_split l) ∙ ap (λ (s : Split). joined s.kind s.fields) same ∙ joined_split m

-- no line of a report of two or three axes is longer than 1024 bytes
pub short_line : (d : ℕ) (l : Line) → d ≤ 3 → IsLineOf d l → length (spelling l) ≤ 1024
short_line d l h a = subst (λ ws. length (join_with_byte 32 ws) ≤ 1024) (same_words d l a) (split_short (table d) (is_table d) (is_roomy d h) (split l) a)

-- no byte of a line's spelling is LF or below it
spelling_past : (d : ℕ) (l : Line) → IsLineOf d l → AllByRecursion (λ c. 10 < c) (spelling l)
spelling_past d l a = past_join (line_words l) (words_of_line d l a)

-- so the laws of all texts hold of these lines
pub are_spelled : (d : ℕ) → IsSpelled (spelled d)
are_spelled d = record { one = spelling_injective d; clean = spelling_past d }
