-- The word for a kind of picture is a word of three letters.
use Rattle.std.proofs.Common.{◌≡◌, ℕ, zero, suc, length, refl}
use Rattle.std.specs.Prelude.{codes}
use Rattle.text_terms.specs.Forms.{IsWord}
use Rattle.text_terms.specs.PictureKinds.{kind_word}
use Rattle.text_terms.proofs.TableLaws.{literal}

pub word_kind : (d : ℕ) → IsWord (kind_word d)
word_kind zero = literal (codes "raw") refl
word_kind (suc zero) = literal (codes "raw") refl
word_kind (suc (suc zero)) = literal (codes "pbm") refl
word_kind (suc (suc (suc d))) = literal (codes "raw") refl

pub kind_short : (d : ℕ) → length (kind_word d) ≡ 3
kind_short zero = refl
kind_short (suc zero) = refl
kind_short (suc (suc zero)) = refl
kind_short (suc (suc (suc d))) = refl
