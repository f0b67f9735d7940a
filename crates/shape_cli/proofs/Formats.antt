-- The bytes of a file spell one picture at most or have one fault at most, and not both.
-- The laws of each format stand in `shape_picture`.
use Rattle.std.proofs.Common.{◌≡◌, ℕ, List, [], ◌∷◌}
use Rattle.shape_terms.specs.Pictures.{Picture}
use Rattle.shape_terms.specs.Limits.{most_flat, most_bytes}
use Rattle.shape_picture.specs.Answers.{Format}
use Rattle.shape_picture.specs.declared.fault.PictureFault.{PictureFault}
use Rattle.shape_picture.proofs.AtMostOne as pbm
use Rattle.shape_picture.proofs.VolumeSteps.{not_both_volume, one_volume_fault, one_volume_picture}
use Rattle.shape_cli.specs.Sources.{Source, format_of}

-- a format gives bytes one answer at most
pub record IsFormat (F : Format) : Type 0 where
  pub not_both : (X : Picture) (f : PictureFault) (bytes : List ℕ) → F.spells X bytes → F.has_fault f bytes → ⊥
  pub one_fault : (f g : PictureFault) (bytes : List ℕ) → F.has_fault f bytes → F.has_fault g bytes → g ≡ f
  pub one_picture : (X Y : Picture) (bytes : List ℕ) → F.spells X bytes → F.spells Y bytes → X ≡ Y

pub format_is : (source : Source) → IsFormat (format_of source)
format_is (Source.Pbm file) = record {
  not_both = λ X f bytes s h. pbm.not_both most_flat most_bytes bytes X s.0 f s.1 h;
  one_fault = λ f g bytes p q. pbm.one_fault most_flat most_bytes bytes g f q p;
  one_picture = λ X Y bytes p q. pbm.one_picture most_flat most_bytes bytes X Y p.0 q.0 p.1 q.1;
}
format_is (Source.Raw x y z file) = record {
  not_both = λ X f bytes s h. not_both_volume (x ∷ y ∷ z ∷ []) bytes X f s h;
  one_fault = λ f g bytes p q. one_volume_fault (x ∷ y ∷ z ∷ []) bytes g f q p;
  one_picture = λ X Y bytes p q. one_volume_picture (x ∷ y ∷ z ∷ []) bytes X Y p q;
}
