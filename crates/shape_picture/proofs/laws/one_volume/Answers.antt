use Rattle.shape_picture.proofs.VolumeSteps.{some_volume, not_both_volume, one_volume_picture, one_volume_fault, volume_point}
use Rattle.shape_picture.proofs.laws.one_volume.Goals as goal

pub returns : goal.returns
returns c = record {
  some = some_volume;
  not_both = not_both_volume;
  one_picture = one_volume_picture;
  one_fault = one_volume_fault;
  points = volume_point;
}
