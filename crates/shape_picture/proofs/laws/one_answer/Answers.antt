use Rattle.shape_picture.proofs.AtMostOne.{one_picture, one_length, not_both, one_fault}
use Rattle.shape_picture.proofs.SomeAnswer.{some_answer}
use Rattle.shape_picture.proofs.laws.one_answer.Goals as goal

pub returns : goal.returns
returns c = record {
  some = some_answer;
  not_both = not_both;
  one_picture = λ limit longest bytes X Y m n p q. (one_picture limit longest bytes X Y m n p q, one_length limit longest bytes X Y m n p q);
  one_fault = one_fault;
}
