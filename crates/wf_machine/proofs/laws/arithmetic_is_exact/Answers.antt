use Rattle.std.proofs.lemmas.Int.{wrapping_add_is, wrapping_sub_is, wrapping_mul_is, wrapping_neg_is}
use Rattle.std.proofs.Common.{Some, ap}
use Rattle.wf_machine.proofs.ArithmeticLaws.{left_is, right_is, quotient_is, remainder_is, no_quotient, no_remainder, least_int, least_long}
use Rattle.wf_machine.proofs.laws.arithmetic_is_exact.Goals as goal

pub returns : goal.returns
returns c = record {
  sum = λ w a b f g. ap Some (wrapping_add_is w a b f g);
  difference = λ w a b f g. ap Some (wrapping_sub_is w a b f g);
  product = λ w a b f g. ap Some (wrapping_mul_is w a b f g);
  quotient = quotient_is;
  remainder = remainder_is;
  no_quotient = no_quotient;
  no_remainder = no_remainder;
  least_int = least_int;
  least_long = least_long;
  negation = wrapping_neg_is;
  left = left_is;
  right = right_is;
}
