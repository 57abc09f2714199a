-- The first bad line of a summary.
use Rattle.std.proofs.Common.{List, Option, inl, inr}
use Rattle.wf_data.specs.declared.class_info.ClassInfo.{ClassInfo}
use Rattle.wf_inputs.specs.declared.summary.Summary.{Summary}
use Rattle.wf_binding.specs.Validity.{IsBadBlock, IsBadLiteral, IsBadLine, of_block, of_literal, Somewhere}
use Rattle.wf_binding.specs.First.{IsFirst, earlier_of}
use Rattle.wf_binding.specs.declared.first.BadLine.{BadLine}
use Rattle.wf_binding.proofs.Finding.{first_of_two}

pub summary_first : (classes : List ClassInfo) (s : Summary) (a b : Option BadLine) → IsFirst (Somewhere (IsBadBlock classes s.blocks)) a → IsFirst (Somewhere (IsBadLiteral classes s.literals)) b → IsFirst (IsBadLine classes s) (earlier_of a b)
summary_first classes s a b p q = first_of_two (Somewhere (IsBadBlock classes s.blocks)) (Somewhere (IsBadLiteral classes s.literals)) (IsBadLine classes s) a b (record {
  left = λ line w h. of_block h;
  right = λ line w h. of_literal h;
  either = λ line w h. elim h [ of_block x ↦ inl x | of_literal y ↦ inr y ];
}) p q
