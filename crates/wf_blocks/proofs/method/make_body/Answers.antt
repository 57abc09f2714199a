use Rattle.std.proofs.Common.{◌≡◌, length, ap, arith}
use Rattle.std.proofs.lemmas.List.{length-append}
use Rattle.wf_blocks.specs.Methods.{receiver_slots, param_slots}
use Rattle.wf_blocks.proofs.MethodLemmas.{params_few}
use Rattle.wf_blocks.proofs.method.make_body.Goals as goal

pub entry_numbers-requires : goal.entry_numbers-requires
entry_numbers-requires c =
    omega (
      arith,
      ap length c.in_ok-slots.ensures,
      length-append (receiver_slots c.args.is_static) (param_slots c.as_slice.result.now),
      params_few c.as_slice.result.now,
      ap length c.as_slice.ensures,
      c.len.ensures,
      c.if-len-locals.false,
    )
