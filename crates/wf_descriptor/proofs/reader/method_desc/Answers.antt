use Rattle.std.proofs.Common.{ap, ◌∙◌}
use Rattle.wf_descriptor.specs.Descriptors.{return_desc}
use Rattle.wf_descriptor.proofs.DescriptorValues.{closed_some, closed}
use Rattle.wf_descriptor.proofs.reader.method_desc.Goals as goal

pub return_desc-requires : goal.return_desc-requires
return_desc-requires c = rw c.behind_first.ensures (closed_some 255 c.args.bytes.now c.loop-rest.params.items c.loop-rest.rest.now c.requires c.loop-rest.invariant c.loop-rest-test.false)

pub returns : goal.returns
returns c = rw c.from_vec.ensures (closed 255 c.args.bytes.now c.loop-rest.params.items c.loop-rest.rest.now c.in_ok-ret.ret c.requires c.loop-rest.invariant c.loop-rest-test.false
    (c.in_ok-ret.ensures ∙ ap return_desc c.behind_first.ensures))
