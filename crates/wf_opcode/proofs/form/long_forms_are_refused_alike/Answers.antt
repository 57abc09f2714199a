use Rattle.wf_opcode.proofs.TableLaws.{refused_alike}
use Rattle.wf_opcode.proofs.form.long_forms_are_refused_alike.Goals as goal

pub returns : goal.returns
returns c = refused_alike
