use Rattle.wf_classfile.proofs.CodeLaws.{leave}
use Rattle.wf_classfile.proofs.reader.Reader.only_code.Goals as goal

pub returns : goal.returns
returns c = leave c.args.is_without _ c.in_ok-codes.codes _ _ c.in_ok-codes.ensures c.only.ensures
