use Rattle.std.proofs.lemmas.Result.{err_from_is_err_and}
use Rattle.wf_grammar.specs.Reading.{method_attribute}
use Rattle.wf_classfile.proofs.CodeLaws.{ends}
use Rattle.wf_classfile.proofs.reader.Reader.method_attributes.Goals as goal

pub returns-in_err-attribute : goal.returns-in_err-attribute
returns-in_err-attribute c =
    let p = err_from_is_err_and c.from_residual.result c.from_residual.ensures.1 in
    rw (p.1, p.2) (ends c.in_err-attribute.field-0.0 (method_attribute c.args.pool.now) c.loop.codes c.args.count c.loop.counter c.loop.self.cursor _ c.loop-test.true c.in_err-attribute.ensures c.loop.invariant)
