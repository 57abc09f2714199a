use Rattle.std.proofs.Common.{sym, subst}
use Rattle.wf_linking.specs.Linking.{Links}
use Rattle.wf_linking.specs.Symbolic.{symbolic_by}
use Rattle.wf_linking.specs.declared.symbolic.SymbolicRef.{SymbolicRef}
use Rattle.wf_linking.proofs.linked.link.Goals as goal

pub returns-in-StringConstant-clause-is : goal.returns-in-StringConstant-clause-is
returns-in-StringConstant-clause-is c = subst (λ (s : SymbolicRef). Links c.args.classes.now (symbolic_by s) c.link_string.result) (sym c.in-StringConstant.is) c.link_string.ensures.is

pub returns-in-ClassConstant-clause-is : goal.returns-in-ClassConstant-clause-is
returns-in-ClassConstant-clause-is c = subst (λ (s : SymbolicRef). Links c.args.classes.now (symbolic_by s) c.link_class.result) (sym c.in-ClassConstant.is) c.link_class.ensures.is

pub returns-in-NewObject-clause-is : goal.returns-in-NewObject-clause-is
returns-in-NewObject-clause-is c = subst (λ (s : SymbolicRef). Links c.args.classes.now (symbolic_by s) c.link_new.result) (sym c.in-NewObject.is) c.link_new.ensures.is

pub returns-in-TypeName-clause-is : goal.returns-in-TypeName-clause-is
returns-in-TypeName-clause-is c = subst (λ (s : SymbolicRef). Links c.args.classes.now (symbolic_by s) c.link_type.result) (sym c.in-TypeName.is) c.link_type.ensures.is

pub returns-in-FieldName-clause-is : goal.returns-in-FieldName-clause-is
returns-in-FieldName-clause-is c = subst (λ (s : SymbolicRef). Links c.args.classes.now (symbolic_by s) c.link_field.result) (sym c.in-FieldName.is) c.link_field.ensures.is

pub returns-in-MethodName-clause-is : goal.returns-in-MethodName-clause-is
returns-in-MethodName-clause-is c = subst (λ (s : SymbolicRef). Links c.args.classes.now (symbolic_by s) c.link_method.result) (sym c.in-MethodName.is) c.link_method.ensures.is
