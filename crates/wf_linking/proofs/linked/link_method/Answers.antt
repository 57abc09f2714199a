use Rattle.std.proofs.Common.{◌≡◌, ℕ, Bool, true, false, List, None, Err, sym}
use Rattle.wf_data.specs.declared.class_info.ClassInfo.{ClassInfo}
use Rattle.wf_grammar.specs.ClassFile.{Key}
use Rattle.wf_names.specs.Members.{named_by}
use Rattle.wf_names.specs.declared.world.LinkError.TheVariants.{NoClassDefFound}
use Rattle.wf_resolve.specs.Instructions.{MethodBy, unresolved}
use Rattle.wf_resolve.specs.Resolution.{class_with, no_class}
use Rattle.wf_linking.specs.Linking.{method, no_method}
use Rattle.wf_linking.proofs.linked.link_method.Goals as goal

-- a class that isn't loadable has no methods, of either kind
missing : (classes : List ClassInfo) (w : Bool) (class : List ℕ) (key : Key) → class_with classes class ≡ None → MethodBy classes w class key (Err NoClassDefFound)
missing classes false class key e = no_class e
missing classes true class key e = no_class e

pub returns-in-None-clause-is : goal.returns-in-None-clause-is
returns-in-None-clause-is c =
    let m = named_by c.args.member.now in
    no_method c.args.call c.args.of_interface m NoClassDefFound (unresolved NoClassDefFound (missing c.args.classes.now c.args.of_interface m.class (m.name, m.desc) (sym c.in-None.ensures.number)))

pub returns-in-Ok-clause-is : goal.returns-in-Ok-clause-is
returns-in-Ok-clause-is c = method c.args.call c.args.of_interface (named_by c.args.member.now) c.in-Ok.method c.in-Some.c c.declared_method.result.class c.declared_method.result.info.now c.in-Ok.ensures.is (sym c.in-Some.ensures.number) c.declared_method.ensures.is

pub returns-in-Err-clause-is : goal.returns-in-Err-clause-is
returns-in-Err-clause-is c = no_method c.args.call c.args.of_interface (named_by c.args.member.now) c.in-Err.error c.in-Err.ensures.is
