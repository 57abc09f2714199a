use Rattle.std.proofs.Common.{◌≡◌, List, Bool, subst, Ok, Err, refl}
use Rattle.wf_names.specs.Members.{named_by}
use Rattle.wf_names.specs.declared.member.MemberName.{MemberName}
use Rattle.wf_data.specs.declared.class_info.ClassInfo.{ClassInfo}
use Rattle.wf_resolve.specs.declared.instructions.Calling.{Calling}
use Rattle.wf_linking.specs.Linking.{Links}
use Rattle.wf_linking.specs.Linking.Links.{method}
use Rattle.wf_linking.specs.Symbolic.{MethodName}
use Rattle.wf_linking.specs.declared.linked.Linked.{Linked}
use Rattle.wf_linking.specs.declared.linked.Linked.TheVariants as linked
use Rattle.wf_linking.specs.declared.linked.LinkedMethod.{LinkedMethod}
use Rattle.wf_links.specs.Callees.IsCalleeNamed.{unresolved, resolved, no_target}
use Rattle.wf_links.proofs.callee.callee_named.Goals as goal

-- the name of a method resolves to a method
is_method : (classes : List ClassInfo) (how : Calling) (of_interface : Bool) (m : MemberName) (x : Linked) → Links classes (MethodName how of_interface m) (Ok x) → (l : LinkedMethod) × (x ≡ linked.Method l)
is_method classes how of_interface m x (method h o k n c d info f w i) = (record { named = c; class = d; method = n }, refl)

pub returns-in-Err-clause-is : goal.returns-in-Err-clause-is
returns-in-Err-clause-is c =
    let name = MethodName c.args.call c.args.of_interface (named_by c.args.member.now) in
    unresolved c.in-Err.field-0 (subst (λ ks. Links ks name (Err c.in-Err.field-0)) c.classes.ensures c.in-Err.ensures.is)

pub returns-in_ok-u-in-Method-clause-is : goal.returns-in_ok-u-in-Method-clause-is
returns-in_ok-u-in-Method-clause-is c =
    let name = MethodName c.args.call c.args.of_interface (named_by c.args.member.now) in
    let links = subst (λ ks. Links ks name (Ok c.in-Ok.linked)) c.classes.ensures c.in-Ok.ensures.is in
    resolved c.in-Method.resolved c.in_ok-u-in-Method.u.0 c.callee_of.result (subst (λ x. Links c.args.types.now.classes name (Ok x)) c.in-Method.is links) c.in_ok-u-in-Method.ensures.found c.callee_of.ensures.is

pub returns-in_err-u-in-Method-clause-is : goal.returns-in_err-u-in-Method-clause-is
returns-in_err-u-in-Method-clause-is c =
    let name = MethodName c.args.call c.args.of_interface (named_by c.args.member.now) in
    let links = subst (λ ks. Links ks name (Ok c.in-Ok.linked)) c.classes.ensures c.in-Ok.ensures.is in
    rw c.from_residual.ensures (no_target c.in-Method.resolved (subst (λ x. Links c.args.types.now.classes name (Ok x)) c.in-Method.is links) c.in_err-u-in-Method.ensures.found)

pub returns-in_default : goal.returns-in_default
returns-in_default c =
    let at = is_method c.classes.result.now c.args.call c.args.of_interface (named_by c.args.member.now) c.in-Ok.linked c.in-Ok.ensures.is in
    absurd (c.in_default.not-Method at.0 at.1)
