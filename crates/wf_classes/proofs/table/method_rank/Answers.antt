use Rattle.std.proofs.Common.{sym, map, rules, arith}
use Rattle.std.proofs.lemmas.Fn.{always_returns_same}
use Rattle.wf_grammar.specs.ClassFile.{Key}
use Rattle.wf_classes.specs.Members.{key_cmp, method_key}
use Rattle.wf_classes.specs.Links.{key_at}
use Rattle.wf_classes.specs.declared.members.MemberPlace.{MemberPlace}
use Rattle.wf_classes.proofs.Tables.{found_in_class, none_in_class}
use Rattle.wf_classes.proofs.table.method_rank.Goals as goal

pub overflow_cast-result : goal.overflow_cast-result
overflow_cast-result c = omega (arith, c.in-Ok.ensures.bound)

pub returns-in-Ok-clause-rank : goal.returns-in-Ok-clause-rank
returns-in-Ok-clause-rank c d h =
    let keys = map method_key c.args.methods.now in
    let key : Key = (c.args.name.now, c.args.desc.now) in
    sym (found_in_class keys d c.args.places.now key c.in-Ok.rank h c.in-Ok.ensures.bound
    (c.in-Ok.ensures.position (λ (p : MemberPlace). key_cmp (key_at keys p) key) (always_returns_same _ _ _ (λ a r g e. search rules))))

pub returns-in-Err-clause-rank : goal.returns-in-Err-clause-rank
returns-in-Err-clause-rank c d h =
    let keys = map method_key c.args.methods.now in
    let key : Key = (c.args.name.now, c.args.desc.now) in
    sym (none_in_class keys d c.args.places.now key c.in-Err.field-0 h
    (c.in-Err.ensures.position (λ (p : MemberPlace). key_cmp (key_at keys p) key) (always_returns_same _ _ _ (λ a r g e. search rules))))
