use Rattle.std.proofs.Common.{◌≡◌, not, Some, sym, ap, subst, ◌∙◌}
use Rattle.wf_classfile.specs.Met.{AreNumbers}
use Rattle.wf_classfile.specs.Numbers.{number_in}
use Rattle.wf_classfile.proofs.MemberLaws.{numbers_after, are_numbers, own_key, keys_after, met_by_number}
use Rattle.wf_classfile.proofs.members.Members.insert.Goals as goal

pub invariant_of-self : goal.invariant_of-self
invariant_of-self c = (c.self.invariant.0, subst (AreNumbers c.self.inside.texts.pool c.self.inside.texts.numbers) (sym c.in_err-is_new.ensures.err) c.self.invariant.1)

pub invariant_of-self-2 : goal.invariant_of-self-2
invariant_of-self-2 c =
    let pool = c.self.inside.texts.pool in
    let numbers = c.self.inside.texts.numbers in
    let name : number_in numbers c.args.name.now.known ≡ Some c.args.name.now.number = rw (← c.self.view_is) at c.requires.name in
    let desc : number_in numbers c.args.desc.now.known ≡ Some c.args.desc.now.number = rw (← c.self.view_is) at c.requires.desc in
    let both = are_numbers pool numbers c.args.name.now.known c.args.desc.now.known c.args.name.now.number c.args.desc.now.number c.self.invariant.0 name desc in
    (c.self.invariant.0, numbers_after pool numbers c.self.inside.met c.insert.new.self (c.args.name.now.number, c.args.desc.now.number) c.in_ok-is_new.is_new c.in_ok-is_new.ensures.pairs both c.self.invariant.1)

pub returns-clause-added : goal.returns-clause-added
returns-clause-added c =
    let pool = c.self.inside.texts.pool in
    let numbers = c.self.inside.texts.numbers in
    let name : number_in numbers c.args.name.now.known ≡ Some c.args.name.now.number = rw (← c.self.view_is) at c.requires.name in
    let desc : number_in numbers c.args.desc.now.known ≡ Some c.args.desc.now.number = rw (← c.self.view_is) at c.requires.desc in
    let found = met_by_number pool numbers c.args.name.now.known c.args.desc.now.known c.args.name.now.number c.args.desc.now.number c.self.inside.met c.self.invariant.0 name desc c.self.invariant.1 in
    rw (← c.self.view_is) (c.in_ok-is_new.ensures.added ∙ ap not (sym found))

pub returns-clause-keys : goal.returns-clause-keys
returns-clause-keys c =
    let pool = c.self.inside.texts.pool in
    let numbers = c.self.inside.texts.numbers in
    let name : number_in numbers c.args.name.now.known ≡ Some c.args.name.now.number = rw (← c.self.view_is) at c.requires.name in
    let desc : number_in numbers c.args.desc.now.known ≡ Some c.args.desc.now.number = rw (← c.self.view_is) at c.requires.desc in
    let key = own_key pool numbers c.args.name.now.known c.args.desc.now.known c.args.name.now.number c.args.desc.now.number c.self.invariant.0 name desc in
    rw (← c.self.view_is) (keys_after pool c.self.inside.met c.insert.new.self (c.args.name.now.number, c.args.desc.now.number) (c.args.name.now.known, c.args.desc.now.known) c.in_ok-is_new.is_new c.in_ok-is_new.ensures.pairs key)
