use Rattle.std.proofs.Common.{◌∙◌, Option, sym, subst}
use Rattle.std.specs.Prelude.{option_map}
use Rattle.wf_base.specs.declared.ids.ClassId.{ClassId}
use Rattle.wf_grammar.specs.ClassFile.{Key}
use Rattle.wf_classes.specs.World.{number}
use Rattle.wf_resolve.specs.Inherited.{FromInterfaces}
use Rattle.wf_resolve.proofs.InterfaceChoice.{chosen, chosen_offer, flags_within, offered_is}
use Rattle.wf_resolve.proofs.methods.of_superinterfaces.Goals as goal

pub returns-in-None-clause-class : goal.returns-in-None-clause-class
returns-in-None-clause-class c =
    let key : Key = (c.args.name.now, c.args.desc.now) in
    let f = c.from_interfaces.result in
    subst (λ (o : Option ClassId). FromInterfaces c.args.classes.now key c.args.c.0 (option_map number o)) (sym c.least_unless_one.ensures ∙ c.in-None.is)
    (chosen c.args.classes.now key c.args.c.0 f.defaults f.least c.from_interfaces.ensures.defaults c.from_interfaces.ensures.least)

pub offered-requires : goal.offered-requires
offered-requires c =
    let key : Key = (c.args.name.now, c.args.desc.now) in
    let f = c.from_interfaces.result in
    let o = chosen_offer c.args.classes.now key c.args.c.0 f.defaults f.least c.in-Some.i c.from_interfaces.ensures.defaults c.from_interfaces.ensures.least (sym c.least_unless_one.ensures ∙ c.in-Some.is) in
    flags_within c.args.classes.now key c.in-Some.i.0 o.flags o.there

pub returns-in-Some-clause-class : goal.returns-in-Some-clause-class
returns-in-Some-clause-class c =
    let key : Key = (c.args.name.now, c.args.desc.now) in
    let f = c.from_interfaces.result in
    let is = sym c.least_unless_one.ensures ∙ c.in-Some.is in
    let o = chosen_offer c.args.classes.now key c.args.c.0 f.defaults f.least c.in-Some.i c.from_interfaces.ensures.defaults c.from_interfaces.ensures.least is in
    let h = subst (λ (o : Option ClassId). FromInterfaces c.args.classes.now key c.args.c.0 (option_map number o)) is
    (chosen c.args.classes.now key c.args.c.0 f.defaults f.least c.from_interfaces.ensures.defaults c.from_interfaces.ensures.least) in
    offered_is c.args.classes.now key c.args.c.0 c.in-Some.i c.offered.result h o c.offered.ensures.class c.offered.ensures.none
