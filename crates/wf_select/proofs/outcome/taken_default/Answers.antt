use Rattle.std.proofs.Common.{sym, subst}
use Rattle.wf_classes.specs.World.{number}
use Rattle.wf_resolve.specs.Inherited.{AreDefaults, IsDefault}
use Rattle.wf_resolve.specs.declared.superinterfaces.Defaults.{Defaults}
use Rattle.wf_select.specs.Selection.{by_default, no_default, many_defaults}
use Rattle.wf_select.proofs.outcome.taken_default.Goals as goal

pub returns-in-Nothing : goal.returns-in-Nothing
returns-in-Nothing c = no_default (subst (λ (d : Defaults). AreDefaults (IsDefault c.args.classes.now (c.args.name.now, c.args.desc.now) c.args.c.0) d) c.in-Nothing.is c.from_interfaces.ensures.defaults)

pub returns-in-Many : goal.returns-in-Many
returns-in-Many c = many_defaults (subst (λ (d : Defaults). AreDefaults (IsDefault c.args.classes.now (c.args.name.now, c.args.desc.now) c.args.c.0) d) c.in-Many.is c.from_interfaces.ensures.defaults)

pub returns-in-Some : goal.returns-in-Some
returns-in-Some c = by_default (number c.in-One.i) c.in-Some.method.id (subst (λ (d : Defaults). AreDefaults (IsDefault c.args.classes.now (c.args.name.now, c.args.desc.now) c.args.c.0) d) c.in-One.is c.from_interfaces.ensures.defaults) (sym c.in-Some.ensures.number)
