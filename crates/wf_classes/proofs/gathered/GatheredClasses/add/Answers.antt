use Rattle.std.proofs.Common.{◌<◌, ◌≤◌, List, ◌-◌, length, sym, subst}
use Rattle.wf_data.specs.declared.class_info.ClassInfo.{ClassInfo}
use Rattle.wf_classes.specs.Gathering.{Gathering, IsNew, AreGathered}
use Rattle.wf_classes.proofs.GatherLaws.{one_gathered}
use Rattle.wf_classes.proofs.gathered.GatheredClasses.add.Goals as goal

pub invariant_of-self : goal.invariant_of-self
invariant_of-self c =
    let classes : List ClassInfo = c.self.inside.classes in
    let few : length classes < 65536 = subst (λ (g : Gathering). length g.classes < 65536) (sym c.self.view_is) c.requires.few in
    let room : length c.args.bytes.now ≤ c.self.inside.left = subst (λ (g : Gathering). length c.args.bytes.now ≤ g.left) (sym c.self.view_is) c.requires.room in
    let new : IsNew classes c.args.class.name = subst (λ (g : Gathering). IsNew g.classes c.args.class.name) (sym c.self.view_is) c.requires.new in
    subst (λ (all : List ClassInfo). AreGathered all (c.self.inside.left - length c.args.bytes.now)) (sym c.in-Ok.ensures.ok)
    (one_gathered classes c.self.inside.left c.args.bytes.now c.args.class c.self.invariant c.requires.spelled few room new)
