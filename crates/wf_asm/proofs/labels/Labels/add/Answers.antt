use Rattle.std.proofs.Common.{◌≡◌, is_some, false}
use Rattle.wf_asm.specs.Building.{spot_of}
use Rattle.wf_asm.proofs.LabelLaws.{label_is_added}
use Rattle.wf_asm.proofs.labels.Labels.add.Goals as goal

pub returns : goal.returns
returns c =
    let none : is_some (spot_of c.args.self.now c.args.name.now) ≡ false = cc in
    label_is_added c.args.name c.args.spot c.self.inside.places.entries c.insert.new.self.entries c.args.self.now c.self.view_is none c.in_ok-insert.ensures.entries
