use Rattle.std.proofs.Common.{◌≡◌, Some}
use Rattle.wf_classes.specs.World.{number_in}
use Rattle.wf_subtype.specs.Subtypes.{IsAboveArrays}
use Rattle.wf_subtype.specs.Rows.{Puts, IsClassBit}
use Rattle.wf_subtype.proofs.Collecting.{on_ok}
use Rattle.wf_subtype.proofs.RowBits.{array_classes_put}
use Rattle.wf_subtype.proofs.rows.put_array_classes.Goals as goal

pub returns : goal.returns
returns c =
    let first = c.args.first in
    let b = c.args.b in
    on_ok c.put_class-3.result (Puts c.put_class-2.new.rows c.put_class-3.new.rows (IsClassBit first b (λ d. number_in c.args.above.serializable ≡ Some d))) (Puts c.args.rows.now c.put_class-3.new.rows (IsClassBit first b (IsAboveArrays c.args.classes.now)))
    (array_classes_put c.args.classes.now c.args.above first b c.args.rows.now c.put_class.new.rows c.put_class-2.new.rows c.put_class-3.new.rows c.requires.above c.in_ok-put_class.ensures c.in_ok-put_class-2.ensures) c.put_class-3.ensures
