use Rattle.std.proofs.Common.{◌≡◌, ℕ, ◌<◌, List, length, get_or, Option, Some, None, sym}
use Rattle.std.specs.Prelude.{IfSome}
use Rattle.wf_base.specs.declared.ids.ClassId.{ClassId}
use Rattle.wf_data.specs.declared.class_info.ClassInfo.{ClassInfo}
use Rattle.wf_classes.specs.Above.{superclass}
use Rattle.wf_classes.specs.World.{AreHeights, number, number_in, superclass_of}
use Rattle.wf_resolve.proofs.Ranks.{is_lower}
use Rattle.wf_resolve.proofs.upward.superclass_below.Goals as goal

there : (classes : List ClassInfo) (order heights : List ℕ) (c : ℕ) (o : Option ClassId) → AreHeights classes order heights → c < length classes → number_in o ≡ superclass_of classes c → IfSome o (λ s. number s < length classes)
there classes order heights c None r k e = tt
there classes order heights c (Some s) r k e = (is_lower classes order heights c (number s) r k (superclass (number s) (sym e))).there

lower : (classes : List ClassInfo) (order heights : List ℕ) (c : ℕ) (o : Option ClassId) → AreHeights classes order heights → c < length classes → number_in o ≡ superclass_of classes c → IfSome o (λ s. get_or heights (number s) 0 < get_or heights c 0)
lower classes order heights c None r k e = tt
lower classes order heights c (Some s) r k e = (is_lower classes order heights c (number s) r k (superclass (number s) (sym e))).lower

pub returns-clause-there : goal.returns-clause-there
returns-clause-there c = there c.args.classes.now c.args.ranks.now.order.now c.args.ranks.now.heights.now c.args.c.0 c.superclass.result c.requires.ranked c.requires.c_in c.superclass.ensures.number

pub returns-clause-lower : goal.returns-clause-lower
returns-clause-lower c = lower c.args.classes.now c.args.ranks.now.order.now c.args.ranks.now.heights.now c.args.c.0 c.superclass.result c.requires.ranked c.requires.c_in c.superclass.ensures.number
