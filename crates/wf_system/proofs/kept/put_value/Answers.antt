use Rattle.wf_system.specs.Shapes.{shape_at}
use Rattle.wf_system.specs.Bodies.{tables_of}
use Rattle.wf_system.proofs.KeptLaws.{puts_for_value, type_as}
use Rattle.wf_system.proofs.kept.put_value.Goals as goal

pub returns-in-OneType : goal.returns-in-OneType
returns-in-OneType c = λ most. puts_for_value c.put_type.result (tables_of c.args.shape.now most c.args.side.now) (shape_at c.args.shape.now c.args.q.target.0).kind c.args.q c.args.lists.now c.put_type.new.lists c.args.value _ c.in-OneType.is (type_as c.put_type.result c.args.q c.args.lists.now c.put_type.new.lists _ _ c.args.side.now.inst c.kind_of.ensures c.put_type.ensures)

pub returns-in-Copy : goal.returns-in-Copy
returns-in-Copy c = λ most. puts_for_value c.put.result (tables_of c.args.shape.now most c.args.side.now) (shape_at c.args.shape.now c.args.q.target.0).kind c.args.q c.args.lists.now c.put.new.lists c.args.value _ c.in-Copy.is c.put.ensures

pub returns-in-IntRefine : goal.returns-in-IntRefine
returns-in-IntRefine c = λ most. puts_for_value c.put_two.result (tables_of c.args.shape.now most c.args.side.now) (shape_at c.args.shape.now c.args.q.target.0).kind c.args.q c.args.lists.now c.put_two.new.lists c.args.value _ c.in-IntRefine.is c.put_two.ensures

pub returns-in-IntRefineBy : goal.returns-in-IntRefineBy
returns-in-IntRefineBy c = λ most. puts_for_value c.put-in-IntRefineBy.result (tables_of c.args.shape.now most c.args.side.now) (shape_at c.args.shape.now c.args.q.target.0).kind c.args.q c.args.lists.now c.put-in-IntRefineBy.new.lists c.args.value _ c.in-IntRefineBy.is c.put-in-IntRefineBy.ensures

pub returns-in-NotIn : goal.returns-in-NotIn
returns-in-NotIn c = λ most. puts_for_value c.put-in-NotIn.result (tables_of c.args.shape.now most c.args.side.now) (shape_at c.args.shape.now c.args.q.target.0).kind c.args.q c.args.lists.now c.put-in-NotIn.new.lists c.args.value _ c.in-NotIn.is c.put-in-NotIn.ensures

pub returns-in-RefEq : goal.returns-in-RefEq
returns-in-RefEq c = λ most. puts_for_value c.put_three.result (tables_of c.args.shape.now most c.args.side.now) (shape_at c.args.shape.now c.args.q.target.0).kind c.args.q c.args.lists.now c.put_three.new.lists c.args.value _ c.in-RefEq.is c.put_three.ensures

pub returns-in-RefNe : goal.returns-in-RefNe
returns-in-RefNe c = λ most. puts_for_value c.put_three-in-RefNe.result (tables_of c.args.shape.now most c.args.side.now) (shape_at c.args.shape.now c.args.q.target.0).kind c.args.q c.args.lists.now c.put_three-in-RefNe.new.lists c.args.value _ c.in-RefNe.is c.put_three-in-RefNe.ensures

pub returns-in-OnlyNull : goal.returns-in-OnlyNull
returns-in-OnlyNull c = λ most. puts_for_value c.put_two-in-OnlyNull.result (tables_of c.args.shape.now most c.args.side.now) (shape_at c.args.shape.now c.args.q.target.0).kind c.args.q c.args.lists.now c.put_two-in-OnlyNull.new.lists c.args.value _ c.in-OnlyNull.is c.put_two-in-OnlyNull.ensures

pub returns-in-NoNull : goal.returns-in-NoNull
returns-in-NoNull c = λ most. puts_for_value c.put_two-in-NoNull.result (tables_of c.args.shape.now most c.args.side.now) (shape_at c.args.shape.now c.args.q.target.0).kind c.args.q c.args.lists.now c.put_two-in-NoNull.new.lists c.args.value _ c.in-NoNull.is c.put_two-in-NoNull.ensures

pub returns-in-Under : goal.returns-in-Under
returns-in-Under c = λ most. puts_for_value c.put_two-in-Under.result (tables_of c.args.shape.now most c.args.side.now) (shape_at c.args.shape.now c.args.q.target.0).kind c.args.q c.args.lists.now c.put_two-in-Under.new.lists c.args.value _ c.in-Under.is c.put_two-in-Under.ensures

pub returns-in-AllUnder : goal.returns-in-AllUnder
returns-in-AllUnder c = λ most. puts_for_value c.put-in-AllUnder.result (tables_of c.args.shape.now most c.args.side.now) (shape_at c.args.shape.now c.args.q.target.0).kind c.args.q c.args.lists.now c.put-in-AllUnder.new.lists c.args.value _ c.in-AllUnder.is c.put-in-AllUnder.ensures

pub returns-in-SomeUnder : goal.returns-in-SomeUnder
returns-in-SomeUnder c = λ most. puts_for_value c.put-in-SomeUnder.result (tables_of c.args.shape.now most c.args.side.now) (shape_at c.args.shape.now c.args.q.target.0).kind c.args.q c.args.lists.now c.put-in-SomeUnder.new.lists c.args.value _ c.in-SomeUnder.is c.put-in-SomeUnder.ensures

pub returns-in-Picked : goal.returns-in-Picked
returns-in-Picked c = λ most. puts_for_value c.put_two-in-Picked.result (tables_of c.args.shape.now most c.args.side.now) (shape_at c.args.shape.now c.args.q.target.0).kind c.args.q c.args.lists.now c.put_two-in-Picked.new.lists c.args.value _ c.in-Picked.is c.put_two-in-Picked.ensures

pub returns-in-Picks : goal.returns-in-Picks
returns-in-Picks c = λ most. puts_for_value c.put_two-in-Picks.result (tables_of c.args.shape.now most c.args.side.now) (shape_at c.args.shape.now c.args.q.target.0).kind c.args.q c.args.lists.now c.put_two-in-Picks.new.lists c.args.value _ c.in-Picks.is c.put_two-in-Picks.ensures

pub returns-in-Tested : goal.returns-in-Tested
returns-in-Tested c = λ most. puts_for_value c.put_two-in-Tested.result (tables_of c.args.shape.now most c.args.side.now) (shape_at c.args.shape.now c.args.q.target.0).kind c.args.q c.args.lists.now c.put_two-in-Tested.new.lists c.args.value _ c.in-Tested.is c.put_two-in-Tested.ensures

pub returns-in-ElementsOf : goal.returns-in-ElementsOf
returns-in-ElementsOf c = λ most. puts_for_value c.put_elements.result (tables_of c.args.shape.now most c.args.side.now) (shape_at c.args.shape.now c.args.q.target.0).kind c.args.q c.args.lists.now c.put_elements.new.lists c.args.value _ c.in-ElementsOf.is (c.put_elements.ensures c.args.shape.now most)

pub returns-in-IfHolds : goal.returns-in-IfHolds
returns-in-IfHolds c = λ most. puts_for_value c.put_three-in-IfHolds.result (tables_of c.args.shape.now most c.args.side.now) (shape_at c.args.shape.now c.args.q.target.0).kind c.args.q c.args.lists.now c.put_three-in-IfHolds.new.lists c.args.value _ c.in-IfHolds.is c.put_three-in-IfHolds.ensures

pub returns-in-IfNull : goal.returns-in-IfNull
returns-in-IfNull c = λ most. puts_for_value c.put_two-in-IfNull.result (tables_of c.args.shape.now most c.args.side.now) (shape_at c.args.shape.now c.args.q.target.0).kind c.args.q c.args.lists.now c.put_two-in-IfNull.new.lists c.args.value _ c.in-IfNull.is c.put_two-in-IfNull.ensures
