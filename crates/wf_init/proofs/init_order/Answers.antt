use Rattle.std.proofs.Common.{Bool, ◌≡◌, ◌++◌, ◌∙◌, true, false, List, [], length, get_or, set, reverse, map, sym, ap, subst}
use Rattle.std.specs.Prelude.{option_to_list}
use Rattle.std.proofs.lemmas.List.{length-set, length-replicate}
use Rattle.wf_base.specs.declared.ids.ClassId.{ClassId}
use Rattle.wf_init.specs.declared.Task.{Task}
use Rattle.wf_init.specs.declared.Task.TheVariants.{Begin, Give}
use Rattle.wf_init.specs.Order.{IsInitOrder}
use Rattle.wf_init.proofs.Walking.{Keeps, keeps_first, keeps_passed, keeps_begun, keeps_given, keeps_silent, keeps_end, popped, no_tasks, first_inside, begun_inside, front_inside, last_inside, an_interface, kind_by, is_at, one_first, none_first, one_task, smaller}
use Rattle.wf_data.specs.Flags.{is_interface}
use Rattle.wf_data.specs.declared.class_info.ClassInfo.{ClassInfo}
use Rattle.wf_classes.specs.World.{number, superclass_of}
use Rattle.wf_init.proofs.init_order.Goals as goal
use Rattle.wf_init.proofs.init_order.Goals.{in-Some+in_ok-push, in_default}

pub loop-task-preserved-then-index : goal.loop-task-preserved-then-index
loop-task-preserved-then-index c =
    let inv = c.loop-task.invariant in
    let i = c.in-Begin.i in
    let p = popped c.loop-task.tasks.items c.pop.new.self.items c.in-Some-pop.task (Begin i) c.in-Some-pop.ensures.items c.in-Begin.is in
    record {
      keeps = keeps_passed _ _ (reverse c.pop.new.self.items) i c.loop-task.begun.items c.loop-task.order.items c.index.result.now (rw inv.count (last_inside (length c.args.classes.now) c.loop-task.tasks.items c.pop.new.self.items c.in-Some-pop.task (Begin i) c.in-Some-pop.ensures.items c.in-Begin.is inv.inside)) (sym c.index.ensures ∙ c.if-index.true)
          (subst (λ (s : List Task). Keeps c.args.classes.now c.args.c.0 s c.loop-task.begun.items c.loop-task.order.items) p inv.keeps);
      inside = front_inside (length c.args.classes.now) c.loop-task.tasks.items c.pop.new.self.items c.in-Some-pop.task c.in-Some-pop.ensures.items inv.inside;
      count = inv.count;
    }

pub loop-task-preserved-then-has_default : goal.loop-task-preserved-then-has_default
loop-task-preserved-then-has_default c =
    let inv = c.loop-task.invariant in
    let i = c.in-Give.i in
    let p = popped c.loop-task.tasks.items c.pop.new.self.items c.in-Some-pop.task (Give i) c.in-Some-pop.ensures.items c.in-Give.is in
    record {
      keeps = subst (λ (s : List ClassId). Keeps c.args.classes.now c.args.c.0 (reverse c.pop.new.self.items) c.loop-task.begun.items s) (sym c.in_ok-push-in-Give.ensures.items)
          (keeps_given _ _ (reverse c.pop.new.self.items) i c.loop-task.begun.items c.loop-task.order.items (sym c.has_default.ensures ∙ c.if-has_default.true)
          (subst (λ (s : List Task). Keeps c.args.classes.now c.args.c.0 s c.loop-task.begun.items c.loop-task.order.items) p inv.keeps));
      inside = front_inside (length c.args.classes.now) c.loop-task.tasks.items c.pop.new.self.items c.in-Some-pop.task c.in-Some-pop.ensures.items inv.inside;
      count = inv.count;
    }

pub loop-task-preserved : goal.loop-task-preserved
loop-task-preserved c =
    let inv = c.loop-task.invariant in
    let i = c.in-Give.i in
    let p = popped c.loop-task.tasks.items c.pop.new.self.items c.in-Some-pop.task (Give i) c.in-Some-pop.ensures.items c.in-Give.is in
    record {
      keeps = keeps_silent _ _ (reverse c.pop.new.self.items) i c.loop-task.begun.items c.loop-task.order.items (sym c.has_default.ensures ∙ c.if-has_default.false)
          (subst (λ (s : List Task). Keeps c.args.classes.now c.args.c.0 s c.loop-task.begun.items c.loop-task.order.items) p inv.keeps);
      inside = front_inside (length c.args.classes.now) c.loop-task.tasks.items c.pop.new.self.items c.in-Some-pop.task c.in-Some-pop.ensures.items inv.inside;
      count = inv.count;
    }

pub loop-task-preserved-in-Continue-branch-4 : goal.loop-task-preserved-in-Continue-branch-4
loop-task-preserved-in-Continue-branch-4 c =
    let inv = c.loop-task.invariant in
    let i = c.in-Begin-2.i in
    let was : get_or c.loop-task.begun.items i.0 c.index.result.now ≡ false =
    ap (λ (j : ClassId). get_or c.loop-task.begun.items j.0 c.index.result.now) (one_task c.in-Some-pop.task i c.in-Begin.i c.in-Begin-2.is c.in-Begin.is) ∙ sym c.index.ensures ∙ c.if-index.false in
    let ids = c.superinterfaces-in-Begin-2.result.now in
    let rest = c.pop.new.self.items in
    let p = popped c.loop-task.tasks.items rest c.in-Some-pop.task (Begin i) c.in-Some-pop.ensures.items c.in-Begin-2.is in
    let q = c.in_ok-push_begun-in-Begin-2.ensures in
    let here = last_inside (length c.args.classes.now) c.loop-task.tasks.items rest c.in-Some-pop.task (Begin i) c.in-Some-pop.ensures.items c.in-Begin-2.is inv.inside in
    record {
      keeps = subst (λ (s : List Task). Keeps c.args.classes.now c.args.c.0 s (set c.loop-task.begun.items i.0 true) c.loop-task.order.items) (sym q)
          (keeps_begun _ _ (reverse rest) i ids c.loop-task.begun.items c.loop-task.order.items c.index.result.now (rw inv.count here) was c.superinterfaces-in-Begin-2.ensures.numbers
          (subst (λ (s : List Task). Keeps c.args.classes.now c.args.c.0 s c.loop-task.begun.items c.loop-task.order.items) p inv.keeps));
      inside = begun_inside c.args.classes.now ids i rest c.push_begun.new.tasks.items q c.superinterfaces-in-Begin-2.ensures.interfaces here (front_inside (length c.args.classes.now) c.loop-task.tasks.items rest c.in-Some-pop.task c.in-Some-pop.ensures.items inv.inside);
      count = length-set c.loop-task.begun.items i.0 true ∙ inv.count;
    }

pub loop-task-smaller-in-Continue-branch-4 : goal.loop-task-smaller-in-Continue-branch-4
loop-task-smaller-in-Continue-branch-4 c =
    let inv = c.loop-task.invariant in
    let i = c.in-Begin-2.i in
    let was : get_or c.loop-task.begun.items i.0 c.index.result.now ≡ false =
    ap (λ (j : ClassId). get_or c.loop-task.begun.items j.0 c.index.result.now) (one_task c.in-Some-pop.task i c.in-Begin.i c.in-Begin-2.is c.in-Begin.is) ∙ sym c.index.ensures ∙ c.if-index.false in
    let ids = c.superinterfaces-in-Begin-2.result.now in
    let rest = c.pop.new.self.items in
    let q = c.in_ok-push_begun-in-Begin-2.ensures in
    let here = last_inside (length c.args.classes.now) c.loop-task.tasks.items rest c.in-Some-pop.task (Begin i) c.in-Some-pop.ensures.items c.in-Begin-2.is inv.inside in
    smaller c.args.classes.now c.loop-task.begun.items i c.index.result.now ids c.loop-task.tasks.items rest c.push_begun.new.tasks.items c.in-Some-pop.task c.in-Some-pop.ensures.items q c.superinterfaces-in-Begin-2.ensures.numbers (rw inv.count here) was

pub loop-task-init : goal.loop-task-init
loop-task-init c =
    let ids = c.superinterfaces.result.now in
    let classes = c.args.classes.now in
    let kind = kind_by classes c.args.c.0 c.index-as_slice-c.result false (is_at c.as_slice.result.now classes c.args.c.0 c.index-as_slice-c.result (c.as_slice.ensures ∙ c.list.ensures.same) c.requires c.index-as_slice-c.is) (ap (λ (k : ClassInfo). is_interface k.flags) c.index-as_slice-c.is ∙ sym c.is_interface.ensures ∙ c.if-is_interface.false) in
    let super : map number c.match-superclass.order.items ≡ option_to_list (superclass_of classes c.args.c.0) =
    elim c.match-superclass.branch [
      | in-Some+in_ok-push w ↦ one_first c.superclass.result w.in-Some.superclass (superclass_of classes c.args.c.0) c.match-superclass.order.items c.new-order.result.items w.in-Some.is c.superclass.ensures.number (ap (λ (v : _). v.items) w.order-is ∙ w.in_ok-push.ensures.items) c.new-order.ensures.items
      | in_default w ↦ none_first c.superclass.result (superclass_of classes c.args.c.0) c.match-superclass.order.items w.in_default.is c.superclass.ensures.number (ap (λ (v : _). v.items) w.order-is ∙ c.new-order.ensures.items)
    ] in
    let stack : reverse c.push_all.new.tasks.items ≡ map Begin ids ++ [] = c.in_ok-push_all.ensures ∙ ap (λ (s : List Task). map Begin ids ++ reverse s) c.new-tasks.ensures.items in
    let flags = c.in_ok-begun.ensures.items_if_clones_equal (λ y e. e) in
    record {
      keeps = subst (λ (s : List Task). Keeps classes c.args.c.0 s c.in_ok-begun.begun.items c.match-superclass.order.items) (sym stack)
          (subst (λ (s : List Bool). Keeps classes c.args.c.0 (map Begin ids ++ []) s c.match-superclass.order.items) (sym flags) (keeps_first classes c.args.c.0 ids c.match-superclass.order.items (length c.as_slice-2.result.now) kind super c.superinterfaces.ensures.numbers));
      inside = first_inside classes ids c.push_all.new.tasks.items stack c.superinterfaces.ensures.interfaces;
      count = ap length flags ∙ length-replicate (length c.as_slice-2.result.now) false ∙ ap length (c.as_slice-2.ensures ∙ c.list-2.ensures.same);
    }

pub returns-then-is_interface : goal.returns-then-is_interface
returns-then-is_interface c =
    let kind = kind_by c.args.classes.now c.args.c.0 c.index-as_slice-c.result true (is_at c.as_slice.result.now c.args.classes.now c.args.c.0 c.index-as_slice-c.result (c.as_slice.ensures ∙ c.list.ensures.same) c.requires c.index-as_slice-c.is) (ap (λ (k : ClassInfo). is_interface k.flags) c.index-as_slice-c.is ∙ sym c.is_interface.ensures ∙ c.if-is_interface.true) in
    an_interface c.args.classes.now c.args.c.0 c.from_vec.result kind (c.from_vec.ensures ∙ c.new-order.ensures.items)

pub returns : goal.returns
returns c =
    subst (λ (s : List ClassId). IsInitOrder c.args.classes.now c.args.c.0 (map number s)) (sym c.from_vec-2.ensures)
    (keeps_end c.args.classes.now c.args.c.0 c.loop-task.begun.items c.loop-task.order.items
    (subst (λ (s : List Task). Keeps c.args.classes.now c.args.c.0 s c.loop-task.begun.items c.loop-task.order.items) (ap reverse (no_tasks c.loop-task.tasks.items (sym c.loop-task.tasks.ok.0 ∙ c.in_default-pop.ensures.cases.0))) c.loop-task.invariant.keeps))
