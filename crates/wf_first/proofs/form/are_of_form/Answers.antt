use Rattle.std.proofs.Common.{◌≡◌, ◌∙◌, ◌&&◌, ◌||◌, ◌+◌, ◌<◌, ◌≤◌, sym, ap, Bool, true, false, nat_lt, Option, Some, None, List, ℕ, get_or, length, drop, arith}
use Rattle.std.proofs.lemmas.List.{at_drop_more}
use Rattle.std.specs.Prelude.{IfSome, if◌then◌else◌}
use Rattle.wf_data.specs.declared.class_info.PoolEntry.{PoolEntry}
use Rattle.wf_names.specs.declared.member.MemberName.{MemberName}
use Rattle.wf_data.specs.Pool.{method_at}
use Rattle.wf_first.specs.declared.code.Operation.{Operation}
use Rattle.wf_first.specs.declared.code.Operation.TheVariants.{IntConstant, InvokeStatic, IntReturn, Return}
use Rattle.wf_first.specs.declared.code.Placed.{Placed}
use Rattle.wf_first.specs.FirstForm.{is_call_of_form, is_step_of_form, is_rest_of_form, pushed_by, depth_after, are_of_form}
use Rattle.wf_first.proofs.form.are_of_form.Goals as goal
use Rattle.wf_first.proofs.form.are_of_form.Goals.{in-Some+else-not-is_step_of_form, in-None+else-not-is_rest_of_form}

-- what is left to test behind an instruction that is reached and of the form
step_passed : (pool : List PoolEntry) (desc : List ℕ) (room depth : ℕ) (os : List Placed) (i : ℕ) (d : Placed) (total : Bool) → i < length os
    → is_step_of_form pool desc room depth (get_or os i d).operation ≡ true
    → are_of_form pool desc room (Some depth) (drop i os) ≡ total
    → are_of_form pool desc room (depth_after pool depth (get_or os i d).operation) (drop (i + 1) os) ≡ total
step_passed pool desc room depth os i d total lt passes so_far =
    sym (ap (λ (b : Bool). b && are_of_form pool desc room (depth_after pool depth (get_or os i d).operation) (drop (i + 1) os)) passes)
    ∙ sym (at_drop_more (are_of_form pool desc room (Some depth)) os i d lt) ∙ so_far

-- the same of one that no path reaches
rest_passed : (pool : List PoolEntry) (desc : List ℕ) (room : ℕ) (os : List Placed) (i : ℕ) (d : Placed) (total : Bool) → i < length os
    → is_rest_of_form pool (get_or os i d).operation ≡ true
    → are_of_form pool desc room None (drop i os) ≡ total → are_of_form pool desc room None (drop (i + 1) os) ≡ total
rest_passed pool desc room os i d total lt passes so_far =
    sym (ap (λ (b : Bool). b && are_of_form pool desc room None (drop (i + 1) os)) passes)
    ∙ sym (at_drop_more (are_of_form pool desc room None) os i d lt) ∙ so_far

-- a step never leaves more than there is room for
call_fits : (room depth : ℕ) (is_void is_int : Bool) → depth ≤ room → (is_void || is_int && nat_lt depth room) ≡ true → depth + (if is_void then 0 else 1) ≤ room
call_fits room depth true is_int le passes = omega arith
call_fits room depth false true le passes = grind arith
call_fits room depth false false le passes = absurd cc

callee_fits : (room depth : ℕ) (callee : Option MemberName) → depth ≤ room → is_call_of_form room depth callee ≡ true → depth + pushed_by callee ≤ room
callee_fits room depth None le passes = absurd cc
callee_fits room depth (Some callee) le passes = call_fits room depth _ _ le passes

step_fits : (pool : List PoolEntry) (desc : List ℕ) (room depth : ℕ) (o : Operation) → depth ≤ room → is_step_of_form pool desc room depth o ≡ true → IfSome (depth_after pool depth o) (λ after. after ≤ room)
step_fits pool desc room depth (IntConstant c) le passes = grind arith
step_fits pool desc room depth (InvokeStatic place) le passes = callee_fits room depth (method_at pool place) le passes
step_fits pool desc room depth IntReturn le passes = tt
step_fits pool desc room depth Return le passes = tt

pub loop-placed-preserved : goal.loop-placed-preserved
loop-placed-preserved c = elim c.match-reached.branch [
  | in-Some+else-not-is_step_of_form w ↦
      let passes = sym w.is_step_of_form.ensures ∙ w.if-not-is_step_of_form.false in
      let before = rw w.in-Some.is at c.loop-placed.invariant in
      rw (w.reached-is, w.depth_after-reached.ensures) record {
        so_far = step_passed _ c.args.path.now.desc.now _ _ _ _ _ _ c.loop-placed-test.true passes before.so_far;
        room = step_fits _ c.args.path.now.desc.now _ _ _ before.room passes;
      }
  | in-None+else-not-is_rest_of_form w ↦
      let passes = sym w.is_rest_of_form.ensures ∙ w.if-not-is_rest_of_form.false in
      let before = rw w.in-None.is at c.loop-placed.invariant in
      rw (w.reached-is, w.in-None.is) record {
        so_far = rest_passed _ c.args.path.now.desc.now _ _ _ _ _ c.loop-placed-test.true passes before.so_far;
        room = tt;
      }
]
