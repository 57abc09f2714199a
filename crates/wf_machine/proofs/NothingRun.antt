-- A program on numbers makes nothing, and touches no field.
use Rattle.std.proofs.Common.{◌≡◌, ℕ, zero, suc, Bool, true, false, List, [], Some, None, refl, sym, subst}
use Rattle.std.specs.Prelude.{slice_get}
use Rattle.wf_base.specs.declared.ids.FieldId.{FieldId}
use Rattle.wf_base.specs.declared.ids.TypeId.{TypeId}
use Rattle.wf_rows.specs.declared.action.Action.{Action}
use Rattle.wf_rows.specs.declared.action.Action.TheVariants as action
use Rattle.wf_machine.specs.World.{Instruction}
use Rattle.wf_machine.specs.Frames.{State}
use Rattle.wf_machine.specs.Executions as execution
use Rattle.wf_machine.specs.Executions.{Made, Touched, NamesField}
use Rattle.wf_machine.specs.Programs.{adds, adds_states}

-- nothing is made in a state, nor written
record IsBare (s : State) : Type 0 where
  pub objects : s.memory.objects ≡ []
  pub written : s.memory.written ≡ []

only : {A : Type 0} (x y : A) → Some x ≡ Some y → x ≡ y
only x y e = cc

bare_of : (x s : State) → Some x ≡ Some s → x.memory.objects ≡ [] → x.memory.written ≡ [] → IsBare s
bare_of x s e o w = subst IsBare (only x s e) (record { objects = o; written = w })

bare_at : (place : ℕ) (s : State) → slice_get adds_states place ≡ Some s → IsBare s
bare_at zero s e = bare_of _ s e refl refl
bare_at (suc zero) s e = bare_of _ s e refl refl
bare_at (suc (suc zero)) s e = bare_of _ s e refl refl
bare_at (suc (suc (suc zero))) s e = bare_of _ s e refl refl
bare_at (suc (suc (suc (suc zero)))) s e = bare_of _ s e refl refl
bare_at (suc (suc (suc (suc (suc zero))))) s e = bare_of _ s e refl refl
bare_at (suc (suc (suc (suc (suc (suc zero)))))) s e = bare_of _ s e refl refl
bare_at (suc (suc (suc (suc (suc (suc (suc zero))))))) s e = bare_of _ s e refl refl
bare_at (suc (suc (suc (suc (suc (suc (suc (suc zero)))))))) s e = bare_of _ s e refl refl
bare_at (suc (suc (suc (suc (suc (suc (suc (suc (suc n))))))))) s e = absurd cc

no_element : {A : Type 0} (xs : List A) (n : ℕ) (x : A) → xs ≡ [] → slice_get xs n ≡ Some x → ⊥
no_element {A = A} xs n x none e = let there : None ≡ Some x = subst (λ (ys : List A). slice_get ys n ≡ Some x) none e in absurd cc

pub adds_makes_nothing : (t : TypeId) → Made adds_states t → ⊥
adds_makes_nothing t m = no_element m.state.memory.objects m.has.place m.object (bare_at m.there.place m.state m.there.there).objects m.has.there

-- no instruction of the program names a field
-- what isn't an instruction on a field names none
on_field : Action → Bool
on_field (action.Field u) = true
on_field other = false

names_on_field : (a : Action) (f : FieldId) → NamesField a f → on_field a ≡ true
unfolding on_field
names_on_field a f (execution.NamesField.get_static g) = refl
names_on_field a f (execution.NamesField.put_static g kind) = refl
names_on_field a f (execution.NamesField.get g) = refl
names_on_field a f (execution.NamesField.put g kind) = refl

no_name : (x i : Instruction) (f : FieldId) → Some x ≡ Some i → on_field x.action ≡ false → NamesField i.action f → ⊥
no_name x i f e off n = let yes : on_field x.action ≡ true = subst (λ (j : Instruction). on_field j.action ≡ true) (sym (only x i e)) (names_on_field i.action f n) in absurd cc

names_none : (m pc : ℕ) (i : Instruction) (f : FieldId) → adds.code (record { 0 = m }) pc ≡ Some i → NamesField i.action f → ⊥
unfolding on_field
names_none zero zero i f e n = no_name _ i f e refl n
names_none zero (suc zero) i f e n = no_name _ i f e refl n
names_none zero (suc (suc zero)) i f e n = no_name _ i f e refl n
names_none zero (suc (suc (suc zero))) i f e n = no_name _ i f e refl n
names_none zero (suc (suc (suc (suc pc)))) i f e n = absurd cc
names_none (suc m) pc i f e n = absurd cc

pub adds_touches_nothing : (f : FieldId) → Touched adds adds_states f → ⊥
adds_touches_nothing f (execution.Touched.by_instruction m pc slots rest memory i t next there names) = names_none m.0 pc i f there names
adds_touches_nothing f (execution.Touched.by_write s at in_written) = no_element s.memory.written in_written.place f (bare_at at.place s at.there).written in_written.there
