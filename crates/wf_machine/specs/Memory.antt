-- The memory of the machine: objects, fields, and how far the initialization of each class is (JVMS 2.5.3, 2.5.4, 5.5).
use Rattle.std.specs.Prelude.{Bool, true, false, ◌&&◌, List, [], ◌∷◌, length, Option, Some, None, ◌==◌, if◌then◌else◌}
use Rattle.wf_base.specs.declared.ids.ClassId.{ClassId}
use Rattle.wf_base.specs.declared.ids.FieldId.{FieldId}
use Rattle.wf_base.specs.declared.ids.TypeId.{TypeId}
use Rattle.wf_machine.specs.Values.{Object, Value, same_object}

-- how far the initialization of a class is
pub data ClassState : Type 0 where
  Fresh : ClassState
  InProgress : ClassState
  Initialized : ClassState
  Erroneous : ClassState

-- Whether a request for a class goes on: it is initialized, or its initialization is in progress, of which the one thread
-- itself has to do (JVMS 5.5, steps 3 and 4).
abbrev pub is_ready : ClassState → Bool
is_ready Fresh = false
is_ready InProgress = true
is_ready Initialized = true
is_ready Erroneous = false

pub record Memory : Type 0 where
  -- the objects that were made, the last one first
  pub objects : List Object
  -- those of them that are literals
  pub literals : List Object
  -- what an instance field of an object holds; None where the object has no such field
  pub fields : Object → FieldId → Option Value
  -- the elements of an array
  pub elements : Object → List Value
  -- what a static field holds; None before it is given anything
  pub statics : FieldId → Option Value
  pub classes : ClassId → ClassState
  -- the fields that a native or replaced method wrote, or that a literal set
  pub written : List FieldId

-- nothing is made, and no class is initialized
abbrev pub empty : Memory
empty = record { objects = []; literals = []; fields = λ o f. None; elements = λ o. []; statics = λ f. None; classes = λ c. Fresh; written = [] }

-- ---- what changes it

abbrev pub with_field : Memory → Object → FieldId → Value → Memory
with_field m o f v = record { objects = m.objects; literals = m.literals; fields = λ p g. if same_object p o && g.0 == f.0 then Some v else m.fields p g; elements = m.elements; statics = m.statics; classes = m.classes; written = m.written }

abbrev pub with_elements : Memory → Object → List Value → Memory
with_elements m o values = record { objects = m.objects; literals = m.literals; fields = m.fields; elements = λ p. if same_object p o then values else m.elements p; statics = m.statics; classes = m.classes; written = m.written }

abbrev pub with_static : Memory → FieldId → Value → Memory
with_static m f v = record { objects = m.objects; literals = m.literals; fields = m.fields; elements = m.elements; statics = λ g. if g.0 == f.0 then Some v else m.statics g; classes = m.classes; written = m.written }

abbrev pub with_class : Memory → ClassId → ClassState → Memory
with_class m c state = record { objects = m.objects; literals = m.literals; fields = m.fields; elements = m.elements; statics = m.statics; classes = λ d. if d.0 == c.0 then state else m.classes d; written = m.written }

abbrev pub with_literal : Memory → Object → Memory
with_literal m o = record { objects = m.objects; literals = o ∷ m.literals; fields = m.fields; elements = m.elements; statics = m.statics; classes = m.classes; written = m.written }

abbrev pub with_written : Memory → FieldId → Memory
with_written m f = record { objects = m.objects; literals = m.literals; fields = m.fields; elements = m.elements; statics = m.statics; classes = m.classes; written = f ∷ m.written }

-- the next object of a type
abbrev pub next_object : Memory → TypeId → Object
next_object m t = record { type = t; serial = length m.objects }

-- an object that wasn't there is, with these fields and elements
abbrev pub with_object : Memory → Object → (FieldId → Option Value) → List Value → Memory
with_object m o fields values = record { objects = o ∷ m.objects; literals = m.literals; fields = λ p f. if same_object p o then fields f else m.fields p f; elements = λ p. if same_object p o then values else m.elements p; statics = m.statics; classes = m.classes; written = m.written }
