-- Instructions on arrays (JVMS 6.5, arraylength, iaload to saload, iastore to sastore). They look for null first, then for an
-- array of their elements, then at the index, and a store of a reference then at what the array may hold.
use Rattle.std.specs.Prelude.{◌≡◌, ℕ, ◌+◌, ℤ, pos, negsuc, Bool, true, false, length, slice_get, slice_set, Option, Some, None, nat_lt, if◌then◌else◌}
use Rattle.wf_base.specs.declared.ids.TypeId.{TypeId}
use Rattle.wf_operation.specs.Effects.{width_of}
use Rattle.wf_operation.specs.Sorts.{kind_of_element}
use Rattle.wf_operation.specs.declared.sort.Element.{Element}
use Rattle.wf_operation.specs.declared.sort.Element.TheVariants as element
use Rattle.wf_operation.specs.declared.sort.Narrow.{Narrow}
use Rattle.wf_operation.specs.declared.sort.Narrow.TheVariants as narrow
use Rattle.wf_operation.specs.declared.sort.Sort.{Sort}
use Rattle.wf_operation.specs.declared.sort.Sort.TheVariants as sort
use Rattle.wf_rows.specs.declared.throwable.Throwable.TheVariants as throwable
use Rattle.wf_machine.specs.Arithmetic.{narrowed}
use Rattle.wf_machine.specs.Values.{Object, Value, Int, Null, Ref}
use Rattle.wf_machine.specs.Memory.{with_elements}
use Rattle.wf_machine.specs.World.{World}
use Rattle.wf_machine.specs.At.{At, Outcome, Throws, Ends, operand, value, gives, goes_on}

-- the place of an index among so many elements
abbrev pub place_at : ℕ → ℤ → Option ℕ
place_at count (pos n) = if nat_lt n count then Some n else None
place_at count (negsuc n) = None

abbrev pub cut : Narrow → Value → Value
cut n (Int a) = Int (narrowed n a)
cut n v = v

-- What an element holds behind a store: of a byte, a char or a short it is cut to its bits. A load gives what is held
-- (JVMS 6.5, bastore, castore, sastore).
abbrev pub kept : Element → Value → Value
kept element.Int v = v
kept element.Long v = v
kept element.Ref v = v
kept element.Byte v = cut narrow.Byte v
kept element.Char v = cut narrow.Char v
kept element.Short v = cut narrow.Short v

-- whether an array may hold a reference: null, or an object that is under its component (JVMS 6.5, aastore)
abbrev pub takes_reference : World → TypeId → Value → Bool
takes_reference w array Null = true
takes_reference w array (Ref o) = w.may_hold array o.type
takes_reference w array v = false

abbrev pub takes : World → TypeId → Element → Value → Bool
takes w array element.Ref v = takes_reference w array v
takes w array e v = true

-- how deep the array of a store stands: below the index, which stands below the value
abbrev pub array_depth : Element → ℕ
array_depth e = width_of (kind_of_element e) + 1

abbrev pub index_depth : Element → ℕ
index_depth e = width_of (kind_of_element e)

pub data UsesArray (k : At) : Sort → Outcome → Type 0 where
  length_of_null : operand k 0 ≡ Null → UsesArray k sort.ArrayLength (Throws throwable.NullPointer)
  length_elsewhere : (o : Object) → operand k 0 ≡ Ref o → k.world.is_array o.type ≡ false → UsesArray k sort.ArrayLength Ends
  length_of : (o : Object) → operand k 0 ≡ Ref o → k.world.is_array o.type ≡ true → UsesArray k sort.ArrayLength (gives k (Int (pos (length (k.memory.elements o)))))
  load_of_null : (e : Element) → operand k 1 ≡ Null → UsesArray k (sort.ArrayLoad e) (Throws throwable.NullPointer)
  load_elsewhere : (e : Element) (o : Object) → operand k 1 ≡ Ref o → k.world.has_elements o.type e ≡ false → UsesArray k (sort.ArrayLoad e) Ends
  load_outside : (e : Element) (o : Object) (i : ℤ) → operand k 1 ≡ Ref o → k.world.has_elements o.type e ≡ true → operand k 0 ≡ Int i → place_at (length (k.memory.elements o)) i ≡ None → UsesArray k (sort.ArrayLoad e) (Throws throwable.ArrayIndexOutOfBounds)
  load : (e : Element) (o : Object) (i : ℤ) (n : ℕ) (v : Value) → operand k 1 ≡ Ref o → k.world.has_elements o.type e ≡ true → operand k 0 ≡ Int i → place_at (length (k.memory.elements o)) i ≡ Some n → slice_get (k.memory.elements o) n ≡ Some v → UsesArray k (sort.ArrayLoad e) (gives k v)
  store_of_null : (e : Element) → operand k (array_depth e) ≡ Null → UsesArray k (sort.ArrayStore e) (Throws throwable.NullPointer)
  store_elsewhere : (e : Element) (o : Object) → operand k (array_depth e) ≡ Ref o → k.world.has_elements o.type e ≡ false → UsesArray k (sort.ArrayStore e) Ends
  store_outside : (e : Element) (o : Object) (i : ℤ) → operand k (array_depth e) ≡ Ref o → k.world.has_elements o.type e ≡ true → operand k (index_depth e) ≡ Int i → place_at (length (k.memory.elements o)) i ≡ None → UsesArray k (sort.ArrayStore e) (Throws throwable.ArrayIndexOutOfBounds)
  store_refused : (e : Element) (o : Object) (i : ℤ) (n : ℕ) → operand k (array_depth e) ≡ Ref o → k.world.has_elements o.type e ≡ true → operand k (index_depth e) ≡ Int i → place_at (length (k.memory.elements o)) i ≡ Some n → takes k.world o.type e (value k (kind_of_element e)) ≡ false → UsesArray k (sort.ArrayStore e) (Throws throwable.ArrayStore)
  store : (e : Element) (o : Object) (i : ℤ) (n : ℕ) → operand k (array_depth e) ≡ Ref o → k.world.has_elements o.type e ≡ true → operand k (index_depth e) ≡ Int i → place_at (length (k.memory.elements o)) i ≡ Some n → takes k.world o.type e (value k (kind_of_element e)) ≡ true → UsesArray k (sort.ArrayStore e) (goes_on k (with_elements k.memory o (slice_set (k.memory.elements o) n (kept e (value k (kind_of_element e))))))
