-- How methods and fields are numbered (this project's own rule): by class, then by the bytes of their names, then
-- by those of their descriptors.
use Rattle.std.specs.Prelude.{◌≡◌, ℕ, ◌+◌, List, [], length, map, take, sum_by, count_by, slice_index_or, slice_get, Option, Some, None, option_map, if◌then◌else◌}
use Rattle.std.specs.Cmp.Lexicographic.{slice_cmp}
use Rattle.std.specs.List.{list_any}
use Rattle.std.specs.Ordering.{nat_cmp, ordering_then, is_lt, is_eq}
use Rattle.std.specs.declared.cmp.Ordering.{Ordering}
use Rattle.wf_data.specs.declared.class_info.ClassInfo.{ClassInfo}
use Rattle.wf_data.specs.declared.class_info.FieldInfo.{FieldInfo}
use Rattle.wf_data.specs.declared.class_info.MethodInfo.{MethodInfo}
use Rattle.wf_grammar.specs.ClassFile.{Key}

abbrev pub key_cmp : Key → Key → Ordering
key_cmp a b = ordering_then (slice_cmp nat_cmp a.0 b.0) (slice_cmp nat_cmp a.1 b.1)

abbrev pub method_key : MethodInfo → Key
method_key m = (m.name, m.desc)

abbrev pub field_key : FieldInfo → Key
field_key f = (f.name, f.desc)

-- the keys of the methods of each class; those of its fields
abbrev pub method_keys : List ClassInfo → List (List Key)
method_keys classes = map (λ (k : ClassInfo). map method_key k.methods) classes

abbrev pub field_keys : List ClassInfo → List (List Key)
field_keys classes = map (λ (k : ClassInfo). map field_key k.fields) classes

-- how many members the first n classes have
abbrev pub offset : List (List Key) → ℕ → ℕ
offset keys n = sum_by length (take n keys)

-- how many of a class's members come before a key
abbrev pub rank : List Key → Key → ℕ
rank keys key = count_by (λ k. is_lt (key_cmp k key)) keys

-- the same, where the class has a member of this key
abbrev pub rank_of : List Key → Key → Option ℕ
rank_of keys key = if list_any (λ k. is_eq (key_cmp k key)) keys then Some (rank keys key) else None

-- The number of the member with a key of class c: how many members the classes before c have, and how many of
-- the members of c come before it.
abbrev pub number_of : List (List Key) → ℕ → Key → ℕ
number_of keys c key = offset keys c + rank (slice_index_or keys c []) key

-- the same, where class c has such a member
abbrev pub member_of : List (List Key) → ℕ → Key → Option ℕ
member_of keys c key = option_map (λ r. offset keys c + r) (rank_of (slice_index_or keys c []) key)

-- how many members there are
abbrev pub member_count : List (List Key) → ℕ
member_count keys = sum_by length keys

-- member n is the one at place i in the list of class c
pub record IsMemberAt (keys : List (List Key)) (n c i : ℕ) : Type 0 where
  pub key : Key
  pub there : slice_get (slice_index_or keys c []) i ≡ Some key
  pub number : number_of keys c key ≡ n

-- the number of the method, and of the field, of class c with a name and a descriptor
abbrev pub method_number : List ClassInfo → ℕ → List ℕ → List ℕ → Option ℕ
method_number classes c name desc = member_of (method_keys classes) c (name, desc)

abbrev pub field_number : List ClassInfo → ℕ → List ℕ → List ℕ → Option ℕ
field_number classes c name desc = member_of (field_keys classes) c (name, desc)

-- no class has two members of one key
pub record HaveKeysOfTheirOwn (keys : List (List Key)) : Type 0 where
  pub apart : (c i j : ℕ) (key : Key) → slice_get (slice_index_or keys c []) i ≡ Some key → slice_get (slice_index_or keys c []) j ≡ Some key → i ≡ j
