-- Going up from a class by superclasses.
use Rattle.std.specs.Prelude.{◌≡◌, ℕ, ◌<◌, Bool, true, not, ◌&&◌, List, Option, Some, None}
use Rattle.wf_data.specs.Flags.{is_private, is_static}
use Rattle.wf_data.specs.declared.class_info.ClassInfo.{ClassInfo}
use Rattle.wf_grammar.specs.ClassFile.{Key}
use Rattle.wf_classes.specs.Members.{method_keys, member_count, method_number}
use Rattle.wf_classes.specs.World.{number, superclass_of}
use Rattle.wf_classes.specs.Own.{method_flags}
use Rattle.wf_classes.specs.declared.own.OwnMethod.{OwnMethod}
use Rattle.wf_resolve.specs.declared.upward.Wanted.{Wanted}
use Rattle.wf_resolve.specs.declared.upward.Wanted.TheVariants.{Any, OfInstance, Overriding}

-- the first of a class, its superclass, that one's superclass and so on that P holds of; None where it holds of none
pub data FirstUp (classes : List ClassInfo) (P : ℕ → Type 0) : ℕ → Option ℕ → Type 0 where
  found : (c : ℕ) → P c → FirstUp classes P c (Some c)
  passed : (c s : ℕ) (r : Option ℕ) → (P c → ⊥) → superclass_of classes c ≡ Some s → FirstUp classes P s r → FirstUp classes P c r
  ended : (c : ℕ) → (P c → ⊥) → superclass_of classes c ≡ None → FirstUp classes P c None

-- whether a method with these flags is sought
abbrev pub is_wanted : Wanted → ℕ → Bool
is_wanted Any flags = true
is_wanted OfInstance flags = not (is_static flags)
is_wanted Overriding flags = not (is_static flags) && not (is_private flags)

-- class c declares a method of this name and descriptor that is sought
pub record Offers (classes : List ClassInfo) (key : Key) (wanted : Wanted) (c : ℕ) : Type 0 where
  pub flags : ℕ
  pub there : method_flags classes key c ≡ Some flags
  pub sought : is_wanted wanted flags ≡ true

-- the class, the number and the flags of a method of this name and descriptor, and that the number is one that is there
pub record IsOwn (classes : List ClassInfo) (key : Key) (m : OwnMethod) : Type 0 where
  pub numbered : method_number classes (number m.class) key.0 key.1 ≡ Some m.id.0
  pub within : m.id.0 < member_count (method_keys classes)
  pub flagged : method_flags classes key (number m.class) ≡ Some m.flags
