-- Which methods override which (JVMS 5.4.5), among those of one name and one descriptor: a method is the number of the
-- class that declares it.
use Rattle.std.specs.Prelude.{◌≡◌, ◌≢◌, ℕ, Bool, true, false, not, ◌&&◌, ◌||◌, List, Some}
use Rattle.wf_data.specs.Flags.{is_public, is_private, is_protected, is_static}
use Rattle.wf_data.specs.declared.class_info.ClassInfo.{ClassInfo}
use Rattle.wf_grammar.specs.ClassFile.{Key}
use Rattle.wf_classes.specs.Above.{IsAbove}
use Rattle.wf_classes.specs.Own.{method_flags}
use Rattle.wf_classes.specs.World.{superclass_of}
use Rattle.wf_resolve.specs.Upward.{Offers}
use Rattle.wf_resolve.specs.declared.upward.Wanted.TheVariants.{Overriding}
use Rattle.wf_select.specs.Packages.{same_package}

-- class d is the superclass of class c, or that of its superclass, and so on
pub data IsSuperclass (classes : List ClassInfo) : ℕ → ℕ → Type 0 where
  direct : (c s : ℕ) → superclass_of classes c ≡ Some s → IsSuperclass classes c s
  further : (c s d : ℕ) → superclass_of classes c ≡ Some s → IsSuperclass classes s d → IsSuperclass classes c d

abbrev pub is_open : ℕ → Bool
is_open flags = is_public flags || is_protected flags

-- package access is that of a method that is neither public nor protected nor private
abbrev pub is_of_package : ℕ → Bool
is_of_package flags = not (is_open flags) && not (is_private flags)

-- class c declares an instance method that isn't private, and is another class that class a is above
pub record CanOverride (classes : List ClassInfo) (key : Key) (c a : ℕ) : Type 0 where
  pub offers : Offers classes key Overriding c
  pub above : IsAbove classes c a
  pub other : c ≢ a

-- class a declares an instance method, with these flags
pub record IsInstance (classes : List ClassInfo) (key : Key) (a flags : ℕ) : Type 0 where
  pub there : method_flags classes key a ≡ Some flags
  pub of_instance : is_static flags ≡ false

-- The method of class c overrides that of class a: it is the same; that one is public or protected, or has package
-- access and is of its package; or it overrides a third one, of a superclass, that overrides that one.
pub data Overrides (classes : List ClassInfo) (key : Key) : ℕ → ℕ → Type 0 where
  itself : (a flags : ℕ) → IsInstance classes key a flags → Overrides classes key a a
  of_open : (c a flags : ℕ) → CanOverride classes key c a → IsInstance classes key a flags → is_open flags ≡ true → Overrides classes key c a
  in_package : (c a flags : ℕ) → CanOverride classes key c a → IsInstance classes key a flags → is_of_package flags ≡ true → same_package classes c a ≡ true → Overrides classes key c a
  through : (c b a : ℕ) → CanOverride classes key c a → IsSuperclass classes c b → Overrides classes key c b → Overrides classes key b a → Overrides classes key c a
