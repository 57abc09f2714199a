-- The method that a name means in a class, and in an interface (JVMS 5.4.3.3, 5.4.3.4).
use Rattle.std.specs.Prelude.{◌≡◌, ℕ, true, false, List, Option, Some, None}
use Rattle.wf_data.specs.Flags.{is_public, is_static}
use Rattle.wf_data.specs.declared.class_info.ClassInfo.{ClassInfo}
use Rattle.wf_grammar.specs.ClassFile.{Key}
use Rattle.wf_names.specs.Names.{object_name}
use Rattle.wf_classes.specs.World.{class_of}
use Rattle.wf_classes.specs.Own.{method_flags}
use Rattle.wf_resolve.specs.Inherited.{FromInterfaces}
use Rattle.wf_resolve.specs.Upward.{FirstUp, Offers}
use Rattle.wf_resolve.specs.declared.upward.Wanted.TheVariants.{Any}

-- The class or interface that declares the method that the name means in class c: the first class going up that
-- declares one, else a superinterface.
pub data MethodOfClass (classes : List ClassInfo) (key : Key) (c : ℕ) : Option ℕ → Type 0 where
  by_class : (d : ℕ) → FirstUp classes (Offers classes key Any) c (Some d) → MethodOfClass classes key c (Some d)
  by_interface : (r : Option ℕ) → FirstUp classes (Offers classes key Any) c None → FromInterfaces classes key c r → MethodOfClass classes key c r

-- class o is java/lang/Object, and declares a public method of this name and descriptor that isn't static
pub record IsOfObject (classes : List ClassInfo) (key : Key) (o : ℕ) : Type 0 where
  pub object : class_of classes object_name ≡ Some o
  pub flags : ℕ
  pub there : method_flags classes key o ≡ Some flags
  pub public : is_public flags ≡ true
  pub of_instance : is_static flags ≡ false

-- The same in interface c: what it declares itself, else a public instance method of java/lang/Object, else a
-- superinterface's.
pub data MethodOfInterface (classes : List ClassInfo) (key : Key) (c : ℕ) : Option ℕ → Type 0 where
  own : Offers classes key Any c → MethodOfInterface classes key c (Some c)
  by_object : (o : ℕ) → (Offers classes key Any c → ⊥) → IsOfObject classes key o → MethodOfInterface classes key c (Some o)
  by_interface : (r : Option ℕ) → (Offers classes key Any c → ⊥) → ((o : ℕ) → IsOfObject classes key o → ⊥) → FromInterfaces classes key c r → MethodOfInterface classes key c r
