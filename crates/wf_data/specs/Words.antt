-- The words that are printed for what a method is refused for (this project's own).
use Rattle.std.specs.Prelude.{ℕ, List, codes}
use Rattle.wf_data.specs.declared.what.What.{What}
use Rattle.wf_data.specs.declared.what.What.TheVariants as what

abbrev pub what_word : What → List ℕ
what_word what.Float = codes "float"
what_word what.InvokeDynamic = codes "invokedynamic"
what_word what.Jsr = codes "jsr"
what_word what.MethodHandle = codes "method handle"
what_word what.Reflection = codes "reflection"
what_word what.Thread = codes "thread"
what_word what.Native = codes "native"
what_word what.Code = codes "code"
what_word what.Shape = codes "shape"
