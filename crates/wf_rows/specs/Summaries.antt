-- Rows of methods of which the summary says what they do (this project's own).
use Rattle.std.specs.Prelude.{List, [], ◌∷◌}
use Rattle.wf_base.specs.declared.ids.MethodId.{MethodId}
use Rattle.wf_system.specs.declared.inequality.Guard.{Guard}
use Rattle.wf_system.specs.declared.inequality.Guard.TheVariants.{NonEmpty}
use Rattle.wf_system.specs.declared.inequality.ValueOp.{ValueOp}
use Rattle.wf_system.specs.declared.inequality.ValueOp.TheVariants.{Token, OneType, Copy, ElementsOf}
use Rattle.wf_system.specs.declared.inequality.Inequality.{Inequality}
use Rattle.wf_rows.specs.declared.context.ArrayType.{ArrayType}
use Rattle.wf_rows.specs.declared.node.Node.{Node}
use Rattle.wf_rows.specs.declared.node.Node.TheVariants.{Inst, Entered, Parameter, Returned, Held, Touched, Copied}
use Rattle.wf_rows.specs.declared.node.Own.{Own}
use Rattle.wf_rows.specs.declared.summaries.SummaryEffect.{SummaryEffect}
use Rattle.wf_rows.specs.declared.summaries.SummaryEffect.TheVariants.{ReturnsVoid, Returns, Makes, Writes, Copies}
use Rattle.wf_rows.specs.declared.summaries.SummaryValue.{SummaryValue}
use Rattle.wf_rows.specs.declared.summaries.SummaryValue.TheVariants.{Stated, Argument}
use Rattle.wf_rows.specs.Arrays.{stored_rows}
use Rattle.wf_rows.specs.Before.{row_under}
use Rattle.wf_rows.specs.Each.{each_from}
use Rattle.wf_rows.specs.Values.{stated_value, made_rows}

-- a value that a method returns or writes: one that is stated, or an argument
abbrev pub summary_value : MethodId → SummaryValue → ValueOp (Node Own)
summary_value m (Stated v) = stated_value v
summary_value m (Argument i) = Copy (Parameter m i)

-- a new object of such a value is made
abbrev pub summary_made_rows : Guard (Node Own) → SummaryValue → List (Inequality (Node Own))
summary_made_rows guard (Stated v) = made_rows guard v
summary_made_rows guard (Argument i) = []

-- What a method does, where the guard holds: it returns, it makes an object, it writes a field, which is touched, or it
-- copies elements of one argument to another.
abbrev pub effect_under : Guard (Node Own) → MethodId → List ArrayType → SummaryEffect → List (Inequality (Node Own))
effect_under guard m arrays ReturnsVoid = row_under guard (Returned m) Token ∷ []
effect_under guard m arrays (Returns v) = row_under guard (Returned m) (summary_value m v) ∷ summary_made_rows guard v
effect_under guard m arrays (Makes t) = row_under guard Inst (OneType t) ∷ []
effect_under guard m arrays (Writes f v) = row_under guard (Held f) (summary_value m v) ∷ row_under guard (Touched f) Token ∷ summary_made_rows guard v
effect_under guard m arrays (Copies line source into) =
    row_under guard (Copied line) (ElementsOf (Parameter m source))
    ∷ each_from (stored_rows guard (Parameter m into) (Copied line)) 0 arrays

-- where the method is entered
abbrev pub effect_rows : MethodId → List ArrayType → SummaryEffect → List (Inequality (Node Own))
effect_rows m arrays effect = effect_under (NonEmpty (Entered m)) m arrays effect
