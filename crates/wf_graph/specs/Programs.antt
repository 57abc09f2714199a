-- The system of a program, over names (this project's own, after SkipFlow, CGO 2025): the rows of its bodies, and those
-- without a place.
use Rattle.std.specs.Prelude.{List, Contains, Option, Some}
use Rattle.wf_base.specs.declared.ids.MethodId.{MethodId}
use Rattle.wf_base.specs.declared.ids.TypeId.{TypeId}
use Rattle.wf_system.specs.declared.inequality.Inequality.{Inequality}
use Rattle.wf_system.specs.Numbers.{IsRenamed}
use Rattle.wf_rows.specs.declared.classes.Initialization.{Initialization}
use Rattle.wf_rows.specs.declared.classes.InstanceFields.{InstanceFields}
use Rattle.wf_rows.specs.declared.node.Node.{Node}
use Rattle.wf_rows.specs.declared.node.Own.{Own}
use Rattle.wf_rows.specs.declared.node.OwnOf.{OwnOf}
use Rattle.wf_rows.specs.declared.summaries.SummaryEffect.{SummaryEffect}
use Rattle.wf_rows.specs.declared.throwable.Throwable.{Throwable}
use Rattle.wf_rows.specs.Classes.{initialization_rows, instances_rows, elements_rows}
use Rattle.wf_rows.specs.Nodes.{Shared}
use Rattle.wf_rows.specs.OfMethod.{in_method}
use Rattle.wf_rows.specs.Summaries.{effect_rows}
use Rattle.wf_graph.specs.Bodies.{Body}
use Rattle.wf_graph.specs.BodyRows.{body_rows}

-- a line of the summary and its method
pub record EffectOf : Type 0 where
  pub method : MethodId
  pub effect : SummaryEffect

-- what of a program its system is made from
pub record Program : Type 0 where
  pub shared : Shared
  pub thrown : Throwable → Option TypeId
  pub classes : List Initialization
  pub instances : List InstanceFields
  pub effects : List EffectOf
  -- the bodies of the methods that have readable ones
  pub bodies : List Body

-- the rows that are called so in the body of a method, by their names in the program
pub record IsIn (method : MethodId) (rows : List (Inequality (Node Own))) (q : Inequality (Node OwnOf)) : Type 0 where
  pub row : Inequality (Node Own)
  pub there : Contains rows row
  pub named : IsRenamed (λ n. Some (in_method method n)) row q

-- The rows of the system. Those without a place name no node of a body, and are the same in each method.
pub data IsRow (p : Program) (q : Inequality (Node OwnOf)) : Type 0 where
  of_body : (b : Body) → Contains p.bodies b → IsIn b.method (body_rows p.shared.arrays p.thrown b) q → IsRow p q
  of_class : (m : MethodId) (c : Initialization) → Contains p.classes c → IsIn m (initialization_rows p.thrown c) q → IsRow p q
  of_instances : (m : MethodId) (c : InstanceFields) → Contains p.instances c → IsIn m (instances_rows c) q → IsRow p q
  of_elements : (m : MethodId) → IsIn m (elements_rows p.shared.arrays) q → IsRow p q
  of_summary : (e : EffectOf) → Contains p.effects e → IsIn e.method (effect_rows e.method p.shared.arrays e.effect) q → IsRow p q
