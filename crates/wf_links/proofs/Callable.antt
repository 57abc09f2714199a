-- What is called is there.
use Rattle.std.proofs.Common.{ℕ, ◌<◌, Bool, true, false, length, Option, Some, None}
use Rattle.wf_base.specs.declared.ids.MethodId.{MethodId}
use Rattle.wf_classes.specs.Members.{method_keys, member_count}
use Rattle.wf_subtype.specs.References.{target_count}
use Rattle.wf_subtype.specs.Subtypes.{AllTypes}
use Rattle.wf_links.specs.Callees.{called, known, by_object}
use Rattle.wf_links.specs.Candidates.{IsThere, IsThereIfAny}

module _ (types : AllTypes) (u : ℕ) (there : u < target_count (length types.classes) types.deepest) where
  pub object_there : (m : MethodId) (of_interface : Bool) → m.0 < member_count (method_keys types.classes) → IsThere types (called u m (by_object of_interface))
  object_there m false l = record { receivers = there; method = l }
  object_there m true l = record { receivers = there; method = l }

  pub known_there : (m : Option MethodId) → IsThereIfAny types (known u m)
  known_there (Some m) = record { receivers = there; method = tt }
  known_there None = tt
