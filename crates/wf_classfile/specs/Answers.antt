-- What is asked of the texts of a pool.
use Rattle.std.specs.Prelude.{◌≡◌, ℕ, Bool, List}
use Rattle.wf_descriptor.specs.Descriptors.{is_field_descriptor, is_method_descriptor}
use Rattle.wf_names.specs.Names.{is_field_name, is_method_name}

-- the answers for a text, the last two of them of methods with a receiver and without
pub record IsAnswered (text : List ℕ) (field_name method_name field instance static : Bool) : Type 0 where
  pub field_name_is : field_name ≡ is_field_name text
  pub method_name_is : method_name ≡ is_method_name text
  pub field_is : field ≡ is_field_descriptor text
  pub instance_is : instance ≡ is_method_descriptor 254 text
  pub static_is : static ≡ is_method_descriptor 255 text
