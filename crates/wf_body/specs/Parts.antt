-- What of a program the systems of its methods are made from.
use Rattle.std.specs.Prelude.{ℕ, List, [], slice_index, slice_index_or}
use Rattle.wf_base.specs.declared.ids.MethodId.{MethodId}
use Rattle.wf_subtype.specs.Subtypes.{AllTypes}
use Rattle.wf_binding.specs.declared.numbers.LiteralNumbers.{LiteralNumbers}
use Rattle.wf_links.specs.declared.linked.Links.{Links}
use Rattle.wf_actions.specs.Actions.{Program}

pub record Parts : Type 0 where
  pub types : AllTypes
  -- what the summary says of literals
  pub literals : List LiteralNumbers
  pub links : Links

-- what of it says what its instructions do
abbrev pub acting : Parts → Program
acting p = record { types = p.types; literals = p.literals }

-- the candidates of a site
abbrev pub candidates_of : Links → ℕ → List MethodId
candidates_of links site = slice_index_or links.candidates (slice_index links.sites site) []
