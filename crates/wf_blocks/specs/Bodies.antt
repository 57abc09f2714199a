-- The code of a method as a graph of places (JVMS 4.10.1, 6.5).
use Rattle.std.specs.Prelude.{◌≡◌, ℕ, suc, ◌+◌, ◌<◌, ◌≤◌, Bool, true, false, not, ◌&&◌, ◌||◌, List, [], ◌∷◌, ◌++◌, length, All, Option, Some, None, is_none, option_map, option_and_then, unwrap_or, slice_get, slice_index, slice_index_or, ◌==◌, nat_lt, nat_le, if◌then◌else◌}
use Rattle.std.specs.List.{list_any, filter_map}
use Rattle.wf_base.specs.declared.kind.Kind.{Kind}
use Rattle.wf_base.specs.declared.kind.Kind.TheVariants as kind
use Rattle.wf_operation.specs.declared.next.Next.{Next}
use Rattle.wf_operation.specs.declared.next.Next.TheVariants.{Returns}
use Rattle.wf_operation.specs.declared.operation.Operation.{Operation}
use Rattle.wf_operation.specs.declared.slot.Source.{Source}
use Rattle.wf_operation.specs.declared.slot.Wanted.{Wanted}
use Rattle.wf_operation.specs.declared.slot.Wanted.TheVariants.{Anything}
use Rattle.wf_operation.specs.Effects.{taken, locals_used, slots_after, sources, wanted}
use Rattle.wf_blocks.specs.declared.body.Step.{Step}
use Rattle.wf_blocks.specs.declared.body.Catcher.{Catcher}
use Rattle.wf_blocks.specs.declared.body.Body.{Body}
use Rattle.wf_blocks.specs.Graphs.{Edge, Graph, edges_by, caught_sources}

-- how many locals there are
abbrev pub locals_of : Body → ℕ
locals_of b = length b.entry

-- ---- handlers

-- whether an entry of the exception table covers a place
abbrev pub covers : ℕ → Catcher → Bool
covers place c = nat_le c.first place && nat_lt place c.end

-- the handler that a place leads to by an entry
abbrev pub caught_by : ℕ → Catcher → Option ℕ
caught_by place c = if covers place c then c.target else None

-- an entry that covers a place has no handler, or no room for the object that is thrown
abbrev pub catcher_fails : ℕ → ℕ → Catcher → Bool
catcher_fails max_stack place c = covers place c && (is_none c.target || max_stack == 0)

-- ---- instructions

-- whether the same kind is returned as the method gives
abbrev pub same_return : Option Kind → Option Kind → Bool
same_return None None = true
same_return (Some kind.Int) (Some kind.Int) = true
same_return (Some kind.Long) (Some kind.Long) = true
same_return (Some kind.Ref) (Some kind.Ref) = true
same_return (Some kind.Float) (Some kind.Float) = true
same_return (Some kind.Double) (Some kind.Double) = true
same_return a b = false

abbrev pub returns_well : Option Kind → Next → Bool
returns_well gives (Returns k) = same_return gives k
returns_well gives other = true

-- A missing operand, a stack above its limit, a local that isn't there, or a return of another kind than the method's.
-- So many slots stand in front of the instruction.
abbrev pub fails_with : Body → Operation → ℕ → Bool
fails_with b o n =
    nat_lt n (locals_of b + taken o.effect) || nat_lt (locals_of b + b.max_stack) (slots_after o.effect n)
    || nat_lt (locals_of b) (locals_used o.effect) || not (returns_well b.returns o.next)

-- an operand that is wrong, or a way to where no instruction is: past the end of the code, or into another instruction
abbrev pub operation_fails : Body → Option Operation → ℕ → Bool
operation_fails b None n = true
operation_fails b (Some o) n = fails_with b o n

abbrev pub step_fails : Body → Option Step → ℕ → Bool
step_fails b None n = true
step_fails b (Some s) n = operation_fails b s.operation n || is_none s.targets

abbrev pub fails_at : Body → ℕ → ℕ → Bool
fails_at b place n = step_fails b (slice_get b.steps place) n || list_any (catcher_fails b.max_stack place) b.catchers

abbrev pub operation_at : Body → ℕ → Option Operation
operation_at b place = option_and_then (λ (s : Step). s.operation) (slice_get b.steps place)

abbrev pub operation_wants : Option Operation → ℕ → ℕ → Wanted
operation_wants None n i = Anything
operation_wants (Some o) n i = wanted o.effect n i

abbrev pub wants_at : Body → ℕ → ℕ → ℕ → Wanted
wants_at b place n i = operation_wants (operation_at b place) n i

-- ---- ways

abbrev pub operation_sources : Option Operation → ℕ → List Source
operation_sources None n = []
operation_sources (Some o) n = sources o.effect n

-- where the slots come from behind the instruction at a place
abbrev pub sources_at : Body → ℕ → ℕ → List Source
sources_at b place n = operation_sources (operation_at b place) n

-- the places to which an instruction leads
abbrev pub targets_in : Step → List ℕ
targets_in s = unwrap_or s.targets []

abbrev pub targets_at : Body → ℕ → List ℕ
targets_at b place = unwrap_or (option_map targets_in (slice_get b.steps place)) []

-- the handlers to which a place leads, one for each entry that covers it
abbrev pub catchers_at : Body → ℕ → List ℕ
catchers_at b place = filter_map (caught_by place) b.catchers

abbrev pub edges_at : Body → ℕ → ℕ → List Edge
edges_at b place n = edges_by (sources_at b place n) (targets_at b place) ++ edges_by (caught_sources (locals_of b)) (catchers_at b place)

-- the places of a method, with what is known of each
unfoldable pub graph_of : Body → Graph
graph_of b = record { entry = b.entry; fails = fails_at b; wants = wants_at b; edges = edges_at b }

-- ---- blocks

-- whether an instruction leads to the next place alone
abbrev pub falls_only : ℕ → List ℕ → Bool
falls_only place targets = length targets == 1 && slice_index targets 0 == place + 1

-- whether an instruction leads to a place in another way than by going on from the place before it alone
abbrev pub leads_apart : ℕ → List ℕ → ℕ → Bool
leads_apart place targets to = not (falls_only place targets) && list_any (λ t. t == to) targets

abbrev pub any_leads_apart : ℕ → List Step → ℕ → Bool
any_leads_apart place [] to = false
any_leads_apart place (s ∷ steps) to = leads_apart place (targets_in s) to || any_leads_apart (suc place) steps to

-- whether an entry has its handler there
abbrev pub is_handler : ℕ → Catcher → Bool
is_handler to c = unwrap_or (option_map (λ t. t == to) c.target) false

-- A block starts at the entry, at a handler, and at a place to which an instruction leads in another way than by going
-- on from the place before it alone. Instructions that no path reaches count too (this project's own).
unfoldable pub starts_at : Body → ℕ → Bool
starts_at b to = to == 0 || list_any (is_handler to) b.catchers || any_leads_apart 0 b.steps to

-- whether a place is inside a block
abbrev pub inner_of : Body → ℕ → Bool
inner_of b place = not (starts_at b place)

-- marks at the starts of blocks
abbrev pub AreStarts : Body → List Bool → Type 0
AreStarts b marks = (place : ℕ) → place < length b.steps → slice_index_or marks place true ≡ starts_at b place

-- Where a body's ways lead, there are places, and its numbers are small.
pub record BodyFits (b : Body) : Type 0 where
  pub steps : length b.steps ≤ 65535
  pub locals : locals_of b ≤ 65535
  pub stack : b.max_stack ≤ 65535
  pub targets : (place : ℕ) → All (λ t. t < length b.steps) (targets_at b place)
  pub catchers : (place : ℕ) → All (λ t. t < length b.steps) (catchers_at b place)
