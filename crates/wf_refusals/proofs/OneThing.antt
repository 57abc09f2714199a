-- A code is refused for one thing, from the facts that it is read in one way.
use Rattle.std.proofs.Common.{◌≡◌, ℕ, List, Option, Some, None, sym, ap, ◌∙◌}
use Rattle.wf_data.specs.declared.class_info.PoolEntry.{PoolEntry}
use Rattle.wf_data.specs.declared.instr.Placed.{Placed}
use Rattle.wf_data.specs.declared.what.What.TheVariants.{Code}
use Rattle.wf_opcode.specs.Instructions.{Instructions, IsBadAt}
use Rattle.wf_refusals.specs.declared.instruction.Refusal.{Refusal}
use Rattle.wf_refusals.specs.Refusals.{refusal, first_refusal, IsReadable, IsUnreadable, bytes, instruction}

some_is : (a b : Refusal) → Some a ≡ Some b → a ≡ b
some_is a b e = cc

no_refusal : (o : Option Refusal) (r : Refusal) → o ≡ None → o ≡ Some r → ⊥
no_refusal o r e f = absurd cc

module _ (same : (code : List ℕ) (a b : List Placed) → Instructions 0 code a → Instructions 0 code b → a ≡ b)
    (place : (code : List ℕ) (p q : ℕ) → IsBadAt code p → IsBadAt code q → p ≡ q)
    (apart : (code : List ℕ) (pc : ℕ) (placed : List Placed) → IsBadAt code pc → Instructions 0 code placed → ⊥) where
  pub one : (pool : List PoolEntry) (code : List ℕ) (r s : Refusal) → IsUnreadable pool code r → IsUnreadable pool code s → r ≡ s
  one pool code _ _ (bytes p h) (bytes q k) = ap (λ (x : ℕ). refusal x Code) (place code p q h k)
  one pool code _ _ (bytes p h) (instruction is s i e) = absurd (apart code p is h i)
  one pool code _ _ (instruction is r i e) (bytes q k) = absurd (apart code q is k i)
  one pool code _ _ (instruction is r i e) (instruction js s j f) = some_is r s (sym e ∙ ap (λ (l : List Placed). first_refusal pool l) (same code is js i j) ∙ f)

  pub readable : (pool : List PoolEntry) (code : List ℕ) (is : List Placed) (r : Refusal) → IsReadable pool code is → IsUnreadable pool code r → ⊥
  readable pool code is _ h (bytes p b) = apart code p is b h.spelled
  readable pool code is _ h (instruction js r j e) =
      no_refusal (first_refusal pool is) r h.passed (ap (λ (l : List Placed). first_refusal pool l) (same code is js h.spelled j) ∙ e)
