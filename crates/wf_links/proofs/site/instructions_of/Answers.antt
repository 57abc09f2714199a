use Rattle.std.proofs.Common.{subst, List, ℕ}
use Rattle.wf_opcode.specs.Instructions.{Instructions, IsBadAt, IsFault}
use Rattle.wf_links.specs.Sites.AreInstructionsOf.{read, no_code, unread}
use Rattle.wf_links.proofs.site.instructions_of.Goals as goal

pub returns-in-None : goal.returns-in-None
returns-in-None c = rw c.new.ensures (no_code c.in-None.is)

pub returns-in-Ok : goal.returns-in-Ok
returns-in-Ok c = read c.in-Some.code c.in-Ok.placed c.in-Some.is (subst (λ (bytes : List ℕ). Instructions 0 bytes c.in-Ok.placed) c.as_slice.ensures c.in-Ok.ensures.ok)

pub returns-in-Err-BadCode : goal.returns-in-Err-BadCode
returns-in-Err-BadCode c =
    let bytes = c.as_slice.result.now in
    let pc = c.in-Err-BadCode.field-0-0 in
    let bad = subst (IsFault bytes) c.in-Err-BadCode.field-0-is c.in-Err-BadCode.ensures.err in
    rw c.new-in-Err-BadCode.ensures (unread c.in-Some.code pc c.in-Some.is (subst (λ (xs : List ℕ). IsBadAt xs pc) c.as_slice.ensures bad))
