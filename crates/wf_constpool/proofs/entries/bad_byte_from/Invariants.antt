use Rattle.std.proofs.Common.{◌≡◌, ◌+◌, drop}
use Rattle.wf_grammar.specs.Reading.{bad_byte_from}
use Rattle.wf_constpool.proofs.entries.bad_byte_from.Given as goal

abbrev pub invariant-loop-byte : goal.invariant-loop-byte
invariant-loop-byte l = record {
  found : bad_byte_from l.place (drop l.byte-index l.bytes) ≡ bad_byte_from l.at l.bytes;
  passed : l.place ≡ l.at + l.byte-index;
}
