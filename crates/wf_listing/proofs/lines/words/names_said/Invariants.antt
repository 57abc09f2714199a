use Rattle.std.proofs.Common.{◌≡◌, drop}
use Rattle.wf_names.specs.NameForm.{name_of}
use Rattle.wf_listing.specs.Lines.{each_of, names_of}
use Rattle.wf_listing.proofs.Each.{with_front}
use Rattle.wf_listing.proofs.lines.words.names_said.Given as goal

abbrev pub invariant-loop-word : goal.invariant-loop-word
invariant-loop-word l = with_front l.names.items (each_of name_of (drop l.word-index l.words)) ≡ names_of l.words
