use Rattle.std.proofs.Common.{◌≡◌, drop}
use Rattle.wf_listing.specs.Lines.{each_of, label_said, labels_said}
use Rattle.wf_listing.proofs.Each.{with_front}
use Rattle.wf_listing.proofs.lines.words.labels_said.Given as goal

abbrev pub invariant-loop-word : goal.invariant-loop-word
invariant-loop-word l = with_front l.labels.items (each_of label_said (drop l.word-index l.words)) ≡ labels_said l.words
