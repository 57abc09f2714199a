-- The words that are printed for faults (this project's own).
use Rattle.std.specs.Prelude.{ℕ, List, codes}
use Rattle.wf_bytes.specs.declared.fault.Why.{Why}
use Rattle.wf_bytes.specs.declared.fault.Why.TheVariants as why

abbrev pub why_word : Why → List ℕ
why_word why.Magic = codes "magic"
why_word why.Version = codes "version"
why_word why.Index = codes "index"
why_word why.Tag = codes "tag"
why_word why.Utf8 = codes "utf8"
why_word why.Name = codes "name"
why_word why.Super = codes "super"
why_word why.Descriptor = codes "descriptor"
why_word why.Twice = codes "twice"
why_word why.Length = codes "length"
why_word why.Constant = codes "constant"
why_word why.Code = codes "code"
why_word why.Cut = codes "cut"
why_word why.Trailing = codes "trailing"
