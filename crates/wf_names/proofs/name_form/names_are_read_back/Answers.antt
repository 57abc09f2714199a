use Rattle.wf_names.proofs.NameLaws.{printed_is_read, read_is_printed}
use Rattle.wf_names.proofs.PrintableNames.{name_printable}
use Rattle.wf_names.proofs.name_form.names_are_read_back.Goals as goal

pub returns-clause-printed : goal.returns-clause-printed
returns-clause-printed c = printed_is_read

pub returns-clause-read : goal.returns-clause-read
returns-clause-read c = read_is_printed

pub returns-clause-printable : goal.returns-clause-printable
returns-clause-printable c = name_printable
