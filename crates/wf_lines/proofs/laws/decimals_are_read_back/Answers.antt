use Rattle.wf_lines.proofs.DecimalLaws.{read_decimal, printed_decimal, decimal_word, read_signed, signed_word}
use Rattle.wf_lines.proofs.laws.decimals_are_read_back.Goals as goal

pub returns-clause-read : goal.returns-clause-read
returns-clause-read c = read_decimal

pub returns-clause-printed : goal.returns-clause-printed
returns-clause-printed c = printed_decimal

pub returns-clause-word : goal.returns-clause-word
returns-clause-word c = decimal_word

pub returns-clause-signed : goal.returns-clause-signed
returns-clause-signed c = read_signed

pub returns-clause-signed_word : goal.returns-clause-signed_word
returns-clause-signed_word c = signed_word
