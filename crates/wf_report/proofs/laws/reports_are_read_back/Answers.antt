use Rattle.wf_report.proofs.WorldLaw.{world_read, world_written}
use Rattle.wf_report.proofs.laws.reports_are_read_back.Goals as goal

pub returns-clause-read : goal.returns-clause-read
returns-clause-read c = world_read (record {
  name_read = c.names_are_read_back.ensures.read;
  name_written = c.names_are_read_back.ensures.printed;
  name_word = c.names_are_read_back.ensures.printable;
  member_read = c.members_are_read_back.ensures.read;
  members_are = c.members_are_read_back.ensures.words;
  member_written = c.members_are_read_back.ensures.printed;
  decimal_read = c.decimals_are_read_back.ensures.read;
  decimal_written = c.decimals_are_read_back.ensures.printed;
  decimal_word = c.decimals_are_read_back.ensures.word;
  words_read = c.words_are_read_back.ensures.read;
  words_written = c.words_are_read_back.ensures.printed;
  words_line = c.words_are_read_back.ensures.line;
})

pub returns-clause-written : goal.returns-clause-written
returns-clause-written c = world_written (record {
  name_read = c.names_are_read_back.ensures.read;
  name_written = c.names_are_read_back.ensures.printed;
  name_word = c.names_are_read_back.ensures.printable;
  member_read = c.members_are_read_back.ensures.read;
  members_are = c.members_are_read_back.ensures.words;
  member_written = c.members_are_read_back.ensures.printed;
  decimal_read = c.decimals_are_read_back.ensures.read;
  decimal_written = c.decimals_are_read_back.ensures.printed;
  decimal_word = c.decimals_are_read_back.ensures.word;
  words_read = c.words_are_read_back.ensures.read;
  words_written = c.words_are_read_back.ensures.printed;
  words_line = c.words_are_read_back.ensures.line;
})
