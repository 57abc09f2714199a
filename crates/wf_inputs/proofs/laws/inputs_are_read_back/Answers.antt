use Rattle.wf_inputs.proofs.RootsLaw.{roots_read_back}
use Rattle.wf_inputs.proofs.SummaryLaw.{summary_read_back}
use Rattle.wf_inputs.proofs.laws.inputs_are_read_back.Goals as goal

pub returns-clause-summary : goal.returns-clause-summary
returns-clause-summary c =
    summary_read_back
    (record {
      name = c.names_are_read_back.ensures.read;
      printable = c.names_are_read_back.ensures.printable;
      member = c.members_are_read_back.ensures.read;
      member_are = c.members_are_read_back.ensures.words;
      natural = c.decimals_are_read_back.ensures.read;
      natural_is = c.decimals_are_read_back.ensures.word;
      signed = c.decimals_are_read_back.ensures.signed;
      signed_is = c.decimals_are_read_back.ensures.signed_word;
    })
    (record {
      words = c.words_are_read_back.ensures.printed;
      line_is = c.words_are_read_back.ensures.line;
      lines = c.lines_are_read_back.ensures;
    })

pub returns-clause-roots : goal.returns-clause-roots
returns-clause-roots c =
    roots_read_back
    (record {
      name = c.names_are_read_back.ensures.read;
      printable = c.names_are_read_back.ensures.printable;
      member = c.members_are_read_back.ensures.read;
      member_are = c.members_are_read_back.ensures.words;
      natural = c.decimals_are_read_back.ensures.read;
      natural_is = c.decimals_are_read_back.ensures.word;
      signed = c.decimals_are_read_back.ensures.signed;
      signed_is = c.decimals_are_read_back.ensures.signed_word;
    })
    (record {
      words = c.words_are_read_back.ensures.printed;
      line_is = c.words_are_read_back.ensures.line;
      lines = c.lines_are_read_back.ensures;
    })
