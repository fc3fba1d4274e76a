use Rattle.std.proofs.Common.{sym}
use Rattle.qm_tool.proofs.CommandLemmas.{three_words, many_words}
use Rattle.qm_tool.proofs.command.command_of.Goals as goal

pub returns-in_default-2-clause-command : goal.returns-in_default-2-clause-command
returns-in_default-2-clause-command c = sym (three_words _ c.args.words.now c.in_default.len_at_least c.in_default.len_below)

pub returns-in_default-3-clause-command : goal.returns-in_default-3-clause-command
returns-in_default-3-clause-command c = sym (many_words _ c.args.words.now c.in_default.len_at_least)
