use Rattle.std.proofs.Common.{◌∙◌, sym}
use Rattle.qm_lex.specs.Lexing.{token_list}
use Rattle.qm_expand.proofs.TextLemmas.{line_at, line_past}
use Rattle.qm_expand.proofs.words.line.Goals as goal

pub returns-in-None : goal.returns-in-None
returns-in-None c = sym (line_past (token_list c.args.source.now.tokens.now) c.args.token (sym c.token.ensures ∙ c.in-None.is))

pub returns-in-Some : goal.returns-in-Some
returns-in-Some c = sym (line_at (token_list c.args.source.now.tokens.now) c.args.token c.in-Some.found (sym c.token.ensures ∙ c.in-Some.is))
