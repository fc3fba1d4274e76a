use Rattle.std.proofs.Common.{subst}
use Rattle.qm_lex.specs.Lexing.{token_list}
use Rattle.qm_parse.specs.Nodes.{program_nodes}
use Rattle.qm_expand.specs.Walk.{Answers, words_in, walked}
use Rattle.qm_expand.specs.Views.{words_of}
use Rattle.qm_expand.proofs.ReadLemmas.{reads}
use Rattle.qm_expand.proofs.TreeWalk.{tree-expanded}
use Rattle.qm_expand.proofs.reading.expand_tree.Goals as goal

pub returns : goal.returns
returns c =
    let text = c.args.source.now.text.now in
    let tokens = token_list c.args.source.now.tokens.now in
    let tree = c.requires.tree in
    reads text tokens tree.program c.requires.are tree.spells (tree-expanded text tokens tree.program c.requires.small c.requires.lie tree.spells) c.expand.result
    (subst (λ verbs. Answers (λ p. p) c.expand.result (walked (words_in text tokens verbs) (program_nodes tree.program))) c.requires.verbs
    (subst (λ nodes. Answers (λ p. p) c.expand.result (walked (words_of c.args.source.now) nodes)) tree.nodes_are c.expand.ensures))
