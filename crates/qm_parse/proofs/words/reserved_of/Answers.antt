use Rattle.std.proofs.Common.{◌∙◌, sym, ap}
use Rattle.std.specs.Option.{option_or}
use Rattle.qm_parse.specs.declared.table.TheConstants.{NEWER}
use Rattle.qm_parse.specs.Laws.{entry_meaning}
use Rattle.qm_parse.specs.Words.{reserved_of}
use Rattle.qm_parse.proofs.WordLemmas.{found_word, found_newer}
use Rattle.qm_parse.proofs.words.reserved_of.Goals as goal

pub returns-in-One : goal.returns-in-One
returns-in-One c = c.older_meaning.ensures ∙ found_word c.args.word.now ∙ ap (λ v. reserved_of v c.args.word.now) (sym c.in-One.is)

pub returns-in-Two : goal.returns-in-Two
returns-in-Two c =
    c.or.ensures
    ∙ ap (λ o. option_or o c.older_meaning-in-Two.result) c.newer_meaning.ensures
    ∙ ap (λ o. option_or (entry_meaning NEWER c.args.word.now) o) c.older_meaning-in-Two.ensures
    ∙ found_newer c.args.word.now ∙ ap (λ v. reserved_of v c.args.word.now) (sym c.in-Two.is)
