use Rattle.std.proofs.Common.{◌∙◌, ap, take}
use Rattle.std.specs.Str.{bytes_eq}
use Rattle.qm_parse.proofs.words.is_for.Goals as goal

pub returns-then-not-begins_otherwise : goal.returns-then-not-begins_otherwise
returns-then-not-begins_otherwise c = c.eq.ensures ∙ ap (λ n. bytes_eq c.args.word.now (take n c.args.entry.now.word)) c.filled_len.ensures.len
