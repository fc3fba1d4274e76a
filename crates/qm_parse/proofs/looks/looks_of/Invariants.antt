use Rattle.std.proofs.Common.{◌≡◌, take}
use Rattle.qm_parse.proofs.LookLemmas.{looks_in}
use Rattle.qm_parse.proofs.looks.looks_of.Given as goal

abbrev pub invariant-loop-token : goal.invariant-loop-token
invariant-loop-token l = l.looks.items ≡ looks_in l.version l.text (take l.token-index l.token-items)
