use Rattle.std.proofs.Common.{◌≡◌, ◌++◌, take}
use Rattle.std.specs.List.{flat_map}
use Rattle.qm_tool.specs.CostText.{link_line}
use Rattle.qm_tool.proofs.costs.push_chain.Given as goal

abbrev pub invariant-loop-link : goal.invariant-loop-link
invariant-loop-link l = l.text.items ≡ l.fn.text.items ++ flat_map link_line (take l.link-index l.chain)
