use Rattle.qm_confluence.proofs.Confluence.Confluent.{confluence}
use Rattle.qm_ideal.proofs.laws.confluence_law.Goals as goal

pub returns : goal.returns
returns c = confluence
