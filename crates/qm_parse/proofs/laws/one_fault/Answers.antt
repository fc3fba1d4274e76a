use Rattle.qm_parse.proofs.OneAnswer.{one-fault}
use Rattle.qm_parse.proofs.laws.one_fault.Goals as goal

pub returns : goal.returns
returns c = one-fault
