use Rattle.qm_expand.proofs.OneReading.{one-reading}
use Rattle.qm_expand.proofs.laws.one_reading.Goals as goal

pub returns : goal.returns
returns c = one-reading
