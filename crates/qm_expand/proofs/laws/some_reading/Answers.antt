use Rattle.qm_expand.proofs.SomeReading.{some-reading}
use Rattle.qm_expand.proofs.laws.some_reading.Goals as goal

pub returns : goal.returns
returns c = some-reading
