use Rattle.qm_denot.proofs.Amplitudes.{amp-push}
use Rattle.qm_denot.proofs.laws.last_letter_law.Goals as goal

pub returns : goal.returns
returns c = λ d l x. amp-push d l x
