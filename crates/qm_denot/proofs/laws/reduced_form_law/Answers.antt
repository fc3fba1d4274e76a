use Rattle.qm_denot.proofs.ReducedForms as forms
use Rattle.qm_denot.proofs.laws.reduced_form_law.Goals as goal

pub returns : goal.returns
returns c = forms.reduced_form_law
