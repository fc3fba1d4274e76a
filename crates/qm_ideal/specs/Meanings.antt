-- What the code's steps mean in the model of the ideal run
use Rattle.std.specs.Prelude.{◌<◌, List, [], ◌∷◌, Option, Some, None}
use Rattle.qm_limits.specs.declared.TheConstants.{SLOTS, BITS}
use Rattle.qm_proto.specs.Model.Ideal as model
use Rattle.qm_proto.specs.Model.Ideal.{IdealRule, IdealAct}
use Rattle.qm_ideal.specs.declared.steps.Load as code
use Rattle.qm_ideal.specs.declared.steps.Load.TheVariants as load
use Rattle.qm_ideal.specs.declared.steps.StepRule.{StepRule}
use Rattle.qm_ideal.specs.declared.steps.StepRule.TheVariants as rule
use Rattle.qm_ideal.specs.declared.steps.StepAct.{StepAct}
use Rattle.qm_ideal.specs.declared.steps.StepAct.TheVariants as act

-- a wire, a bit, or a sign on a lane
abbrev pub load_meant : code.Load → model.Load
load_meant (load.Carried w) = model.Carried w
load_meant (load.Told b) = model.Told b
load_meant load.Token = model.Token

-- what stands at a lane's front; a sign, where nothing does
abbrev pub load_in : Option code.Load → model.Load
load_in None = model.Token
load_in (Some x) = load_meant x

-- what a step waits for
abbrev pub rule_meant : StepRule → IdealRule
rule_meant rule.Always = model.Always
rule_meant (rule.Filled a) = model.Filled a
rule_meant (rule.Engaged a) = model.Engaged a
rule_meant (rule.Lent a back) = model.Lent a back

-- what a step does to the tables
abbrev pub act_meant : StepAct → IdealAct
act_meant act.Counts = model.Counts
act_meant (act.SlotSet q w) = model.SlotSet q w
act_meant (act.Puts a x) = model.Puts a (load_meant x)
act_meant (act.Takes a) = model.Takes a
act_meant (act.BitSet b v) = model.BitSet b v

-- the act's slot or bit is one that there may be
abbrev pub IsSmall : IdealAct → Type 0
IsSmall (model.SlotSet q w) = q < SLOTS
IsSmall (model.BitSet b v) = b < BITS
IsSmall _ = Unit {0}

-- so is that of each of these acts
abbrev pub AllSmall : List IdealAct → Type 0
AllSmall [] = Unit {0}
AllSmall (a ∷ acts) = IsSmall a × AllSmall acts
