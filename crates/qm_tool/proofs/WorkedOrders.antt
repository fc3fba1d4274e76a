-- Blocks and settled answers, worked out by hand
use Rattle.std.proofs.Common.{◌≡◌, ℕ, List, [], ◌∷◌, map, Bool, true, false, Some, None, refl, sym}
use Rattle.std.proofs.lemmas.Option.{none-some}
use Rattle.qm_cost.specs.declared.Delays.{Delays}
use Rattle.qm_instr.specs.Programs.{Programs}
use Rattle.qm_print.specs.Blocks.{turns_block}
use Rattle.qm_tool.specs.declared.command.Command.TheVariants as command
use Rattle.qm_tool.specs.declared.command.Order.TheVariants.{Lowest, Seeded, Any}
use Rattle.qm_tool.specs.declared.command.Listing.TheVariants.{Nothing, Trace, Turns, TurnsOfStop}
use Rattle.qm_tool.specs.declared.status.Status.TheVariants as status
use Rattle.qm_tool.specs.Commands.{block_of, run}
use Rattle.qm_tool.specs.Due.{IsSettled}

-- ---- the blocks after two turns, where the run is complete and where it isn't
abbrev blocks : Bool → Programs → List (List ℕ)
blocks complete p = map (λ l. block_of l complete p (1 ∷ 0 ∷ [])) (Nothing ∷ Turns ∷ TurnsOfStop ∷ [])

blocks_of_complete : (p : Programs) → blocks true p ≡ [] ∷ turns_block (1 ∷ 0 ∷ []) ∷ [] ∷ []
blocks_of_complete p = refl

blocks_of_stopped : (p : Programs) → blocks false p ≡ [] ∷ turns_block (1 ∷ 0 ∷ []) ∷ turns_block (1 ∷ 0 ∷ []) ∷ []
blocks_of_stopped p = refl

-- ---- the end of a run by threads isn't settled
ends_unsettled : IsSettled (Some (run Any TurnsOfStop)) status.Ok → ⊥
ends_unsettled settled = settled refl

stops_unsettled : IsSettled (Some (run Any Turns)) status.Stopped → ⊥
stops_unsettled settled = settled refl

-- all else is: what else such a run may answer, the ends of runs in other orders, other commands, and no command
refusals_settled : IsSettled (Some (run Any Turns)) status.Refused × (IsSettled (Some (run Any Turns)) status.TooLong × IsSettled (Some (run Any Turns)) status.ReadFault)
refusals_settled = (tt, (tt, tt))

ends_settled : IsSettled (Some (run Lowest Nothing)) status.Ok × IsSettled (Some (run (Seeded 3) Trace)) status.Stopped
ends_settled = ((λ none. absurd (none-some _ (sym none))), (λ none. absurd (none-some _ (sym none))))

others_settled : IsSettled (Some command.Mono) status.Ok × (IsSettled (Some command.Check) status.Ok × IsSettled None status.Usage)
others_settled = (tt, (tt, tt))

-- the cost of a run among them, whether it ends or stops
costs_settled : (seed : ℕ) (d : Delays) → IsSettled (Some (command.Cost seed d)) status.Ok × IsSettled (Some (command.Cost seed d)) status.Stopped
costs_settled seed d = (tt, tt)
