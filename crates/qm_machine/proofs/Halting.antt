-- The causes for which a step can't halt a machine, by the laws of runs
use Rattle.std.proofs.Common.{◌≡◌, ◌⊎◌, ℕ, List, [], ◌∷◌, Option, Some, None, inl, inr, refl, sym, ap, subst, ◌∙◌}
use Rattle.std.proofs.lemmas.Option.{same_Some}
use Rattle.qm_denot.specs.Circuits.{Circuit}
use Rattle.qm_denot.specs.Stores.{Store}
use Rattle.qm_instr.specs.Programs.{Programs}
use Rattle.qm_proto.specs.declared.Cause.{Cause}
use Rattle.qm_proto.specs.declared.Cause.TheVariants as cause
use Rattle.qm_proto.specs.declared.Check.{Check}
use Rattle.qm_proto.specs.declared.Check.TheVariants.{Possible, Zero, Equal, Fits}
use Rattle.qm_proto.specs.declared.Event.TheVariants as event
use Rattle.qm_proto.specs.declared.Row.{Row}
use Rattle.qm_proto.specs.Model.Runs.{FirstFails, IsRefused, row_next, row_checks}
use Rattle.qm_proto.specs.Model.Schedules.{IsStuck, RendezvousEnds}
use Rattle.qm_proto.specs.Model.State.{Tables}
use Rattle.qm_confluence.proofs.Stuck.Rendezvous.{never_stuck_law}
use Rattle.qm_simulation.proofs.Laws.{exponent_law}
use Rattle.qm_safety.specs.Safety.Legal.{IsLegalRun}
use Rattle.qm_machine.specs.declared.Halt.{Halt}
use Rattle.qm_machine.specs.declared.Step.{Step}
use Rattle.qm_machine.specs.declared.Step.TheVariants as step
use Rattle.qm_machine.specs.Halting.{HaltsFor, HasSmallExponent, IsAtMeasure}
use Rattle.qm_machine.specs.Keeps.{MachineView, Keeps, StepIs, HaltsAt, HaltsStuck, HaltsRefused, state_of, event_of}
use Rattle.qm_machine.proofs.RowsRead.{measured}

-- no test fails for the cause of a stuck state
never_by_test : (g : Circuit) (ks : List Check) → ¬ FirstFails g ks cause.Stuck
never_by_test g [] h = h
never_by_test g (c ∷ ks) (inr h) = never_by_test g ks h.1
never_by_test g (Possible w m ∷ ks) (inl h) = let e = h.1 in cc
never_by_test g (Zero w ∷ ks) (inl h) = let e = h.1 in cc
never_by_test g (Equal w v ∷ ks) (inl h) = let e = h.1 in cc
never_by_test g (Fits w ∷ ks) (inl h) = let e = h.1 in cc

-- where the next line of rank r may be refused as impossible, it is a measurement's
own_line : (p : Programs) (t : Tables) (r : ℕ) (g : Circuit) (o : Option Row) → row_next p t r ≡ o
    → FirstFails g (row_checks o) cause.Impossible → event_of o ≡ Some event.Measure
own_line p t r g None is h = absurd h
own_line p t r g (Some w) is h = ap Some (measured p t r w is g h)

module _ {A : Type 0} (store : A → Store) (m n : MachineView A) (r : ℕ) where
  -- the halt that a step of rank r left, which has this cause
  record NewHalt (c : Cause) : Type 0 where
    pub halt : Halt
    pub why : HaltsAt m.programs m.schedule halt
    pub who : (halt.rank ≡ r) ⊎ IsStuck m.programs (state_of m).tables
    pub cause_so : halt.cause ≡ c

  new_halt : (a : Step) (c : Cause) → StepIs store m r a n → HaltsFor m n c → NewHalt c
  new_halt (step.Did e) c did h = let some = h.halted in let none = did.still in cc
  new_halt (step.Blocked why) c blocked h =
      let some = h.halted in
      let same = blocked.same.halted in
      let none = h.running in
      cc
  new_halt step.Ended c ended h =
      let some = h.halted in
      let same = ended.same.halted in
      let none = h.running in
      cc
  new_halt step.Halted c (inl stays) h = absurd (stays.halted h.running)
  new_halt step.Halted c (inr halts) h =
      let one : halts.halt ≡ h.halt = same_Some halts.halt h.halt (sym halts.new.halted ∙ h.halted) in
      record { halt = halts.halt; why = halts.why; who = halts.who; cause_so = ap (λ (x : Halt). x.cause) one ∙ h.cause_so }

  -- an event was refused for it, unless the state is stuck
  refused_for : (c : Cause) (x : NewHalt c) → HaltsRefused m.programs (state_of m) x.halt → IsRefused m.programs (state_of m) x.halt.rank c
  refused_for c x refused = subst (IsRefused m.programs (state_of m) x.halt.rank) x.cause_so refused.refused

  module _ (a : Step) (is : StepIs store m r a n) where
    pub never_overflows : Keeps store m → HasSmallExponent store m → ¬ HaltsFor m n cause.Overflow
    never_overflows kept small h = by_why x.why.why
      where
        x : NewHalt cause.Overflow
        x = new_halt a cause.Overflow is h

        by_why : HaltsStuck m.programs (state_of m) x.halt ⊎ HaltsRefused m.programs (state_of m) x.halt → ⊥
        by_why (inl stuck) = let e = stuck.cause_so in let d = x.cause_so in cc
        by_why (inr refused) =
            let run : IsLegalRun m.programs m.schedule = record { ready = kept.ready; in_range = kept.in_range; legal = kept.legal } in
            (exponent_law m.programs m.schedule run (store m.amps).value (store m.amps).exponent kept.stands.form small).allowed x.halt.rank
            (refused_for cause.Overflow x refused)

    pub impossible_at_measure : HaltsFor m n cause.Impossible → IsAtMeasure m r
    impossible_at_measure h = by_why x.why.why x.who
      where
        x : NewHalt cause.Impossible
        x = new_halt a cause.Impossible is h

        by_why : HaltsStuck m.programs (state_of m) x.halt ⊎ HaltsRefused m.programs (state_of m) x.halt
            → (x.halt.rank ≡ r) ⊎ IsStuck m.programs (state_of m).tables → IsAtMeasure m r
        by_why (inl stuck) who = let e = stuck.cause_so in let d = x.cause_so in cc
        by_why (inr refused) (inl same) =
            let here : IsRefused m.programs (state_of m) r cause.Impossible =
            subst (λ (k : ℕ). IsRefused m.programs (state_of m) k cause.Impossible) same (refused_for cause.Impossible x refused) in
            let t = (state_of m).tables in
            own_line m.programs t r (state_of m).circuit (row_next m.programs t r) refl here
        by_why (inr refused) (inr stuck) =
            let able = refused.able in
            let unable = stuck.none x.halt.rank refused.known in
            cc

    pub never_stuck : Keeps store m → RendezvousEnds m.programs → ¬ HaltsFor m n cause.Stuck
    never_stuck kept ends h = by_why x.why.why
      where
        x : NewHalt cause.Stuck
        x = new_halt a cause.Stuck is h

        by_why : HaltsStuck m.programs (state_of m) x.halt ⊎ HaltsRefused m.programs (state_of m) x.halt → ⊥
        by_why (inl stuck) = (never_stuck_law m.programs ends).0 m.schedule kept.legal stuck.stuck
        by_why (inr refused) =
            let t = (state_of m).tables in
            never_by_test (state_of m).circuit (row_checks (row_next m.programs t x.halt.rank)) (refused_for cause.Stuck x refused)
