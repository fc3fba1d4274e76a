-- The one circuit on a store whose capacity is at least its width: each letter may follow, and the wires in slots have room
use Rattle.std.proofs.Common.{◌≡◌, ℕ, ◌<◌, ◌≤◌, List, [], length, Option, Some, None, is_some, slice_index_or, Contains, refl, sym, ap, subst, ◌∙◌}
use Rattle.std.proofs.lemmas.Bool.{cases_lt}
use Rattle.std.proofs.lemmas.List.{get_or_past}
use Rattle.std.proofs.Common.{⊎_elim}
use Rattle.qm_denot.specs.declared.Wire.{Wire}
use Rattle.qm_denot.specs.Stores.{Store, StandsFor}
use Rattle.qm_denot.specs.WireLists.{lacks}
use Rattle.qm_denot.proofs.OperandFacts.{Each}
use Rattle.qm_instr.specs.Programs.{Programs, IsInRange}
use Rattle.qm_check.specs.Checks.{IsReady}
use Rattle.qm_proto.specs.Model.Ideal.{IdealState, ideal_replay, width_from}
use Rattle.qm_proto.proofs.Firsts.{one_run-ideal}
use Rattle.qm_confluence.proofs.Confluence.OnePlace.{InSlot}
use Rattle.qm_ideal.specs.OneCircuits.{OneView, RankEnd, IsOneCircuit, slot_of, wires_in, no_rank, most_letters}
use Rattle.qm_ideal.specs.OneRuns.{IsItsEnd}
use Rattle.qm_ideal.proofs.RunBounds.{letters_bound}
use Rattle.qm_eval.specs.Holding.{IsOneSlot, HoldsCircuit}
use Rattle.qm_eval.specs.Live.{all_live, MakesLive, AllMayFollow, live_through}
use Rattle.qm_eval.specs.Overflows.{NeverOverflows}
use Rattle.qm_eval.proofs.EndLemmas.{full_below, each_in, slots_have}
use Rattle.qm_eval.proofs.ListLemmas.{made_live}
use Rattle.qm_eval.proofs.LiveLemmas.{AllFollow, named_through}
use Rattle.qm_eval.proofs.RoomLemmas.{all_may_follow, ends_have_room}
use Rattle.qm_eval.proofs.RunLemmas.{IsTracked, tracked}

module _ (p : Programs) (ready : IsReady p) (ranges : IsInRange p) (m : OneView) (one : IsOneCircuit p m) where
  abbrev s : IdealState
  s = ideal_replay p one.ranks

  abbrev ends : List Wire
  ends = wires_in (slot_of m) (length m.ranks)

  run_tracked : IsTracked p ready ranges s
  run_tracked = tracked p ready ranges one.ranks (one_run-ideal p one.ranks one.run)

  all_follow : AllFollow [] [] m.letters
  all_follow = subst (AllFollow [] []) (sym one.letters) run_tracked.follow

  pub letters_few : length m.letters ≤ most_letters
  letters_few =
      let end : IsItsEnd p s = record { ranks = one.ranks; run = one.run; state = refl } in
      subst (λ ls. length ls ≤ most_letters) (sym one.letters) (letters_bound p ranges s end)

  slot_is : (r q : ℕ) (w : Wire) → slot_of m r q ≡ Some w → s.tables.slots r q ≡ Some w
  slot_is r q w e = sym (one.slots r q) ∙ e

  ends_tracked : Each (λ w. lacks (named_through [] m.letters) w ≡ lacks (live_through [] m.letters) w) ends
  ends_tracked =
      each_in (slot_of m) (λ w. lacks (named_through [] m.letters) w ≡ lacks (live_through [] m.letters) w)
      (λ r q w e. subst (λ ls. lacks (named_through [] ls) w ≡ lacks (live_through [] ls) w) (sym one.letters) (run_tracked.tracks.known w (InSlot r q, slot_is r q w e)))
      (length m.ranks)

  module _ (capacity : ℕ) (wide : m.width ≤ capacity) where
    fits : width_from [] [] m.letters ends ≤ capacity
    fits = subst (λ n. n ≤ capacity) one.wide wide

    pub letters_follow : AllMayFollow capacity [] m.letters
    letters_follow = all_may_follow capacity m.letters [] [] ends all_follow fits

    pub ends_fit : length (all_live (live_through [] m.letters) ends) ≤ capacity
    ends_fit = ends_have_room capacity m.letters [] [] ends all_follow fits ends_tracked

  -- ---- the slots at the end
  pub once : (r q k j : ℕ) (w : Wire) → slot_of m r q ≡ Some w → slot_of m k j ≡ Some w → IsOneSlot r q k j
  once r q k j w a b =
      let same : InSlot r q ≡ InSlot k j = run_tracked.state.tables.placed.one w (InSlot r q) (InSlot k j) (slot_is r q w a) (slot_is k j w b) in
      record { rank = cc; slot = cc }

  rank_known : (r q : ℕ) (w : Wire) → slot_of m r q ≡ Some w → r < length m.ranks
  rank_known r q w e = ⊎_elim (λ (known : r < length m.ranks). known) (λ (past : length m.ranks ≤ r). absurd (none past)) (cases_lt r (length m.ranks))
    where
      none : length m.ranks ≤ r → ⊥
      none past =
          let is : slot_of m r q ≡ None = ap (λ (x : RankEnd). slice_index_or x.slots q None) (get_or_past m.ranks r no_rank past) in
          cc

  slot_few : (r q : ℕ) (w : Wire) → slot_of m r q ≡ Some w → q < 16
  slot_few r q w e =
      let known : r < length p.ranks = subst (λ n. r < n) one.count (rank_known r q w e) in
      full_below p ranges r known q (s.tables.parts r).at
      (sym (run_tracked.state.tables.full r q) ∙ ap (λ (o : Option Wire). is_some o) (slot_is r q w e))

  pub ends_hold : (a b : Store) → NeverOverflows m.letters → StandsFor a m.letters → MakesLive ends a b → HoldsCircuit m b
  ends_hold a b never stands made = record {
    fits = never;
    stands = made.stands m.letters stands;
    live = λ r q w e.
        subst (λ ws. Contains ws w) (sym made.live)
        (made_live ends a.live w (slots_have (slot_of m) r q (length m.ranks) w e (rank_known r q w e) (slot_few r q w e)));
    once = once;
  }
