-- What the turns of a run come to
use Rattle.std.proofs.Common.{◌≡◌, ◌≢◌, ◌∙◌, ◌<◌, ℕ, ◌+◌, ◌-◌, ◌%◌, List, [], ◌∷◌, ◌++◌, length, None, suc, refl, sym, ap, subst, true, false, Bool, append_assoc, append-nil, length-append, arith}
use Rattle.qm_denot.specs.Stores.{Store}
use Rattle.qm_instr.specs.Programs.{Programs}
use Rattle.qm_proto.specs.Model.State.{State}
use Rattle.qm_proto.specs.Model.Runs.{IsAllowed, next}
use Rattle.qm_proto.specs.Model.Schedules.{replay}
use Rattle.qm_proto.specs.Model.Orders.{Words, words_after, start_of, IsFirstAround, IsEndAround, IsOrderFrom}
use Rattle.qm_proto.proofs.Replays.{replay-push}
use Rattle.qm_machine.specs.Keeps.{MachineView, IsSame, state_of}
use Rattle.qm_ranks.specs.Plays.{IsOver, GoesOn, Plays, Went, Stood, Turns, Goes, Stands, Stays}

-- so far the machine has gone on by these entries in the order of the words, and whatever goes on in the order of the words that are left
-- makes one order with them; a halted machine is as it was
pub record PlaysSoFar {A : Type 0} (store : A → Store) (old m : MachineView A) (words left : Words) : Type 0 where
  pub text : m.text ≡ old.text
  pub programs : m.programs ≡ old.programs
  pub running : m.halted ≡ old.halted
  pub stays : old.halted ≢ None → IsSame store old m
  pub more : List ℕ
  pub schedule : m.schedule ≡ old.schedule ++ more
  pub used : (k : ℕ) → left k ≡ words (length more + k)
  pub order : (rest : List ℕ) → IsOrderFrom old.programs (state_of m) left rest → IsOrderFrom old.programs (state_of old) words (more ++ rest)

-- before the first turn
pub nothing_played : {A : Type 0} (store : A → Store) (old : MachineView A) (words : Words) → PlaysSoFar store old old words words
nothing_played store old words = record {
  text = refl;
  programs = refl;
  running = refl;
  stays = λ _. record { text = refl; programs = refl; schedule = refl; halted = refl; contents = refl };
  more = [];
  schedule = sym (append-nil old.schedule);
  used = λ k. let e : 0 + k ≡ k = omega arith in sym (ap words e);
  order = λ rest h. h;
}

-- a turn in which a rank was stepped leaves fewer entries to come
pub fewer_left : {A : Type 0} (store : A → Store) (m n : MachineView A) (start : ℕ) (went : Bool) → Turns store m start n went → went ≡ true → 500001 - length n.schedule < 500001 - length m.schedule
fewer_left store m n start true (Goes w) e =
    let short = w.short in
    let long : length n.schedule ≡ length m.schedule + 1 = ap length w.schedule ∙ length-append m.schedule (w.rank ∷ []) in
    omega arith
fewer_left store m n start false (Stands s) e = cc
fewer_left store m n start false (Stays halted same) e = cc

module _ {A : Type 0} (store : A → Store) (old m n : MachineView A) (words left : Words) (h : PlaysSoFar store old m words left) where
  -- the state that one entry more leaves
  next_state : (r : ℕ) → n.programs ≡ m.programs → n.schedule ≡ m.schedule ++ r ∷ [] → state_of n ≡ next old.programs (state_of m) r
  next_state r programs schedule =
      ap (λ p. replay p n.schedule) programs
      ∙ ap (replay m.programs) schedule
      ∙ replay-push m.programs m.schedule r
      ∙ ap (λ p. next p (state_of m) r) h.programs

  -- after a turn in which a rank was stepped
  pub one_more_played : Went m (start_of old.programs left) n → PlaysSoFar store old n words (words_after left)
  one_more_played w = record {
    text = w.text ∙ h.text;
    programs = w.programs ∙ h.programs;
    running = w.still ∙ sym w.was_running ∙ h.running;
    stays = λ halted. absurd (halted (sym h.running ∙ w.was_running));
    more = h.more ++ w.rank ∷ [];
    schedule = w.schedule ∙ ap (λ xs. xs ++ w.rank ∷ []) h.schedule ∙ append_assoc old.schedule h.more (w.rank ∷ []);
    used = λ k.
        let long : length (h.more ++ w.rank ∷ []) ≡ length h.more + 1 = length-append h.more (w.rank ∷ []) in
        let e : length h.more + suc k ≡ length (h.more ++ w.rank ∷ []) + k = omega arith in
        h.used (suc k) ∙ ap words e;
    order = λ rest goes.
        let first : IsFirstAround old.programs (state_of m).tables (start_of old.programs left) w.rank =
        subst (λ (p : Programs). IsFirstAround p (state_of m).tables (start_of old.programs left) w.rank) h.programs w.first in
        let allowed : IsAllowed old.programs (state_of m) w.rank = subst (λ (p : Programs). IsAllowed p (state_of m) w.rank) h.programs w.allowed in
        let later : IsOrderFrom old.programs (next old.programs (state_of m) w.rank) (words_after left) rest =
        subst (λ (s : State). IsOrderFrom old.programs s (words_after left) rest) (next_state w.rank w.programs w.schedule) goes in
        subst (IsOrderFrom old.programs (state_of old) words) (sym (append_assoc h.more (w.rank ∷ []) rest)) (h.order (w.rank ∷ rest) (first, allowed, later));
  }

  -- after the last one
  gone_on : Stood m (start_of old.programs left) n → GoesOn old n words
  gone_on s = record {
    more = h.more;
    schedule = s.schedule ∙ h.schedule;
    order =
        let ended : IsEndAround old.programs (state_of m) (start_of old.programs left) =
        subst (λ (p : Programs). IsEndAround p (state_of m) (start_of old.programs left)) h.programs s.ended in
        subst (IsOrderFrom old.programs (state_of old) words) (append-nil h.more) (h.order [] ended);
    over =
        let e : length h.more + 0 ≡ length h.more = omega arith in
        subst (λ w. IsOver n (w % length old.programs.ranks)) (h.used 0 ∙ ap words e) s.over;
  }

  pub all_played : (went : Bool) → Turns store m (start_of old.programs left) n went → went ≡ false → Plays store old n words
  all_played true (Goes w) e = cc
  all_played false (Stands s) e = record {
    text = s.text ∙ h.text;
    programs = s.programs ∙ h.programs;
    stays = λ halted. absurd (halted (sym h.running ∙ s.was_running));
    goes = λ _. gone_on s;
  }
  all_played false (Stays halted same) e = record {
    text = same.text ∙ h.text;
    programs = same.programs ∙ h.programs;
    stays = λ was.
        let before = h.stays was in
        record {
          text = same.text ∙ before.text;
          programs = same.programs ∙ before.programs;
          schedule = same.schedule ∙ before.schedule;
          halted = same.halted ∙ before.halted;
          contents = same.contents ∙ before.contents;
        };
    goes = λ none. absurd (halted (h.running ∙ none));
  }

  pub still_played : (went : Bool) → Turns store m (start_of old.programs left) n went → went ≡ true → PlaysSoFar store old n words (words_after left)
  still_played true (Goes w) e = one_more_played w
  still_played false (Stands s) e = cc
  still_played false (Stays halted same) e = cc
