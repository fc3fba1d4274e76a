-- Every legal schedule follows its ideal run: the same ranks, and messages apart from each other
use Rattle.std.proofs.Common.{◌≡◌, ℕ, zero, suc, ◌<◌, ◌≤◌, true, false, inl, inr, List, [], ◌∷◌, length, Option, Some, None, Contains, slice_get, refl, sym, ap, subst, ◌∙◌, arith, ⊎_elim}
use Rattle.std.proofs.lemmas.Bool.{cases_lt}
use Rattle.std.proofs.lemmas.List.{get_or_past}
use Rattle.qm_denot.specs.declared.Wire.{Wire}
use Rattle.qm_denot.specs.declared.Letter.{Letter}
use Rattle.qm_denot.specs.Weights.{operands}
use Rattle.qm_denot.specs.Tags.{Tagged}
use Rattle.qm_denot.proofs.Partings.{IsAmong, AreNaming, IsNamedBy}
use Rattle.qm_instr.specs.declared.Instr.{Instr}
use Rattle.qm_instr.specs.Programs.{Programs, RankProgram, IsInRange, idle_rank}
use Rattle.qm_check.specs.Checks.{IsReady}
use Rattle.qm_proto.specs.declared.Check.{Check}
use Rattle.qm_proto.specs.declared.Row.{Row}
use Rattle.qm_proto.specs.Model.State.{Tables}
use Rattle.qm_proto.specs.Model.Acts.{acts_letters}
use Rattle.qm_proto.specs.Model.Rows.{current}
use Rattle.qm_proto.specs.Model.Runs.{row_in, row_holds, row_letters, row_checks, enabled, next_letters}
use Rattle.qm_proto.specs.Model.Schedules.{replay, IsLegal}
use Rattle.qm_proto.specs.Model.Ideal.{IdealPart, IdealTables, ideal_replay}
use Rattle.qm_safety.specs.Tables.Lines.{row_at, acts_of}
use Rattle.qm_simulation.specs.Following.Deciding.{ideal_of}
use Rattle.qm_simulation.specs.Following.Seen.{tables_seen, part_seen}
use Rattle.qm_simulation.specs.Following.Debts.{Message}
use Rattle.qm_simulation.specs.Following.Simulation.{check_wires, Touches}
use Rattle.qm_simulation.specs.Following.Owing.{FollowsItsIdeal, FollowsLaw}
use Rattle.qm_safety.proofs.Tables.NextEvents.{IsNext, line_next, row_is}
use Rattle.qm_simulation.proofs.Following.Rewritings.{one_custody, named_in_custody}
use Rattle.qm_simulation.proofs.Following.Places.{before_event}
use Rattle.qm_simulation.proofs.Following.Raws.{event_at, event_message_at}
use Rattle.qm_simulation.proofs.Following.Safe.{custody}
use Rattle.qm_simulation.proofs.Following.Touching.{AreLooking, TouchedBy, touch_clear}
use Rattle.qm_simulation.proofs.Following.FollowsIdeal.{follows_ideal}

-- ---- elements, one after the other
some_of : {A : Type 0} (P : A → Type 0) (Q : List A → Type 0) → ((x : A) (xs : List A) → P x → Q (x ∷ xs)) → ((x : A) (xs : List A) → Q xs → Q (x ∷ xs))
    → (xs : List A) (x : A) → Contains xs x → P x → Q xs
some_of P Q first later [] x (k, below, is) h = absurd (omega arith)
some_of P Q first later (y ∷ ys) x (zero, below, is) h = first y ys (subst P (sym is) h)
some_of P Q first later (y ∷ ys) x (suc k, below, is) h = later y ys (some_of P Q first later ys x (k, omega arith, is) h)

among : (ws : List Wire) (w : Wire) → Contains ws w → IsAmong ws w
among ws w h = some_of (λ v. v ≡ w) (λ vs. IsAmong vs w) (λ v vs e. inl e) (λ v vs later. inr later) ws w h refl

naming : (ls : List Letter) (l : Letter) (w : Wire) → Contains ls l → Contains (operands l) w → AreNaming ls w
naming ls l w h e = some_of (λ k. IsAmong (operands k) w) (λ ms. AreNaming ms w) (λ k ms a. inl a) (λ k ms later. inr later) ls l h (among (operands l) w e)

looking : (ks : List Check) (k : Check) (w : Wire) → Contains ks k → Contains (check_wires k) w → AreLooking ks w
looking ks k w h e = some_of (λ j. IsAmong (check_wires j) w) (λ js. AreLooking js w) (λ j js a. inl a) (λ j js later. inr later) ks k h (among (check_wires k) w e)

pub named : (ds : Tagged Message) (a : Message × Letter) (w : Wire) → Contains ds a → Contains (operands a.1) w → IsNamedBy ds w a.0
named ds a w h e =
    some_of (λ b. (b.0 ≡ a.0) × IsAmong (operands b.1) w) (λ es. IsNamedBy es w a.0) (λ b es x. inl x) (λ b es later. inr later) ds a h (refl, among (operands a.1) w e)

module _ (p : Programs) (ready : IsReady p) (ranges : IsInRange p) where
  -- a rank that the programs have is enabled, or none
  pub known_of : (t : Tables) (r : ℕ) → enabled p t r ≡ true → r < length p.ranks
  known_of t r able =
      ⊎_elim (λ (known : r < length p.ranks). known)
      (λ (past : length p.ranks ≤ r).
      let none : current p t r ≡ None = ap (λ (x : RankProgram). slice_get x.instructions (t.parts r).at) (get_or_past p.ranks r idle_rank past) in
      let no_row : enabled p t r ≡ false = ap (λ o. row_holds p t (row_in p t r o)) none in
      absurd (let n : ⊥ = cc in n))
      (cases_lt r (length p.ranks))

  pub row_letters_at : (t : Tables) (r : ℕ) (o : Option Row) → row_holds p t o ≡ true → row_letters r o t ≡ acts_letters r (acts_of o) t
  row_letters_at t r None e = absurd (let z : ⊥ = cc in z)
  row_letters_at t r (Some w) e = refl

  pub touched : (t : Tables) (r : ℕ) (i : Instr) (s : ℕ) (w : Wire) → IsNext p t r i s → Touches p t r w → TouchedBy p t r i s w
  touched t r i s w next (inl (l, there, e)) =
      let row = row_is p t r i s next in
      let letters : next_letters p t r ≡ acts_letters r (acts_of (row_at p t r i s)) t = ap (λ o. row_letters r o t) row ∙ row_letters_at t r (row_at p t r i s) next.holds in
      inl (naming (acts_letters r (acts_of (row_at p t r i s)) t) l w (subst (λ ls. Contains ls l) letters there) e)
  touched t r i s w next (inr (k, there, e)) =
      inr (looking (row_checks (row_at p t r i s)) k w (subst (λ o. Contains (row_checks o) k) (row_is p t r i s next) there) e)

  same_rank : (t : IdealTables) (u : Tables) (r : ℕ) → t ≡ tables_seen p u → (u.parts r).stage ≡ 0 → t.parts r ≡ part_seen (current p u r) 0 (u.parts r)
  same_rank t u r seen stage = ap (λ (x : IdealTables). x.parts r) seen ∙ ap (λ s. part_seen (current p u r) s (u.parts r)) stage

  pub follows_so : (schedule : List ℕ) → IsLegal p schedule → FollowsItsIdeal p schedule
  follows_so rs legal =
      let f = follows_ideal p ready ranges rs legal in
      let t = (replay p rs).tables in
      let x = (ideal_replay p (ideal_of p rs)).tables in
      let ds = f.follow.debts in
      let owed = f.follow.following.owed in
      let tidy = f.stood.well.tidy in
      let safe = custody p ready ranges t f.stood in
      record {
        run = f.run;
        seen = f.seen;
        debts = ds;
        following = f.follow.following;
        ranks = λ r stage.
            let same = same_rank x t r f.seen stage in
            record {
              at = ap (λ (v : IdealPart). v.at) same;
              bits = ap (λ (v : IdealPart). v.bits) same;
              own = ap (λ (v : IdealPart). v.own) same;
              slots = λ q. ap (λ (y : IdealTables). y.slots r q) f.seen;
            };
        apart = λ a b w here there e d.
            one_custody p t tidy safe w a.0 b.0 (named_in_custody p t tidy safe ds owed w a.0 (named ds a w here e)) (named_in_custody p t tidy safe ds owed w b.0 (named ds b w there d));
        untouched = λ a w r here e able other touch.
            let found = line_next p t r (known_of t r able) able in
            let free = touch_clear p ready ranges t r f.stood f.counted found.i found.s found.next w (touched t r found.i found.s w found.next touch) in
            let own : a.0 ≡ event_at t r found.i found.s = free a.0 (inl (named_in_custody p t tidy safe ds owed w a.0 (named ds a w here e))) in
            other (event_message_at p t r found.i found.s (before_event p t r found.i found.s found.next) ∙ sym own);
      }

pub follows_law : FollowsLaw
follows_law p ready ranges schedule legal = follows_so p ready ranges schedule legal
