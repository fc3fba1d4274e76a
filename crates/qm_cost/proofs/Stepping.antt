-- One event more in the pass over a schedule
use Rattle.std.proofs.Common.{◌≡◌, ℕ, suc, ◌+◌, ◌<◌, ◌≤◌, List, [], ◌∷◌, ◌++◌, length, Result, Ok, Err, IfOk, Option, Some, None, slice_get, sym, ap, subst, ◌∙◌, arith}
use Rattle.qm_instr.specs.Programs.{Programs, IsInRange}
use Rattle.qm_proto.specs.declared.Row.{Row}
use Rattle.qm_proto.specs.Model.State.{Tables, State}
use Rattle.qm_proto.specs.Model.Runs.{row_next, next, next_tables}
use Rattle.qm_proto.specs.Model.Schedules.{IsLegal}
use Rattle.qm_proto.proofs.Counting.{schedule_few, event_total_few}
use Rattle.qm_walk.specs.declared.Note.{Note}
use Rattle.qm_walk.specs.declared.Place.{Place}
use Rattle.qm_walk.specs.Notes.{noted, note_of, note_next, AreStanding}
use Rattle.qm_cost.specs.Turns.{Turn, turns_of, turn_at}
use Rattle.qm_cost.specs.declared.Delays.{Delays}
use Rattle.qm_cost.specs.declared.Links.{Links}
use Rattle.qm_cost.specs.declared.Mark.{Mark}
use Rattle.qm_cost.specs.Books.{BooksView, links_by, books_after}
use Rattle.qm_cost.specs.Longest.{finish_in, AreBelow, links_of, AreMarked}
use Rattle.qm_cost.specs.Reports.{AreFew, ReportView, IsCost}
use Rattle.qm_cost.specs.Tellings.{IsTold}
use Rattle.qm_cost.specs.Ways.{marked}
use Rattle.qm_cost.proofs.Keeping.{Keeps, keeps_after, links_there, set_length}
use Rattle.qm_cost.proofs.Passing.{pass_step}
use Rattle.qm_cost.proofs.Reporting.{report_step}
use Rattle.qm_cost.proofs.Turning.{length_turns, links_below, state_upto, turn_there, state_more, legal_there, enabled_noted}

noted_rank : (r : ℕ) (w : Option Row) (n : Note) → Some n ≡ noted r w → n.rank ≡ r
noted_rank r None n e = absurd (cc)
noted_rank r (Some w) n e = let s : n ≡ note_of r w = cc in ap (λ (m : Note). m.rank) s

pub note_rank : (p : Programs) (t : Tables) (r : ℕ) (n : Note) → Some n ≡ note_next p t r → n.rank ≡ r
note_rank p t r n e = noted_rank r (row_next p t r) n e

-- a legal schedule is short
pub legal_few : (p : Programs) (rs : List ℕ) → IsInRange p → IsLegal p rs → length rs ≤ 500000
legal_few p rs ranges legal = omega (arith, schedule_few p rs legal, event_total_few p ranges)

module _ (p : Programs) (rs : List ℕ) (n r : ℕ) (entry : slice_get rs n ≡ Some r) where
  pub turn_here : (m : Note) → Some m ≡ note_next p (state_upto p rs n).tables r → turn_at (turns_of p rs) n ≡ record { rank = m.rank; note = Some m }
  turn_here m e =
      turn_there p rs n r entry ∙ ap (λ (o : Option Note). record { rank = r; note = o }) (sym e)
      ∙ ap (λ (k : ℕ). record { rank = k; note = Some m }) (sym (note_rank p (state_upto p rs n).tables r m e))

  -- a legal schedule has an event there
  pub some_here : IsLegal p rs → None ≡ note_next p (state_upto p rs n).tables r → ⊥
  some_here legal e = enabled_noted p (state_upto p rs n).tables r (legal_there p rs n r legal entry).able (sym e)

  pub known_here : IsLegal p rs → r < length p.ranks
  known_here legal = (legal_there p rs n r legal entry).known

  pub stands_on : (places : List Place) → AreStanding p (next_tables p (state_upto p rs n).tables r) places → AreStanding p (state_upto p rs (n + 1)).tables places
  stands_on places h =
      let e : suc n ≡ n + 1 = omega arith in
      let s : state_upto p rs (n + 1) ≡ next p (state_upto p rs n) r = ap (state_upto p rs) (sym e) ∙ state_more p rs n r entry in
      subst (λ (u : State). AreStanding p u.tables places) (sym s) h

  module _ (m : Note) (noted : Some m ≡ note_next p (state_upto p rs n).tables r) (b : BooksView) (so : Keeps (turns_of p rs) n b) where
    pub links_step : (l : Links) → l ≡ links_by b m → l ≡ links_of (turns_of p rs) n
    links_step l e = e ∙ links_there (turns_of p rs) n b m (turn_here m noted) so

    pub below_step : (l : Links) (k : ℕ) → k ≡ n → l ≡ links_by b m → AreBelow k l
    below_step l k f e =
        subst (λ j. AreBelow j l) (sym f) (subst (λ x. AreBelow n x) (sym (links_step l e)) (links_below (turns_of p rs) n))

    pub books_step : (new : BooksView) (k : ℕ) → k ≡ n → m.rank < length b.last → new ≡ books_after b k m → Keeps (turns_of p rs) (n + 1) new
    books_step new k f lt e =
        let one : suc n ≡ n + 1 = omega arith in
        let same : new ≡ books_after b n m = e ∙ ap (λ j. books_after b j m) f in
        subst (λ j. Keeps (turns_of p rs) j new) one
        (subst (λ x. Keeps (turns_of p rs) (suc n) x) (sym same) (keeps_after (turns_of p rs) n b m (turn_here m noted) so lt))

    pub count_step : (new : BooksView) (k : ℕ) → new ≡ books_after b k m → length new.last ≡ length b.last
    count_step new k e = ap (λ (x : BooksView). length x.last) e ∙ set_length b.last m.rank (Some k)

    pub marks_step : (d : Delays) (ms now new : List Mark) (l : Links) (x : Mark) → AreFew d → AreMarked (turns_of p rs) d ms n → now ≡ ms
        → l ≡ links_by b m → x ≡ marked (finish_in now) d l m.rank → new ≡ ms ++ x ∷ [] → AreMarked (turns_of p rs) d new (n + 1)
    marks_step d ms now new l x few all same e f g =
        let rank : m.rank ≡ (turn_at (turns_of p rs) n).rank = sym (ap (λ (t : Turn). t.rank) (turn_here m noted)) in
        let there : x ≡ marked (finish_in ms) d (links_of (turns_of p rs) n) (turn_at (turns_of p rs) n).rank =
        f ∙ ap (λ y. marked (finish_in y) d l m.rank) same ∙ ap (λ y. marked (finish_in ms) d y m.rank) (links_step l e)
        ∙ ap (marked (finish_in ms) d (links_of (turns_of p rs) n)) rank in
        pass_step (turns_of p rs) d ms n x new few all there g

-- ---- the whole
pub ok_along : {A E : Type 0} (P Q : A → Type 0) → ((x : A) → P x → Q x) → (r : Result A E) → IfOk r P → IfOk r Q
ok_along P Q f (Ok x) h = f x h
ok_along P Q f (Err e) h = h

module _ (p : Programs) (rs : List ℕ) (d : Delays) (ms : List Mark) (so : AreMarked (turns_of p rs) d ms (length rs)) where
  pub all_marked : AreMarked (turns_of p rs) d ms (length (turns_of p rs))
  all_marked = subst (λ n. AreMarked (turns_of p rs) d ms n) (sym (length_turns p rs)) so

  pub cost_so : (r : ReportView) → IsTold ms r → IsCost p rs d r
  cost_so r h = report_step (turns_of p rs) d ms r all_marked h
