-- The rendezvous run by where the ranks stand: how it goes on, where it ends, and that it does
use Rattle.std.proofs.Common.{◌≡◌, ◌∙◌, ℕ, ◌+◌, ◌<◌, ◌≤◌, ◌^◌, true, false, is_some, List, [], ◌∷◌, ◌++◌, length, fold, refl, sym, ap, ap₂, subst, arith}
use Rattle.std.proofs.lemmas.Option.{slice_get_within}
use Rattle.std.proofs.lemmas.List.Sums.{get_or-le-sum_by}
use Rattle.qm_instr.specs.Programs.{Programs, RankProgram, rank_of, idle_rank, IsInRange, instruction_total}
use Rattle.qm_proto.specs.Model.Rows.{current, rows, instr_at}
use Rattle.qm_proto.specs.Model.Runs.{enabled, has_event, row_next, next_tables}
use Rattle.qm_proto.specs.Model.Schedules.{tables_at_start, with_buffers_of_one, IsLowestEnabled, IsMeetingFrom, AllEnded, RendezvousEnds}
use Rattle.qm_proto.specs.Model.State.{Tables}
use Rattle.qm_ideal.specs.Meetings.{Stand, stand_of, Reader, may_go, go, shape_next, IsLeast}
use Rattle.qm_ideal.specs.MeetingRuns.{IsLowestMeeting, IsOnMeetingsWay, IsMeetingsEnd, stand_left}
use Rattle.qm_ideal.proofs.MeetingLemmas.{able_same, left_same, next_same, same_reader, same_count}
use Rattle.qm_ideal.proofs.MeetingWork.{IsNextRow, next_row, work_left_falls, events_few, one_meeting}
use Rattle.qm_confluence.proofs.Stuck.Rendezvous.{one_rank, small}
use Rattle.qm_proto.proofs.Lines.{rows_count}

lowest_push : (p : Programs) (rs : List ℕ) (r : ℕ) (t : Tables) → IsLowestMeeting p t rs → IsLowestEnabled p (fold (next_tables p) t rs) r
    → IsLowestMeeting p t (rs ++ r ∷ [])
lowest_push p [] r t run low = (low, tt)
lowest_push p (k ∷ rs) r t run low = (run.0, lowest_push p rs r (next_tables p t k) run.1 low)

state_push : (p : Programs) (rs : List ℕ) (r : ℕ) (t : Tables) → fold (next_tables p) t (rs ++ r ∷ []) ≡ next_tables p (fold (next_tables p) t rs) r
state_push p [] r t = refl
state_push p (k ∷ rs) r t = state_push p rs r (next_tables p t k)

meeting_from_lowest : (p : Programs) (rs : List ℕ) (t : Tables) → IsLowestMeeting p t rs
    → ((r : ℕ) → r < length p.ranks → enabled p (fold (next_tables p) t rs) r ≡ false) → IsMeetingFrom p t rs
meeting_from_lowest p [] t run none = none
meeting_from_lowest p (r ∷ rs) t run none = (run.0, meeting_from_lowest p rs (next_tables p t r) run.1 none)

module _ (p : Programs) where
  abbrev q : Programs
  q = with_buffers_of_one p

  able_here : (t : Tables) (s : Stand) → stand_of t ≡ s → (r : ℕ) → enabled q t r ≡ may_go (instr_at p) s r
  able_here t s stand r = able_same q (small p) t r ∙ ap₂ (λ (f : Reader) u. may_go f u r) (same_reader p) stand

  lowest_here : (t : Tables) (s : Stand) → stand_of t ≡ s → (r : ℕ) → IsLeast (may_go (instr_at p) s) (length p.ranks) r → IsLowestEnabled q t r
  lowest_here t s stand r low =
      record {
        known = subst (λ n. r < n) (sym (same_count p)) low.known;
        able = able_here t s stand r ∙ low.able;
        below = λ k under. able_here t s stand k ∙ low.below k under;
      }

  pub way_start : (s : Stand) → s ≡ record { at = λ r. 0; stage = λ r. 0; lanes = λ a. [] } → IsOnMeetingsWay p s
  way_start s is = record { ranks = []; tables = tables_at_start q; lowest = tt; state = refl; stand = sym is }

  pub way_next : (s u : Stand) (r : ℕ) → IsOnMeetingsWay p s → IsLeast (may_go (instr_at p) s) (length p.ranks) r → u ≡ go (instr_at p) s r → IsOnMeetingsWay p u
  way_next s u r way low is =
      let t = way.tables in
      let here = lowest_here t s way.stand r low in
      record {
        ranks = way.ranks ++ r ∷ [];
        tables = next_tables q t r;
        lowest = lowest_push q way.ranks r (tables_at_start q) way.lowest (subst (λ z. IsLowestEnabled q z r) (sym way.state) here);
        state = state_push q way.ranks r (tables_at_start q) ∙ ap (λ z. next_tables q z r) way.state;
        stand = next_same q t r ∙ ap₂ (λ (f : Reader) z. go f z r) (same_reader p) way.stand ∙ sym is;
      }

  pub way_end : (s : Stand) → IsOnMeetingsWay p s → ((r : ℕ) → r < length p.ranks → may_go (instr_at p) s r ≡ false) → IsMeetingsEnd p s
  way_end s way none =
      record {
        ranks = way.ranks;
        run = meeting_from_lowest q way.ranks (tables_at_start q) way.lowest
            (subst (λ z. (r : ℕ) → r < length q.ranks → enabled q z r ≡ false) (sym way.state)
            (λ r known. able_here way.tables s way.stand r ∙ none r (subst (λ n. r < n) (same_count p) known)));
        stand = ap stand_of way.state ∙ way.stand;
      }

  -- ---- each event leaves less to do
  row_here : (s : Stand) (r : ℕ) (way : IsOnMeetingsWay p s) → IsLeast (may_go (instr_at p) s) (length p.ranks) r → IsNextRow q way.tables r
  row_here s r way low =
      let t = way.tables in
      next_row q t r (current q t r) refl (row_next q t r) refl (lowest_here t s way.stand r low).able

  pub left_falls : (s u : Stand) (r : ℕ) → IsOnMeetingsWay p s → IsLeast (may_go (instr_at p) s) (length p.ranks) r → u ≡ go (instr_at p) s r
      → stand_left p u < stand_left p s
  left_falls s u r way low is =
      let t = way.tables in
      let less : stand_left p (stand_of (next_tables q t r)) < stand_left p (stand_of t) =
      work_left_falls q t r (row_here s r way low) (subst (λ n. r < n) (sym (same_count p)) low.known) in
      let after : stand_of (next_tables q t r) ≡ u = next_same q t r ∙ ap₂ (λ (f : Reader) z. go f z r) (same_reader p) way.stand ∙ sym is in
      subst (λ z. stand_left p z < stand_left p s) after (subst (λ z. stand_left p (stand_of (next_tables q t r)) < stand_left p z) way.stand less)

  -- ---- and the numbers stay small
  pub at_small : IsInRange p → (s : Stand) (r : ℕ) → IsOnMeetingsWay p s → IsLeast (may_go (instr_at p) s) (length p.ranks) r → s.at r + 1 < 2 ^ 32
  at_small ranges s r way low =
      let t = way.tables in
      let n = row_here s r way low in
      let within : (t.parts r).at < length (rank_of q r).instructions = slice_get_within (rank_of q r).instructions (t.parts r).at n.instruction n.here in
      let same : length (rank_of q r).instructions ≡ length (rank_of p r).instructions = ap (λ (x : RankProgram). length x.instructions) (one_rank p.ranks r) in
      let total : length (rank_of p r).instructions ≤ instruction_total p = get_or-le-sum_by (λ x. length x.instructions) p.ranks r idle_rank low.known in
      let e : (t.parts r).at ≡ s.at r = ap (λ (z : Stand). z.at r) way.stand in
      omega (arith, within, same, total, ranges.few, e)

  pub stage_small : (s : Stand) (r : ℕ) → IsOnMeetingsWay p s → IsLeast (may_go (instr_at p) s) (length p.ranks) r → s.stage r + 1 < 2 ^ 32
  stage_small s r way low =
      let t = way.tables in
      let n = row_here s r way low in
      let within = slice_get_within (rows q t r n.instruction) (t.parts r).stage n.row n.there in
      let count = rows_count q t r n.instruction in
      let e : (t.parts r).stage ≡ s.stage r = ap (λ (z : Stand). z.stage r) way.stand in
      omega (arith, within, count, events_few n.instruction, e)

  -- ---- the answer
  left_here : (s : Stand) (end : IsMeetingsEnd p s) (r : ℕ)
      → has_event q (fold (next_tables q) (tables_at_start q) end.ranks) r ≡ is_some (shape_next (instr_at p) s r)
  left_here s end r =
      left_same q (fold (next_tables q) (tables_at_start q) end.ranks) r
      ∙ ap₂ (λ (f : Reader) z. is_some (shape_next f z r)) (same_reader p) end.stand

  pub ends : (s : Stand) → IsMeetingsEnd p s → ((r : ℕ) → r < length p.ranks → is_some (shape_next (instr_at p) s r) ≡ false) → RendezvousEnds p
  unfolding RendezvousEnds
  ends s end none = (end.ranks, end.run, λ r known. left_here s end r ∙ none r (subst (λ n. r < n) (same_count p) known))

  pub ends_not : (s : Stand) → IsMeetingsEnd p s → (r : ℕ) → r < length p.ranks → is_some (shape_next (instr_at p) s r) ≡ true → ¬ RendezvousEnds p
  unfolding RendezvousEnds
  ends_not s end r known left (rs, run, ended) =
      let start = tables_at_start q in
      let same : rs ≡ end.ranks = one_meeting q rs end.ranks start run end.run in
      let all : AllEnded q (fold (next_tables q) start end.ranks) = subst (λ xs. AllEnded q (fold (next_tables q) start xs)) same ended in
      let no : is_some (shape_next (instr_at p) s r) ≡ false = sym (left_here s end r) ∙ all r (subst (λ n. r < n) (sym (same_count p)) known) in
      let z : true ≡ false = sym left ∙ no in cc
