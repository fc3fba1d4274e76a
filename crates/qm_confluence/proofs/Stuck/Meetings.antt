-- The rendezvous run of programs: there is one, there is no other, and it ends or gets stuck
use Rattle.std.proofs.Common.{◌≡◌, ℕ, zero, suc, ◌+◌, ◌≤◌, false, List, [], ◌∷◌, length, fold, inl, inr, refl, ap, subst, ◌∙◌, arith}
use Rattle.qm_instr.specs.Programs.{Programs}
use Rattle.qm_proto.specs.Model.Runs.{enabled, has_event, row_next, next_tables}
use Rattle.qm_proto.specs.Model.Schedules.{tables_at_start, NoneEnabled, IsLowestEnabled, IsMeetingFrom, RendezvousEnds, with_buffers_of_one}
use Rattle.qm_proto.specs.Model.State.{Tables}
use Rattle.qm_proto.proofs.Firsts.{lowest_enabled_unique}
use Rattle.qm_confluence.specs.Stuck.Rendezvous.{IsRendezvous, rendezvous_tables, RendezvousLaw}
use Rattle.qm_proto.specs.Model.Totals.{event_total}
use Rattle.qm_confluence.proofs.Endings.Lowest.{IsLowest, lowest_or_none}
use Rattle.qm_proto.proofs.Counting.{AreDone, done_at_start, done_after, done_more, event_where_held}

module _ (p : Programs) where
  lowest_enabled : (t : Tables) (r : ℕ) → IsLowest (enabled p t) (length p.ranks) r → IsLowestEnabled p t r
  lowest_enabled t r h = record { known = h.known; able = h.holds; below = h.below }

  -- it goes on as long as events are left
  meets : (fuel n : ℕ) (t : Tables) → AreDone p n t → event_total p ≤ n + fuel → (rs : List ℕ) × IsMeetingFrom p t rs
  meets zero n t done enough = elim (lowest_or_none (enabled p t) (length p.ranks)) [
    | inl none ↦ ([], none)
    | inr (r, low) ↦
        absurd (let more = done_more p n t r done low.known (event_where_held p t (row_next p t r) low.holds) in omega arith)
  ]
  meets (suc fuel) n t done enough = elim (lowest_or_none (enabled p t) (length p.ranks)) [
    | inl none ↦ ([], none)
    | inr (r, low) ↦
        let rest = meets fuel (n + 1) (next_tables p t r) (done_after p n t r done low.known (event_where_held p t (row_next p t r) low.holds)) (omega arith) in
        (r ∷ rest.0, (lowest_enabled t r low, rest.1))
  ]

  pub meeting_exists : (rs : List ℕ) × IsMeetingFrom p (tables_at_start p) rs
  meeting_exists = meets (event_total p) 0 (tables_at_start p) (done_at_start p) (omega arith)

  meeting_unique : (t : Tables) (xs ys : List ℕ) → IsMeetingFrom p t xs → IsMeetingFrom p t ys → xs ≡ ys
  meeting_unique t [] [] a b = refl
  meeting_unique t [] (y ∷ ys) a b = let e = a y b.0.known in let d = b.0.able in cc
  meeting_unique t (x ∷ xs) [] a b = let e = b x a.0.known in let d = a.0.able in cc
  meeting_unique t (x ∷ xs) (y ∷ ys) a b =
      let same = lowest_enabled_unique p t x y a.0 b.0 in
      ap (λ r. r ∷ xs) same ∙ ap (λ rs. y ∷ rs) (meeting_unique (next_tables p t y) xs ys (rw same at a.1) b.1)

  -- at its end no rank is enabled
  none_at_end : (t : Tables) (rs : List ℕ) → IsMeetingFrom p t rs → NoneEnabled p (fold (next_tables p) t rs)
  none_at_end t [] run = run
  none_at_end t (r ∷ rs) run = none_at_end (next_tables p t r) rs run.1

pub rendezvous_law : RendezvousLaw
unfolding RendezvousEnds
rendezvous_law p =
    let q = with_buffers_of_one p in
    let found = meeting_exists q in
    let rs = found.0 in
    let run : IsRendezvous p rs = found.1 in
    let end = rendezvous_tables p rs in
    let only : (other : List ℕ) → IsRendezvous p other → other ≡ rs = λ other there. meeting_unique q (tables_at_start q) other rs there run in
    record {
      schedule = rs;
      run = run;
      only = only;
      ends = elim (lowest_or_none (has_event q end) (length q.ranks)) [
        | inl ended ↦ inl (rs, run, ended)
        | inr (r, left) ↦ inr (
          record { left = (r, left.known, left.holds); none = none_at_end q (tables_at_start q) rs run },
          λ (other, there, ended).
              let gone : has_event q (rendezvous_tables p other) r ≡ false = ended r left.known in
              let here : has_event q end r ≡ false = subst (λ xs. has_event q (rendezvous_tables p xs) r ≡ false) (only other there) gone in
              let on = left.holds in
              cc,
        )
      ];
    }
