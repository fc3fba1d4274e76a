-- The tables that a body means before its first event
use Rattle.std.proofs.Common.{◌≡◌, ℕ, zero, suc, ◌+◌, ◌<◌, Bool, List, [], ◌∷◌, ◌++◌, map, take, slice_index_or, length, refl, sym, ap, ◌∙◌}
use Rattle.std.proofs.lemmas.List.{take_more, map-append}
use mathlib.Core.Path.{fun_ext}
use Rattle.qm_instr.specs.Programs.{Programs, RankProgram, idle_rank, rank_of}
use Rattle.qm_buffers.specs.Halves.{empty_buffer}
use Rattle.qm_buffers.proofs.Changes.{held_empty}
use Rattle.qm_proto.specs.Model.Schedules.{part_at_start, tables_at_start}
use Rattle.qm_machine.specs.declared.rank.Rank.{Rank}
use Rattle.qm_machine.specs.Views.{MailView, part_of, part_at, part_with, tables_of}
use Rattle.qm_machine.proofs.RankTables.{same_tables}

-- a rank's part depends on its tapes alone
pub part_by_tapes : (x : RankProgram) (own protocol : List Bool) → own ≡ x.own → protocol ≡ x.protocol → part_with own protocol ≡ part_at_start x
part_by_tapes x own protocol e f = ap (λ o. part_with o protocol) e ∙ ap (part_with x.own) f

-- one rank more
pub start_more : (ranks : List Rank) (x : Rank) (p : Programs) (i : ℕ) → i < length p.ranks
    → map part_of ranks ≡ map part_at_start (take i p.ranks) → part_of x ≡ part_at_start (rank_of p i)
    → map part_of (ranks ++ x ∷ []) ≡ map part_at_start (take (i + 1) p.ranks)
start_more ranks x p i below so_far is =
    map-append part_of ranks (x ∷ []) ∙ ap (λ vs. vs ++ part_of x ∷ []) so_far
    ∙ ap (λ v. map part_at_start (take i p.ranks) ++ v ∷ []) is
    ∙ sym (ap (map part_at_start) (take_more p.ranks i idle_rank below) ∙ map-append part_at_start (take i p.ranks) (rank_of p i ∷ []))

start_part : (ranks : List Rank) (ps : List RankProgram) (k : ℕ) → map part_of ranks ≡ map part_at_start ps
    → part_at ranks k ≡ part_at_start (slice_index_or ps k idle_rank)
start_part [] [] k e = refl
start_part [] (p ∷ ps) k e = cc
start_part (x ∷ ranks) [] k e = cc
start_part (x ∷ ranks) (p ∷ ps) zero e = cc
start_part (x ∷ ranks) (p ∷ ps) (suc k) e = start_part ranks ps k (cc)

-- all of them
pub start_tables : (ranks : List Rank) (sizes : List ℕ) (m : MailView) (p : Programs) → map part_of ranks ≡ map part_at_start p.ranks → m.lanes ≡ (λ a. [])
    → tables_of ranks [] (map empty_buffer sizes) m ≡ tables_at_start p
start_tables ranks sizes m p is empty =
    same_tables (tables_of ranks [] (map empty_buffer sizes) m) (tables_at_start p)
    (fun_ext (λ k. start_part ranks p.ranks k is)) refl refl refl (fun_ext (held_empty sizes)) empty
