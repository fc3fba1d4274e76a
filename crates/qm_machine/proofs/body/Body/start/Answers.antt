use Rattle.std.proofs.Common.{◌≡◌, ◌≤◌, ◌∙◌, List, All, map, take, length, ap, ap₂, subst, sym, refl, arith}
use Rattle.std.proofs.lemmas.List.{length-map}
use Rattle.std.proofs.lemmas.List.Elements.{All-map, All-weaker}
use Rattle.qm_buffers.specs.declared.Buffer.{Buffer}
use Rattle.qm_buffers.specs.Halves.{empty_buffer}
use Rattle.qm_buffers.proofs.Changes.{sizes_empty}
use Rattle.qm_owner.specs.Places.{PlaceMap, no_places}
use Rattle.qm_check.specs.Checks.{capacity_of}
use Rattle.qm_machine.specs.Facts.{sizes_of}
use Rattle.std.proofs.Math.Path.{fun_ext}
use Rattle.std.proofs.Math.Seq.{take-length}
use Rattle.qm_mail.specs.Mails.{parcels_on, sends_on}
use Rattle.qm_mail.proofs.Lanes.{parcels_on-start, sends_on-start}
use Rattle.qm_machine.proofs.MailTables.{rising}
use Rattle.qm_instr.specs.Programs.{Programs, RankProgram, IsInRange, IsRankInRange, rank_of}
use Rattle.qm_machine.specs.Views.{tables, part_of, mail_of, sizes_in, tables_of}
use Rattle.qm_proto.specs.Model.Schedules.{part_at_start}
use Rattle.qm_machine.proofs.StartTables.{part_by_tapes, start_more, start_tables}
use Rattle.qm_machine.proofs.body.Body.start.Goals as goal

pub loop-rank-init : goal.loop-rank-init
loop-rank-init g c =
    let e = c.from.ensures in
    let size = c.ranks-rank-end.ensures.value in
    let same = c.ranks.ensures.value in
    let room = c.in_ok-ranks.ensures.capacity in
    record { known = omega arith; count = c.in_ok-ranks.ensures.len; room = omega arith; each = ap (map part_of) c.in_ok-ranks.ensures.items }

pub loop-rank-preserved : goal.loop-rank-preserved
loop-rank-preserved g c =
    let p = c.input-input.result.now in
    let i = c.loop-rank.rank in
    let more = c.loop-rank-test.true in
    let size = c.ranks-rank-end.ensures.value in
    let x = c.in_ok-start.field-0 in
    let is = c.in_ok-start.ensures ∙ part_by_tapes (rank_of p i) c.own.result.now c.protocol.result.now c.own.ensures.value c.protocol.ensures.value in
    let each = start_more c.loop-rank.ranks.items x p i (omega arith) c.loop-rank.invariant.each is in
    record { known = omega arith; count = omega arith; room = omega arith; each = ap (map part_of) c.push_reserved.ensures.items ∙ each }

-- the buffers of programs have their sizes
sizes_small : (p : Programs) → IsInRange p → All (λ s. (1 ≤ s) × (s ≤ 8)) (sizes_of p)
sizes_small p ranged =
    All-map (λ s. (1 ≤ s) × (s ≤ 8)) (λ (x : RankProgram). x.buffer) p.ranks
    (All-weaker IsRankInRange (λ (x : RankProgram). (1 ≤ x.buffer) × (x.buffer ≤ 8)) (λ x h. (h.some_buffer, h.most_buffer)) p.ranks ranged.each)

pub start-requires-3-clause-few : goal.start-requires-3-clause-few
start-requires-3-clause-few g c =
    let p = c.input-input.result.now in
    omega (arith, ap length c.in_ok-sizes.ensures, length-map p.ranks (λ (x : RankProgram). x.buffer), c.ranks.ensures.in_range.most_ranks)

pub start-requires-3-clause-sizes : goal.start-requires-3-clause-sizes
start-requires-3-clause-sizes g c =
    subst (All (λ s. (1 ≤ s) × (s ≤ 8))) (sym (c.deref.ensures.value ∙ c.in_ok-sizes.ensures)) (sizes_small c.input-input.result.now c.ranks.ensures.in_range)

pub start-requires-4 : goal.start-requires-4
start-requires-4 g c = rising c.lanes.result.now c.lanes.ensures.rising

pub returns-clause-start : goal.returns-clause-start
unfolding tables
returns-clause-start g c =
    let ranks = c.loop-rank.ranks in
    let p = c.input-input.result.now in
    let is : p ≡ c.args.ready.now = c.input-input.ensures.value in
    let sent = c.lanes.ensures.exact in
    let lanes = c.lanes.result.now in
    let made = c.in_ok-start-3.ensures in
    let mail = mail_of c.in_ok-start-3.field-0 in
    let size = c.ranks-rank-end.ensures.value in
    let count = c.loop-rank.invariant.count in
    let items = ranks.ok.0 in
    let all : c.loop-rank.rank ≡ length p.ranks = omega arith in
    let each : map part_of ranks.items ≡ map part_at_start p.ranks =
    c.loop-rank.invariant.each ∙ ap (λ n. map part_at_start (take n p.ranks)) all ∙ ap (map part_at_start) (take-length p.ranks) in
    let sizes = c.deref.ensures.value ∙ c.in_ok-sizes.ensures in
    let buffers = c.start-3.ensures ∙ ap (map empty_buffer) sizes in
    let places = c.in_ok-start-2.ensures ∙ ap₂ no_places c.ranks-2.ensures.value (c.capacity.ensures ∙ ap capacity_of (sym is)) in
    let start = start_tables ranks.items (sizes_of p) mail p each (fun_ext (λ a. ap (λ m. parcels_on m a) made ∙ parcels_on-start lanes a)) in
    record {
      tables = rw (← is)
          (ap₂ (λ (m : PlaceMap) (bs : List Buffer). tables_of ranks.items m.placed bs mail) places buffers ∙ start);
      store = refl;
      places = rw (← is) places;
      sizes = rw (← is) (ap sizes_in buffers ∙ sizes_empty (sizes_of p));
      parcels = λ a. omega (arith, sent a, ap (λ m. sends_on m a) made, sends_on-start lanes a);
      ranks = rw (← is) (omega arith);
      letters = refl;
      paulis = refl;
    }
