use Rattle.std.proofs.Common.{rules, ◌≡◌, ◌≤◌, ◌∙◌, List, [], length, refl, sym, ap, subst, add-one, arith}
use Rattle.qm_denot.specs.declared.Letter.{Letter}
use Rattle.qm_denot.specs.Stores.{StandsFor}
use Rattle.qm_instr.specs.Programs.{IsInRange}
use Rattle.qm_ideal.specs.OneCircuits.{slot_of, wires_below, wires_in, most_letters}
use Rattle.qm_eval.specs.Live.{all_live, HasRoomFor, MakesLive, AllMayFollow, live_through}
use Rattle.qm_eval.specs.Overflows.{NeverOverflows}
use Rattle.qm_eval.proofs.CircuitLemmas.{letters_few, letters_follow, ends_fit, ends_hold}
use Rattle.qm_eval.proofs.RoomLemmas.{piece_fits, piece_made}
use Rattle.qm_eval.proofs.evaluate.Goals as goal

pub do_letters-requires-clause-follow : goal.do_letters-requires-clause-follow
do_letters-requires-clause-follow g c =
    let s = g.A.Amps.store c.args.amps in
    let m = c.args.circuit.now in
    let ranges = subst IsInRange c.input.ensures.value c.ranks-ranks.ensures.in_range in
    let here = letters_follow c.args.ready.now c.input.ensures.ready ranges m c.requires.circuit s.capacity c.requires.room in
    subst (AllMayFollow s.capacity s.live) (sym c.letters.ensures) (subst (λ ws. AllMayFollow s.capacity ws m.letters) (sym c.requires.live) here)

pub do_letters-requires-clause-few : goal.do_letters-requires-clause-few
do_letters-requires-clause-few g c =
    let ranges = subst IsInRange c.input.ensures.value c.ranks-ranks.ensures.in_range in
    subst (λ (ls : List Letter). length ls ≤ most_letters) (sym c.letters.ensures) (letters_few c.args.ready.now c.input.ensures.ready ranges c.args.circuit.now c.requires.circuit)

pub make_slots_live-requires-clause-room : goal.make_slots_live-requires-clause-room
make_slots_live-requires-clause-room g c =
    let store = g.A.Amps.store in
    let s = store c.args.amps in
    let t = store c.do_letters.new.amps in
    let m = c.args.circuit.now in
    let f = slot_of m in
    let ranges = subst IsInRange c.input.ensures.value c.ranks-ranks.ensures.in_range in
    let count : c.ranks-ranks.result ≡ length m.ranks = c.ranks-ranks.ensures.value ∙ ap (λ p. length p.ranks) c.input.ensures.value ∙ sym c.requires.circuit.count in
    let live : t.live ≡ live_through [] m.letters = c.in_ok-do_letters.ensures.live ∙ ap (λ ws. live_through ws c.letters.result.now) c.requires.live ∙ ap (live_through []) c.letters.ensures in
    let fit = ends_fit c.args.ready.now c.input.ensures.ready ranges m c.requires.circuit s.capacity c.requires.room in
    let long : length (all_live t.live (wires_in f (length m.ranks))) ≡ length (all_live (live_through [] m.letters) (wires_in f (length m.ranks))) =
    ap (λ ws. length (all_live ws (wires_in f (length m.ranks)))) live in
    let room : HasRoomFor (wires_in f (length m.ranks)) t = omega (arith, fit, long, c.do_letters.ensures.capacity) in
    piece_fits (wires_in f) (λ r. wires_below (f r) 16) (λ n. refl) t (store c.loop-rank.amps) (length m.ranks) c.loop-rank.rank
    (omega (arith, count, c.loop-rank-test.true)) room c.loop-rank.invariant

pub loop-rank-preserved : goal.loop-rank-preserved
loop-rank-preserved g c =
    let store = g.A.Amps.store in
    let f = slot_of c.args.circuit.now in
    let r = c.loop-rank.rank in
    rw (add-one r)
    (piece_made (wires_in f) (λ r. wires_below (f r) 16) (λ n. refl) (store c.do_letters.new.amps) (store c.loop-rank.amps) (store c.make_slots_live.new.amps) r
    c.loop-rank.invariant c.make_slots_live.ensures)

pub returns-clause-ok : goal.returns-clause-ok
returns-clause-ok g c =
    let store = g.A.Amps.store in
    let m = c.args.circuit.now in
    let f = slot_of m in
    let ranges = subst IsInRange c.input.ensures.value c.ranks-ranks.ensures.in_range in
    let count : c.ranks-ranks.result ≡ length m.ranks = c.ranks-ranks.ensures.value ∙ ap (λ p. length p.ranks) c.input.ensures.value ∙ sym c.requires.circuit.count in
    let end : c.loop-rank.rank ≡ length m.ranks = omega (arith, count, c.loop-rank.auto.rank-end, c.loop-rank-test.false) in
    let t = store c.do_letters.new.amps in
    let made : MakesLive (wires_in f (length m.ranks)) t (store c.loop-rank.amps) = subst (λ r. MakesLive (wires_in f r) t (store c.loop-rank.amps)) end c.loop-rank.invariant in
    ends_hold c.args.ready.now c.input.ensures.ready ranges m c.requires.circuit t (store c.loop-rank.amps)
    (subst NeverOverflows c.letters.ensures c.in_ok-do_letters.ensures.fits) (subst (StandsFor t) c.letters.ensures c.in_ok-do_letters.ensures.stands) made

pub loop-rank-init : goal.loop-rank-init
loop-rank-init g c = search rules
