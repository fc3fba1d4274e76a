use Rattle.std.proofs.Common.{◌∙◌, get_or, sym, ap, subst}
use Rattle.std.proofs.Math.ListN.{drop_of_length-le}
use Rattle.std.proofs.lemmas.List.{drop_more, take_more, take_all}
use Rattle.qm_denot.specs.Stores.{StandsFor, Overflows}
use Rattle.qm_eval.specs.Live.{live_through}
use Rattle.qm_eval.proofs.LetterLemmas.{no_letter, done_none, room_here, may_here, first_here, done_more, never_where_done, read_at, all_done, where_ok}
use Rattle.qm_eval.proofs.letters.do_letters.Goals as goal

pub loop-at-init : goal.loop-at-init
loop-at-init g c = done_none (g.A.Amps.store c.args.amps.now) c.args.letters.now c.requires.stands c.requires.follow

pub make_operands_live-requires-clause-room : goal.make_operands_live-requires-clause-room
make_operands_live-requires-clause-room g c =
    let store = g.A.Amps.store in
    let ls = c.args.letters.now in
    let n = c.loop-at.at in
    let within = c.loop-at-test.true in
    let l = get_or ls n no_letter in
    let t = store c.loop-at.amps in
    room_here (store c.args.amps.now) t t ls n l within (read_at ls n within) (drop_more ls n no_letter within) (take_more ls n no_letter within) c.loop-at.invariant

pub apply-requires-clause-may : goal.apply-requires-clause-may
apply-requires-clause-may g c =
    let store = g.A.Amps.store in
    let ls = c.args.letters.now in
    let n = c.loop-at.at in
    let within = c.loop-at-test.true in
    let l = get_or ls n no_letter in
    may_here (store c.args.amps.now) (store c.loop-at.amps) (store c.make_operands_live.new.amps) ls n l within (read_at ls n within) (drop_more ls n no_letter within)
    (take_more ls n no_letter within) c.loop-at.invariant c.make_operands_live.ensures c.requires.few

pub returns-then-is_err-clause-capacity : goal.returns-then-is_err-clause-capacity
returns-then-is_err-clause-capacity g c = c.apply.ensures.capacity ∙ c.make_operands_live.ensures.capacity ∙ c.loop-at.invariant.capacity

pub returns-then-is_err-clause-err : goal.returns-then-is_err-clause-err
returns-then-is_err-clause-err g c =
    let store = g.A.Amps.store in
    let ls = c.args.letters.now in
    let n = c.loop-at.at in
    let within = c.loop-at-test.true in
    let l = get_or ls n no_letter in
    let over : Overflows l (store c.make_operands_live.new.amps) = c.apply.ensures.overflow.0 (sym c.is_err.ensures.value ∙ c.if-is_err.true) in
    first_here (store c.args.amps.now) (store c.loop-at.amps) (store c.make_operands_live.new.amps) ls n l within (read_at ls n within) (drop_more ls n no_letter within)
    (take_more ls n no_letter within) c.loop-at.invariant c.make_operands_live.ensures over

pub loop-at-preserved : goal.loop-at-preserved
loop-at-preserved g c =
    let store = g.A.Amps.store in
    let ls = c.args.letters.now in
    let n = c.loop-at.at in
    let within = c.loop-at-test.true in
    let l = get_or ls n no_letter in
    let ok = sym c.is_err.ensures.value ∙ c.if-is_err.false in
    done_more (store c.args.amps.now) (store c.loop-at.amps) (store c.make_operands_live.new.amps) ls n l within (read_at ls n within) (drop_more ls n no_letter within)
    (take_more ls n no_letter within) c.loop-at.invariant c.make_operands_live.ensures (store c.apply.new.self)
    (λ h. let bad = c.apply.ensures.overflow.1 h in cc) (where_ok c.apply.result ok c.apply.ensures.stands)
    (where_ok c.apply.result ok c.apply.ensures.live) c.apply.ensures.capacity

pub returns-clause-fits : goal.returns-clause-fits
returns-clause-fits g c =
    never_where_done (g.A.Amps.store c.args.amps.now) (g.A.Amps.store c.loop-at.amps) c.args.letters.now
    (all_done (g.A.Amps.store c.args.amps.now) (g.A.Amps.store c.loop-at.amps) c.args.letters.now c.loop-at.at c.loop-at.auto.at-end c.loop-at-test.false c.loop-at.invariant)

pub returns-clause-stands : goal.returns-clause-stands
returns-clause-stands g c = subst (StandsFor (g.A.Amps.store c.loop-at.amps)) (take_all c.loop-at.at c.args.letters.now c.loop-at-test.false) c.loop-at.invariant.stands

pub returns-clause-live : goal.returns-clause-live
returns-clause-live g c =
    ap (live_through (g.A.Amps.store c.loop-at.amps).live) (sym (drop_of_length-le c.args.letters.now c.loop-at-test.false)) ∙ c.loop-at.invariant.live

pub returns-clause-capacity : goal.returns-clause-capacity
returns-clause-capacity g c = c.loop-at.invariant.capacity
