use Rattle.std.proofs.Common.{false, subst, rules}
use Rattle.std.proofs.lemmas.Bool.Decides.{nat_tests}
use Rattle.std.proofs.lemmas.List.{take_more, take_all}
use Rattle.qm_denot.specs.WireLists.{Lacks}
use Rattle.qm_denot.proofs.LiveWires.{first_at, Lacks-push, absent_where_lacked}
use Rattle.qm_denot.proofs.plain.wires.place_of.Goals as goal

pub loop-i-preserved : goal.loop-i-preserved
loop-i-preserved c =
    rw (take_more c.args.live.now c.loop-i.i (record { rank = 0; made = 0; near = false }) c.loop-i-test.true)
    (Lacks-push _ _ c.args.w c.loop-i.invariant (λ e. let h = c.eq.ensures in let f = c.if-eq.false in absurd (search (rules, nat_tests))))

pub returns-then-eq-clause-first : goal.returns-then-eq-clause-first
returns-then-eq-clause-first c = first_at c.args.live.now c.loop-i.i c.args.w (record { rank = 0; made = 0; near = false }) c.loop-i-test.true c.loop-i.invariant (let h = c.eq.ensures in let f = c.if-eq.true in search rules)

pub unreachable-requires : goal.unreachable-requires
unreachable-requires c = absent_where_lacked c.args.live.now c.args.w (subst (λ xs. Lacks xs c.args.w) (take_all c.loop-i.i c.args.live.now c.loop-i-test.false) c.loop-i.invariant) c.requires.live
