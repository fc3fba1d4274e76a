use Rattle.std.proofs.Common.{◌++◌, [], codes, get_or}
use Rattle.qm_denot.specs.Wires.{no_wires}
use Rattle.qm_print.specs.Bits.{bits_lines}
use Rattle.qm_print.specs.Slots.{slots_text}
use Rattle.qm_print.specs.StateText.{head_lines, branch_lines}
use Rattle.qm_print.proofs.BranchLemmas.{GoesOn-start}
use Rattle.qm_print.proofs.GatherLemmas.{Added-gathers, Added-join, Gathers-stop, Stopped-more, Stopped-next}
use Rattle.qm_print.proofs.state.add_state.Goals as goal

pub returns-in_err-add_head : goal.returns-in_err-add_head
returns-in_err-add_head g c =
    Gathers-stop _ _ _ _ _ _ _ c.from_residual.ensures.1
    (Stopped-more _ _ _ (head_lines c.args.head.now.ranks c.args.head.now.protocol c.args.head.now.scale ++ bits_lines c.args.head.now.ranks (λ r. get_or c.args.head.now.bits r 0) ++ codes "live" ++ slots_text c.args.live.now ++ codes "\n" ++ branch_lines (g.A.Amps.store c.args.amps.now).value [] no_wires c.args.live.now) (codes "end\n") (Stopped-more _ _ _ (head_lines c.args.head.now.ranks c.args.head.now.protocol c.args.head.now.scale ++ bits_lines c.args.head.now.ranks (λ r. get_or c.args.head.now.bits r 0) ++ codes "live" ++ slots_text c.args.live.now ++ codes "\n") (branch_lines (g.A.Amps.store c.args.amps.now).value [] no_wires c.args.live.now) (Stopped-more _ _ _ (head_lines c.args.head.now.ranks c.args.head.now.protocol c.args.head.now.scale ++ bits_lines c.args.head.now.ranks (λ r. get_or c.args.head.now.bits r 0) ++ codes "live" ++ slots_text c.args.live.now) (codes "\n") (Stopped-more _ _ _ (head_lines c.args.head.now.ranks c.args.head.now.protocol c.args.head.now.scale ++ bits_lines c.args.head.now.ranks (λ r. get_or c.args.head.now.bits r 0) ++ codes "live") (slots_text c.args.live.now) (Stopped-more _ _ _ (head_lines c.args.head.now.ranks c.args.head.now.protocol c.args.head.now.scale ++ bits_lines c.args.head.now.ranks (λ r. get_or c.args.head.now.bits r 0)) (codes "live") (Stopped-more _ _ _ (head_lines c.args.head.now.ranks c.args.head.now.protocol c.args.head.now.scale) (bits_lines c.args.head.now.ranks (λ r. get_or c.args.head.now.bits r 0)) c.in_err-add_head.ensures))))))

pub returns-in_err-add_bits : goal.returns-in_err-add_bits
returns-in_err-add_bits g c =
    Gathers-stop _ _ _ _ _ _ _ c.from_residual-in_err-add_bits.ensures.1
    (Stopped-more _ _ _ (head_lines c.args.head.now.ranks c.args.head.now.protocol c.args.head.now.scale ++ bits_lines c.args.head.now.ranks (λ r. get_or c.args.head.now.bits r 0) ++ codes "live" ++ slots_text c.args.live.now ++ codes "\n" ++ branch_lines (g.A.Amps.store c.args.amps.now).value [] no_wires c.args.live.now) (codes "end\n") (Stopped-more _ _ _ (head_lines c.args.head.now.ranks c.args.head.now.protocol c.args.head.now.scale ++ bits_lines c.args.head.now.ranks (λ r. get_or c.args.head.now.bits r 0) ++ codes "live" ++ slots_text c.args.live.now ++ codes "\n") (branch_lines (g.A.Amps.store c.args.amps.now).value [] no_wires c.args.live.now) (Stopped-more _ _ _ (head_lines c.args.head.now.ranks c.args.head.now.protocol c.args.head.now.scale ++ bits_lines c.args.head.now.ranks (λ r. get_or c.args.head.now.bits r 0) ++ codes "live" ++ slots_text c.args.live.now) (codes "\n") (Stopped-more _ _ _ (head_lines c.args.head.now.ranks c.args.head.now.protocol c.args.head.now.scale ++ bits_lines c.args.head.now.ranks (λ r. get_or c.args.head.now.bits r 0) ++ codes "live") (slots_text c.args.live.now) (Stopped-more _ _ _ (head_lines c.args.head.now.ranks c.args.head.now.protocol c.args.head.now.scale ++ bits_lines c.args.head.now.ranks (λ r. get_or c.args.head.now.bits r 0)) (codes "live") (Stopped-next _ _ _ _ _ (head_lines c.args.head.now.ranks c.args.head.now.protocol c.args.head.now.scale) (bits_lines c.args.head.now.ranks (λ r. get_or c.args.head.now.bits r 0)) c.in_ok-add_head.ensures c.in_err-add_bits.ensures))))))

pub returns-in_err-put : goal.returns-in_err-put
returns-in_err-put g c =
    Gathers-stop _ _ _ _ _ _ _ c.from_residual-in_err-put.ensures.1
    (Stopped-more _ _ _ (head_lines c.args.head.now.ranks c.args.head.now.protocol c.args.head.now.scale ++ bits_lines c.args.head.now.ranks (λ r. get_or c.args.head.now.bits r 0) ++ codes "live" ++ slots_text c.args.live.now ++ codes "\n" ++ branch_lines (g.A.Amps.store c.args.amps.now).value [] no_wires c.args.live.now) (codes "end\n") (Stopped-more _ _ _ (head_lines c.args.head.now.ranks c.args.head.now.protocol c.args.head.now.scale ++ bits_lines c.args.head.now.ranks (λ r. get_or c.args.head.now.bits r 0) ++ codes "live" ++ slots_text c.args.live.now ++ codes "\n") (branch_lines (g.A.Amps.store c.args.amps.now).value [] no_wires c.args.live.now) (Stopped-more _ _ _ (head_lines c.args.head.now.ranks c.args.head.now.protocol c.args.head.now.scale ++ bits_lines c.args.head.now.ranks (λ r. get_or c.args.head.now.bits r 0) ++ codes "live" ++ slots_text c.args.live.now) (codes "\n") (Stopped-more _ _ _ (head_lines c.args.head.now.ranks c.args.head.now.protocol c.args.head.now.scale ++ bits_lines c.args.head.now.ranks (λ r. get_or c.args.head.now.bits r 0) ++ codes "live") (slots_text c.args.live.now) (Stopped-next _ _ _ _ _ (head_lines c.args.head.now.ranks c.args.head.now.protocol c.args.head.now.scale ++ bits_lines c.args.head.now.ranks (λ r. get_or c.args.head.now.bits r 0)) (codes "live") (Added-join _ _ _ _ _ _ (head_lines c.args.head.now.ranks c.args.head.now.protocol c.args.head.now.scale) (bits_lines c.args.head.now.ranks (λ r. get_or c.args.head.now.bits r 0)) c.in_ok-add_head.ensures c.in_ok-add_bits.ensures) c.in_err-put.ensures)))))

pub returns-in_err-add_slots : goal.returns-in_err-add_slots
returns-in_err-add_slots g c =
    Gathers-stop _ _ _ _ _ _ _ c.from_residual-in_err-add_slots.ensures.1
    (Stopped-more _ _ _ (head_lines c.args.head.now.ranks c.args.head.now.protocol c.args.head.now.scale ++ bits_lines c.args.head.now.ranks (λ r. get_or c.args.head.now.bits r 0) ++ codes "live" ++ slots_text c.args.live.now ++ codes "\n" ++ branch_lines (g.A.Amps.store c.args.amps.now).value [] no_wires c.args.live.now) (codes "end\n") (Stopped-more _ _ _ (head_lines c.args.head.now.ranks c.args.head.now.protocol c.args.head.now.scale ++ bits_lines c.args.head.now.ranks (λ r. get_or c.args.head.now.bits r 0) ++ codes "live" ++ slots_text c.args.live.now ++ codes "\n") (branch_lines (g.A.Amps.store c.args.amps.now).value [] no_wires c.args.live.now) (Stopped-more _ _ _ (head_lines c.args.head.now.ranks c.args.head.now.protocol c.args.head.now.scale ++ bits_lines c.args.head.now.ranks (λ r. get_or c.args.head.now.bits r 0) ++ codes "live" ++ slots_text c.args.live.now) (codes "\n") (Stopped-next _ _ _ _ _ (head_lines c.args.head.now.ranks c.args.head.now.protocol c.args.head.now.scale ++ bits_lines c.args.head.now.ranks (λ r. get_or c.args.head.now.bits r 0) ++ codes "live") (slots_text c.args.live.now) (Added-join _ _ _ _ _ _ (head_lines c.args.head.now.ranks c.args.head.now.protocol c.args.head.now.scale ++ bits_lines c.args.head.now.ranks (λ r. get_or c.args.head.now.bits r 0)) (codes "live") (Added-join _ _ _ _ _ _ (head_lines c.args.head.now.ranks c.args.head.now.protocol c.args.head.now.scale) (bits_lines c.args.head.now.ranks (λ r. get_or c.args.head.now.bits r 0)) c.in_ok-add_head.ensures c.in_ok-add_bits.ensures) c.in_ok-put.ensures) c.in_err-add_slots.ensures))))

pub returns-in_err-put-2 : goal.returns-in_err-put-2
returns-in_err-put-2 g c =
    Gathers-stop _ _ _ _ _ _ _ c.from_residual-in_err-put-2.ensures.1
    (Stopped-more _ _ _ (head_lines c.args.head.now.ranks c.args.head.now.protocol c.args.head.now.scale ++ bits_lines c.args.head.now.ranks (λ r. get_or c.args.head.now.bits r 0) ++ codes "live" ++ slots_text c.args.live.now ++ codes "\n" ++ branch_lines (g.A.Amps.store c.args.amps.now).value [] no_wires c.args.live.now) (codes "end\n") (Stopped-more _ _ _ (head_lines c.args.head.now.ranks c.args.head.now.protocol c.args.head.now.scale ++ bits_lines c.args.head.now.ranks (λ r. get_or c.args.head.now.bits r 0) ++ codes "live" ++ slots_text c.args.live.now ++ codes "\n") (branch_lines (g.A.Amps.store c.args.amps.now).value [] no_wires c.args.live.now) (Stopped-next _ _ _ _ _ (head_lines c.args.head.now.ranks c.args.head.now.protocol c.args.head.now.scale ++ bits_lines c.args.head.now.ranks (λ r. get_or c.args.head.now.bits r 0) ++ codes "live" ++ slots_text c.args.live.now) (codes "\n") (Added-join _ _ _ _ _ _ (head_lines c.args.head.now.ranks c.args.head.now.protocol c.args.head.now.scale ++ bits_lines c.args.head.now.ranks (λ r. get_or c.args.head.now.bits r 0) ++ codes "live") (slots_text c.args.live.now) (Added-join _ _ _ _ _ _ (head_lines c.args.head.now.ranks c.args.head.now.protocol c.args.head.now.scale ++ bits_lines c.args.head.now.ranks (λ r. get_or c.args.head.now.bits r 0)) (codes "live") (Added-join _ _ _ _ _ _ (head_lines c.args.head.now.ranks c.args.head.now.protocol c.args.head.now.scale) (bits_lines c.args.head.now.ranks (λ r. get_or c.args.head.now.bits r 0)) c.in_ok-add_head.ensures c.in_ok-add_bits.ensures) c.in_ok-put.ensures) c.in_ok-add_slots.ensures) c.in_err-put-2.ensures)))

pub returns-in_err-add_branches : goal.returns-in_err-add_branches
returns-in_err-add_branches g c =
    Gathers-stop _ _ _ _ _ _ _ c.from_residual-in_err-add_branches.ensures.1
    (Stopped-more _ _ _ (head_lines c.args.head.now.ranks c.args.head.now.protocol c.args.head.now.scale ++ bits_lines c.args.head.now.ranks (λ r. get_or c.args.head.now.bits r 0) ++ codes "live" ++ slots_text c.args.live.now ++ codes "\n" ++ branch_lines (g.A.Amps.store c.args.amps.now).value [] no_wires c.args.live.now) (codes "end\n") (Stopped-next _ _ _ _ _ (head_lines c.args.head.now.ranks c.args.head.now.protocol c.args.head.now.scale ++ bits_lines c.args.head.now.ranks (λ r. get_or c.args.head.now.bits r 0) ++ codes "live" ++ slots_text c.args.live.now ++ codes "\n") (branch_lines (g.A.Amps.store c.args.amps.now).value [] no_wires c.args.live.now) (Added-join _ _ _ _ _ _ (head_lines c.args.head.now.ranks c.args.head.now.protocol c.args.head.now.scale ++ bits_lines c.args.head.now.ranks (λ r. get_or c.args.head.now.bits r 0) ++ codes "live" ++ slots_text c.args.live.now) (codes "\n") (Added-join _ _ _ _ _ _ (head_lines c.args.head.now.ranks c.args.head.now.protocol c.args.head.now.scale ++ bits_lines c.args.head.now.ranks (λ r. get_or c.args.head.now.bits r 0) ++ codes "live") (slots_text c.args.live.now) (Added-join _ _ _ _ _ _ (head_lines c.args.head.now.ranks c.args.head.now.protocol c.args.head.now.scale ++ bits_lines c.args.head.now.ranks (λ r. get_or c.args.head.now.bits r 0)) (codes "live") (Added-join _ _ _ _ _ _ (head_lines c.args.head.now.ranks c.args.head.now.protocol c.args.head.now.scale) (bits_lines c.args.head.now.ranks (λ r. get_or c.args.head.now.bits r 0)) c.in_ok-add_head.ensures c.in_ok-add_bits.ensures) c.in_ok-put.ensures) c.in_ok-add_slots.ensures) c.in_ok-put-2.ensures) (rw c.start.ensures at (c.in_err-add_branches.ensures.gathers))))

pub returns : goal.returns
returns g c =
    Added-gathers _ _ _ _ _ _ (head_lines c.args.head.now.ranks c.args.head.now.protocol c.args.head.now.scale ++ bits_lines c.args.head.now.ranks (λ r. get_or c.args.head.now.bits r 0) ++ codes "live" ++ slots_text c.args.live.now ++ codes "\n" ++ branch_lines (g.A.Amps.store c.args.amps.now).value [] no_wires c.args.live.now) (codes "end\n") _
    (Added-join _ _ _ _ _ _ (head_lines c.args.head.now.ranks c.args.head.now.protocol c.args.head.now.scale ++ bits_lines c.args.head.now.ranks (λ r. get_or c.args.head.now.bits r 0) ++ codes "live" ++ slots_text c.args.live.now ++ codes "\n") (branch_lines (g.A.Amps.store c.args.amps.now).value [] no_wires c.args.live.now) (Added-join _ _ _ _ _ _ (head_lines c.args.head.now.ranks c.args.head.now.protocol c.args.head.now.scale ++ bits_lines c.args.head.now.ranks (λ r. get_or c.args.head.now.bits r 0) ++ codes "live" ++ slots_text c.args.live.now) (codes "\n") (Added-join _ _ _ _ _ _ (head_lines c.args.head.now.ranks c.args.head.now.protocol c.args.head.now.scale ++ bits_lines c.args.head.now.ranks (λ r. get_or c.args.head.now.bits r 0) ++ codes "live") (slots_text c.args.live.now) (Added-join _ _ _ _ _ _ (head_lines c.args.head.now.ranks c.args.head.now.protocol c.args.head.now.scale ++ bits_lines c.args.head.now.ranks (λ r. get_or c.args.head.now.bits r 0)) (codes "live") (Added-join _ _ _ _ _ _ (head_lines c.args.head.now.ranks c.args.head.now.protocol c.args.head.now.scale) (bits_lines c.args.head.now.ranks (λ r. get_or c.args.head.now.bits r 0)) c.in_ok-add_head.ensures c.in_ok-add_bits.ensures) c.in_ok-put.ensures) c.in_ok-add_slots.ensures) c.in_ok-put-2.ensures) (rw c.start.ensures at (c.in_ok-add_branches.ensures.gathers)))
    c.put-3.ensures

pub add_branches-requires : goal.add_branches-requires
add_branches-requires g c = rw c.start.ensures (GoesOn-start _ _ c.requires.live)
