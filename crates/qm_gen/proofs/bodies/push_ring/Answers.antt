use Rattle.std.specs.Prelude.{◌+◌, ◌-◌, ◌%◌, [], ◌∷◌, codes}
use Rattle.std.proofs.lemmas.Bool.{ne_eqb}
use Rattle.qm_gen.specs.Made.{with_number}
use Rattle.qm_gen.proofs.LineLemmas.{written}
use Rattle.qm_gen.proofs.bodies.push_ring.Goals as goal

pub returns-in_ok-extend_from_slice-2 : goal.returns-in_ok-extend_from_slice-2
returns-in_ok-extend_from_slice-2 c =
    let start = codes "alloc 0" ∷ codes "h 0" ∷ codes "t 0" ∷ [] in
    let for = with_number (codes "for i in 0..") c.args.size (codes " {") in
    rw c.if-rank-eq0.true
    (written _ _ _ (codes "alloc 0" ∷ codes "h 0" ∷ codes "t 0" ∷ for ∷ []) (codes "moveto 0 1 1" ∷ codes "movefrom 0 3 1" ∷ codes "}" ∷ [])
    (written _ _ _ start (for ∷ []) c.in_ok-extend_from_slice.ensures.items c.in_ok-push_numbered.ensures) c.in_ok-extend_from_slice-2.ensures.items)

pub returns-in_ok-extend_from_slice-3 : goal.returns-in_ok-extend_from_slice-3
returns-in_ok-extend_from_slice-3 c =
    let for = with_number (codes "for i in 0..") c.args.size (codes " {") in
    let from = with_number (codes "movefrom 0 ") (c.args.rank - 1) (codes " 1") in
    let to = with_number (codes "moveto 0 ") ((c.args.rank + 1) % 4) (codes " 1") in
    rw (ne_eqb c.args.rank 0 c.if-rank-eq0.false)
    (written _ _ _ (for ∷ from ∷ to ∷ []) (codes "}" ∷ [])
    (written _ _ _ (for ∷ from ∷ []) (to ∷ []) (written _ _ _ (for ∷ []) (from ∷ []) c.in_ok-push_numbered-2.ensures c.in_ok-push_numbered-3.ensures) c.in_ok-push_numbered-4.ensures)
    c.in_ok-extend_from_slice-3.ensures.items)
