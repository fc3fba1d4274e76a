use Rattle.qm_print.proofs.circuit.add_letter.Goals as goal

pub returns-in-Phase : goal.returns-in-Phase
returns-in-Phase g c = rw c.in-Phase.is c.add_phase.ensures

pub returns-in-Flip : goal.returns-in-Flip
returns-in-Flip g c = rw c.in-Flip.is c.add_one.ensures

pub returns-in-Had : goal.returns-in-Had
returns-in-Had g c = rw c.in-Had.is c.add_one-in-Had.ensures

pub returns-in-Cx : goal.returns-in-Cx
returns-in-Cx g c = rw c.in-Cx.is c.add_two.ensures

pub returns-in-Cz : goal.returns-in-Cz
returns-in-Cz g c = rw c.in-Cz.is c.add_two-in-Cz.ensures

pub returns-in-Pair : goal.returns-in-Pair
returns-in-Pair g c = rw c.in-Pair.is c.add_two-in-Pair.ensures

pub returns-in-Keep : goal.returns-in-Keep
returns-in-Keep g c = rw c.in-Keep.is c.add_projection.ensures

pub returns-in-Take : goal.returns-in-Take
returns-in-Take g c = rw c.in-Take.is c.add_projection-in-Take.ensures

pub returns-in-Rename : goal.returns-in-Rename
returns-in-Rename g c = rw c.in-Rename.is c.add_two-in-Rename.ensures
