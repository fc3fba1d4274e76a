use Rattle.qm_machine.proofs.body.Body.act.Goals as goal

pub returns-in-Posts-clause-ok : goal.returns-in-Posts-clause-ok
returns-in-Posts-clause-ok g c = rw c.in-Posts.is (c.post.ensures c.args.rank (rw c.in-Posts.is at c.requires.can))

pub returns-in-Fills-clause-ok : goal.returns-in-Fills-clause-ok
returns-in-Fills-clause-ok g c = rw c.in-Fills.is (c.fill.ensures c.args.rank (rw c.in-Fills.is at c.requires.can))
