use Rattle.std.proofs.Common.{◌∙◌, false, sym}
use Rattle.qm_owner.proofs.Searching.{found, passed}
use Rattle.qm_owner.specs.declared.Place.TheVariants.{Slot}
use Rattle.qm_owner.proofs.place_among.Goals as goal

pub returns-then-eq : goal.returns-then-eq
returns-then-eq c =
    found c.args.placed.now c.loop-entry.entry-index (record { rank = 0; made = 0; near = false }, Slot 0 0) c.args.w c.loop-entry-test.true (sym c.eq.ensures ∙ c.if-eq.true)
    ∙ sym c.loop-entry.invariant

pub loop-entry-preserved : goal.loop-entry-preserved
loop-entry-preserved c =
    c.loop-entry.invariant
    ∙ passed c.args.placed.now c.loop-entry.entry-index (record { rank = 0; made = 0; near = false }, Slot 0 0) c.args.w c.loop-entry-test.true (sym c.eq.ensures ∙ c.if-eq.false)
