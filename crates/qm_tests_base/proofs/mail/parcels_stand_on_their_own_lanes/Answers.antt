use Rattle.std.proofs.Common.{refl, lit<}
use Rattle.qm_instr.specs.Lanes.{is_lane}
use Rattle.qm_tests_base.proofs.mail.parcels_stand_on_their_own_lanes.Goals as goal

pub post-requires : goal.post-requires
unfolding is_lane
post-requires g c = rw c.in_ok-mail.ensures (lit< tt)

pub fill-requires : goal.fill-requires
unfolding is_lane
fill-requires g c = rw (c.post.ensures, c.in_ok-mail.ensures, c.half.ensures) refl

pub post-requires-2 : goal.post-requires-2
unfolding is_lane
post-requires-2 g c = rw (c.fill.ensures, c.post.ensures, c.in_ok-mail.ensures) (lit< tt)

pub post-requires-3 : goal.post-requires-3
unfolding is_lane
post-requires-3 g c = rw (c.post-2.ensures, c.fill.ensures, c.post.ensures, c.in_ok-mail.ensures) (lit< tt)

pub fill-requires-2 : goal.fill-requires-2
unfolding is_lane
fill-requires-2 g c = rw (c.post-3.ensures, c.post-2.ensures, c.fill.ensures, c.post.ensures, c.in_ok-mail.ensures, c.half-2.ensures) refl

pub take-first-requires : goal.take-first-requires
unfolding is_lane
take-first-requires g c = rw (c.fill-2.ensures, c.post-3.ensures, c.post-2.ensures, c.fill.ensures, c.post.ensures, c.in_ok-mail.ensures) refl
