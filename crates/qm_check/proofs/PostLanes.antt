-- The one lane on which an instruction posts, if it does
use Rattle.std.proofs.Common.{◌≡◌, ℕ, List, count_by, refl}
use Rattle.qm_instr.specs.declared.Instr.{Instr}
use Rattle.qm_instr.specs.declared.Lane.{Lane}
use Rattle.qm_instr.specs.Lanes.{is_on}
use Rattle.qm_check.specs.Messages.{posts_in}
pub use Rattle.qm_check.specs.Messages.{post_lane}

-- the instructions that post on a lane, by the lanes of all
pub posts_in-lane : (r : ℕ) (a : Lane) (is : List Instr) → posts_in r a is ≡ count_by (λ i. is_on (post_lane r i) a) is
posts_in-lane r a is = refl
