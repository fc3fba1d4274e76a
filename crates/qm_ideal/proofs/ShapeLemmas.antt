-- The shapes of the events of an instruction, as the code keeps them
use Rattle.std.proofs.Common.{◌≡◌, ◌∙◌, ℕ, zero, suc, ◌<◌, ◌≤◌, List, [], ◌∷◌, map, take, replicate, slice_get, Some, None, refl, sym, ap, arith}
use Rattle.std.proofs.Math.Path.{fun_ext}
use Rattle.qm_instr.specs.declared.Lane.{Lane}
use Rattle.qm_ideal.specs.declared.shapes.EventShape.{EventShape}
use Rattle.qm_ideal.specs.declared.meeting.Position.{Position}
use Rattle.qm_ideal.specs.Meetings.{Stand}
use Rattle.qm_ideal.specs.MeetingViews.{shape_meant, maybe_shape, position_at_start, at_in, stage_in}
use Rattle.std.proofs.Common.{Bool, ◌+◌, nat_lt, if◌then◌else◌, fold, ap₂}
use Rattle.std.specs.Prelude.{option_to_list}
use Rattle.qm_proto.specs.Model.Runs.{events_at}
use Rattle.qm_proto.specs.Model.State.{with_at}
use Rattle.qm_ideal.specs.declared.meeting.Meeting.{Meeting}
use Rattle.qm_ideal.specs.Lanes.{lanes_of}
use Rattle.qm_ideal.specs.Meetings.{Reader, shape_next, lanes_after, stand_past, go}
use Rattle.qm_ideal.specs.MeetingViews.{stand_in, move_meant}

pub shape_taken : (xs : List EventShape) (n k : ℕ) → k < n → maybe_shape (slice_get xs k) ≡ slice_get (map shape_meant (take n xs)) k
shape_taken xs zero k h = absurd (omega (arith, h))
shape_taken [] (suc n) k h = refl
shape_taken (x ∷ xs) (suc n) zero h = refl
shape_taken (x ∷ xs) (suc n) (suc k) h = shape_taken xs n k (omega (arith, h))

pub shape_past : (xs : List EventShape) (n k : ℕ) → n ≤ k → slice_get (map shape_meant (take n xs)) k ≡ None
shape_past xs zero k h = refl
shape_past [] (suc n) k h = refl
shape_past (x ∷ xs) (suc n) zero h = absurd (omega (arith, h))
shape_past (x ∷ xs) (suc n) (suc k) h = shape_past xs n k (omega (arith, h))

-- ---- at the start
start_at : (n r : ℕ) → at_in (slice_get (replicate n position_at_start) r) ≡ 0
start_at zero r = refl
start_at (suc n) zero = refl
start_at (suc n) (suc r) = start_at n r

start_stage : (n r : ℕ) → stage_in (slice_get (replicate n position_at_start) r) ≡ 0
start_stage zero r = refl
start_stage (suc n) zero = refl
start_stage (suc n) (suc r) = start_stage n r

pub start_stand : (positions : List Position) (n : ℕ) (ls : Lane → List Bool) → positions ≡ replicate n position_at_start → ls ≡ (λ a. [])
    → (let s : Stand = record { at = λ r. at_in (slice_get positions r); stage = λ r. stage_in (slice_get positions r); lanes = ls } in
    let u : Stand = record { at = λ r. 0; stage = λ r. 0; lanes = λ a. [] } in s ≡ u)
start_stand positions n ls same none =
    let build : (ℕ → ℕ) → (ℕ → ℕ) → (Lane → List Bool) → Stand = λ f g l. record { at = f; stage = g; lanes = l } in
    ap (λ xs. build (λ r. at_in (slice_get xs r)) (λ r. stage_in (slice_get xs r)) ls) same
    ∙ ap (λ f. build f (λ r. stage_in (slice_get (replicate n position_at_start) r)) ls) (fun_ext (start_at n))
    ∙ ap (λ g. build (λ r. 0) g ls) (fun_ext (start_stage n))
    ∙ ap (build (λ r. 0) (λ r. 0)) none

-- ---- a step: the lane's move, and then the position
pub stepped_so : (m n k : Meeting) (read : Reader) (r : ℕ) (x : EventShape) (events : ℕ) → events ≡ events_at (read r ((stand_in m).at r))
    → shape_next read (stand_in m) r ≡ Some (shape_meant x) → n.positions ≡ m.positions
    → lanes_of n.lanes ≡ fold lanes_after (lanes_of m.lanes) (map move_meant (option_to_list x.act))
    → (stand_in k).at ≡ with_at (stand_in n).at r (if nat_lt ((stand_in n).stage r + 1) events then (stand_in n).at r else (stand_in n).at r + 1)
    → (stand_in k).stage ≡ with_at (stand_in n).stage r (if nat_lt ((stand_in n).stage r + 1) events then (stand_in n).stage r + 1 else 0)
    → k.lanes ≡ n.lanes → stand_in k ≡ go read (stand_in m) r
stepped_so m n k read r x events count next positions lanes at stage same =
    let s = stand_in m in
    let build : (ℕ → ℕ) → (ℕ → ℕ) → (Lane → List Bool) → Stand = λ f g l. record { at = f; stage = g; lanes = l } in
    let at_was : (stand_in n).at ≡ s.at = ap (λ ps. λ (r : ℕ). at_in (slice_get ps.items r)) positions in
    let stage_was : (stand_in n).stage ≡ s.stage = ap (λ ps. λ (r : ℕ). stage_in (slice_get ps.items r)) positions in
    let new_at = at ∙ ap₂ (λ (f g : ℕ → ℕ). with_at f r (if nat_lt (g r + 1) events then f r else f r + 1)) at_was stage_was in
    let new_stage = stage ∙ ap (λ (g : ℕ → ℕ). with_at g r (if nat_lt (g r + 1) events then g r + 1 else 0)) stage_was in
    let new_lanes = ap lanes_of same ∙ lanes in
    let fa = with_at s.at r (if nat_lt (s.stage r + 1) events then s.at r else s.at r + 1) in
    let fs = with_at s.stage r (if nat_lt (s.stage r + 1) events then s.stage r + 1 else 0) in
    ap (λ f. build f (stand_in k).stage (stand_in k).lanes) new_at
    ∙ ap (λ g. build fa g (stand_in k).lanes) new_stage
    ∙ ap (build fa fs) new_lanes
    ∙ ap (λ e. stand_past e s r (Some (shape_meant x))) count
    ∙ ap (stand_past (events_at (read r (s.at r))) s r) (sym next)
