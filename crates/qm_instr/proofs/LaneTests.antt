-- The code's tests of kinds and lanes are those of the definitions
use Rattle.std.proofs.Common.{◌≡◌, Option, Some, None, nat_eq, ◌&&◌, refl, ap}
use Rattle.std.specs.Option.{option_eq}
use Rattle.qm_instr.specs.declared.Kind.{Kind}
use Rattle.qm_instr.specs.declared.Kind.TheVariants as kind
use Rattle.qm_instr.specs.declared.Lane.{Lane}
use Rattle.qm_instr.specs.contracts.KindPartialEq.TheImpl as kind_test
use Rattle.qm_instr.specs.contracts.LanePartialEq.TheImpl as lane_test
use Rattle.qm_instr.specs.Lanes.{is_kind, is_lane, is_on}

same_kinds : (a b : Kind) → kind_test.eq-value.it a b ≡ is_kind a b
same_kinds kind.Bit kind.Bit = refl
same_kinds kind.Copy kind.Copy = refl
same_kinds kind.Move kind.Move = refl
same_kinds kind.Undo kind.Undo = refl
same_kinds kind.Reach kind.Reach = refl
same_kinds kind.Back kind.Back = refl
same_kinds _ _ = refl

pub same_lanes : (a b : Lane) → lane_test.eq-value.it a b ≡ is_lane a b
unfolding is_lane
same_lanes a b = ap (λ k. nat_eq a.from b.from && (nat_eq a.to b.to && (k && nat_eq a.tag b.tag))) (same_kinds a.kind b.kind)

pub same_on : (o : Option Lane) (a : Lane) → option_eq lane_test.eq-value.it o (Some a) ≡ is_on o a
same_on None a = refl
same_on (Some b) a = same_lanes b a
