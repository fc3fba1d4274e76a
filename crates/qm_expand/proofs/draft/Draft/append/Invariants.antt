use Rattle.std.proofs.Common.{◌≡◌, ◌==◌, take, map}
use Rattle.qm_expand.specs.Drafts.{with_outcomes}
use Rattle.qm_expand.proofs.draft.Draft.append.Given as goal

abbrev pub invariant-loop-digit : goal.invariant-loop-digit
invariant-loop-digit l = record {
  input : l.self.input ≡ with_outcomes l.own l.rank (map (λ d. d == 49) (take l.digit-index l.digits)) l.fn.self.input;
}
