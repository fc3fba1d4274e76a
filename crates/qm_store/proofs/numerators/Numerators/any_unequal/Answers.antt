use Rattle.std.proofs.Common.{◌≡◌, ℕ, ◌<◌, ◌≤◌, ◌^◌, true, false, subst}
use Rattle.qm_zomega.specs.Numbers.{zero_number}
use Rattle.qm_denot.specs.Places.{HasPlace, has_place}
use Rattle.qm_store.proofs.WidenLaws.{narrow_size, as_narrow}
use Rattle.std.proofs.Common.{◌≢◌}
use Rattle.qm_limits.specs.declared.TheConstants.{MOST_CAPACITY}
use Rattle.qm_store.proofs.numerators.Numerators.any_unequal.Goals as goal

pub any_unequal-requires-else-self-clause-small : goal.any_unequal-requires-else-self-clause-small
any_unequal-requires-else-self-clause-small c =
    let s = c.args.self.now in
    rw c.deref-else-self.ensures.value (subst (λ n. n ≤ 2 ^ MOST_CAPACITY) (narrow_size s.wide.items s.is_wide s.narrow.items c.if-self.false) c.requires.small)

pub any_unequal-requires-else-self-clause-one : goal.any_unequal-requires-else-self-clause-one
any_unequal-requires-else-self-clause-one c =
    let s = c.args.self.now in
    rw c.deref-else-self.ensures.value (subst (λ n. HasPlace n c.args.one) (narrow_size s.wide.items s.is_wide s.narrow.items c.if-self.false) c.requires.one)

pub any_unequal-requires-else-self-clause-other : goal.any_unequal-requires-else-self-clause-other
any_unequal-requires-else-self-clause-other c =
    let s = c.args.self.now in
    rw c.deref-else-self.ensures.value (subst (λ n. HasPlace n c.args.other) (narrow_size s.wide.items s.is_wide s.narrow.items c.if-self.false) c.requires.other)

pub returns-else-self-clause-yes : goal.returns-else-self-clause-yes
returns-else-self-clause-yes c =
    let s = c.args.self.now in
    as_narrow s.wide.items (λ n f. c.any_unequal-else-self.result ≡ true → (k : ℕ) × (k < n) × (has_place c.args.one k ≢ has_place c.args.other k) × (f k ≢ zero_number)) s.is_wide s.narrow.items c.if-self.false
    (rw c.deref-else-self.ensures.value at c.any_unequal-else-self.ensures.yes)

pub returns-else-self-clause-no : goal.returns-else-self-clause-no
returns-else-self-clause-no c =
    let s = c.args.self.now in
    as_narrow s.wide.items (λ n f. c.any_unequal-else-self.result ≡ false → (k : ℕ) → k < n → has_place c.args.one k ≢ has_place c.args.other k → f k ≡ zero_number) s.is_wide s.narrow.items c.if-self.false
    (rw c.deref-else-self.ensures.value at c.any_unequal-else-self.ensures.no)
