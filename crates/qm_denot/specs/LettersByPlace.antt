-- What a letter makes of a list that has an entry for each choice of its places: the i-th entry after the letter, where f gives the
-- entries before it. The letter's wires stand at the places. Letters that only move entries do so whatever these are
use Rattle.std.specs.Prelude.{ℕ, ◌+◌, Bool, true, false, not, ◌&&◌, if◌then◌else◌}
use Rattle.qm_zomega.specs.Numbers.{Number, ◌⊕◌, ◌⊖◌, negative, omega_times}
use Rattle.qm_denot.specs.Circuits.{same_bit}
use Rattle.qm_denot.specs.Places.{has_place, set_place, insert_place}

-- `Phase` k on the wire at place p
abbrev pub phase_at : ℕ → ℕ → (ℕ → Number) → ℕ → Number
phase_at k p f i = if has_place p i then omega_times k (f i) else f i

-- `Flip`
abbrev pub flip_at : {A : Type 0} → ℕ → (ℕ → A) → ℕ → A
flip_at p f i = f (set_place p (not (has_place p i)) i)

-- `Had`
abbrev pub had_at : ℕ → (ℕ → Number) → ℕ → Number
had_at p f i = if has_place p i then f (set_place p false i) ⊖ f i else f i ⊕ f (set_place p true i)

-- `Cx`, with the control at place c and the target at place t
abbrev pub cross_at : {A : Type 0} → ℕ → ℕ → (ℕ → A) → ℕ → A
cross_at c t f i = if has_place c i then flip_at t f i else f i

-- `Cz`
abbrev pub sign_at : ℕ → ℕ → (ℕ → Number) → ℕ → Number
sign_at p q f i = if has_place p i && has_place q i then negative (f i) else f i

-- `Keep`, where o is the zero of the entries
abbrev pub keep_at : {A : Type 0} → A → ℕ → Bool → (ℕ → A) → ℕ → A
keep_at o p m f i = if same_bit (has_place p i) m then f i else o

-- `Take`: the list is half as long, and the places above p move down
abbrev pub take_at : {A : Type 0} → ℕ → Bool → (ℕ → A) → ℕ → A
take_at p m f i = f (insert_place p m i)

-- `Pair`: the list is four times as long, and the places n and n + 1 are new
abbrev pub pair_at : {A : Type 0} → A → ℕ → (ℕ → A) → ℕ → A
pair_at o n f i = if same_bit (has_place n i) (has_place (n + 1) i) then f (set_place (n + 1) false (set_place n false i)) else o
