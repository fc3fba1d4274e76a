-- What the plain store's rules make of a list of numerators
use Rattle.std.specs.Prelude.{◌≡◌, ℕ, ◌*◌, ◌/◌, ◌<◌, ◌^◌, List, length}
use Rattle.qm_zomega.specs.declared.Zw.{Zw}
use Rattle.qm_zomega.specs.Numbers.{Number, zero_number}
use Rattle.qm_zomega.specs.NumberLists.{number_at, IsListOf}
use Rattle.qm_denot.specs.declared.plain.rules.Rule.{Rule}
use Rattle.qm_denot.specs.declared.plain.rules.Rule.TheVariants.{Phase, Flip, Cx, Cz, Keep, Take, Pair}
use Rattle.qm_denot.specs.Places.{HasPlace}
use Rattle.qm_denot.specs.LettersByPlace.{phase_at, flip_at, cross_at, sign_at, keep_at, take_at, pair_at}

-- the number at index k after the rule
abbrev pub number_after : Rule → List Zw → ℕ → Number
number_after (Phase e p) zs k = phase_at e p (number_at zs) k
number_after (Flip p) zs k = flip_at p (number_at zs) k
number_after (Cx c t) zs k = cross_at c t (number_at zs) k
number_after (Cz c t) zs k = sign_at c t (number_at zs) k
number_after (Keep p m) zs k = keep_at zero_number p m (number_at zs) k
number_after (Take p m) zs k = take_at p m (number_at zs) k
number_after (Pair n) zs k = pair_at zero_number n (number_at zs) k

-- the rule's places are places of a list of so many numbers
abbrev pub FitsRule : Rule → ℕ → Type 0
FitsRule (Phase e p) size = (e < 8) × HasPlace size p
FitsRule (Flip p) size = HasPlace size p
FitsRule (Cx c t) size = HasPlace size c × HasPlace size t
FitsRule (Cz c t) size = HasPlace size c × HasPlace size t
FitsRule (Keep p m) size = HasPlace size p
FitsRule (Take p m) size = HasPlace size p
FitsRule (Pair n) size = size ≡ 2 ^ n

-- how many numbers the rule makes of so many
abbrev pub size_after : Rule → ℕ → ℕ
size_after (Phase e p) size = size
size_after (Flip p) size = size
size_after (Cx c t) size = size
size_after (Cz c t) size = size
size_after (Keep p m) size = size
size_after (Take p m) size = size / 2
size_after (Pair n) size = size * 4

-- new is what the rule makes of old
abbrev pub IsRewritten : Rule → List Zw → List Zw → Type 0
IsRewritten r old new = IsListOf new (size_after r (length old)) (number_after r old)
