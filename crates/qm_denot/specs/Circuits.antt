-- Circuits and their amplitudes. A circuit is a list of letters, and its amplitude at a set of wires is a number of Z[omega],
-- to be divided by root2 once for each `Had` and each `Pair`
use Rattle.std.specs.Prelude.{◌≡◌, ℕ, ◌+◌, Bool, true, false, not, List, [], ◌∷◌, if◌then◌else◌, ◌&&◌}
use Rattle.qm_zomega.specs.Numbers.{Number, zero_number, one_number, ◌⊕◌, ◌⊖◌, negative, omega_times, root2_times}
use Rattle.qm_denot.specs.declared.Wire.{Wire}
use Rattle.qm_denot.specs.declared.Letter.{Letter}
use Rattle.qm_denot.specs.declared.Letter.TheVariants.{Phase, Flip, Had, Cx, Cz, Pair, Keep, Take, Rename}
use Rattle.qm_denot.specs.Wires.{Wires, has, put, toggled, is_empty}

-- a number for each set of wires
abbrev pub Amplitudes : Type 0
Amplitudes = Wires → Number

-- a list of letters, the last letter last
abbrev pub Circuit : Type 0
Circuit = List Letter

-- whether two bits are equal
abbrev pub same_bit : Bool → Bool → Bool
same_bit true b = b
same_bit false b = not b

-- the amplitudes f after one more letter, at x: a line for each letter
abbrev pub with_letter : Letter → Amplitudes → Amplitudes
with_letter (Phase k w) f x = if has x w then omega_times k (f x) else f x
with_letter (Flip w) f x = f (toggled x w)
with_letter (Had w) f x = if has x w then f (put x w false) ⊖ f x else f x ⊕ f (put x w true)
with_letter (Cx c t) f x = if has x c then f (toggled x t) else f x
with_letter (Cz c t) f x = if has x c && has x t then negative (f x) else f x
with_letter (Pair a b) f x = if same_bit (has x a) (has x b) then f (put (put x a false) b false) else zero_number
with_letter (Keep w m) f x = if same_bit (has x w) m then f x else zero_number
with_letter (Take w m) f x = if has x w then zero_number else f (put x w m)
with_letter (Rename a b) f x = if has x a then zero_number else f (put (put x a (has x b)) b false)

-- the amplitudes f after the letters of a list
abbrev pub with_letters : List Letter → Amplitudes → Amplitudes
with_letters [] f = f
with_letters (l ∷ ls) f = with_letters ls (with_letter l f)

-- the amplitudes of the empty circuit: 1 at the empty set, and 0 elsewhere
abbrev pub at_start : Amplitudes
at_start x = if is_empty x then one_number else zero_number

-- the amplitude of C at x. (`amp-push` says that the last letter gives it by its line above)
unfoldable pub amp : Circuit → Amplitudes
amp c = with_letters c at_start

-- 1 for `Had` and for `Pair`, and 0 for every other letter
abbrev pub halves_of : Letter → ℕ
halves_of (Had w) = 1
halves_of (Pair a b) = 1
halves_of (Phase k w) = 0
halves_of (Flip w) = 0
halves_of (Cx c t) = 0
halves_of (Cz c t) = 0
halves_of (Keep w m) = 0
halves_of (Take w m) = 0
halves_of (Rename a b) = 0

-- e(C): how many letters of C are `Had` or `Pair`
abbrev pub halvings : Circuit → ℕ
halvings [] = 0
halvings (l ∷ ls) = halves_of l + halvings ls

-- C equals M up to p: at each x, C's exact amplitude times root2^p is M's
abbrev pub IsEqualUpTo : ℕ → Circuit → Circuit → Type 0
IsEqualUpTo p c m = (x : Wires) → root2_times (halvings m + p) (amp c x) ≡ root2_times (halvings c) (amp m x)

-- f is zero wherever w is one
abbrev pub IsBlankIn : Amplitudes → Wire → Type 0
IsBlankIn f w = (x : Wires) → has x w ≡ true → f x ≡ zero_number

-- w is blank in C
abbrev pub IsBlank : Circuit → Wire → Type 0
IsBlank c w = IsBlankIn (amp c) w
