-- The letters of a circuit find room where the capacity is at least the width
use Rattle.std.proofs.Common.{ℕ, ◌+◌, ◌*◌, ◌≤◌, Bool, true, false, cond, List, [], ◌∷◌, ◌++◌, length, filter, arith}
use Rattle.std.proofs.lemmas.List.{length-append}
use Rattle.std.proofs.lemmas.List.Sums.{length-filter, count_by-le-length}
use Rattle.qm_denot.specs.declared.Wire.{Wire}
use Rattle.qm_denot.specs.declared.Letter.{Letter}
use Rattle.qm_denot.specs.declared.Letter.TheVariants.{Phase, Flip, Had, Cx, Cz, Pair, Keep, Take, Rename}
use Rattle.qm_denot.specs.Stores.{live_after}
use Rattle.qm_denot.specs.WireLists.{lacks, without_wire}
use Rattle.qm_denot.specs.Weights.{operands, also}
use Rattle.qm_denot.specs.Wires.{is_wire}
use Rattle.qm_proto.specs.Model.Ideal.{made_fresh, width, width_from}
use Rattle.qm_ideal.specs.Room.{MakesFresh, FindsRoom, AllFindRoom, WidthLaw}
use Rattle.qm_denot.proofs.RenameLaws.{length-renamed}

-- ---- lengths
filter_few : (f : Wire → Bool) (ws : List Wire) → length (filter f ws) ≤ length ws
filter_few f ws = let e = length-filter f ws in let l = count_by-le-length f ws in omega (arith, e, l)

without_few : (ws : List Wire) (w : Wire) → length (without_wire ws w) ≤ length ws
without_few [] w = omega arith
without_few (v ∷ ws) w = by_bool (is_wire v w) (without_few ws w)
  where
    by_bool : (b : Bool) → length (without_wire ws w) ≤ length ws → length (cond b (without_wire ws w) (v ∷ without_wire ws w)) ≤ length (v ∷ ws)
    by_bool true rest = omega (arith, rest)
    by_bool false rest = omega (arith, rest)

-- the wires that are live after a letter, which may be a pair
after_few : (l : Letter) (cap : ℕ) (now : List Wire) → length now ≤ cap → FindsRoom cap now l → length (live_after l now) ≤ cap
after_few (Pair a b) cap now few room = let e = length-append now (a ∷ b ∷ []) in omega (arith, e, room)
after_few (Take w m) cap now few room = let e = without_few now w in omega (arith, e, few)
after_few (Rename a b) cap now few room = let e = length-renamed now a b in omega (arith, e, few)
after_few (Phase k w) cap now few room = few
after_few (Flip w) cap now few room = few
after_few (Had w) cap now few room = few
after_few (Cx c t) cap now few room = few
after_few (Cz c t) cap now few room = few
after_few (Keep w m) cap now few room = few

room_after : (l : Letter) (cap : ℕ) (now : List Wire) → length (live_after l now) ≤ cap → FindsRoom cap now l
room_after (Pair a b) cap now few = let e = length-append now (a ∷ b ∷ []) in omega (arith, e, few)
room_after (Take w m) cap now few = tt
room_after (Rename a b) cap now few = tt
room_after (Phase k w) cap now few = tt
room_after (Flip w) cap now few = tt
room_after (Had w) cap now few = tt
room_after (Cx c t) cap now few = tt
room_after (Cz c t) cap now few = tt
room_after (Keep w m) cap now few = tt

-- ---- fresh wires
fresh_fits : (cap : ℕ) (live ws : List Wire) → length live ≤ cap → MakesFresh cap live ws → length (live ++ ws) ≤ cap
fresh_fits cap live [] few h = let e = length-append live [] in omega (arith, e, few)
fresh_fits cap live (w ∷ ws) few h =
    let one = length-append live (w ∷ []) in
    let rest = fresh_fits cap (live ++ w ∷ []) ws (omega (arith, one, h.0)) h.1 in
    let e = length-append (live ++ w ∷ []) ws in
    let d = length-append live (w ∷ ws) in
    omega (arith, rest, e, d, one)

fits_fresh : (cap : ℕ) (live ws : List Wire) → length (live ++ ws) ≤ cap → MakesFresh cap live ws
fits_fresh cap live [] fit = tt
fits_fresh cap live (w ∷ ws) fit =
    let one = length-append live (w ∷ []) in
    let e = length-append (live ++ w ∷ []) ws in
    let d = length-append live (w ∷ ws) in
    (omega (arith, d, fit), fits_fresh cap (live ++ w ∷ []) ws (omega (arith, e, d, one, fit)))

-- ---- what is live is no more than the width
live_within : (live named : List Wire) (ls : List Letter) (ends : List Wire) → length live ≤ width_from live named ls ends
live_within live named [] ends = omega arith
live_within live named (l ∷ ls) ends =
    let new = filter (lacks named) (made_fresh l) in
    let e = length-append live new in omega (arith, e)

-- ---- both ways
width_fits : (cap : ℕ) (ls : List Letter) (live named ends : List Wire) → length live ≤ cap → AllFindRoom cap live named ls ends → width_from live named ls ends ≤ cap
width_fits cap [] live named ends few h =
    let new = filter (lacks named) ends in
    let fit = fresh_fits cap live new few h in
    let e = length-append live new in omega (arith, fit, e)
width_fits cap (l ∷ ls) live named ends few h =
    let new = filter (lacks named) (made_fresh l) in
    let now = live ++ new in
    let fit = fresh_fits cap live new few h.0 in
    let rest = width_fits cap ls (live_after l now) (also named (operands l)) ends (after_few l cap now fit h.1) h.2 in
    omega (arith, fit, rest)

fits_width : (cap : ℕ) (ls : List Letter) (live named ends : List Wire) → width_from live named ls ends ≤ cap → AllFindRoom cap live named ls ends
fits_width cap [] live named ends fit =
    let new = filter (lacks named) ends in
    let e = length-append live new in fits_fresh cap live new (omega (arith, e, fit))
fits_width cap (l ∷ ls) live named ends fit =
    let new = filter (lacks named) (made_fresh l) in
    let now = live ++ new in
    let rest : width_from (live_after l now) (also named (operands l)) ls ends ≤ cap = omega (arith, fit) in
    let within = live_within (live_after l now) (also named (operands l)) ls ends in
    (fits_fresh cap live new (omega (arith, fit)), room_after l cap now (omega (arith, within, rest)), fits_width cap ls (live_after l now) (also named (operands l)) ends rest)

pub width_law : WidthLaw
width_law c ends cap = (width_fits cap c [] [] ends (omega arith), fits_width cap c [] [] ends)

-- ---- and the width is bounded by the number of letters
made_few : (l : Letter) → length (made_fresh l) ≤ 2
made_few (Phase k w) = omega arith
made_few (Flip w) = omega arith
made_few (Had w) = omega arith
made_few (Cx c t) = omega arith
made_few (Cz c t) = omega arith
made_few (Pair a b) = omega arith
made_few (Keep w m) = omega arith
made_few (Take w m) = omega arith
made_few (Rename a b) = omega arith

after_more : (l : Letter) (now : List Wire) → length (live_after l now) + length (made_fresh l) ≤ length now + 2
after_more (Pair a b) now = let e = length-append now (a ∷ b ∷ []) in omega (arith, e)
after_more (Take w m) now = let e = without_few now w in omega (arith, e)
after_more (Rename a b) now = let e = length-renamed now a b in omega (arith, e)
after_more (Phase k w) now = omega arith
after_more (Flip w) now = omega arith
after_more (Had w) now = omega arith
after_more (Cx c t) now = omega arith
after_more (Cz c t) now = omega arith
after_more (Keep w m) now = omega arith

width_few : (ls : List Letter) (live named ends : List Wire) → width_from live named ls ends ≤ length live + 2 * length ls + length ends
width_few [] live named ends = let e = filter_few (lacks named) ends in omega (arith, e)
width_few (l ∷ ls) live named ends =
    let new = filter (lacks named) (made_fresh l) in
    let now = live ++ new in
    let few = filter_few (lacks named) (made_fresh l) in
    let made = made_few l in
    let e = length-append live new in
    let after = after_more l now in
    let rest = width_few ls (live_after l now) (also named (operands l)) ends in
    omega (arith, few, made, e, after, rest)

pub width_bound : (c : List Letter) (ends : List Wire) → width c ends ≤ 2 * length c + length ends
width_bound c ends = let e = width_few c [] [] ends in omega (arith, e)
