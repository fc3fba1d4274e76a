-- Made programs: their parts are sound, there is room for them, and their tapes have the right lengths
use Rattle.std.proofs.Common.{◌≡◌, ℕ, zero, suc, ◌+◌, ◌*◌, ◌<◌, ◌≤◌, nat_le, nat_lt, Bool, true, false, not, ◌&&◌, List, [], ◌∷◌, length, get_or, map, sum_by, Option, Some, None, refl, sym, ap, ◌∙◌, arith, length-append}
use Rattle.std.specs.Prelude.{◌==◌}
use Rattle.std.specs.List.{list_all}
use Rattle.std.proofs.lemmas.Bool.{and_parts, leb-true, ltb-true, eqb-true}
use Rattle.std.proofs.lemmas.List.Folds.{sum_by-replicate}
use Rattle.std.proofs.lemmas.List.Sums.{sum_by-append}
use Rattle.qm_instr.specs.declared.Instr.{Instr}
use Rattle.qm_instr.specs.Counts.{protocol_of, own_of}
use Rattle.qm_instr.specs.Lanes.{is_lane}
use Rattle.qm_instr.specs.Programs.{RankProgram, Programs, idle_rank, rank_of}
use Rattle.qm_check.specs.Checks.{capacity_of}
use Rattle.qm_gen.specs.declared.GenKind.{GenKind}
use Rattle.qm_gen.specs.declared.GenKind.TheVariants.{Ring, Ghz, Parity}
use Rattle.qm_seed.specs.Seeds.{Words}
use Rattle.qm_gen.specs.Sizes.{IsSize}
use Rattle.qm_gen.specs.Made.{tapes}
use Rattle.qm_gen.proofs.Deeds.{Deed, peer_of, instr_of, Part, parts, ring_part, parity_part}
use Rattle.qm_gen.proofs.Growth.{repeated}
use Rattle.qm_gen.proofs.Expanded.{IsSmall, SmallPeers, program_of}
use Rattle.qm_gen.proofs.RanksExpanded.{SmallParts, program_total, turn_total, Fits}
use Rattle.qm_gen.proofs.Walks.{peer_fits, slot_fits, after, walked, walked-first, part_fits, part-walks}
use Rattle.qm_gen.proofs.Matches.{sum-repeated}
use Rattle.qm_gen.proofs.Sound.{parts_fit, is_sound, HasTapes, Runs}
use Rattle.qm_gen.proofs.MadeSigns.{by_ghz_size, ranks-most}
use Rattle.qm_gen.proofs.MadeMay.{parts-length, size-small}
use Rattle.qm_gen.proofs.MadeTapes.{length-outcomes, programs_with, programs-version, programs-ranks, programs-at}

-- ---- the parts are sound
abbrev IsSound : GenKind → ℕ → Type 0
IsSound kind size = is_sound (parts kind size) ≡ true

pub made-sound : (kind : GenKind) (size : ℕ) → IsSize kind size → IsSound kind size
unfolding is_lane
made-sound Ring size h = refl
made-sound Parity size h = refl
made-sound Ghz size h = by_ghz_size (IsSound Ghz) refl refl refl refl refl refl refl refl refl size h.enough h.few

-- ---- and name small ranks alone
small-peer : (ranks rank : ℕ) (p : Option ℕ) → ranks ≤ 65536 → peer_fits ranks rank p ≡ true → IsSmall p
small-peer ranks rank None few h = tt
small-peer ranks rank (Some other) few h =
    let low : other < ranks = ltb-true other ranks (and_parts (nat_lt other ranks) (not (other == rank)) h).0 in omega arith

small-peers : (ranks rank : ℕ) (full end : Bool) (xs : List Deed) → ranks ≤ 65536 → walked ranks rank full xs ≡ Some end → SmallPeers xs
small-peers ranks rank full end [] few h = tt
small-peers ranks rank full end (x ∷ xs) few h =
    let parts = walked-first ranks rank full x xs end h in
    (small-peer ranks rank (peer_of x) few (and_parts (slot_fits x full) (peer_fits ranks rank (peer_of x)) parts.0).1, small-peers ranks rank (after x full) end xs few parts.1)

small-parts : (ranks rank : ℕ) (ps : List Part) → ranks ≤ 65536 → parts_fit ranks rank ps ≡ true → SmallParts ps
small-parts ranks rank [] few h = tt
small-parts ranks rank (p ∷ ps) few h =
    let both = and_parts (part_fits ranks rank p) (parts_fit ranks (rank + 1) ps) h in
    let w = part-walks ranks rank p both.0 in
    (record { once = small-peers ranks rank false w.full p.once few w.once; again = small-peers ranks rank w.full w.full p.again few w.again }, small-parts ranks (rank + 1) ps few both.1)

pub made-small : (kind : GenKind) (size : ℕ) → IsSize kind size → SmallParts (parts kind size)
made-small kind size h =
    let ps = parts kind size in
    let most = ranks-most kind size h in
    let few : length ps ≤ 65536 = omega (arith, parts-length kind size) in
    small-parts (length ps) 0 ps few (and_parts (parts_fit (length ps) 0 ps) _ (made-sound kind size h)).0

-- ---- there is room for them
pub sum-program : (f : Instr → ℕ) (size : ℕ) (p : Part) → sum_by f (program_of size p) ≡ sum_by f (map instr_of p.once) + size * sum_by f (map instr_of p.again)
sum-program f size p = sum_by-append f (map instr_of p.once) (repeated size (map instr_of p.again)) ∙ ap (λ k. sum_by f (map instr_of p.once) + k) (sum-repeated f size (map instr_of p.again))

length-repeated : {A : Type 0} (n : ℕ) (xs : List A) → length (repeated n xs) ≡ n * length xs
length-repeated zero xs = omega arith
length-repeated (suc n) xs = length-append xs (repeated n xs) ∙ ap (λ k. length xs + k) (length-repeated n xs) ∙ omega arith

length-program : (size : ℕ) (p : Part) → length (program_of size p) ≡ length (map instr_of p.once) + size * length (map instr_of p.again)
length-program size p = length-append (map instr_of p.once) (repeated size (map instr_of p.again)) ∙ ap (λ k. length (map instr_of p.once) + k) (length-repeated size (map instr_of p.again))

abbrev HasRoom : GenKind → ℕ → Type 0
HasRoom kind size = (program_total size (parts kind size) ≤ 100000) × (turn_total size (parts kind size) ≤ 1000000)

ghz-total : (size : ℕ) → 2 ≤ size → size ≤ 10 → (nat_le (program_total size (parts Ghz size)) 100000 && nat_le (turn_total size (parts Ghz size)) 1000000) ≡ true
ghz-total = by_ghz_size (λ n. (nat_le (program_total n (parts Ghz n)) 100000 && nat_le (turn_total n (parts Ghz n)) 1000000) ≡ true) refl refl refl refl refl refl refl refl refl

pub has-room : (kind : GenKind) (size : ℕ) → IsSize kind size → HasRoom kind size
has-room Ring size h =
    let few = h.few in
    let a = length-program size (ring_part 0) in let b = length-program size (ring_part 1) in
    let c = length-program size (ring_part 2) in let d = length-program size (ring_part 3) in
    (omega (arith, a, b, c, d), omega arith)
has-room Parity size h =
    let few = h.few in
    let a = length-program size (parity_part 0) in let b = length-program size (parity_part 1) in
    let c = length-program size (parity_part 2) in let d = length-program size (parity_part 3) in
    (omega (arith, a, b, c, d), omega arith)
has-room Ghz size h =
    let both = and_parts (nat_le (program_total size (parts Ghz size)) 100000) (nat_le (turn_total size (parts Ghz size)) 1000000) (ghz-total size h.enough h.few) in
    (leb-true (program_total size (parts Ghz size)) 100000 both.0, leb-true (turn_total size (parts Ghz size)) 1000000 both.1)

pub made-fits : (kind : GenKind) (size : ℕ) → IsSize kind size → Fits [] 0 size (parts kind size)
made-fits kind size h =
    let ps = parts kind size in
    let few = size-small kind size h in
    let room = has-room kind size h in
    let idle = sum_by-replicate (λ (x : RankProgram). length x.instructions) (length ps) idle_rank in
    record { size_few = omega arith; small = made-small kind size h; instructions = omega (arith, idle, room.0); turns = omega (arith, room.1) }

-- ---- tapes have the right lengths
abbrev pub made_programs : GenKind → ℕ → Words → Programs
made_programs kind size w = programs_with size (parts kind size) (tapes kind size) w

-- a rank whose tapes have these lengths
row-tapes : (size : ℕ) (p : Part) (own protocol : List Bool) → length own ≡ sum_by own_of (map instr_of p.once) + size * sum_by own_of (map instr_of p.again)
    → length protocol ≡ sum_by protocol_of (map instr_of p.once) + size * sum_by protocol_of (map instr_of p.again)
    → HasTapes (record { qubits = 1; buffer = 1; instructions = program_of size p; own = own; protocol = protocol })
row-tapes size p own protocol a b = record { own = sum-program own_of size p ∙ sym a; protocol = sum-program protocol_of size p ∙ sym b }

AllTapes : List RankProgram → Type 0
AllTapes [] = Unit {0}
AllTapes (x ∷ xs) = HasTapes x × AllTapes xs

has_tapes : RankProgram → Bool
has_tapes x = (sum_by own_of x.instructions == length x.own) && (sum_by protocol_of x.instructions == length x.protocol)

tapes-by : (xs : List RankProgram) → list_all has_tapes xs ≡ true → AllTapes xs
unfolding AllTapes has_tapes
tapes-by [] h = tt
tapes-by (x ∷ xs) h =
    let both = and_parts (has_tapes x) (list_all has_tapes xs) h in
    let two = and_parts (sum_by own_of x.instructions == length x.own) (sum_by protocol_of x.instructions == length x.protocol) both.0 in
    (record { own = eqb-true (sum_by own_of x.instructions) (length x.own) two.0; protocol = eqb-true (sum_by protocol_of x.instructions) (length x.protocol) two.1 }, tapes-by xs both.1)

ghz-tapes : (size : ℕ) → 2 ≤ size → size ≤ 10 → (w : Words) → list_all has_tapes (made_programs Ghz size w).ranks ≡ true
unfolding has_tapes
ghz-tapes = by_ghz_size (λ n. (w : Words) → list_all has_tapes (made_programs Ghz n w).ranks ≡ true) (λ w. refl) (λ w. refl) (λ w. refl) (λ w. refl) (λ w. refl) (λ w. refl) (λ w. refl) (λ w. refl) (λ w. refl)

none : (n : ℕ) → 0 ≡ 0 + n * 0
none n = omega arith

made-tapes : (kind : GenKind) (size : ℕ) (w : Words) → IsSize kind size → AllTapes (made_programs kind size w).ranks
unfolding AllTapes
made-tapes Ring size w h =
    let two : 2 * size ≡ 0 + size * 2 = omega arith in (
      row-tapes size (ring_part 0) [] _ (none size) (length-outcomes _ _ ∙ two),
      (
        row-tapes size (ring_part 1) [] _ (none size) (length-outcomes _ _ ∙ two),
        (
          row-tapes size (ring_part 2) [] _ (none size) (length-outcomes _ _ ∙ two),
          (row-tapes size (ring_part 3) [] _ (none size) (length-outcomes _ _ ∙ two), tt),
        ),
      ),
    )
made-tapes Parity size w h =
    let one : size ≡ 0 + size * 1 = omega arith in
    let three : 3 * size ≡ 0 + size * 3 = omega arith in (
      row-tapes size (parity_part 0) _ _ (length-outcomes _ _ ∙ one) (length-outcomes _ _ ∙ three),
      (
        row-tapes size (parity_part 1) [] _ (none size) (length-outcomes _ _ ∙ one),
        (
          row-tapes size (parity_part 2) [] _ (none size) (length-outcomes _ _ ∙ one),
          (row-tapes size (parity_part 3) [] _ (none size) (length-outcomes _ _ ∙ one), tt),
        ),
      ),
    )
made-tapes Ghz size w h = tapes-by (made_programs Ghz size w).ranks (ghz-tapes size h.enough h.few w)

tapes-at : (xs : List RankProgram) (r : ℕ) → AllTapes xs → HasTapes (get_or xs r idle_rank)
unfolding AllTapes
tapes-at [] r h = record { own = refl; protocol = refl }
tapes-at (x ∷ xs) zero h = h.0
tapes-at (x ∷ xs) (suc r) h = tapes-at xs r h.1

-- ---- sizes
is_one : RankProgram → Bool
is_one x = (x.qubits == 1) && (x.buffer == 1)

AreOnes : GenKind → ℕ → Words → Type 0
AreOnes kind size w = (list_all is_one (made_programs kind size w).ranks && nat_le (capacity_of (made_programs kind size w)) 20) ≡ true

are-ones : (kind : GenKind) (size : ℕ) (w : Words) → IsSize kind size → AreOnes kind size w
unfolding AreOnes is_one
are-ones Ring size w h = refl
are-ones Parity size w h = refl
are-ones Ghz size w h = by_ghz_size (λ n. AreOnes Ghz n w) refl refl refl refl refl refl refl refl refl size h.enough h.few

one-at : (xs : List RankProgram) (r : ℕ) → list_all is_one xs ≡ true → is_one (get_or xs r idle_rank) ≡ true
unfolding is_one
one-at [] r h = refl
one-at (x ∷ xs) zero h = (and_parts (is_one x) (list_all is_one xs) h).0
one-at (x ∷ xs) (suc r) h = one-at xs r (and_parts (is_one x) (list_all is_one xs) h).1

pub record IsOne (x : RankProgram) : Type 0 where
  pub qubits : x.qubits ≡ 1
  pub buffer : x.buffer ≡ 1

is-one : (x : RankProgram) → is_one x ≡ true → IsOne x
unfolding is_one
is-one x h = let both = and_parts (x.qubits == 1) (x.buffer == 1) h in record { qubits = eqb-true x.qubits 1 both.0; buffer = eqb-true x.buffer 1 both.1 }

pub rank-one : (kind : GenKind) (size : ℕ) (w : Words) → IsSize kind size → (r : ℕ) → IsOne (rank_of (made_programs kind size w) r)
unfolding AreOnes
rank-one kind size w h r =
    let p = made_programs kind size w in
    is-one (rank_of p r) (one-at p.ranks r (and_parts (list_all is_one p.ranks) (nat_le (capacity_of p) 20) (are-ones kind size w h)).0)

pub made-runs : (kind : GenKind) (size : ℕ) (w : Words) → IsSize kind size → Runs size (parts kind size) (made_programs kind size w)
unfolding AreOnes
made-runs kind size w h =
    let p = made_programs kind size w in
    record {
      version = programs-version size (parts kind size) (tapes kind size) w;
      narrow = leb-true (capacity_of p) 20 (and_parts (list_all is_one p.ranks) (nat_le (capacity_of p) 20) (are-ones kind size w h)).1;
      ranks = programs-ranks size (parts kind size) (tapes kind size) w;
      programs = programs-at size (parts kind size) (tapes kind size) w;
      tapes = λ r. tapes-at p.ranks r (made-tapes kind size w h);
    }
