-- Ranks that get their sizes one by one
use Rattle.std.proofs.Common.{◌≡◌, ◌∙◌, ℕ, zero, suc, ◌+◌, ◌-◌, ◌<◌, ◌≤◌, true, nat_le, List, [], ◌∷◌, ◌++◌, length, replicate, take, set, get_or, Some, None, refl, sym, ap, arith, append_assoc, length-append, length-take}
use Rattle.std.specs.Prelude.{All, sum_by, slice_get, slice_index, ◌&&◌}
use Rattle.std.specs.List.{list_all}
use Rattle.std.proofs.lemmas.Bool.{and_parts}
use Rattle.std.proofs.lemmas.Bool.Decides.{nat_tests}
use Rattle.std.proofs.lemmas.List.{append-nil, get_or_at, set_at, length-replicate, length-map, get_or-replicate, take_more}
use Rattle.std.proofs.lemmas.List.Sums.{sum_by-cons}
use Rattle.std.proofs.lemmas.List.Elements.{All-nil, All-cons, All-head, All-tail, All-replicate}
use Rattle.qm_instr.specs.Programs.{Programs, RankProgram, idle, idle_rank, rank_of, with_sizes}
use Rattle.qm_parse.specs.declared.tree.Node.{Node}
use Rattle.qm_parse.specs.declared.words.Version.{Version}
use Rattle.qm_parse.specs.declared.words.Version.TheVariants as version
use Rattle.qm_parse.specs.Words.{size_count, version_number}
use Rattle.qm_parse.specs.Nodes.{numbers_nodes}
use Rattle.qm_expand.specs.Expansion.{by_rank, sized_ranks, sized_programs}
use Rattle.qm_expand.specs.Walk.{numbers_in, size_at, are_sizes}

-- ---- the sizes of ranks
length-by_rank : (v : Version) (n : ℕ) (sizes : List ℕ) → length sizes ≡ size_count v n → length (by_rank v n sizes) ≡ n
length-by_rank version.One n sizes h = length-replicate n (slice_index sizes 0)
length-by_rank version.Two n sizes h = h

by_rank-at : (v : Version) (n r : ℕ) (sizes : List ℕ) → r < n → get_or (by_rank v n sizes) r 0 ≡ size_at v sizes r
by_rank-at version.One n r sizes h = get_or-replicate n r (slice_index sizes 0) 0 h
by_rank-at version.Two n r sizes h = refl

abbrev pub sized_rank : ℕ → ℕ → RankProgram
sized_rank qubits buffer = record idle_rank { qubits = qubits; buffer = buffer }

length-sized : (n : ℕ) (qs bs : List ℕ) → length qs ≡ n → length bs ≡ n → length (sized_ranks qs bs) ≡ n
length-sized n [] bs l k = l
length-sized n (q ∷ qs) [] l k = absurd (omega (arith, l, k))
length-sized zero (q ∷ qs) (b ∷ bs) l k = absurd (omega (arith, l))
length-sized (suc n) (q ∷ qs) (b ∷ bs) l k = ap (λ m. suc m) (length-sized n qs bs (omega (arith, l)) (omega (arith, k)))

sized-at : (qs bs : List ℕ) (r : ℕ) → length bs ≡ length qs → r < length qs → get_or (sized_ranks qs bs) r idle_rank ≡ sized_rank (get_or qs r 0) (get_or bs r 0)
sized-at [] bs r l h = absurd (omega (arith, h))
sized-at (q ∷ qs) [] r l h = absurd (omega (arith, l))
sized-at (q ∷ qs) (b ∷ bs) zero l h = refl
sized-at (q ∷ qs) (b ∷ bs) (suc r) l h = sized-at qs bs r (omega (arith, l)) (omega (arith, h))

pub length-sized_programs : (v : Version) (n : ℕ) (qubits buffers : List ℕ) → length qubits ≡ size_count v n → length buffers ≡ size_count v n
    → length (sized_programs v n qubits buffers).ranks ≡ n
length-sized_programs v n qubits buffers l k =
    length-sized n (by_rank v n qubits) (by_rank v n buffers) (length-by_rank v n qubits l) (length-by_rank v n buffers k)

-- what no rank has, they don't have together
pub sum_by-sized : (f : RankProgram → ℕ) → ((q b : ℕ) → f (sized_rank q b) ≡ 0) → (qs bs : List ℕ) → sum_by f (sized_ranks qs bs) ≡ 0
sum_by-sized f none [] bs = refl
sum_by-sized f none (q ∷ qs) [] = refl
sum_by-sized f none (q ∷ qs) (b ∷ bs) = sum_by-cons f (sized_rank q b) (sized_ranks qs bs) ∙ omega (arith, none q b, sum_by-sized f none qs bs)

-- what each rank with such sizes has, all have
pub All-sized : (P : RankProgram → Type 0) (A B : ℕ → Type 0) → ((q b : ℕ) → A q → B b → P (sized_rank q b)) → (qs bs : List ℕ) → All A qs → All B bs → All P (sized_ranks qs bs)
All-sized P A B each [] bs a b = All-nil P
All-sized P A B each (q ∷ qs) [] a b = All-nil P
All-sized P A B each (q ∷ qs) (c ∷ bs) a b =
    All-cons P (sized_rank q c) (sized_ranks qs bs) (each q c (All-head A q qs a) (All-head B c bs b)) (All-sized P A B each qs bs (All-tail A q qs a) (All-tail B c bs b))

-- ---- sizes in their ranges
pub All-by_rank : (v : Version) (n : ℕ) (A : ℕ → Type 0) (sizes : List ℕ) → 1 ≤ n → length sizes ≡ size_count v n → All A sizes → All A (by_rank v n sizes)
All-by_rank version.One n A sizes some h a = All-replicate A n (slice_index sizes 0) (a 0 0 (omega (arith, h)))
All-by_rank version.Two n A sizes some h a = a

-- the numbers of nodes
pub numbers-are : (at base : ℕ) (ns : List ℕ) → numbers_in (numbers_nodes at base ns) ≡ ns
numbers-are at base [] = refl
numbers-are at base (n ∷ ns) = ap (λ z. n ∷ z) (numbers-are (at + 1) (base + 1) ns)

pub sizes-are : (most at base : ℕ) (ns : List ℕ) → All (λ n. (1 ≤ n) × (n ≤ most)) ns → are_sizes most (numbers_nodes at base ns) ≡ true
sizes-are most at base [] h = refl
sizes-are most at base (n ∷ ns) h =
    let one = All-head (λ (n : ℕ). (1 ≤ n) × (n ≤ most)) n ns h in
    let low : nat_le 1 n ≡ true = let k = one.0 in grind (arith, nat_tests) in
    let high : nat_le n most ≡ true = let k = one.1 in grind (arith, nat_tests) in
    rw (low, high) (sizes-are most (at + 1) (base + 1) ns (All-tail (λ (n : ℕ). (1 ≤ n) × (n ≤ most)) n ns h))

pub length-numbers_in : (nodes : List Node) → length (numbers_in nodes) ≡ length nodes
length-numbers_in nodes = length-map nodes (λ n. n.value)

-- the number of a node
pub number-at : (nodes : List Node) (k : ℕ) (n : Node) → slice_get nodes k ≡ Some n → slice_index (numbers_in nodes) k ≡ n.value
number-at [] k n e = cc
number-at (m ∷ ms) zero n e = cc
number-at (m ∷ ms) (suc k) n e = number-at ms k n e

pub number-past : (nodes : List Node) (k : ℕ) → slice_get nodes k ≡ None → slice_index (numbers_in nodes) k ≡ 0
number-past [] zero e = refl
number-past [] (suc k) e = refl
number-past (m ∷ ms) zero e = cc
number-past (m ∷ ms) (suc k) e = number-past ms k e

index-fits : (most : ℕ) (nodes : List Node) (k : ℕ) → are_sizes most nodes ≡ true → k < length nodes → (1 ≤ slice_index (numbers_in nodes) k) × (slice_index (numbers_in nodes) k ≤ most)
index-fits most [] k e h = absurd (omega (arith, h))
index-fits most (m ∷ ms) zero e h =
    let both = and_parts (nat_le 1 m.value && nat_le m.value most) (list_all (λ (n : Node). nat_le 1 n.value && nat_le n.value most) ms) e in
    let two = and_parts (nat_le 1 m.value) (nat_le m.value most) both.0 in
    ((let a = two.0 in grind (arith, nat_tests)), (let a = two.1 in grind (arith, nat_tests)))
index-fits most (m ∷ ms) (suc k) e h =
    let both = and_parts (nat_le 1 m.value && nat_le m.value most) (list_all (λ (n : Node). nat_le 1 n.value && nat_le n.value most) ms) e in
    index-fits most ms k both.1 (omega (arith, h))

pub size-fits : (v : Version) (n r most : ℕ) (nodes : List Node) → length nodes ≡ size_count v n → are_sizes most nodes ≡ true → r < n
    → (1 ≤ size_at v (numbers_in nodes) r) × (size_at v (numbers_in nodes) r ≤ most)
size-fits version.One n r most nodes l e h = index-fits most nodes 0 e (omega (arith, l))
size-fits version.Two n r most nodes l e h = index-fits most nodes r e (omega (arith, l, h))

-- ---- ranks get them one by one
-- the ranks before r have their sizes, of n
abbrev pub sized_upto : Version → (n : ℕ) (qubits buffers : List ℕ) (r : ℕ) → Programs
sized_upto v n qubits buffers r = record {
  version = version_number v;
  ranks = take r (sized_programs v n qubits buffers).ranks ++ replicate (n - r) idle_rank;
}

module _ (v : Version) (n : ℕ) (qubits buffers : List ℕ) (l : length qubits ≡ size_count v n) (k : length buffers ≡ size_count v n) where
  abbrev all : List RankProgram
  all = (sized_programs v n qubits buffers).ranks

  abbrev with_ranks : List RankProgram → Programs
  with_ranks rs = record { version = version_number v; ranks = rs }

  count : length all ≡ n
  count = length-sized_programs v n qubits buffers l k

  pub sized_upto-start : idle (version_number v) n ≡ sized_upto v n qubits buffers 0
  sized_upto-start = let whole : n ≡ n - 0 = omega arith in ap (λ m. with_ranks (replicate m idle_rank)) whole

  pub sized_upto-all : sized_upto v n qubits buffers n ≡ sized_programs v n qubits buffers
  sized_upto-all =
      let none : n - n ≡ 0 = omega arith in
      ap (λ m. with_ranks (take n all ++ replicate m idle_rank)) none
      ∙ ap with_ranks (append-nil (take n all))
      ∙ ap with_ranks (whole-take all n (omega (arith, count)))
    where
      whole-take : (xs : List RankProgram) (m : ℕ) → length xs ≤ m → take m xs ≡ xs
      whole-take [] zero h = refl
      whole-take [] (suc m) h = refl
      whole-take (x ∷ xs) zero h = absurd (omega arith)
      whole-take (x ∷ xs) (suc m) h = ap (λ z. x ∷ z) (whole-take xs m (omega arith))

  module _ (r : ℕ) (low : r < n) where
    abbrev behind : List RankProgram
    behind = replicate (n - (r + 1)) idle_rank

    split : sized_upto v n qubits buffers r ≡ with_ranks (take r all ++ idle_rank ∷ behind)
    split = let left : n - r ≡ suc (n - (r + 1)) = omega arith in ap (λ m. with_ranks (take r all ++ replicate m idle_rank)) left

    before : length (take r all) ≡ r
    before = let t = length-take r all in let c = count in omega (arith, t, c)

    pub sized_upto-within : r < length (sized_upto v n qubits buffers r).ranks
    sized_upto-within =
        let a = length-append (take r all) (replicate (n - r) idle_rank) in
        let b = length-replicate (n - r) idle_rank in
        let c = before in
        omega (arith, a, b, c)

    pub sized_upto-idle : rank_of (sized_upto v n qubits buffers r) r ≡ idle_rank
    sized_upto-idle = ap (λ (p : Programs). rank_of p r) split ∙ get_or_at (take r all) idle_rank behind idle_rank r before

    sizes : sized_rank (size_at v qubits r) (size_at v buffers r) ≡ get_or all r idle_rank
    sizes =
        let qs = length-by_rank v n qubits l in
        let bs = length-by_rank v n buffers k in
        sym
        (sized-at (by_rank v n qubits) (by_rank v n buffers) r (bs ∙ sym qs) (omega (arith, qs, low))
        ∙ ap (λ q. sized_rank q (get_or (by_rank v n buffers) r 0)) (by_rank-at v n r qubits low)
        ∙ ap (λ b. sized_rank (size_at v qubits r) b) (by_rank-at v n r buffers low))

    pub sized_upto-more : with_sizes (sized_upto v n qubits buffers r) r (size_at v qubits r) (size_at v buffers r) ≡ sized_upto v n qubits buffers (r + 1)
    sized_upto-more =
        let x = sized_rank (size_at v qubits r) (size_at v buffers r) in
        ap (λ (y : RankProgram). with_ranks (set (sized_upto v n qubits buffers r).ranks r (record y { qubits = size_at v qubits r; buffer = size_at v buffers r }))) sized_upto-idle
        ∙ ap (λ (p : Programs). with_ranks (set p.ranks r x)) split
        ∙ ap with_ranks (set_at (take r all) idle_rank behind x r before)
        ∙ ap (λ y. with_ranks (take r all ++ y ∷ behind)) sizes
        ∙ ap with_ranks (sym (append_assoc (take r all) (get_or all r idle_rank ∷ []) behind))
        ∙ ap (λ xs. with_ranks (xs ++ behind)) (sym (take_more all r idle_rank (omega (arith, count, low))))
