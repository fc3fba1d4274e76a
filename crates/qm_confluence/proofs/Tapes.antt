-- Programs with other own tapes of the same lengths are as ready as before
use Rattle.std.proofs.Common.{◌≡◌, ◌∙◌, ℕ, zero, suc, ◌+◌, Bool, true, false, List, [], ◌∷◌, length, All, fold, sum_by, slice_index_or, take, slice_get, refl, ap, ap₂, arith}
use Rattle.qm_instr.specs.Counts.{own_of, protocol_of}
use Rattle.qm_instr.specs.Programs.{Programs, RankProgram, rank_of, idle_rank, IsRankInRange, IsInRange}
use Rattle.qm_check.specs.Checks.{Site, AllRanks, AtInstr, OnLane, OnTape, IsReady, fault_at, width_fault}
use Rattle.qm_check.specs.Messages.{match_fault, posts_in, receives_in}
use Rattle.qm_check.specs.Slots.{fault_if_any, full_after}
use Rattle.qm_check.specs.Tapes.{length_fault}
use Rattle.qm_confluence.specs.Tapes.{with_tapes_from, with_tapes, AreLong}

-- two ranks that differ in their own tapes alone, which are as long
pub record IsAlike (x y : RankProgram) : Type 0 where
  pub instructions : x.instructions ≡ y.instructions
  pub own : length x.own ≡ length y.own
  pub protocol : x.protocol ≡ y.protocol

module _ (own : ℕ → List Bool) where
  abbrev Longs : ℕ → List RankProgram → Type 0
  Longs n xs = (j : ℕ) → length (own (n + j)) ≡ length (slice_index_or xs j idle_rank).own

  longs_later : (n : ℕ) (x : RankProgram) (xs : List RankProgram) → Longs n (x ∷ xs) → Longs (n + 1) xs
  longs_later n x xs long j = ap (λ k. length (own k)) (let e : n + 1 + j ≡ n + suc j = omega arith in e) ∙ long (suc j)

  long_here : (n : ℕ) (x : RankProgram) (xs : List RankProgram) → Longs n (x ∷ xs) → length (own n) ≡ length x.own
  long_here n x xs long = ap (λ k. length (own k)) (let e : n ≡ n + 0 = omega arith in e) ∙ long 0

  alike : (n : ℕ) (xs : List RankProgram) (k : ℕ) → Longs n xs → IsAlike (slice_index_or (with_tapes_from n own xs) k idle_rank) (slice_index_or xs k idle_rank)
  alike n [] k long = record { instructions = refl; own = refl; protocol = refl }
  alike n (x ∷ xs) zero long = record { instructions = refl; own = long_here n x xs long; protocol = refl }
  alike n (x ∷ xs) (suc k) long = alike (n + 1) xs k (longs_later n x xs long)

  pub as_many : (n : ℕ) (xs : List RankProgram) → length (with_tapes_from n own xs) ≡ length xs
  as_many n [] = refl
  as_many n (x ∷ xs) = ap suc (as_many (n + 1) xs)

  same_fold : (f : RankProgram → ℕ) → ((x : RankProgram) (m : List Bool) → f (record x { own = m }) ≡ f x) → (n : ℕ) (xs : List RankProgram) (sum : ℕ)
      → fold (λ a x. a + f x) sum (with_tapes_from n own xs) ≡ fold (λ a x. a + f x) sum xs
  same_fold f free n [] sum = refl
  same_fold f free n (x ∷ xs) sum =
      same_fold f free (n + 1) xs (sum + f (record x { own = own n })) ∙ ap (λ k. fold (λ a x. a + f x) (sum + k) xs) (free x (own n))

  same_sum : (f : RankProgram → ℕ) → ((x : RankProgram) (m : List Bool) → f (record x { own = m }) ≡ f x) → (n : ℕ) (xs : List RankProgram)
      → sum_by f (with_tapes_from n own xs) ≡ sum_by f xs
  same_sum f free n xs = same_fold f free n xs 0

  in_range_here : (n : ℕ) (x : RankProgram) → length (own n) ≡ length x.own → IsRankInRange x → IsRankInRange (record x { own = own n })
  in_range_here n x e h = record {
    some_qubits = h.some_qubits;
    most_qubits = h.most_qubits;
    some_buffer = h.some_buffer;
    most_buffer = h.most_buffer;
    operands = h.operands;
    own = (let low = h.own in omega (arith, e, low));
    protocol = h.protocol;
  }

  all_in_range : (n : ℕ) (xs : List RankProgram) → Longs n xs → All IsRankInRange xs → All IsRankInRange (with_tapes_from n own xs)
  all_in_range n [] long h k d below = absurd (omega arith)
  all_in_range n (x ∷ xs) long h zero d below = in_range_here n x (long_here n x xs long) (h 0 d (omega arith))
  all_in_range n (x ∷ xs) long h (suc k) d below = all_in_range (n + 1) xs (longs_later n x xs long) (λ j e low. h (suc j) e (omega arith)) k d (omega arith)

  module _ (p : Programs) (long : AreLong p own) where
    abbrev q : Programs
    q = with_tapes p own

    longs : Longs 0 p.ranks
    longs j = ap (λ k. length (own k)) (let e : 0 + j ≡ j = omega arith in e) ∙ long j

    pub rank_alike : (r : ℕ) → IsAlike (rank_of q r) (rank_of p r)
    rank_alike r = alike 0 p.ranks r longs

    pub instructions_same : (r : ℕ) → (rank_of q r).instructions ≡ (rank_of p r).instructions
    instructions_same r = (rank_alike r).instructions

    same_fault : (a : Site) → fault_at q a ≡ fault_at p a
    same_fault AllRanks = ap (width_fault p.version) (same_sum (λ r. r.qubits + r.buffer) (λ x m. refl) 0 p.ranks)
    same_fault (AtInstr r k) =
        ap (λ n. fault_if_any n r k (full_after (take k (rank_of q r).instructions)) (slice_get (rank_of q r).instructions k)) (as_many 0 p.ranks)
        ∙ ap (λ is. fault_if_any (length p.ranks) r k (full_after (take k is)) (slice_get is k)) (instructions_same r)
    same_fault (OnLane a) =
        ap₂ (match_fault a) (ap (posts_in a.from a) (instructions_same a.from)) (ap (receives_in a.to a) (instructions_same a.to))
    same_fault (OnTape r true) = ap₂ (length_fault r true) (ap (sum_by own_of) (instructions_same r)) (rank_alike r).own
    same_fault (OnTape r false) = ap₂ (length_fault r false) (ap (sum_by protocol_of) (instructions_same r)) (ap length (rank_alike r).protocol)

    pub ready_still : IsReady p → IsReady q
    ready_still ready a = same_fault a ∙ ready a

    pub in_range_still : IsInRange p → IsInRange q
    in_range_still h = record {
      least_version = h.least_version;
      last_version = h.last_version;
      some_ranks = (let e = as_many 0 p.ranks in let low = h.some_ranks in omega (arith, e, low));
      most_ranks = (let e = as_many 0 p.ranks in let high = h.most_ranks in omega (arith, e, high));
      each = all_in_range 0 p.ranks longs h.each;
      few = (let e = same_sum (λ r. length r.instructions) (λ x m. refl) 0 p.ranks in let low = h.few in omega (arith, e, low));
    }
