-- The books say what the definitions say of the events before
use Rattle.std.proofs.Common.{◌≡◌, ◌≢◌, ℕ, zero, suc, ◌+◌, ◌<◌, ◌≤◌, nat_eq, nat_lt, Bool, true, false, ◌&&◌, cond, List, [], ◌∷◌, ◌++◌, length, drop, slice_set, slice_index_or, replicate, Option, Some, None, ◌⊎◌, inl, inr, refl, sym, ap, subst, ◌∙◌, arith}
use Rattle.std.proofs.lemmas.Bool.Decides.{leb_tells, eqb_tells}
use Rattle.qm_instr.specs.declared.Lane.{Lane}
use Rattle.qm_instr.specs.Lanes.{is_lane, is_on}
use Rattle.qm_instr.proofs.LaneOrder.{same_lane, lane_turned}
use Rattle.qm_proto.specs.Model.State.{with_lane}
use Rattle.qm_walk.specs.declared.Note.{Note}
use Rattle.qm_cost.specs.declared.Links.{Links}
use Rattle.qm_cost.specs.Books.{BooksView, last_set, last_in, front_of, front_in, links_by, lanes_taken, lanes_put, lanes_given, books_after}
use Rattle.qm_cost.specs.Longest.{links_of}
use Rattle.qm_cost.specs.Turns.{Turn, turn_at, event_of, partner_of, one_if, lane_put, lane_given, lane_taken, last_of, last_of_some, put_before, taken_before, giver_of, giver_before}

abbrev pub Givers : Type 0
Givers = List (Option ℕ)

-- a lane from which so many parcels were taken, and on which so many were put, shows the givers of those that stand there
pub record Holds (q : Givers) (taken put : ℕ) (giver : ℕ → Option ℕ) : Type 0 where
  pub count : length q + taken ≡ put
  pub each : (k : ℕ) → k < length q → slice_index_or q k None ≡ giver (taken + k)

-- ---- one lane
not_less : (a b : ℕ) → b ≤ a → nat_lt a b ≡ false
not_less a b h = elim (leb_tells (suc a) b) [ inl g ↦ let f : suc a ≤ b = g.1 in absurd (omega arith) | inr g ↦ g.0 ]

is_less : (a b : ℕ) → a < b → nat_lt a b ≡ true
is_less a b h = elim (leb_tells (suc a) b) [ inl g ↦ g.0 | inr g ↦ let f : b < suc a = g.1 in absurd (omega arith) ]

not_equal : (a b : ℕ) → a ≢ b → nat_eq a b ≡ false
not_equal a b h = elim (eqb_tells a b) [ inl g ↦ absurd (h g.1) | inr g ↦ g.0 ]

is_equal : (a b : ℕ) → a ≡ b → nat_eq a b ≡ true
is_equal a b h = elim (eqb_tells a b) [ inl g ↦ g.0 | inr g ↦ absurd (g.1 h) ]

same_count : (q : Givers) (t u put : ℕ) (g : ℕ → Option ℕ) → u ≡ t → Holds q t put g → Holds q u put g
same_count q t u put g e h = subst (λ n. Holds q n put g) (sym e) h

holds_taken : (p : Bool) (q : Givers) (t put : ℕ) (g : ℕ → Option ℕ) → Holds q t put g
    → Holds (cond p (drop 1 q) q) (t + one_if (p && nat_lt t put)) put g
holds_taken false q t put g h = same_count q t (t + 0) put g (omega arith) h
holds_taken true [] t put g h =
    let c : 0 + t ≡ put = h.count in
    let e : nat_lt t put ≡ false = not_less t put (omega arith) in
    same_count [] t (t + one_if (nat_lt t put)) put g (ap (λ b. t + one_if b) e ∙ (omega arith)) h
holds_taken true (x ∷ xs) t put g h =
    let c : suc (length xs) + t ≡ put = h.count in
    let e : nat_lt t put ≡ true = is_less t put (omega arith) in
    let here : Holds xs (t + 1) put g =
    record {
      count = omega arith;
      each = λ k lt. let s : t + suc k ≡ t + 1 + k = omega arith in h.each (suc k) (omega arith) ∙ ap g s;
    } in
    same_count xs (t + 1) (t + one_if (nat_lt t put)) put g (ap (λ b. t + one_if b) e) here

nth_before : (xs : Givers) (x : Option ℕ) (k : ℕ) → k < length xs → slice_index_or (xs ++ x ∷ []) k None ≡ slice_index_or xs k None
nth_before [] x k h = absurd (omega arith)
nth_before (y ∷ xs) x zero h = refl
nth_before (y ∷ xs) x (suc k) h = nth_before xs x k (omega arith)

nth_there : (xs : Givers) (x : Option ℕ) → slice_index_or (xs ++ x ∷ []) (length xs) None ≡ x
nth_there [] x = refl
nth_there (y ∷ xs) x = nth_there xs x

length-push : (xs : Givers) (x : Option ℕ) → length (xs ++ x ∷ []) ≡ length xs + 1
length-push [] x = refl
length-push (y ∷ xs) x = let e : length (xs ++ x ∷ []) ≡ length xs + 1 = length-push xs x in omega arith

holds_put : (p : Bool) (q : Givers) (t put : ℕ) (g : ℕ → Option ℕ) → g put ≡ None → Holds q t put g
    → Holds (cond p (q ++ None ∷ []) q) t (put + one_if p) g
holds_put false q t put g none h = let e : put ≡ put + 0 = omega arith in subst (λ n. Holds q t n g) e h
holds_put true q t put g none h =
    let c : length q + t ≡ put = h.count in
    let long : length (q ++ None ∷ []) ≡ length q + 1 = length-push q None in
    record {
      count = omega arith;
      each = λ k lt. elim (leb_tells (length q) k) [
        | inl le ↦
            let s : k ≡ length q = let f : length q ≤ k = le.1 in omega arith in
            let n : put ≡ t + k = omega arith in
            ap (λ j. slice_index_or (q ++ None ∷ []) j None) s ∙ nth_there q None ∙ sym none ∙ ap g n
        | inr less ↦ nth_before q None k less.1 ∙ h.each k less.1
      ];
    }

length-last_set : (q : Givers) (v : Option ℕ) → length (last_set q v) ≡ length q
length-last_set [] v = refl
length-last_set (x ∷ []) v = refl
length-last_set (x ∷ y ∷ xs) v = ap suc (length-last_set (y ∷ xs) v)

last_there : (q : Givers) (v : Option ℕ) (k : ℕ) → k + 1 ≡ length q → slice_index_or (last_set q v) k None ≡ v
last_there [] v k e = absurd (omega arith)
last_there (x ∷ []) v zero e = refl
last_there (x ∷ []) v (suc k) e = absurd (omega arith)
last_there (x ∷ y ∷ xs) v zero e = absurd (omega arith)
last_there (x ∷ y ∷ xs) v (suc k) e = last_there (y ∷ xs) v k (omega arith)

others_there : (q : Givers) (v : Option ℕ) (k : ℕ) → k + 1 ≢ length q → slice_index_or (last_set q v) k None ≡ slice_index_or q k None
others_there [] v k ne = refl
others_there (x ∷ []) v zero ne = absurd (ne refl)
others_there (x ∷ []) v (suc k) ne = refl
others_there (x ∷ y ∷ xs) v zero ne = refl
others_there (x ∷ y ∷ xs) v (suc k) ne = others_there (y ∷ xs) v k (λ e. ne (omega (arith, e)))

holds_given : (p : Bool) (q : Givers) (t put : ℕ) (g : ℕ → Option ℕ) (v : Option ℕ) → Holds q t put g
    → Holds (cond p (last_set q v) q) t put (λ n. cond (p && nat_eq put (n + 1)) v (g n))
holds_given false q t put g v h = record { count = h.count; each = h.each }
holds_given true q t put g v h =
    let c : length q + t ≡ put = h.count in
    let long : length (last_set q v) ≡ length q = length-last_set q v in
    record {
      count = omega arith;
      each = λ k lt. elim (eqb_tells (k + 1) (length q)) [
        | inl e ↦
            let s : k + 1 ≡ length q = e.1 in
            let f : nat_eq put (t + k + 1) ≡ true = is_equal put (t + k + 1) (omega arith) in
            last_there q v k s ∙ sym (ap (λ b. cond b v (g (t + k))) f)
        | inr e ↦
            let f : nat_eq put (t + k + 1) ≡ false = not_equal put (t + k + 1) (λ s. e.1 (omega (arith, s))) in
            others_there q v k e.1 ∙ h.each k (omega arith) ∙ sym (ap (λ b. cond b v (g (t + k))) f)
      ];
    }

-- ---- where a lane changes
at_lane : (f : Lane → Givers) (x a : Lane) (g : Givers → Givers) → with_lane f x (g (f x)) a ≡ cond (is_lane x a) (g (f a)) (f a)
at_lane f x a g =
    elim (is_lane a x) as (λ t. is_lane a x ≡ t → cond t (g (f x)) (f a) ≡ cond (is_lane x a) (g (f a)) (f a)) [
      | true ↦ λ e. ap (λ z. g (f z)) (sym (same_lane a x e)) ∙ sym (ap (λ t. cond t (g (f a)) (f a)) (lane_turned x a ∙ e))
      | false ↦ λ e. sym (ap (λ t. cond t (g (f a)) (f a)) (lane_turned x a ∙ e))
    ] refl

at_taken : (f : Lane → Givers) (o : Option Lane) (a : Lane) → lanes_taken f o a ≡ cond (is_on o a) (drop 1 (f a)) (f a)
at_taken f None a = refl
at_taken f (Some x) a = at_lane f x a (drop 1)

at_put : (f : Lane → Givers) (o : Option Lane) (a : Lane) → lanes_put f o a ≡ cond (is_on o a) (f a ++ None ∷ []) (f a)
at_put f None a = refl
at_put f (Some x) a = at_lane f x a (λ q. q ++ None ∷ [])

at_given : (f : Lane → Givers) (o : Option Lane) (j : ℕ) (a : Lane) → lanes_given f o j a ≡ cond (is_on o a) (last_set (f a) (Some j)) (f a)
at_given f None j a = refl
at_given f (Some x) j a = at_lane f x a (λ q. last_set q (Some j))

-- ---- the events before
and_false : (p q : Bool) → q ≡ false → (p && q) ≡ false
and_false true q e = e
and_false false q e = refl

-- a parcel that wasn't put yet has no giver
none_later : (ts : List Turn) (a : Lane) (n j : ℕ) → put_before ts a j ≤ n → giver_of ts a n j ≡ None
none_later ts a n zero h = refl
none_later ts a n (suc j) h =
    let put : ℕ = put_before ts a (suc j) in
    let before : put_before ts a j ≤ n = omega arith in
    let e : nat_eq put (n + 1) ≡ false = not_equal put (n + 1) (λ s. absurd (omega (arith, s, h))) in
    ap (λ b. cond b (Some j) (giver_of ts a n j)) (and_false (is_on (lane_given (turn_at ts j).note) a) (nat_eq put (n + 1)) e) ∙ none_later ts a n j before

-- lane a before event j
abbrev pub HoldsAt : List Turn → ℕ → Lane → Givers → Type 0
HoldsAt ts j a q = Holds q (taken_before ts a j) (put_before ts a j) (λ n. giver_of ts a n j)

-- what the books say before event n
pub record Keeps (ts : List Turn) (n : ℕ) (b : BooksView) : Type 0 where
  pub last : (r : ℕ) → slice_index_or b.last r None ≡ last_of ts r n
  pub lanes : (a : Lane) → HoldsAt ts n a (b.lanes a)

abbrev no_giver : Option ℕ
no_giver = None

none_there : (n r : ℕ) → slice_index_or (replicate n no_giver) r None ≡ None
none_there zero r = refl
none_there (suc n) zero = refl
none_there (suc n) (suc r) = none_there n r

pub length_none : (n : ℕ) → length (replicate n no_giver) ≡ n
length_none zero = refl
length_none (suc n) = ap suc (length_none n)

pub keeps_at_start : (ts : List Turn) (n : ℕ) → Keeps ts 0 (record { last = replicate n None; lanes = λ a. [] })
keeps_at_start ts n = record { last = λ r. none_there n r; lanes = λ a. record { count = refl; each = λ k h. absurd (omega arith) } }

set_here : (xs : Givers) (k : ℕ) (x : Option ℕ) → k < length xs → slice_index_or (slice_set xs k x) k None ≡ x
set_here [] k x h = absurd (omega arith)
set_here (y ∷ xs) zero x h = refl
set_here (y ∷ xs) (suc k) x h = set_here xs k x (omega arith)

set_elsewhere : (xs : Givers) (k j : ℕ) (x : Option ℕ) → j ≢ k → slice_index_or (slice_set xs k x) j None ≡ slice_index_or xs j None
set_elsewhere [] k j x ne = refl
set_elsewhere (y ∷ xs) zero zero x ne = absurd (ne refl)
set_elsewhere (y ∷ xs) zero (suc j) x ne = refl
set_elsewhere (y ∷ xs) (suc k) zero x ne = refl
set_elsewhere (y ∷ xs) (suc k) (suc j) x ne = set_elsewhere xs k j x (λ e. ne (ap suc e))

pub set_length : (xs : Givers) (k : ℕ) (x : Option ℕ) → length (slice_set xs k x) ≡ length xs
set_length [] k x = refl
set_length (y ∷ xs) zero x = refl
set_length (y ∷ xs) (suc k) x = ap suc (set_length xs k x)

module _ (ts : List Turn) (j : ℕ) (b : BooksView) (n : Note) (here : turn_at ts j ≡ record { rank = n.rank; note = Some n }) (so : Keeps ts j b) where
  last_after : n.rank < length b.last → (r : ℕ) → slice_index_or (slice_set b.last n.rank (Some j)) r None ≡ last_of ts r (suc j)
  last_after lt r =
      sym (ap (λ (t : Turn). cond (nat_eq t.rank r) (Some j) (last_of ts r j)) here ∙ by (eqb_tells n.rank r))
    where
      by : ((nat_eq n.rank r ≡ true) × (n.rank ≡ r)) ⊎ ((nat_eq n.rank r ≡ false) × (n.rank ≢ r))
          → cond (nat_eq n.rank r) (Some j) (last_of ts r j) ≡ slice_index_or (slice_set b.last n.rank (Some j)) r None
      by (inl e) =
          ap (λ t. cond t (Some j) (last_of ts r j)) e.0
          ∙ sym (ap (λ k. slice_index_or (slice_set b.last n.rank (Some j)) k None) (sym e.1) ∙ set_here b.last n.rank (Some j) lt)
      by (inr e) =
          ap (λ t. cond t (Some j) (last_of ts r j)) e.0 ∙ sym (so.last r) ∙ sym (set_elsewhere b.last n.rank r (Some j) (λ s. e.1 (sym s)))

  module _ (a : Lane) where
    first : Givers
    first = cond (is_on n.taken a) (drop 1 (b.lanes a)) (b.lanes a)

    second : Givers
    second = cond (is_on n.put a) (first ++ None ∷ []) first

    third : Givers
    third = cond (is_on n.given a) (last_set second (Some j)) second

    shown : lanes_given (lanes_put (lanes_taken b.lanes n.taken) n.put) n.given j a ≡ third
    unfolding third second first
    shown =
        let f : Lane → Givers = lanes_taken b.lanes n.taken in
        let g : Lane → Givers = lanes_put f n.put in
        at_given g n.given j a
        ∙ ap (λ q. cond (is_on n.given a) (last_set q (Some j)) q) (at_put f n.put a ∙ ap (λ q. cond (is_on n.put a) (q ++ None ∷ []) q) (at_taken b.lanes n.taken a))

    taken_then : ℕ
    taken_then = taken_before ts a j + one_if (is_on n.taken a && nat_lt (taken_before ts a j) (put_before ts a j))

    put_then : ℕ
    put_then = put_before ts a j + one_if (is_on n.put a)

    third_holds : Holds third taken_then put_then (λ k. cond (is_on n.given a && nat_eq put_then (k + 1)) (Some j) (giver_of ts a k j))
    unfolding third second first taken_then put_then
    third_holds =
        let t : ℕ = taken_before ts a j in
        let q : ℕ = put_before ts a j in
        let g : ℕ → Option ℕ = λ k. giver_of ts a k j in
        let t2 : ℕ = t + one_if (is_on n.taken a && nat_lt t q) in
        let one : Holds first t2 q g = holds_taken (is_on n.taken a) (b.lanes a) t q g (so.lanes a) in
        let two : Holds second t2 (q + one_if (is_on n.put a)) g = holds_put (is_on n.put a) first t2 q g (none_later ts a q j (omega arith)) one in
        holds_given (is_on n.given a) second t2 (q + one_if (is_on n.put a)) g (Some j) two

    lane_after : HoldsAt ts (suc j) a (lanes_given (lanes_put (lanes_taken b.lanes n.taken) n.put) n.given j a)
    unfolding taken_then put_then
    lane_after =
        let At : Turn → Type 0 = λ t.
        let taken = taken_before ts a j + one_if (is_on (lane_taken t.note) a && nat_lt (taken_before ts a j) (put_before ts a j)) in
        let put = put_before ts a j + one_if (is_on (lane_put t.note) a) in
        Holds third taken put (λ k. cond (is_on (lane_given t.note) a && nat_eq put (k + 1)) (Some j) (giver_of ts a k j)) in
        subst (λ q. HoldsAt ts (suc j) a q) (sym shown) (subst At (sym here) third_holds)

  -- the books after event j
  pub keeps_after : n.rank < length b.last → Keeps ts (suc j) (books_after b j n)
  keeps_after lt = record { last = λ r. last_after lt r; lanes = λ a. lane_after a }

  front_there : (q : Givers) (a : Lane) → HoldsAt ts j a q → front_of q ≡ giver_of ts a (taken_before ts a j) j
  front_there [] a h = let c : 0 + taken_before ts a j ≡ put_before ts a j = h.count in sym (none_later ts a (taken_before ts a j) j (omega arith))
  front_there (x ∷ xs) a h =
      let e : taken_before ts a j + 0 ≡ taken_before ts a j = omega arith in
      h.each 0 (omega arith) ∙ ap (λ k. giver_of ts a k j) e

  post_there : (o : Option Lane) → front_in b.lanes o ≡ giver_before ts o j
  post_there None = refl
  post_there (Some a) = front_there (b.lanes a) a (so.lanes a)

  partner_there : (o : Option ℕ) → last_in b.last o ≡ last_of_some ts o j
  partner_there None = refl
  partner_there (Some r) = so.last r

  -- the direct predecessors of event j
  pub links_there : links_by b n ≡ links_of ts j
  links_there =
      let of : Turn → Links = λ t. record {
        event = event_of t.note;
        own = last_of ts t.rank j;
        partner = last_of_some ts (partner_of t.note) j;
        post = giver_before ts (lane_taken t.note) j;
      } in
      ap (λ (o : Option ℕ). record { event = n.event; own = o; partner = last_in b.last n.partner; post = front_in b.lanes n.taken }) (so.last n.rank)
      ∙ ap (λ (o : Option ℕ). record { event = n.event; own = last_of ts n.rank j; partner = o; post = front_in b.lanes n.taken }) (partner_there n.partner)
      ∙ ap (λ (o : Option ℕ). record { event = n.event; own = last_of ts n.rank j; partner = last_of_some ts n.partner j; post = o }) (post_there n.taken)
      ∙ ap of (sym here)
