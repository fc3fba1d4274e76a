-- After each event the count of each rank's halves is the size of its two sets
use Rattle.std.proofs.Common.{◌≡◌, ℕ, ◌+◌, ◌-◌, Bool, true, false, List, [], ◌∷◌, slice_get, Some, inl, inr, ap, sym, subst, ◌∙◌, arith}
use Rattle.std.proofs.lemmas.Bool.{cases_eq, false_from_ne_true}
use Rattle.qm_denot.specs.declared.Wire.{Wire}
use Rattle.qm_denot.specs.Wires.{Wires, no_wires, has, put, how_many}
use Rattle.qm_denot.proofs.Sets.{how_many-more, how_many-less, has-put_same}
use Rattle.qm_instr.specs.declared.Instr.{Instr}
use Rattle.qm_instr.specs.Counts.{events_of}
use Rattle.qm_instr.specs.Programs.{Programs}
use Rattle.qm_proto.specs.declared.Act.{Act}
use Rattle.qm_proto.specs.declared.Act.TheVariants.{Twin, NearOut, FarOut, Settle}
use Rattle.qm_proto.specs.declared.Row.{Row}
use Rattle.qm_proto.specs.Model.Acts.{list_of, more_at, less_at, after_act, after_acts}
use Rattle.qm_proto.specs.Model.Places.{NearOf, FarOf}
use Rattle.qm_proto.specs.Model.Rows.{rows}
use Rattle.qm_proto.specs.Model.State.{Tables, with_at, far_made, near_made, near_last}
use Rattle.qm_proto.specs.Model.Tidy.{IsTidy, KeepsTidy}
use Rattle.qm_proto.proofs.Changes.{with_at-here, with_at-elsewhere}
use Rattle.qm_proto.proofs.TidyActs.{AllKeepTidy, tidy_done, far_made_absent, near_made_absent}
use Rattle.qm_safety.specs.Tables.Well.{middle_of, has_near, one_if, IsRankWell, AreCounted}
use Rattle.qm_safety.proofs.Tables.NextEvents.{IsNext, event_done}
use Rattle.qm_safety.proofs.Tables.RankShapes.{MayNear, AllMayNear, IsNear, nears, near_done, line_comes}
use Rattle.qm_safety.proofs.Tables.RankSteps.{standing}

-- the counts are the sizes of the sets together
abbrev AreSums : (ℕ → ℕ) → (ℕ → Wires) → (ℕ → Wires) → Type 0
AreSums held xs ys = (k : ℕ) → held k ≡ how_many (xs k) + how_many (ys k)

module _ (held : ℕ → ℕ) (xs ys : ℕ → Wires) (sums : AreSums held xs ys) (r : ℕ) (x : Wires) where
  -- one set has a wire more, or less
  sum_more : how_many x ≡ how_many (xs r) + 1 → AreSums (more_at held r) (with_at xs r x) ys
  sum_more size k = elim (cases_eq k r) [
    | inl same ↦
        let here : more_at held r r ≡ how_many (with_at xs r x r) + how_many (ys r) = rw (with_at-here held r (held r + 1), with_at-here xs r x) (omega (arith, size, sums r)) in
        subst (λ j. more_at held r j ≡ how_many (with_at xs r x j) + how_many (ys j)) (sym same) here
    | inr other ↦ rw (with_at-elsewhere held r (held r + 1) k other, with_at-elsewhere xs r x k other) (sums k)
  ]

  sum_less : how_many (xs r) ≡ how_many x + 1 → AreSums (less_at held r) (with_at xs r x) ys
  sum_less size k = elim (cases_eq k r) [
    | inl same ↦
        let here : less_at held r r ≡ how_many (with_at xs r x r) + how_many (ys r) = rw (with_at-here held r (held r - 1), with_at-here xs r x) (omega (arith, size, sums r)) in
        subst (λ j. less_at held r j ≡ how_many (with_at xs r x j) + how_many (ys j)) (sym same) here
    | inr other ↦ rw (with_at-elsewhere held r (held r - 1) k other, with_at-elsewhere xs r x k other) (sums k)
  ]

-- the sets may change places
exchanged : (held : ℕ → ℕ) (xs ys : ℕ → Wires) → AreSums held xs ys → AreSums held ys xs
exchanged held xs ys sums k = omega (arith, sums k)

module _ (r : ℕ) where
  far_gone : (t : Tables) (f : Wire) → has (t.far r) f ≡ true → ((k : ℕ) → AreCounted t k) → AreSums (less_at t.held r) t.near (with_at t.far r (put (t.far r) f false))
  far_gone t f here counted =
      exchanged (less_at t.held r) (with_at t.far r (put (t.far r) f false)) t.near
      (sum_less t.held t.far t.near (exchanged t.held t.near t.far counted) r (put (t.far r) f false) (how_many-less (t.far r) f here))

  counted_done : (act : Act) (t : Tables) (b : Bool) → IsTidy t → KeepsTidy r act t → MayNear act b → IsNear r b (t.parts r) (t.near r)
      → ((k : ℕ) → AreCounted t k) → (k : ℕ) → AreCounted (after_act r act t) k
  counted_done (Twin to) t b tidy keeps may near counted =
      let e = near_made t r in
      let f = far_made t r in
      let x = put (t.near r) e true in
      let y = put (t.far to) f true in
      let new : has (t.near r) e ≡ false = false_from_ne_true (has (t.near r) e) (λ h. near_made_absent t tidy r (NearOf r, h)) in
      let free : has (t.far to) f ≡ false = false_from_ne_true (has (t.far to) f) (λ h. far_made_absent t tidy r (FarOf to, h)) in
      let first = sum_more t.held t.near t.far counted r x (how_many-more (t.near r) e new) in
      exchanged (more_at (more_at t.held r) to) (with_at t.far to y) (with_at t.near r x)
      (sum_more (more_at t.held r) t.far (with_at t.near r x) (exchanged (more_at t.held r) (with_at t.near r x) t.far first) to y (how_many-more (t.far to) f free))
  counted_done (NearOut m) t b tidy keeps may near counted =
      let w = near_last t r in
      let here : has (t.near r) w ≡ true = ap (λ ws. has ws w) near ∙ ap (λ c. has (one_if c w) w) may ∙ has-put_same no_wires w true in
      sum_less t.held t.near t.far counted r (put (t.near r) w false) (how_many-less (t.near r) w here)
  counted_done (FarOut f m) t b tidy keeps may near counted = far_gone t f keeps.half counted
  counted_done (Settle f q) t b tidy keeps may near counted = far_gone t f keeps.0.half counted
  counted_done _ t b tidy keeps may near counted = counted

  counted_all : (acts : List Act) (t : Tables) (b : Bool) → IsTidy t → AllKeepTidy r acts t → AllMayNear acts b → IsNear r b (t.parts r) (t.near r)
      → ((k : ℕ) → AreCounted t k) → (k : ℕ) → AreCounted (after_acts r acts t) k
  counted_all [] t b tidy keeps may near counted = counted
  counted_all (a ∷ acts) t b tidy keeps may near counted =
      counted_all acts (after_act r a t) (nears a b) (tidy_done r a t tidy keeps.0) keeps.1 may.1 (near_done r a t b may.0 near)
      (counted_done a t b tidy keeps.0 may.0 near counted)

-- every event of every instruction
pub counts_event : (p : Programs) (t : Tables) (r : ℕ) → ((k : ℕ) → AreCounted t k) → (i : Instr) (s : ℕ) (w : Row) → IsNext p t r i s
    → slice_get (rows p t r i) s ≡ Some w → IsTidy t → IsRankWell p t r → AllKeepTidy r (list_of w.acts) t
    → (k : ℕ) → AreCounted (event_done (events_of i) r (list_of w.acts) t) k
counts_event p t r counted i s w next line tidy well keeps k =
    counted_all r (list_of w.acts) t (has_near (middle_of i) s) tidy keeps (line_comes p t r i s w line).may_near (standing p t r i s next well).near_so counted k
