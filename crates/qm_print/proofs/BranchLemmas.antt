-- Branches that go on over slots and come back, and the lines that are written of them
use Rattle.std.proofs.Common.{◌≡◌, ℕ, ◌+◌, ◌-◌, ◌≤◌, true, false, List, [], ◌∷◌, ◌++◌, length, take, drop, get_or, map, All, Contains, refl, sym, ◌∙◌, ap, subst, arith, append_assoc, length-append, Decides, pos}
use Rattle.std.proofs.lemmas.Bool.Decides.{Decides-and, Decides-int_eq, Decides-like}
use Rattle.std.proofs.lemmas.List.Elements.{All-nil, All-head, All-tail, All-cons}
use Rattle.std.proofs.Math.Seq.{take-append_seam, take-length}
use Rattle.qm_zomega.specs.Numbers.{Number, zero_number}
use Rattle.qm_zomega.proofs.Laws.{same}
use Rattle.qm_denot.specs.declared.Wire.{Wire}
use Rattle.qm_denot.specs.Wires.{Wires, put, no_wires}
use Rattle.qm_denot.specs.Circuits.{Amplitudes}
use Rattle.qm_denot.specs.WireLists.{Lacks, Distinct, with_wires, wires_of}
use Rattle.qm_io.specs.Ends.{SinkView}
use Rattle.qm_print.specs.Gathering.{Stopped}
use Rattle.qm_print.proofs.GatherLemmas.{Stopped-more}
use Rattle.qm_print.specs.declared.Live.{Live}
use Rattle.qm_print.specs.Branches.{BranchView, GoesOn, no_branch, without_last}
use Rattle.qm_print.specs.Slots.{AreLive}
use Rattle.qm_print.specs.StateText.{is_zero_number, branch_lines, branch_count}

-- ---- the number 0
pub Decides-is_zero_number : (z : Number) → Decides (is_zero_number z) (z ≡ zero_number)
Decides-is_zero_number z =
    Decides-like _ (λ p. same z zero_number p.0 p.1.0 p.1.1.0 p.1.1.1)
    (λ e. (ap (λ (w : Number). w.a) e, (ap (λ (w : Number). w.b) e, (ap (λ (w : Number). w.c) e, ap (λ (w : Number). w.d) e))))
    (Decides-and _ _ (Decides-int_eq z.a (pos 0)) (Decides-and _ _ (Decides-int_eq z.b (pos 0)) (Decides-and _ _ (Decides-int_eq z.c (pos 0)) (Decides-int_eq z.d (pos 0)))))

-- ---- the wires of a branch that goes on
-- the wires of a list and one more
wires_of-push : (ws : List Wire) (w : Wire) → wires_of (ws ++ w ∷ []) ≡ put (wires_of ws) w true
wires_of-push ws w = with_wires-push ws no_wires
  where
    with_wires-push : (vs : List Wire) (x : Wires) → with_wires (vs ++ w ∷ []) x ≡ put (with_wires vs x) w true
    with_wires-push [] x = refl
    with_wires-push (v ∷ vs) x = with_wires-push vs (put x v true)

Lacks-around : (us ws : List Wire) (v w : Wire) → Lacks (us ++ v ∷ ws) w → Lacks (us ++ ws) w
Lacks-around [] ws v w l = l.1
Lacks-around (u ∷ us) ws v w l = (l.0, Lacks-around us ws v w l.1)

Distinct-around : (us ws : List Wire) (v : Wire) → Distinct (us ++ v ∷ ws) → Distinct (us ++ ws)
Distinct-around [] ws v d = d.1
Distinct-around (u ∷ us) ws v d = (Lacks-around us ws v u d.0, Distinct-around us ws v d.1)

All-around : (P : Wire → Type 0) (us ws : List Wire) (v : Wire) → All P (us ++ v ∷ ws) → All P (us ++ ws)
All-around P [] ws v a = All-tail P v ws a
All-around P (u ∷ us) ws v a = All-cons P u (us ++ ws) (All-head P u (us ++ v ∷ ws) a) (All-around P us ws v (All-tail P u (us ++ v ∷ ws) a))

All-front : (P : Wire → Type 0) (us ws : List Wire) → All P (us ++ ws) → All P us
All-front P [] ws a = All-nil P
All-front P (u ∷ us) ws a = All-cons P u us (All-head P u (us ++ ws) a) (All-front P us ws (All-tail P u (us ++ ws) a))

-- the wires that are one are live
pub ones_are_live : (live : List Wire) (a : BranchView) (ss : List Live) → GoesOn live a ss → All (Contains live) a.ones
ones_are_live live a ss g = All-front (Contains live) a.ones (map (λ (s : Live). s.wire) ss) g.live_all

-- ---- the steps of a branch, and that they are taken back
abbrev pub zero_entered : BranchView → BranchView
zero_entered a = record a { bits = a.bits ++ 48 ∷ [] }

abbrev pub one_entered : BranchView → Wire → BranchView
one_entered a w = record { bits = a.bits ++ 49 ∷ []; ones = a.ones ++ w ∷ [] }

abbrev pub zero_left : BranchView → BranchView
zero_left a = record a { bits = without_last a.bits }

without_last-push : {T : Type 0} (ts : List T) (t : T) → without_last (ts ++ t ∷ []) ≡ ts
without_last-push ts t =
    let n : length (ts ++ t ∷ []) - 1 ≡ length ts = omega (arith, length-append ts (t ∷ [])) in
    ap (λ k. take k (ts ++ t ∷ [])) n ∙ take-append_seam ts (t ∷ [])

pub zero_back : (a : BranchView) → zero_left (zero_entered a) ≡ a
zero_back a = ap (λ bs. let b : BranchView = record { bits = bs; ones = a.ones } in b) (without_last-push a.bits 48)

-- ---- a branch that goes on over a first slot and the rest
-- all slots but the first, as the code takes them
abbrev pub rest_of : List Live → List Live
rest_of ss = take (length ss - 1) (drop 1 ss)

-- a slot where none stands
abbrev some_slot : Live
some_slot = record { rank = 0; slot = 0; wire = record { rank = 0; made = 0; near = false } }

first_and_rest : (ss : List Live) (d : Live) → 1 ≤ length ss → ss ≡ get_or ss 0 d ∷ rest_of ss
first_and_rest [] d h = absurd (omega arith)
first_and_rest (s ∷ ss) d h =
    let n : length (s ∷ ss) - 1 ≡ length ss = omega arith in
    let e : take (length (s ∷ ss) - 1) ss ≡ ss = ap (λ k. take k ss) n ∙ take-length ss in
    ap (λ (ts : List Live). s ∷ ts) (sym e)

GoesOn-zero : (live : List Wire) (a : BranchView) (s : Live) (ss : List Live) → GoesOn live a (s ∷ ss) → GoesOn live (zero_entered a) ss
GoesOn-zero live a s ss g = record {
  live_all = All-around (Contains live) a.ones (map (λ (t : Live). t.wire) ss) s.wire g.live_all;
  distinct = Distinct-around a.ones (map (λ (t : Live). t.wire) ss) s.wire g.distinct;
  bits_few = omega (arith, g.bits_few, length-append a.bits (48 ∷ []));
  ones_few = omega (arith, g.ones_few);
}

GoesOn-one : (live : List Wire) (a : BranchView) (s : Live) (ss : List Live) → GoesOn live a (s ∷ ss) → GoesOn live (one_entered a s.wire) ss
GoesOn-one live a s ss g =
    let e : a.ones ++ map (λ (t : Live). t.wire) (s ∷ ss) ≡ (a.ones ++ s.wire ∷ []) ++ map (λ (t : Live). t.wire) ss = sym (append_assoc a.ones (s.wire ∷ []) (map (λ (t : Live). t.wire) ss)) in
    record {
      live_all = subst (All (Contains live)) e g.live_all;
      distinct = subst Distinct e g.distinct;
      bits_few = omega (arith, g.bits_few, length-append a.bits (49 ∷ []));
      ones_few = omega (arith, g.ones_few, length-append a.ones (s.wire ∷ []));
    }

-- the branch may go on where the first slot is zero
pub zero_may_go_on : (live : List Wire) (a : BranchView) (ss : List Live) → 1 ≤ length ss → GoesOn live a ss → GoesOn live (zero_entered a) (rest_of ss)
zero_may_go_on live a ss some g = GoesOn-zero live a (get_or ss 0 some_slot) (rest_of ss) (subst (GoesOn live a) (first_and_rest ss some_slot some) g)

-- and where it is one
pub one_may_go_on : (live : List Wire) (a : BranchView) (ss : List Live) (d : Live) → 1 ≤ length ss → GoesOn live a ss → GoesOn live (one_entered a (get_or ss 0 d).wire) (rest_of ss)
one_may_go_on live a ss d some g = GoesOn-one live a (get_or ss 0 d) (rest_of ss) (subst (GoesOn live a) (first_and_rest ss d some) g)

-- the lines of the branches where the first slot is zero, and then of those where it is one
pub lines_by_first : (u : Amplitudes) (a : BranchView) (ss : List Live) (d : Live) → 1 ≤ length ss → branch_lines u a.bits (wires_of a.ones) ss
    ≡ branch_lines u (zero_entered a).bits (wires_of (zero_entered a).ones) (rest_of ss)
    ++ branch_lines u (one_entered a (get_or ss 0 d).wire).bits (wires_of (one_entered a (get_or ss 0 d).wire).ones) (rest_of ss)
lines_by_first u a ss d some = ap (branch_lines u a.bits (wires_of a.ones)) (first_and_rest ss d some)
    ∙ ap (λ x. branch_lines u (a.bits ++ 48 ∷ []) (wires_of a.ones) (rest_of ss) ++ branch_lines u (a.bits ++ 49 ∷ []) x (rest_of ss)) (sym (wires_of-push a.ones (get_or ss 0 d).wire))

-- and how many they are
pub count_by_first : (u : Amplitudes) (a : BranchView) (ss : List Live) (d : Live) → 1 ≤ length ss → branch_count u (wires_of a.ones) ss
    ≡ branch_count u (wires_of a.ones) (rest_of ss) + branch_count u (wires_of (one_entered a (get_or ss 0 d).wire).ones) (rest_of ss)
count_by_first u a ss d some = ap (branch_count u (wires_of a.ones)) (first_and_rest ss d some)
    ∙ ap (λ x. branch_count u (wires_of a.ones) (rest_of ss) + branch_count u x (rest_of ss)) (sym (wires_of-push a.ones (get_or ss 0 d).wire))

-- ---- the same over branches that are known by equations: b is entered with zero, z is back again, and c is entered with one
module _ (a z b c : BranchView) (ss : List Live) (d : Live) (some : 1 ≤ length ss) where
  pub one_goes_on : (live : List Wire) → GoesOn live a ss → z ≡ a → c ≡ one_entered z (get_or ss 0 d).wire → GoesOn live c (rest_of ss)
  one_goes_on live g back one = subst (λ x. GoesOn live x (rest_of ss)) (sym (one ∙ ap (λ x. one_entered x (get_or ss 0 d).wire) back)) (one_may_go_on live a ss d some g)

  pub lines_both : (u : Amplitudes) → b ≡ zero_entered a → z ≡ a → c ≡ one_entered z (get_or ss 0 d).wire
      → branch_lines u b.bits (wires_of b.ones) (rest_of ss) ++ branch_lines u c.bits (wires_of c.ones) (rest_of ss) ≡ branch_lines u a.bits (wires_of a.ones) ss
  lines_both u zero back one =
      ap (λ (x : BranchView). branch_lines u x.bits (wires_of x.ones) (rest_of ss) ++ branch_lines u c.bits (wires_of c.ones) (rest_of ss)) zero
      ∙ ap (λ (x : BranchView). branch_lines u (zero_entered a).bits (wires_of (zero_entered a).ones) (rest_of ss) ++ branch_lines u x.bits (wires_of x.ones) (rest_of ss))
      (one ∙ ap (λ x. one_entered x (get_or ss 0 d).wire) back)
      ∙ sym (lines_by_first u a ss d some)

  pub count_both : (u : Amplitudes) → b ≡ zero_entered a → z ≡ a → c ≡ one_entered z (get_or ss 0 d).wire
      → branch_count u (wires_of b.ones) (rest_of ss) + branch_count u (wires_of c.ones) (rest_of ss) ≡ branch_count u (wires_of a.ones) ss
  count_both u zero back one =
      ap (λ (x : BranchView). branch_count u (wires_of x.ones) (rest_of ss) + branch_count u (wires_of c.ones) (rest_of ss)) zero
      ∙ ap (λ (x : BranchView). branch_count u (wires_of a.ones) (rest_of ss) + branch_count u (wires_of x.ones) (rest_of ss)) (one ∙ ap (λ x. one_entered x (get_or ss 0 d).wire) back)
      ∙ sym (count_by_first u a ss d some)

-- the sink failed among the lines where the first slot is zero
pub Stopped-zero : (u : Amplitudes) (a b : BranchView) (ss : List Live) (v w : SinkView) (h : List ℕ) → 1 ≤ length ss → b ≡ zero_entered a
    → Stopped v w h (branch_lines u b.bits (wires_of b.ones) (rest_of ss)) → Stopped v w h (branch_lines u a.bits (wires_of a.ones) ss)
Stopped-zero u a b ss v w h some zero s =
    let at_zero = subst (λ (x : BranchView). Stopped v w h (branch_lines u x.bits (wires_of x.ones) (rest_of ss))) zero s in
    subst (Stopped v w h) (sym (lines_by_first u a ss some_slot some)) (Stopped-more v w h _ _ at_zero)

-- ---- the start
pub GoesOn-start : (live : List Wire) (ss : List Live) → AreLive live ss → GoesOn live no_branch ss
GoesOn-start live ss a = record { live_all = a.live_all; distinct = a.distinct; bits_few = omega (arith, a.few); ones_few = omega (arith, a.few) }
