-- The amplitudes after the collectives
use Rattle.std.proofs.Common.{◌≡◌, ◌≢◌, Bool, true, false, not, ◌&&◌, ◌||◌, cond, if◌then◌else◌, List, [], ◌∷◌, ◌++◌, refl, sym, ap, ◌∙◌, arith}
use mathlib.Core.Path.{fun_ext}
use Rattle.qm_zomega.specs.Numbers.{Number, zero_number}
use Rattle.qm_denot.specs.declared.Wire.{Wire}
use Rattle.qm_denot.specs.declared.Letter.{Letter}
use Rattle.qm_denot.specs.declared.Letter.TheVariants.{Cx, Take, Rename}
use Rattle.qm_denot.specs.Wires.{Wires, has, put, toggled}
use Rattle.qm_denot.specs.WireLists.{Lacks, Distinct}
use Rattle.qm_denot.specs.Places.{without}
use Rattle.qm_denot.specs.Circuits.{Circuit, amp, halvings, IsBlank, IsEqualUpTo, Amplitudes, with_letter, with_letters, same_bit, IsBlankIn}
use Rattle.qm_denot.specs.Protocols.{crossings, differing, is_odd}
use Rattle.qm_denot.specs.Collectives.{broadcasting, unbroadcasting, are_all, AreBlankIn, copied_onto, renaming, wires_in, has_old, with_old}
use Rattle.qm_denot.proofs.Sets.{has-put_same, has-put_other, put_twice, put_swap, put_has}
use Rattle.qm_denot.proofs.Amplitudes.{with_letters-append, halvings-append}
use Rattle.qm_denot.proofs.EqualUpTo.{amp-append_at, equal_from_same}
use Rattle.qm_denot.proofs.ProtocolLaws.{halvings-crossings}
use Rattle.qm_denot.proofs.Support.{IsBlankIn-with_letters}
use Rattle.qm_denot.proofs.Parities.{with_letters-crossings, with_letters-crossings_at, with_letter-take_blank}
use Rattle.qm_denot.proofs.NameLists.{not_sym}

-- ---- sets without the wires of a list
without-put : (cs : List Wire) (x : Wires) (c : Wire) (b : Bool) → Lacks cs c → without (put x c b) cs ≡ put (without x cs) c b
without-put [] x c b l = refl
without-put (d ∷ cs) x c b l = ap (λ y. without y cs) (put_swap x c d b false (not_sym l.0)) ∙ without-put cs (put x d false) c b l.1

has-without : (cs : List Wire) (x : Wires) (c : Wire) → Lacks cs c → has (without x cs) c ≡ has x c
has-without [] x c l = refl
has-without (d ∷ cs) x c l = has-without cs (put x d false) c l.1 ∙ has-put_other x d false c (not_sym l.0)

are_all-put : (cs : List Wire) (b : Bool) (x : Wires) (c : Wire) (t : Bool) → Lacks cs c → are_all b cs (put x c t) ≡ are_all b cs x
are_all-put [] b x c t l = refl
are_all-put (d ∷ cs) b x c t l = let h = has-put_other x c t d l.0 in let r = are_all-put cs b x c t l.1 in rw (h, r) refl

AreBlankIn-cross : (f : Amplitudes) (q c : Wire) (cs : List Wire) → Lacks cs q → Lacks cs c → AreBlankIn f cs → AreBlankIn (with_letter (Cx q c) f) cs
AreBlankIn-cross f q c [] l k blank = tt
AreBlankIn-cross f q c (d ∷ cs) l k blank =
    (IsBlankIn-with_letters (Cx q c ∷ []) d ((((l.0, tt), ((k.0, tt), tt)), tt)) f blank.0, AreBlankIn-cross f q c cs l.1 k.1 blank.1)

-- ---- a broadcast
-- the amplitudes f where all wires of the list are b, and zero elsewhere
abbrev onto : Bool → List Wire → Amplitudes → Amplitudes
onto b cs f x = if are_all b cs x then f (without x cs) else zero_number

-- a copy onto one blank wire
copy_one : (f : Amplitudes) (q c : Wire) → IsBlankIn f c → (y : Wires) (a b : Bool) → has y q ≡ a → has y c ≡ b
    → with_letter (Cx q c) f y ≡ cond (same_bit b a) (f (put y c false)) zero_number
copy_one f q c blank y true true hq hc = rw (hq, hc) refl
copy_one f q c blank y true false hq hc = rw (hq, hc) (blank (put y c true) (has-put_same y c true))
copy_one f q c blank y false true hq hc = rw hq (blank y hc)
copy_one f q c blank y false false hq hc = rw hq (ap f (sym (put_has y c false hc)))

kept_where_both : (a b : Bool) (z : Number) → cond a (cond b z zero_number) zero_number ≡ cond (b && a) z zero_number
kept_where_both true true z = refl
kept_where_both true false z = refl
kept_where_both false true z = refl
kept_where_both false false z = refl

-- after a broadcast onto blank wires
pub with_letters-broadcasting : (cs : List Wire) (q : Wire) → Lacks cs q → Distinct cs → (f : Amplitudes) → AreBlankIn f cs
    → with_letters (broadcasting q cs) f ≡ copied_onto cs q f
with_letters-broadcasting [] q l d f blank = refl
with_letters-broadcasting (c ∷ cs) q l d f blank =
    with_letters-broadcasting cs q l.1 d.1 (with_letter (Cx q c) f) (AreBlankIn-cross f q c cs l.1 d.0 blank.1)
    ∙ fun_ext (λ x.
    let y = without x cs in
    let one = copy_one f q c blank.0 y (has x q) (has x c) (has-without cs x q l.1) (has-without cs x c d.0) in
    ap (λ z. cond (are_all (has x q) cs x) z zero_number) one
    ∙ kept_where_both (are_all (has x q) cs x) (same_bit (has x c) (has x q)) (f (put y c false))
    ∙ ap (λ u. cond (same_bit (has x c) (has x q) && are_all (has x q) cs x) (f u) zero_number) (sym (without-put cs x c false d.0)))

module _ (f : Amplitudes) (q c : Wire) (qc : q ≢ c) (blank : IsBlankIn f c) (cs : List Wire) (l : Lacks cs c) (x : Wires) where
  abbrev Gone : Type 0
  Gone = with_letters (Cx q c ∷ Take c false ∷ []) (copied_onto (c ∷ cs) q f) x ≡ copied_onto cs q f x

  gone_one : has x c ≡ true → Gone
  gone_one hc = rw hc (let z = blank (without x cs) (has-without cs x c l ∙ hc) in rw z (sym (either (are_all (has x q) cs x))))
    where
      either : (b : Bool) → cond b zero_number zero_number ≡ zero_number
      either true = refl
      either false = refl

  itself : (b : Bool) → same_bit b b ≡ true
  itself true = refl
  itself false = refl

  -- one more copy with the bit that all have
  onto_put : (b : Bool) → has x c ≡ false → onto b (c ∷ cs) f (put x c b) ≡ onto b cs f x
  onto_put b hc =
      let y = put (put x c b) c false in
      ap (λ t. cond (same_bit t b && are_all b cs (put x c b)) (f (without y cs)) zero_number) (has-put_same x c b)
      ∙ ap (λ t. cond (t && are_all b cs (put x c b)) (f (without y cs)) zero_number) (itself b)
      ∙ ap (λ t. cond t (f (without y cs)) zero_number) (are_all-put cs b x c b l)
      ∙ ap (λ z. cond (are_all b cs x) (f (without z cs)) zero_number) (put_twice x c b false ∙ put_has x c false hc)

  copied_bit : (b : Bool) → has x c ≡ false → has x q ≡ b → copied_onto (c ∷ cs) q f (put x c b) ≡ copied_onto cs q f x
  copied_bit b hc hq = ap (λ t. onto t (c ∷ cs) f (put x c b)) (has-put_other x c b q qc ∙ hq) ∙ onto_put b hc ∙ ap (λ t. onto t cs f x) (sym hq)

  gone_zero : (b : Bool) → has x c ≡ false → has x q ≡ b → Gone
  gone_zero b hc hq =
      let g = copied_onto (c ∷ cs) q f in
      ap (λ t. cond t zero_number (with_letter (Cx q c) g (put x c false))) hc
      ∙ ap (with_letter (Cx q c) g) (put_has x c false hc)
      ∙ ap (λ t. cond t (g (toggled x c)) (g x)) hq
      ∙ crossed b hq
    where
      crossed : (b : Bool) → has x q ≡ b → cond b (copied_onto (c ∷ cs) q f (toggled x c)) (copied_onto (c ∷ cs) q f x) ≡ copied_onto cs q f x
      crossed true hq = ap (λ t. copied_onto (c ∷ cs) q f (put x c (not t))) hc ∙ copied_bit true hc hq
      crossed false hq = ap (copied_onto (c ∷ cs) q f) (sym (put_has x c false hc)) ∙ copied_bit false hc hq

  gone_at : (b : Bool) → has x c ≡ b → Gone
  gone_at true hc = gone_one hc
  gone_at false hc = gone_zero (has x q) hc refl

with_letters-copied_onto : (cs : List Wire) (q : Wire) → Lacks cs q → Distinct cs → (f : Amplitudes) → AreBlankIn f cs
    → with_letters (unbroadcasting q cs) (copied_onto cs q f) ≡ f
with_letters-copied_onto [] q l d f blank = refl
with_letters-copied_onto (c ∷ cs) q l d f blank =
    ap (with_letters (unbroadcasting q cs)) (fun_ext (λ x. gone_at f q c (not_sym l.0) blank.0 cs d.0 x (has x c) refl))
    ∙ with_letters-copied_onto cs q l.1 d.1 f blank.1

-- an undone broadcast leaves the amplitudes as they were
pub with_letters-unbroadcasting : (cs : List Wire) (q : Wire) → Lacks cs q → Distinct cs → (f : Amplitudes) → AreBlankIn f cs
    → with_letters (broadcasting q cs ++ unbroadcasting q cs) f ≡ f
with_letters-unbroadcasting cs q l d f blank =
    with_letters-append (broadcasting q cs) (unbroadcasting q cs) f
    ∙ ap (with_letters (unbroadcasting q cs)) (with_letters-broadcasting cs q l d f blank)
    ∙ with_letters-copied_onto cs q l d f blank

-- ---- a reduction
-- after a reduction the target is toggled where the parity is 1
pub with_letters-reducing : (ws : List Wire) (v : Wire) → Lacks ws v → (f : Amplitudes) (x : Wires)
    → with_letters (crossings ws v) f x ≡ f (if is_odd ws x then toggled x v else x)
with_letters-reducing ws v l f x = with_letters-crossings ws v l f x ∙ ap f (either (is_odd ws x))
  where
    either : (b : Bool) → put x v (differing b (has x v)) ≡ cond b (toggled x v) x
    either true = refl
    either false = put_has x v (has x v) refl

-- a reduction by wires of the same parity undoes it
pub with_letters-unreducing : (ws us : List Wire) (v : Wire) → Lacks ws v → Lacks us v → ((x : Wires) → is_odd us x ≡ is_odd ws x) → (f : Amplitudes)
    → with_letters (crossings ws v ++ crossings us v) f ≡ f
with_letters-unreducing ws us v l k parity f =
    with_letters-append (crossings ws v) (crossings us v) f
    ∙ fun_ext (λ x.
    with_letters-crossings us v k (with_letters (crossings ws v) f) x
    ∙ with_letters-crossings_at ws v l f x (differing (is_odd us x) (has x v))
    ∙ ap (λ b. f (put x v (differing (is_odd ws x) (differing b (has x v))))) (parity x)
    ∙ ap (λ b. f (put x v b)) (twice (is_odd ws x) (has x v))
    ∙ ap f (put_has x v (has x v) refl))
  where
    twice : (a b : Bool) → differing a (differing a b) ≡ b
    twice true true = refl
    twice true false = refl
    twice false b = refl

-- so does the same with the target given up, where the target was blank
pub with_letters-unreducing_blank : (ws us : List Wire) (v : Wire) → Lacks ws v → Lacks us v → ((x : Wires) → is_odd us x ≡ is_odd ws x)
    → (f : Amplitudes) → IsBlankIn f v → with_letters ((crossings ws v ++ crossings us v) ++ Take v false ∷ []) f ≡ f
with_letters-unreducing_blank ws us v l k parity f blank =
    with_letters-append (crossings ws v ++ crossings us v) (Take v false ∷ []) f
    ∙ ap (with_letter (Take v false)) (with_letters-unreducing ws us v l k parity f)
    ∙ with_letter-take_blank f v blank

-- ---- a scatter and a gather
has-with_old : (ps : List (Wire × Wire)) (x : Wires) (w : Wire) → Lacks (wires_in ps) w → has (with_old ps x) w ≡ has x w
has-with_old [] x w l = refl
has-with_old (p ∷ ps) x w l =
    let y = with_old ps x in
    has-put_other (put y p.0 (has y p.1)) p.1 false w (not_sym l.1.0) ∙ has-put_other y p.0 (has y p.1) w (not_sym l.0) ∙ has-with_old ps x w l.1.1

zero_where_either : (a b : Bool) (z : Number) → cond a zero_number (cond b zero_number z) ≡ cond (a || b) zero_number z
zero_where_either true b z = refl
zero_where_either false b z = refl

-- after renamings of different wires
pub with_letters-renaming : (ps : List (Wire × Wire)) → Distinct (wires_in ps) → (f : Amplitudes) (x : Wires)
    → with_letters (renaming ps) f x ≡ if has_old ps x then zero_number else f (with_old ps x)
with_letters-renaming [] d f x = refl
with_letters-renaming (p ∷ ps) d f x =
    with_letters-renaming ps d.1.1 (with_letter (Rename p.0 p.1) f) x
    ∙ ap (λ b. cond (has_old ps x) zero_number (cond b zero_number (f (with_old (p ∷ ps) x)))) (has-with_old ps x p.0 d.0.1)
    ∙ zero_where_either (has_old ps x) (has x p.0) (f (with_old (p ∷ ps) x))

-- ---- the collectives after a circuit
-- letters that halve nothing and leave C's amplitudes as they were
equal_kept : (c ls : List Letter) → halvings ls ≡ 0 → with_letters ls (amp c) ≡ amp c → IsEqualUpTo 0 (c ++ ls) c
equal_kept c ls none same =
    equal_from_same (c ++ ls) c 0 (omega (arith, halvings-append c ls)) (λ x. amp-append_at c ls x ∙ ap (λ (f : Amplitudes). f x) same)

module _ (c : Circuit) (q : Wire) (cs : List Wire) (l : Lacks cs q) (d : Distinct cs) (blank : AreBlankIn (amp c) cs) where
  pub amp-broadcasting : (x : Wires) → amp (c ++ broadcasting q cs) x ≡ copied_onto cs q (amp c) x
  amp-broadcasting x = amp-append_at c (broadcasting q cs) x ∙ ap (λ (f : Amplitudes). f x) (with_letters-broadcasting cs q l d (amp c) blank)

  pub equal_unbroadcasting : IsEqualUpTo 0 (c ++ (broadcasting q cs ++ unbroadcasting q cs)) c
  equal_unbroadcasting =
      equal_kept c (broadcasting q cs ++ unbroadcasting q cs)
      (omega (arith, halvings-append (broadcasting q cs) (unbroadcasting q cs), none q cs, none_again q cs))
      (with_letters-unbroadcasting cs q l d (amp c) blank)
    where
      none : (q : Wire) (cs : List Wire) → halvings (broadcasting q cs) ≡ 0
      none q [] = refl
      none q (c ∷ cs) = let e = none q cs in omega arith

      none_again : (q : Wire) (cs : List Wire) → halvings (unbroadcasting q cs) ≡ 0
      none_again q [] = refl
      none_again q (c ∷ cs) = let e = none_again q cs in omega arith

module _ (c : Circuit) (ws us : List Wire) (v : Wire) (l : Lacks ws v) where
  pub amp-reducing : (x : Wires) → amp (c ++ crossings ws v) x ≡ amp c (if is_odd ws x then toggled x v else x)
  amp-reducing x = amp-append_at c (crossings ws v) x ∙ with_letters-reducing ws v l (amp c) x

  module _ (k : Lacks us v) (parity : (x : Wires) → is_odd us x ≡ is_odd ws x) where
    pub equal_unreducing : IsEqualUpTo 0 (c ++ (crossings ws v ++ crossings us v)) c
    equal_unreducing =
        equal_kept c (crossings ws v ++ crossings us v)
        (omega (arith, halvings-append (crossings ws v) (crossings us v), halvings-crossings ws v, halvings-crossings us v))
        (with_letters-unreducing ws us v l k parity (amp c))

    pub equal_unreducing_blank : IsBlank c v → IsEqualUpTo 0 (c ++ ((crossings ws v ++ crossings us v) ++ Take v false ∷ [])) c
    equal_unreducing_blank blank =
        equal_kept c ((crossings ws v ++ crossings us v) ++ Take v false ∷ [])
        (omega (
          arith,
          halvings-append (crossings ws v ++ crossings us v) (Take v false ∷ []),
          halvings-append (crossings ws v) (crossings us v),
          halvings-crossings ws v,
          halvings-crossings us v,
        ))
        (with_letters-unreducing_blank ws us v l k parity (amp c) blank)

pub amp-renaming : (c : Circuit) (ps : List (Wire × Wire)) → Distinct (wires_in ps) → (x : Wires)
    → amp (c ++ renaming ps) x ≡ if has_old ps x then zero_number else amp c (with_old ps x)
amp-renaming c ps d x = amp-append_at c (renaming ps) x ∙ with_letters-renaming ps d (amp c) x
