-- Letters with keys are parted where no wire is named by letters of two keys
use Rattle.std.proofs.Common.{◌≡◌, Bool, true, false, cond, ◌⊎◌, inl, inr, List, [], ◌∷◌, ◌++◌, Option, Some, None, refl, sym, ap, subst, ◌∙◌, ⊎_elim}
use Rattle.qm_denot.specs.declared.Wire.{Wire}
use Rattle.qm_denot.specs.declared.Letter.{Letter}
use Rattle.qm_denot.specs.Wires.{is_wire}
use Rattle.qm_denot.specs.Weights.{operands}
use Rattle.qm_denot.specs.Tags.{Tagged, letters_with, tagged}
use Rattle.qm_denot.proofs.Sets.{is_wire_itself, same_from_is}
use Rattle.qm_denot.proofs.Shuffles.{BelongTo, IsParted}

-- the wire is in the list
abbrev pub IsAmong : List Wire → Wire → Type 0
IsAmong [] w = ⊥
IsAmong (v ∷ vs) w = (v ≡ w) ⊎ IsAmong vs w

-- some letter of the list names the wire
abbrev pub AreNaming : List Letter → Wire → Type 0
AreNaming [] w = ⊥
AreNaming (l ∷ ls) w = IsAmong (operands l) w ⊎ AreNaming ls w

-- some letter with the key k names the wire
abbrev pub IsNamedBy : {K : Type 0} → Tagged K → Wire → K → Type 0
IsNamedBy [] w k = ⊥
IsNamedBy (t ∷ ts) w k = ((t.0 ≡ k) × IsAmong (operands t.1) w) ⊎ IsNamedBy ts w k

pub named-append : {K : Type 0} (ds es : Tagged K) (w : Wire) (k : K) → IsNamedBy (ds ++ es) w k → IsNamedBy ds w k ⊎ IsNamedBy es w k
named-append [] es w k n = inr n
named-append (d ∷ ds) es w k (inl h) = inl (inl h)
named-append (d ∷ ds) es w k (inr h) = ⊎_elim (λ (a : IsNamedBy ds w k). inl (inr a)) (λ (b : IsNamedBy es w k). inr b) (named-append ds es w k h)

pub named-tagged : {K : Type 0} (j : K) (ls : List Letter) (w : Wire) (k : K) → IsNamedBy (tagged j ls) w k → (j ≡ k) × AreNaming ls w
named-tagged j [] w k n = absurd n
named-tagged j (l ∷ ls) w k (inl h) = (h.0, inl h.1)
named-tagged j (l ∷ ls) w k (inr h) = let later = named-tagged j ls w k h in (later.0, inr later.1)

pub naming-append : (ls ms : List Letter) (w : Wire) → AreNaming (ls ++ ms) w → AreNaming ls w ⊎ AreNaming ms w
naming-append [] ms w n = inr n
naming-append (l ∷ ls) ms w (inl h) = inl (inl h)
naming-append (l ∷ ls) ms w (inr h) = ⊎_elim (λ (a : AreNaming ls w). inl (inr a)) (λ (b : AreNaming ms w). inr b) (naming-append ls ms w h)

-- ---- an owner for each wire
abbrev is_among : List Wire → Wire → Bool
is_among [] w = false
is_among (v ∷ vs) w = cond (is_wire v w) true (is_among vs w)

either_true : (b c : Bool) → c ≡ true → cond b true c ≡ true
either_true true c e = refl
either_true false c e = e

among_tells : (vs : List Wire) (w : Wire) → IsAmong vs w → is_among vs w ≡ true
among_tells [] w h = absurd h
among_tells (v ∷ vs) w (inl e) = let i = subst (λ u. is_wire v u ≡ true) e (is_wire_itself v) in rw i refl
among_tells (v ∷ vs) w (inr h) = either_true (is_wire v w) (is_among vs w) (among_tells vs w h)

among_back : (vs : List Wire) (w : Wire) → is_among vs w ≡ true → IsAmong vs w
among_back [] w e = let n : ⊥ = cc in absurd n
among_back (v ∷ vs) w e =
    elim (is_wire v w) as (λ b. is_wire v w ≡ b → cond b true (is_among vs w) ≡ true → IsAmong (v ∷ vs) w) [
      | true ↦ λ same _. inl (same_from_is v w same)
      | false ↦ λ _ later. inr (among_back vs w later)
    ] refl e

-- the key of the first letter that names the wire
abbrev owner_in : {K : Type 0} → Tagged K → Wire → Option K
owner_in [] w = None
owner_in (t ∷ ts) w = cond (is_among (operands t.1) w) (Some t.0) (owner_in ts w)

-- the wire's owner is a key that some letter with it has
record HasOwner {K : Type 0} (ds : Tagged K) (w : Wire) : Type 0 where
  key : K
  named : IsNamedBy ds w key
  owner : owner_in ds w ≡ Some key

owner_found : {K : Type 0} (ds : Tagged K) (w : Wire) (k : K) → IsNamedBy ds w k → HasOwner ds w
owner_found [] w k n = absurd n
owner_found {K = K} (d ∷ ds) w k n = by_test (is_among (operands d.1) w) refl n (owner_found ds w)
  where
    by_test : (b : Bool) → is_among (operands d.1) w ≡ b → IsNamedBy (d ∷ ds) w k → ((j : K) → IsNamedBy ds w j → HasOwner ds w) → HasOwner (d ∷ ds) w
    by_test true e n later = record { key = d.0; named = inl (refl, among_back (operands d.1) w e); owner = rw e refl }
    by_test false e (inl h) later = absurd (let t = among_tells (operands d.1) w h.1 in let n : ⊥ = cc in n)
    by_test false e (inr h) later =
        let o = later k h in
        record { key = o.key; named = inr o.named; owner = rw e o.owner }

all_belong : {K : Type 0} (owner : Wire → Option K) (k : K) (ws : List Wire) → ((w : Wire) → IsAmong ws w → owner w ≡ Some k) → BelongTo owner k ws
all_belong owner k [] each = tt
all_belong owner k (w ∷ ws) each = (each w (inl refl), all_belong owner k ws (λ v h. each v (inr h)))

all_parted : {K : Type 0} (owner : Wire → Option K) (ds : Tagged K) → ((w : Wire) (k : K) → IsNamedBy ds w k → owner w ≡ Some k) → IsParted owner ds
all_parted owner [] each = tt
all_parted owner (d ∷ ds) each = (all_belong owner d.0 (operands d.1) (λ w h. each w d.0 (inl (refl, h))), all_parted owner ds (λ w k h. each w k (inr h)))

-- no wire is named by letters of two keys
abbrev pub OneKeyEach : {K : Type 0} → Tagged K → Type 0
OneKeyEach ds = (w : Wire) (j k : _) → IsNamedBy ds w j → IsNamedBy ds w k → j ≡ k

-- so there are owners, by which the letters are parted
pub record HasParting {K : Type 0} (ds : Tagged K) : Type 0 where
  pub owner : Wire → Option K
  pub parted : IsParted owner ds

pub parting : {K : Type 0} (ds : Tagged K) → OneKeyEach ds → HasParting ds
parting ds one = record {
  owner = owner_in ds;
  parted = all_parted (owner_in ds) ds (λ w k h. let o = owner_found ds w k h in o.owner ∙ ap Some (one w o.key k o.named h));
}

-- a wire that a letter with the key k names is one that the letters with the key k name
pub naming_with : {K : Type 0} (same : K → K → Bool) → ((k : K) → same k k ≡ true) → (ds : Tagged K) (w : Wire) (k : K)
    → IsNamedBy ds w k → AreNaming (letters_with same k ds) w
naming_with same itself [] w k n = absurd n
naming_with same itself (d ∷ ds) w k (inl h) =
    let i : same k d.0 ≡ true = subst (λ j. same k j ≡ true) (sym h.0) (itself k) in
    subst (λ b. AreNaming (cond b (d.1 ∷ letters_with same k ds) (letters_with same k ds)) w) (sym i) (inl h.1)
naming_with same itself (d ∷ ds) w k (inr h) =
    elim (same k d.0) as (λ b. AreNaming (cond b (d.1 ∷ letters_with same k ds) (letters_with same k ds)) w) [
      | true ↦ inr (naming_with same itself ds w k h)
      | false ↦ naming_with same itself ds w k h
    ]
