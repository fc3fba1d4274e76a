-- Each act on the tables and the store is the model's act
use Rattle.std.proofs.Common.{◌≡◌, ℕ, ◌+◌, ◌-◌, ◌≤◌, ◌^◌, Bool, true, false, Option, None, Some, unwrap_or, List, [], ◌∷◌, ◌++◌, length, count_by, Contains, refl, sym, ap, ap₂, subst, ◌∙◌, arith, append-nil, append_assoc, length-append}
use Rattle.std.proofs.lemmas.List.{length_push}
use Rattle.std.proofs.lemmas.List.Sums.{count_by-le-length}
use Rattle.std.proofs.lemmas.Option.{same_Some}
use Rattle.qm_denot.specs.declared.Wire.{Wire}
use Rattle.qm_denot.specs.declared.Letter.{Letter}
use Rattle.qm_denot.specs.declared.Letter.TheVariants.{Phase, Flip, Had, Cx, Cz, Pair, Keep, Take, Rename}
use Rattle.qm_denot.specs.Circuits.{Circuit}
use Rattle.qm_denot.specs.WireLists.{without_wire}
use Rattle.qm_denot.specs.Stores.{Store, StandsFor, MayApply, MayGrow, live_after, IsSound}
use Rattle.qm_instr.specs.declared.Lane.{Lane}
use Rattle.qm_owner.specs.Places.{IsPlacing}
use Rattle.qm_denot.specs.declared.Parcel.{Parcel}
use Rattle.qm_proto.specs.Model.State.{Tables, no_wire, with_at, with_part, far_made, near_made, near_last}
use Rattle.qm_proto.specs.declared.Act.{Act}
use Rattle.qm_proto.specs.declared.Act.TheVariants.{Fresh, Twin, Apply, NearOut, Settle, Posts, Fills, Receives, OwnUsed, ProtocolUsed, FirstKept, BitSet, SlotOut, FarOut}
use Rattle.qm_proto.specs.Model.Acts.{with_one_counted, after_act, acts_letters, more_at, less_at}
use Rattle.qm_proto.specs.May.{Limits, MayLetter, limits_after}
use Rattle.qm_proto.specs.Model.Places.{InSlot, NearOf, FarOf, IsPlaced, IsOnlyAt, IsOwn}
use Rattle.qm_proto.proofs.TidyChanges.{slot_changed, near_more, far_more, near_less, far_less}
use Rattle.qm_machine.specs.Facts.{Facts, AreSound, Can, Did, room_of, limits_of, is_pauli}
use Rattle.qm_machine.specs.Tries.{MayGrowBy}
use Rattle.qm_machine.proofs.LivePlaces.{AreLive, live_beside, live_more, live_less, live_settled, slot_comes, near_comes, far_comes, near_leaves, far_leaves, slot_leaves, length-without_wire}

-- ---- what an act does beside the tables
pub record Beside (f g : Facts) (ls : List Letter) : Type 0 where
  pub stands : (c : Circuit) → StandsFor f.store c → StandsFor g.store (c ++ ls)
  pub room : g.store.capacity ≡ f.store.capacity
  pub placing : IsPlacing g.places.placed
  pub slotted : g.places.ranks ≡ f.places.ranks
  pub capacity : g.places.capacity ≡ f.places.capacity
  pub sizes : g.sizes ≡ f.sizes
  pub parcels : g.parcels ≡ f.parcels
  pub ranks : g.ranks ≡ f.ranks
  pub letters : g.letters ≡ f.letters + length ls
  pub paulis : g.paulis ≡ f.paulis + count_by is_pauli ls

abbrev limits : ℕ → ℕ → (Lane → ℕ) → ℕ → Limits
limits ranks wires parcels letters = record { ranks = ranks; wires = wires; parcels = parcels; letters = letters }

same_limits : (s n : Limits) → s.ranks ≡ n.ranks → s.wires ≡ n.wires → s.parcels ≡ n.parcels → s.letters ≡ n.letters → s ≡ n
same_limits s n ranks wires parcels letters =
    ap (λ (x : ℕ). limits x s.wires s.parcels s.letters) ranks
    ∙ ap (λ (x : ℕ). limits n.ranks x s.parcels s.letters) wires
    ∙ ap (λ (x : Lane → ℕ). limits n.ranks n.wires x s.letters) parcels
    ∙ ap (λ (x : ℕ). limits n.ranks n.wires n.parcels x) letters

-- the act is done: the tables are the model's, the live wires are those with a place, and the limits are what it leaves
did : (f g : Facts) (r : ℕ) (act : Act) → Can f r (act ∷ []) → g.tables ≡ after_act r act f.tables
    → Beside f g (acts_letters r (act ∷ []) f.tables) → AreLive g.store.live (after_act r act f.tables)
    → length g.store.live ≤ g.places.capacity → room_of g ≡ (limits_after act (limits_of f)).wires
    → (limits_after act (limits_of f)).ranks ≡ f.ranks → (limits_after act (limits_of f)).parcels ≡ f.parcels
    → (limits_after act (limits_of f)).letters ≡ (2 ^ 32 - f.letters) - length (acts_letters r (act ∷ []) f.tables)
    → Did f r (act ∷ []) g
did f g r act can tables beside live few_live room ranks parcels letters =
    let ls = acts_letters r (act ∷ []) f.tables in
    let few : count_by is_pauli ls ≤ length ls = count_by-le-length is_pauli ls in
    let fewer : f.paulis ≤ f.letters = can.sound.fewer in
    let more = beside.letters in
    let most = beside.paulis in
    record {
      tables = tables;
      stands = beside.stands;
      sound = record {
        live = subst (AreLive g.store.live) (sym tables) live;
        placing = beside.placing;
        slotted = beside.slotted ∙ can.sound.slotted ∙ sym beside.ranks;
        few = few_live;
        room = omega (arith, can.sound.room, beside.room, beside.capacity);
        fewer = omega arith;
      };
      limits = same_limits (limits_of g) (limits_after act (limits_of f)) (beside.ranks ∙ sym ranks) room (beside.parcels ∙ sym parcels) (omega arith);
      capacity = beside.capacity;
      sizes = beside.sizes;
      letters = beside.letters;
      paulis = beside.paulis;
    }

-- ---- acts that do not touch the store
pub record SameStore (f g : Facts) : Type 0 where
  pub store : g.store ≡ f.store
  pub placing : IsPlacing g.places.placed
  pub slotted : g.places.ranks ≡ f.places.ranks
  pub capacity : g.places.capacity ≡ f.places.capacity
  pub sizes : g.sizes ≡ f.sizes
  pub parcels : g.parcels ≡ f.parcels
  pub ranks : g.ranks ≡ f.ranks
  pub letters : g.letters ≡ f.letters
  pub paulis : g.paulis ≡ f.paulis

-- the tables may be others, the lanes' room and the count of the ranks are said anew, and nothing else has changed
pub same_beside : (f : Facts) (t : Tables) (room : Lane → ℕ) (n : ℕ) → IsPlacing f.places.placed → room ≡ f.parcels → n ≡ f.ranks
    → SameStore f (record f { tables = t; parcels = room; ranks = n })
same_beside f t room n placing parcels ranks =
    record {
      store = refl;
      placing = placing;
      slotted = refl;
      capacity = refl;
      sizes = refl;
      parcels = parcels;
      ranks = ranks;
      letters = refl;
      paulis = refl;
    }

module _ (f g : Facts) (r : ℕ) (same : SameStore f g) where
  did_quietly : (act : Act) → Can f r (act ∷ []) → g.tables ≡ after_act r act f.tables → acts_letters r (act ∷ []) f.tables ≡ []
      → limits_after act (limits_of f) ≡ limits_of f → AreLive f.store.live (after_act r act f.tables) → Did f r (act ∷ []) g
  did_quietly act can tables none left live =
      let letters = same.letters in
      let paulis = same.paulis in
      let beside : Beside f g [] = record {
        stands = λ c h. rw (append-nil c) (subst (λ s. StandsFor s c) (sym same.store) h);
        room = ap (λ (s : Store). s.capacity) same.store;
        placing = same.placing;
        slotted = same.slotted;
        capacity = same.capacity;
        sizes = same.sizes;
        parcels = same.parcels;
        ranks = same.ranks;
        letters = omega arith;
        paulis = omega arith;
      } in
      did f g r act can tables (subst (Beside f g) (sym none) beside) (subst (λ (s : Store). AreLive s.live (after_act r act f.tables)) (sym same.store) live)
      (omega (arith, can.sound.few, same.capacity, ap (λ (s : Store). length s.live) same.store))
      (ap₂ (λ (n : ℕ) (s : Store). n - length s.live) same.capacity same.store ∙ ap (λ (s : Limits). s.wires) (sym left)) (ap (λ (s : Limits). s.ranks) left) (ap (λ (s : Limits). s.parcels) left)
      (ap (λ (s : Limits). s.letters) left ∙ rw none (omega arith))

  -- parts and lanes may change, and no wire moves
  same_live : (act : Act) → AreSound f
      → AreLive f.store.live (record f.tables { parts = (after_act r act f.tables).parts; held = f.tables.held; lanes = (after_act r act f.tables).lanes })
  same_live act sound = live_beside f.tables (after_act r act f.tables).parts f.tables.held (after_act r act f.tables).lanes f.store.live sound.live

  pub did_post : (a : Lane) (x : Parcel) → Can f r (Posts a x ∷ []) → g.tables ≡ after_act r (Posts a x) f.tables → Did f r (Posts a x ∷ []) g
  did_post a x can tables = did_quietly (Posts a x) can tables refl refl (same_live (Posts a x) can.sound)

  pub did_fill : (a : Lane) (b : Bool × Bool) → Can f r (Fills a b ∷ []) → g.tables ≡ after_act r (Fills a b) f.tables → Did f r (Fills a b ∷ []) g
  did_fill a b can tables = did_quietly (Fills a b) can tables refl refl (same_live (Fills a b) can.sound)

  pub did_receive : (a : Lane) → Can f r (Receives a ∷ []) → g.tables ≡ after_act r (Receives a) f.tables → Did f r (Receives a ∷ []) g
  did_receive a can tables = did_quietly (Receives a) can tables refl refl (same_live (Receives a) can.sound)

  pub did_use : Can f r (ProtocolUsed ∷ []) → g.tables ≡ after_act r ProtocolUsed f.tables → Did f r (ProtocolUsed ∷ []) g
  did_use can tables = did_quietly ProtocolUsed can tables refl refl (same_live ProtocolUsed can.sound)

  pub did_use_own : Can f r (OwnUsed ∷ []) → g.tables ≡ after_act r OwnUsed f.tables → Did f r (OwnUsed ∷ []) g
  did_use_own can tables = did_quietly OwnUsed can tables refl refl (same_live OwnUsed can.sound)

  pub did_keep : (m : Bool) → Can f r (FirstKept m ∷ []) → g.tables ≡ after_act r (FirstKept m) f.tables → Did f r (FirstKept m ∷ []) g
  did_keep m can tables = did_quietly (FirstKept m) can tables refl refl (same_live (FirstKept m) can.sound)

  pub did_set : (b : ℕ) (v : Bool) → Can f r (BitSet b v ∷ []) → g.tables ≡ after_act r (BitSet b v) f.tables → Did f r (BitSet b v ∷ []) g
  did_set b v can tables = did_quietly (BitSet b v) can tables refl refl (same_live (BitSet b v) can.sound)

  pub did_settle : (h : Wire) (q : ℕ) → Can f r (Settle h q ∷ []) → g.tables ≡ after_act r (Settle h q) f.tables → Did f r (Settle h q ∷ []) g
  did_settle h q can tables =
      let t = f.tables in
      let u = slot_changed (far_less t r h) r q (Some h) in
      did_quietly (Settle h q) can tables refl refl
      (live_beside u t.parts (less_at t.held r) t.lanes f.store.live
      (live_settled t r q h f.store.live can.may.0.only can.may.0.empty can.sound.live))

-- ---- a fresh wire
pub did_fresh : (f g : Facts) (r q : ℕ) → Can f r (Fresh q ∷ []) → g.tables ≡ after_act r (Fresh q) f.tables → Beside f g []
    → g.store.live ≡ f.store.live ++ far_made f.tables r ∷ [] → Did f r (Fresh q ∷ []) g
did_fresh f g r q can tables beside live =
    let t = f.tables in
    let w = far_made t r in
    let u = with_part t r (with_one_counted (t.parts r)) in
    let ws = f.store.live in
    let more : length g.store.live ≡ length ws + 1 = ap length live ∙ length_push ws w in
    let placed = live_more u (slot_changed u r q (Some w)) w (InSlot r q) ws (slot_comes u r q w can.may.0.empty) (live_beside t u.parts t.held t.lanes ws can.sound.live) in
    let capacity = beside.capacity in
    let wide = can.may.0.room in
    did f g r (Fresh q) can tables beside (subst (λ xs. AreLive xs (after_act r (Fresh q) t)) (sym live) placed)
    (omega arith) (omega arith) refl refl (omega arith)

-- ---- a pair
pub may_pair : (f : Facts) (r to : ℕ) → Can f r (Twin to ∷ []) → MayGrow f.store → MayApply (Pair (near_made f.tables r) (far_made f.tables r)) f.store
may_pair f r to can grow =
    let may = can.may.0 in
    let room = may.room in
    let wide = can.sound.room in (
      (λ h. may.near_absent ((can.sound.live (near_made f.tables r)).0 h)),
      (λ h. may.far_absent ((can.sound.live (far_made f.tables r)).0 h)),
      (λ e. let n : true ≡ false = ap (λ (w : Wire). w.near) e in cc),
      omega arith,
      grow,
    )

pub did_twin : (f g : Facts) (r to : ℕ) → Can f r (Twin to ∷ []) → g.tables ≡ after_act r (Twin to) f.tables
    → Beside f g (Pair (near_made f.tables r) (far_made f.tables r) ∷ [])
    → g.store.live ≡ f.store.live ++ near_made f.tables r ∷ far_made f.tables r ∷ [] → Did f r (Twin to ∷ []) g
did_twin f g r to can tables beside live =
    let t = f.tables in
    let e = near_made t r in
    let w = far_made t r in
    let u = record t { parts = with_at t.parts r (with_one_counted (t.parts r)); held = more_at (more_at t.held r) to } in
    let ws = f.store.live in
    let more : length g.store.live ≡ length ws + 2 = ap length live ∙ length-append ws (e ∷ w ∷ []) in
    let near = live_more u (near_more u r e) e (NearOf r) ws (near_comes u r e) (live_beside t u.parts u.held t.lanes ws can.sound.live) in
    let wide = can.may.0.room in
    let both = live_more (near_more u r e) (far_more (near_more u r e) to w) w (FarOf to) (ws ++ e ∷ []) (far_comes (near_more u r e) to w) near in
    let capacity = beside.capacity in
    did f g r (Twin to) can tables beside (subst (λ xs. AreLive xs (after_act r (Twin to) t)) (append_assoc ws (e ∷ []) (w ∷ []) ∙ sym live) both)
    (omega arith) (omega arith) refl refl (omega arith)

-- ---- a letter that moves no wire
live_kept : (r : ℕ) (l : Letter) (t : Tables) (ws : List Wire) → MayLetter r l t → live_after l ws ≡ ws
live_kept r (Phase k w) t ws h = refl
live_kept r (Flip w) t ws h = refl
live_kept r (Had w) t ws h = refl
live_kept r (Cx c v) t ws h = refl
live_kept r (Cz c v) t ws h = refl
live_kept r (Pair a b) t ws h = absurd h
live_kept r (Keep w m) t ws h = refl
live_kept r (Take w m) t ws h = absurd h
live_kept r (Rename a b) t ws h = absurd h

own_lives : (f : Facts) (r : ℕ) (w : Wire) → AreSound f → IsOwn f.tables r w → Contains f.store.live w
own_lives f r w sound h = (sound.live w).1 (h.0, h.1)

pub may_apply : (f : Facts) (r : ℕ) (l : Letter) → AreSound f → MayGrowBy (Apply l) f.store → MayLetter r l f.tables → MayApply l f.store
may_apply f r (Phase k w) sound grow h = (h.0, own_lives f r w sound h.1)
may_apply f r (Flip w) sound grow h = own_lives f r w sound h
may_apply f r (Had w) sound grow h = (own_lives f r w sound h, grow refl)
may_apply f r (Cx c v) sound grow h = (own_lives f r c sound h.first, own_lives f r v sound h.second, h.differ)
may_apply f r (Cz c v) sound grow h = (own_lives f r c sound h.first, own_lives f r v sound h.second, h.differ)
may_apply f r (Pair a b) sound grow h = absurd h
may_apply f r (Keep w m) sound grow h = own_lives f r w sound h
may_apply f r (Take w m) sound grow h = absurd h
may_apply f r (Rename a b) sound grow h = absurd h

pub did_letter : (f g : Facts) (r : ℕ) (l : Letter) → Can f r (Apply l ∷ []) → g.tables ≡ f.tables → Beside f g (l ∷ [])
    → g.store.live ≡ live_after l f.store.live → Did f r (Apply l ∷ []) g
did_letter f g r l can tables beside live =
    let same : g.store.live ≡ f.store.live = live ∙ live_kept r l f.tables f.store.live can.may.0.0 in
    let size : length g.store.live ≡ length f.store.live = ap length same in
    let few = can.sound.few in
    let capacity = beside.capacity in
    did f g r (Apply l) can tables beside (subst (λ xs. AreLive xs f.tables) (sym same) can.sound.live)
    (omega arith) (omega arith) refl refl (omega arith)

-- ---- a near half that is measured away
pub near_lives : (f : Facts) (r : ℕ) (m : Bool) → Can f r (NearOut m ∷ []) → Contains f.store.live (near_last f.tables r)
near_lives f r m can = (can.sound.live (near_last f.tables r)).1 (NearOf r, can.may.0.only.here)

pub did_near_out : (f g : Facts) (r : ℕ) (m : Bool) → Can f r (NearOut m ∷ []) → IsSound f.store
    → g.tables ≡ after_act r (NearOut m) f.tables → Beside f g (Take (near_last f.tables r) m ∷ [])
    → g.store.live ≡ without_wire f.store.live (near_last f.tables r) → Did f r (NearOut m ∷ []) g
did_near_out f g r m can store tables beside live =
    let t = f.tables in
    let w = near_last t r in
    let ws = f.store.live in
    let fewer : length (without_wire ws w) + 1 ≡ length ws = length-without_wire ws w store.distinct (near_lives f r m can) in
    let size : length g.store.live ≡ length (without_wire ws w) = ap length live in
    let few = can.sound.few in
    let capacity = beside.capacity in
    let less = live_less t (near_less t r w) w ws (near_leaves t r w can.may.0.only) can.sound.live in
    let gone = live_beside (near_less t r w) t.parts (less_at t.held r) t.lanes (without_wire ws w) less in
    did f g r (NearOut m) can tables beside (subst (λ xs. AreLive xs (after_act r (NearOut m) t)) (sym live) gone)
    (omega arith) (omega arith) refl refl (omega arith)

-- ---- a wire that is measured away, by whichever act
module _ (f g : Facts) (r : ℕ) (w : Wire) (m : Bool) (act : Act) (can : Can f r (act ∷ [])) (store : IsSound f.store) (here : IsPlaced f.tables w) where
  taken_lives : Contains f.store.live w
  taken_lives = (can.sound.live w).1 here

  did_take : g.tables ≡ after_act r act f.tables → Beside f g (Take w m ∷ []) → acts_letters r (act ∷ []) f.tables ≡ Take w m ∷ []
      → limits_after act (limits_of f) ≡ record (limits_of f) { wires = room_of f + 1; letters = (2 ^ 32 - f.letters) - 1 }
      → g.store.live ≡ without_wire f.store.live w → AreLive (without_wire f.store.live w) (after_act r act f.tables) → Did f r (act ∷ []) g
  did_take tables beside letters left live gone =
      let ws = f.store.live in
      let fewer : length (without_wire ws w) + 1 ≡ length ws = length-without_wire ws w store.distinct taken_lives in
      let size : length g.store.live ≡ length (without_wire ws w) = ap length live in
      let few = can.sound.few in
      let capacity = beside.capacity in
      let room : room_of g ≡ room_of f + 1 = omega arith in
      did f g r act can tables (subst (Beside f g) (sym letters) beside) (subst (λ xs. AreLive xs (after_act r act f.tables)) (sym live) gone)
      (omega arith) (room ∙ sym (ap (λ (s : Limits). s.wires) left)) (ap (λ (s : Limits). s.ranks) left) (ap (λ (s : Limits). s.parcels) left)
      (ap (λ (s : Limits). s.letters) left ∙ rw letters (omega arith))

pub did_far_out : (f g : Facts) (r : ℕ) (w : Wire) (m : Bool) → Can f r (FarOut w m ∷ []) → IsSound f.store
    → g.tables ≡ after_act r (FarOut w m) f.tables → Beside f g (Take w m ∷ [])
    → g.store.live ≡ without_wire f.store.live w → Did f r (FarOut w m ∷ []) g
did_far_out f g r w m can store tables beside live =
    let t = f.tables in
    let ws = f.store.live in
    let less = live_less t (far_less t r w) w ws (far_leaves t r w can.may.0.only) can.sound.live in
    did_take f g r w m (FarOut w m) can store (FarOf r, can.may.0.only.here) tables beside refl refl live
    (live_beside (far_less t r w) t.parts (less_at t.held r) t.lanes (without_wire ws w) less)

-- the wire of a slot that may be emptied is the one that is read there
pub slot_wire : (f : Facts) (r q : ℕ) (m : Bool) (w : Wire) → Can f r (SlotOut q m ∷ []) → f.tables.slots r q ≡ Some w → IsOnlyAt f.tables w (InSlot r q)
slot_wire f r q m w can is =
    let only = can.may.0.only in
    subst (λ v. IsOnlyAt f.tables v (InSlot r q)) (same_Some can.may.0.wire w (sym only.here ∙ is)) only

pub did_slot_out : (f g : Facts) (r q : ℕ) (m : Bool) (w : Wire) → Can f r (SlotOut q m ∷ []) → f.tables.slots r q ≡ Some w → IsSound f.store
    → g.tables ≡ after_act r (SlotOut q m) f.tables → Beside f g (Take w m ∷ [])
    → g.store.live ≡ without_wire f.store.live w → Did f r (SlotOut q m ∷ []) g
did_slot_out f g r q m w can is store tables beside live =
    let letters : acts_letters r (SlotOut q m ∷ []) f.tables ≡ Take w m ∷ [] = ap (λ (o : Option Wire). Take (unwrap_or o no_wire) m ∷ []) is in
    let t = f.tables in
    let leaves = slot_leaves t r q w (slot_wire f r q m w can is) in
    did_take f g r w m (SlotOut q m) can store (InSlot r q, is) tables beside letters refl live
    (live_less t (slot_changed t r q None) w f.store.live leaves can.sound.live)
