-- The capacity of the programs has room for the wires that an event makes
use Rattle.std.proofs.Common.{◌≡◌, ◌≢◌, ℕ, zero, suc, ◌+◌, ◌<◌, ◌≤◌, true, false, List, [], ◌∷◌, length, Contains, Some, None, sym, ap, subst, ◌∙◌, arith}
use Rattle.qm_denot.specs.declared.Wire.{Wire}
use Rattle.qm_denot.specs.Wires.{has, put}
use Rattle.qm_denot.specs.WireLists.{Lacks, Distinct}
use Rattle.qm_denot.proofs.LiveWires.{Lacks-from_absent}
use Rattle.qm_instr.specs.declared.Lane.{Lane}
use Rattle.qm_instr.specs.Counts.{events_of}
use Rattle.qm_instr.specs.Programs.{Programs, IsInRange}
use Rattle.qm_check.specs.Checks.{IsReady, capacity_of}
use Rattle.qm_proto.specs.declared.Act.{Act}
use Rattle.qm_proto.specs.declared.Act.TheVariants.{Fresh, Twin, Posts}
use Rattle.qm_denot.specs.declared.Parcel.{Parcel}
use Rattle.qm_proto.specs.Model.Acts.{list_of}
use Rattle.qm_proto.specs.Model.Places.{Place, InSlot, NearOf, FarOf, IsAt, IsPlaced}
use Rattle.qm_proto.specs.Model.Runs.{enabled, next_tables}
use Rattle.qm_proto.specs.Model.State.{Tables, far_made, near_made}
use Rattle.qm_proto.proofs.Changes.{by_slot, with_at-here, with_slot-here}
use Rattle.qm_proto.proofs.TidyActs.{AllKeepTidy, far_made_absent, near_made_absent}
use Rattle.qm_proto.proofs.TidyChanges.{stays_more}
use Rattle.qm_proto.proofs.TidyPlaces.{has_new}
use Rattle.qm_safety.specs.Tables.Well.{IsWell}
use Rattle.qm_safety.proofs.Tables.Mays.{asks}
use Rattle.qm_safety.proofs.Tables.NextEvents.{IsLineNext, event_done, line_is}
use Rattle.qm_safety.proofs.Tables.Rooms.{few_places}
use Rattle.qm_safety.proofs.Tables.Standing.{well_next, well_roomy, step_here}
use Rattle.qm_safety.proofs.Tables.TidyShapes.{keeps_tidy}

-- ---- wires that have places keep them where more come
module _ (t : Tables) (r n : ℕ) (v : Wire) where
  stays_where_fresh : (q : ℕ) → t.slots r q ≡ None → (o : Place) → IsAt t v o → IsAt (event_done n r (Fresh q ∷ []) t) v o
  stays_where_fresh q empty (InSlot k j) h =
      by_slot (λ x. x ≡ Some v) t.slots r q (Some (far_made t r)) k j
      (λ s. absurd (let gone : t.slots k j ≡ None = ap (λ i. t.slots i j) s.rank ∙ ap (t.slots r) s.slot ∙ empty in cc)) (λ _. h)
  stays_where_fresh q empty (NearOf k) h = h
  stays_where_fresh q empty (FarOf k) h = h

  stays_where_twin : (to : ℕ) (a : Lane) (y : Parcel) (o : Place) → IsAt t v o → IsAt (event_done n r (Twin to ∷ Posts a y ∷ []) t) v o
  stays_where_twin to a y (InSlot k j) h = h
  stays_where_twin to a y (NearOf k) h = stays_more t.near r (near_made t r) v k h
  stays_where_twin to a y (FarOf k) h = stays_more t.far to (far_made t r) v k h

-- a wire with a place, before others that have
placed_first : (u : Tables) (ws : List Wire) (w : Wire) → IsPlaced u w → ((v : Wire) → Contains ws v → IsPlaced u v) → (v : Wire) → Contains (w ∷ ws) v → IsPlaced u v
placed_first u ws w here rest v (zero, below, is) = subst (IsPlaced u) is here
placed_first u ws w here rest v (suc k, below, is) = rest v (k, omega arith, is)

module _ (p : Programs) (t : Tables) (r : ℕ) (ready : IsReady p) (ranges : IsInRange p) (well : IsWell p t) (known : r < length p.ranks) (able : enabled p t r ≡ true)
    (live : List Wire) (distinct : Distinct live) (placed : (w : Wire) → Contains live w → IsPlaced t w) where
  well_after : (u : Tables) → next_tables p t r ≡ u → IsWell p u
  well_after u same = subst (IsWell p) same (well_next p t r ready ranges well known able)

  lacks_live : (w : Wire) → ¬ IsPlaced t w → Lacks live w
  lacks_live w absent = Lacks-from_absent live w (λ c. absent (placed w c))

  -- distinct wires that have places after the event are few
  few_after : (u : Tables) → next_tables p t r ≡ u → (ws : List Wire) → Distinct ws → ((w : Wire) → Contains ws w → IsPlaced u w) → length ws ≤ capacity_of p
  few_after u same = few_places p u (well_roomy p u ranges (well_after u same)) (well_after u same).counted

  room_for : (n : ℕ) (acts : List Act) → next_tables p t r ≡ event_done n r acts t → AllKeepTidy r acts t → asks acts + length live ≤ capacity_of p
  room_for n (Fresh q ∷ []) same keeps =
      let u = event_done n r (Fresh q ∷ []) t in
      let w = far_made t r in
      let few : length (w ∷ live) ≤ capacity_of p =
      few_after u same (w ∷ live) (lacks_live w (far_made_absent t well.tidy r), distinct)
      (placed_first u live w (InSlot r q, with_slot-here t.slots r q (Some w))
      (λ v c. let o = placed v c in (o.0, stays_where_fresh t r n v q keeps.0 o.0 o.1))) in
      omega (arith, few)
  room_for n (Twin to ∷ Posts a y ∷ []) same keeps =
      let e = near_made t r in
      let w = far_made t r in
      let u = event_done n r (Twin to ∷ Posts a y ∷ []) t in
      let apart : w ≢ e = λ same. let k : false ≡ true = ap (λ (v : Wire). v.near) same in cc in
      let near : IsPlaced u e = (NearOf r, subst (λ ws. has ws e ≡ true) (sym (with_at-here t.near r (put (t.near r) e true))) (has_new (t.near r) e)) in
      let far : IsPlaced u w = (FarOf to, subst (λ ws. has ws w ≡ true) (sym (with_at-here t.far to (put (t.far to) w true))) (has_new (t.far to) w)) in
      let few : length (e ∷ w ∷ live) ≤ capacity_of p =
      few_after u same (e ∷ w ∷ live)
      ((apart, lacks_live e (near_made_absent t well.tidy r)), (lacks_live w (far_made_absent t well.tidy r), distinct))
      (placed_first u (w ∷ live) e near (placed_first u live w far (λ v c. let o = placed v c in (o.0, stays_where_twin t r n v to a y o.0 o.1)))) in
      omega (arith, few)
  room_for n _ same keeps = omega (arith, few_places p t (well_roomy p t ranges well) well.counted live distinct placed)

  -- the wires that a line makes, and those that are live before it
  pub room_for_line : (here : IsLineNext p t r) → asks (list_of here.w.acts) + length live ≤ capacity_of p
  room_for_line here =
      room_for (events_of here.i) (list_of here.w.acts) (line_is p t r here)
      (keeps_tidy p t r well.tidy (well.ranks r) well.lanes (well.held r) (step_here p t r ready ranges well known) here.i here.s here.w here.next here.line)
