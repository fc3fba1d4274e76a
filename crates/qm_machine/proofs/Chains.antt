-- Acts after acts on a body, and the move to the next event after them
use Rattle.std.proofs.Common.{◌≡◌, ◌↔◌, ℕ, ◌+◌, cond, List, [], ◌∷◌, ◌++◌, Some, length, count_by, refl, sym, ap, subst, ◌∙◌, append_assoc, add_assoc}
use Rattle.std.proofs.lemmas.List.{length-append}
use Rattle.std.proofs.lemmas.List.Sums.{sum_by-append}
use Rattle.qm_denot.specs.declared.Wire.{Wire}
use Rattle.qm_denot.specs.declared.Letter.{Letter}
use Rattle.qm_denot.specs.Circuits.{Circuit}
use Rattle.qm_denot.specs.Stores.{StandsFor}
use Rattle.qm_instr.specs.Programs.{Programs}
use Rattle.qm_proto.specs.Model.State.{Part, Tables, with_part}
use Rattle.qm_proto.specs.declared.Act.{Act}
use Rattle.qm_proto.specs.declared.Act.TheVariants.{Fresh, Twin, Apply, SlotOut, NearOut, FarOut}
use Rattle.qm_proto.specs.Model.Acts.{after_acts, acts_letters, list_of}
use Rattle.qm_proto.specs.declared.Row.{Row}
use Rattle.qm_proto.specs.Model.Rows.{current}
use Rattle.qm_proto.specs.Model.Runs.{events_at, part_after_event, row_next, row_tables, row_letters}
use Rattle.qm_proto.specs.Model.Places.{Place, InSlot, NearOf, FarOf, IsAt}
use Rattle.qm_proto.specs.May.{Limits, limits_after, limits_after_all}
use Rattle.qm_proto.proofs.ActLists.{after_acts-append, acts_letters-append, limits_after_all-append}
use Rattle.qm_machine.specs.Facts.{Facts, is_pauli, limits_of, AreSound, Did, with_rank_moved}
use Rattle.qm_machine.specs.Tries.{Advanced}

-- ---- the ranks and the room of the lanes stay the same
ranks_after : (act : Act) (s : Limits) → (limits_after act s).ranks ≡ s.ranks
ranks_after (Fresh q) s = refl
ranks_after (Twin to) s = refl
ranks_after (Apply l) s = refl
ranks_after (SlotOut q m) s = refl
ranks_after (NearOut m) s = refl
ranks_after (FarOut f m) s = refl
ranks_after _ s = refl

parcels_after : (act : Act) (s : Limits) → (limits_after act s).parcels ≡ s.parcels
parcels_after (Fresh q) s = refl
parcels_after (Twin to) s = refl
parcels_after (Apply l) s = refl
parcels_after (SlotOut q m) s = refl
parcels_after (NearOut m) s = refl
parcels_after (FarOut f m) s = refl
parcels_after _ s = refl

ranks_after_all : (acts : List Act) (s : Limits) → (limits_after_all acts s).ranks ≡ s.ranks
ranks_after_all [] s = refl
ranks_after_all (a ∷ acts) s = ranks_after_all acts (limits_after a s) ∙ ranks_after a s

parcels_after_all : (acts : List Act) (s : Limits) → (limits_after_all acts s).parcels ≡ s.parcels
parcels_after_all [] s = refl
parcels_after_all (a ∷ acts) s = parcels_after_all acts (limits_after a s) ∙ parcels_after a s

pub did_ranks : (f g : Facts) (r : ℕ) (acts : List Act) → Did f r acts g → g.ranks ≡ f.ranks
did_ranks f g r acts d = ap (λ (s : Limits). s.ranks) d.limits ∙ ranks_after_all acts (limits_of f)

did_parcels : (f g : Facts) (r : ℕ) (acts : List Act) → Did f r acts g → g.parcels ≡ f.parcels
did_parcels f g r acts d = ap (λ (s : Limits). s.parcels) d.limits ∙ parcels_after_all acts (limits_of f)

-- ---- some acts, and others after them
module _ (f g h : Facts) (r : ℕ) (xs ys : List Act) (d : Did f r xs g) (e : Did g r ys h) where
  letters_both : acts_letters r (xs ++ ys) f.tables ≡ acts_letters r xs f.tables ++ acts_letters r ys g.tables
  letters_both = acts_letters-append r xs ys f.tables ∙ ap (λ t. acts_letters r xs f.tables ++ acts_letters r ys t) (sym d.tables)

  stands_both : (c : Circuit) → StandsFor f.store c → StandsFor h.store (c ++ acts_letters r (xs ++ ys) f.tables)
  stands_both c s =
      let first = acts_letters r xs f.tables in
      let second = acts_letters r ys g.tables in
      subst (StandsFor h.store) (append_assoc c first second ∙ ap (λ ls. c ++ ls) (sym letters_both)) (e.stands (c ++ first) (d.stands c s))

  -- a number that counts letters, counted over both
  counted_both : (before between after : ℕ) (count : List Letter → ℕ) → ((us vs : List Letter) → count (us ++ vs) ≡ count us + count vs)
      → between ≡ before + count (acts_letters r xs f.tables) → after ≡ between + count (acts_letters r ys g.tables)
      → after ≡ before + count (acts_letters r (xs ++ ys) f.tables)
  counted_both before between after count adds first second =
      let a = count (acts_letters r xs f.tables) in
      let b = count (acts_letters r ys g.tables) in
      second ∙ ap (λ i. i + b) first ∙ add_assoc before a b
      ∙ ap (λ i. before + i) (sym (adds (acts_letters r xs f.tables) (acts_letters r ys g.tables)) ∙ ap count (sym letters_both))

  pub did_both : Did f r (xs ++ ys) h
  did_both =
      record {
        tables = e.tables ∙ ap (after_acts r ys) d.tables ∙ sym (after_acts-append r xs ys f.tables);
        stands = stands_both;
        sound = e.sound;
        limits = e.limits ∙ ap (limits_after_all ys) d.limits ∙ sym (limits_after_all-append xs ys (limits_of f));
        capacity = e.capacity ∙ d.capacity;
        sizes = e.sizes ∙ d.sizes;
        letters = counted_both f.letters g.letters h.letters length length-append d.letters e.letters;
        paulis = counted_both f.paulis g.paulis h.paulis (count_by is_pauli) (sum_by-append (λ l. cond (is_pauli l) 1 0)) d.paulis e.paulis;
      }

-- ---- the move to the next event
at_with_part : (t : Tables) (r : ℕ) (x : Part) (w : Wire) (p : Place) → IsAt (with_part t r x) w p ↔ IsAt t w p
at_with_part t r x w (InSlot k q) = (λ h. h, λ h. h)
at_with_part t r x w (NearOf k) = (λ h. h, λ h. h)
at_with_part t r x w (FarOf k) = (λ h. h, λ h. h)

-- the place of each wire stays the same
moved_sound : (f : Facts) (r n : ℕ) → AreSound f → AreSound (with_rank_moved f r n)
moved_sound f r n sound =
    record {
      live = λ w.
          let x = part_after_event n (f.tables.parts r) in (
            λ here. let (p, at) = (sound.live w).0 here in (p, (at_with_part f.tables r x w p).1 at),
            λ (p, at). (sound.live w).1 (p, (at_with_part f.tables r x w p).0 at),
          );
      placing = sound.placing;
      slotted = sound.slotted;
      few = sound.few;
      room = sound.room;
      fewer = sound.fewer;
    }

-- the acts of a rank's next event and then the move are that event
pub advanced : (p : Programs) (f g h : Facts) (r n : ℕ) (w : Row) → row_next p f.tables r ≡ Some w → events_at (current p f.tables r) ≡ n
    → Did f r (list_of w.acts) g → h ≡ with_rank_moved g r n → Advanced p f r h
advanced p f g h r n w is count d e =
    let P : Facts → Type 0 = Advanced p f r in
    subst P (sym e) (
    record {
      tables =
          ap (λ t. with_part t r (part_after_event n (t.parts r))) d.tables
          ∙ ap (λ k. row_tables k r (Some w) f.tables) (sym count)
          ∙ ap (λ o. row_tables (events_at (current p f.tables r)) r o f.tables) (sym is);
      stands = λ c s. rw is (d.stands c s);
      sound = moved_sound g r n d.sound;
      capacity = d.capacity;
      sizes = d.sizes;
      parcels = did_parcels f g r (list_of w.acts) d;
      ranks = did_ranks f g r (list_of w.acts) d;
      letters = d.letters ∙ ap (λ o. f.letters + length (row_letters r o f.tables)) (sym is);
      paulis = d.paulis ∙ ap (λ o. f.paulis + count_by is_pauli (row_letters r o f.tables)) (sym is);
    })
