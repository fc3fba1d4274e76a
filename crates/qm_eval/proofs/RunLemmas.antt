-- The letters of an ideal run find their operands: each wire that has a place is live where it is named
use Rattle.std.proofs.Common.{◌≡◌, ℕ, ◌<◌, Bool, true, false, not, ◌&&◌, inl, inr, List, [], ◌∷◌, ◌++◌, length, fold, refl, sym, subst, ◌∙◌, arith}
use Rattle.std.proofs.lemmas.Bool.{true_from_ne_false}
use Rattle.std.proofs.lemmas.List.Sums.{fold-append}
use Rattle.qm_denot.specs.declared.Wire.{Wire}
use Rattle.qm_denot.specs.declared.Letter.{Letter}
use Rattle.qm_denot.specs.WireLists.{lacks}
use Rattle.qm_denot.specs.Wires.{is_wire}
use Rattle.qm_denot.specs.Weights.{operands, also}
use Rattle.qm_denot.proofs.OperandFacts.{Each, EachOperand}
use Rattle.qm_denot.proofs.Sets.{same_from_is}
use Rattle.qm_instr.specs.Programs.{Programs, IsInRange}
use Rattle.qm_check.specs.Checks.{IsReady}
use Rattle.qm_proto.specs.Model.Ideal.{IdealTables, IdealState, ideal_enabled, ideal_wire_made, ideal_next, ideal_at_start, ideal_replay, IsIdealFrom, IsIdealRun}
use Rattle.qm_confluence.proofs.Confluence.ByView.{letters_by, acts_by, view}
use Rattle.qm_confluence.proofs.Confluence.Diamond.{next_is}
use Rattle.qm_confluence.proofs.Confluence.Effects.{stepped}
use Rattle.qm_confluence.proofs.Confluence.Helpers.{next_where_able}
use Rattle.qm_confluence.proofs.Confluence.NamedWires.{IsWellState, state_next}
use Rattle.qm_confluence.proofs.Confluence.ProperLetters.{letters_proper}
use Rattle.qm_confluence.proofs.Confluence.WellIdeal.{well_start}
use Rattle.qm_eval.specs.Live.{live_past, live_through}
use Rattle.qm_eval.proofs.ListLemmas.{lacks-also}
use Rattle.qm_eval.proofs.LiveLemmas.{Tracks, tracks_weaker, AllFollow, named_through, follow-append, pass}
use Rattle.qm_eval.proofs.StepLemmas.{IsSomewhere, IsKnown, letters_come, operands_known, known_after}
use Rattle.qm_confluence.specs.Counted.{IsCounted}

-- ---- what is named after letters was named before, or is an operand of theirs
module _ (P : Wire → Type 0) where
  in_list : (ws : List Wire) (w : Wire) → Each P ws → lacks ws w ≡ false → P w
  in_list [] w h e = cc
  in_list (v ∷ ws) w h e = by_bool (in_list ws w h.1) (is_wire v w) refl e
    where
      by_bool : (lacks ws w ≡ false → P w) → (b : Bool) → is_wire v w ≡ b → (not b && lacks ws w) ≡ false → P w
      by_bool rest true same e = subst P (same_from_is v w same) h.0
      by_bool rest false same e = rest e

  named_in : (ls : List Letter) (named : List Wire) (w : Wire) → EachOperand P ls → (lacks named w ≡ false → P w) → lacks (named_through named ls) w ≡ false → P w
  named_in [] named w h before e = before e
  named_in (l ∷ ls) named w h before e =
      named_in ls (also named (operands l)) w h.1
      (λ f. by_bool (lacks named w) (lacks (operands l) w) refl refl (sym (lacks-also (operands l) named w) ∙ f)) e
    where
      by_bool : (a b : Bool) → lacks named w ≡ a → lacks (operands l) w ≡ b → (a && b) ≡ false → P w
      by_bool false b x y f = before x
      by_bool true b x y f = in_list (operands l) w h.0 (y ∙ f)

-- the wire that a rank counts next is not counted yet
uncounted : (t : IdealTables) (r : ℕ) → ¬ IsCounted t (ideal_wire_made t r)
uncounted t r c = let below : (t.parts r).made < (t.parts r).made = c.below in omega (arith, below)

module _ (p : Programs) (ready : IsReady p) (ranges : IsInRange p) where
  -- the circuit's letters find their operands, and the wires that have places are tracked
  pub record IsTracked (s : IdealState) : Type 0 where
    pub state : IsWellState p ready ranges s
    pub follow : AllFollow [] [] s.circuit
    pub tracks : Tracks (live_through [] s.circuit) (named_through [] s.circuit) (IsSomewhere s.tables)

  module _ (s : IdealState) (h : IsTracked s) (r : ℕ) where
    abbrev live : List Wire
    live = live_through [] s.circuit

    abbrev named : List Wire
    named = named_through [] s.circuit

    made_unnamed : lacks named (ideal_wire_made s.tables r) ≡ true
    made_unnamed =
        true_from_ne_false (lacks named (ideal_wire_made s.tables r))
        (λ e. uncounted s.tables r (named_in (IsCounted s.tables) s.circuit [] (ideal_wire_made s.tables r) h.state.named (λ f. absurd (let n : ⊥ = cc in n)) e))

    made_unlive : lacks live (ideal_wire_made s.tables r) ≡ true
    made_unlive =
        true_from_ne_false (lacks live (ideal_wire_made s.tables r))
        (λ e. let n = h.tracks.within (ideal_wire_made s.tables r) e in let m = made_unnamed in cc)

    tracks_known : Tracks live named (IsKnown s.tables r)
    tracks_known = record {
      known = λ w k. elim k [
        | inl z ↦ h.tracks.known w z
        | inr e ↦ subst (λ v. lacks named v ≡ lacks live v) (sym e) (made_unnamed ∙ sym made_unlive)
      ];
      within = h.tracks.within;
    }

  tracked_next : (s : IdealState) (r : ℕ) → IsTracked s → r < length p.ranks → ideal_enabled p s.tables r ≡ true → IsTracked (ideal_next p s r)
  tracked_next s r h known able =
      let n = next_where_able p s.tables r able in
      let i = n.0 in
      let v = view p s.tables r i in
      let ls = letters_by r i v in
      let t = s.tables in
      let well = h.state.tables in
      let u = stepped r (acts_by r i v) t in
      let live = live_through [] s.circuit in
      let named = named_through [] s.circuit in
      let passes = pass ls live named (IsKnown t r) (tracks_known s h r) (operands_known p ready ranges t well r known i n.1)
      (letters_proper p ready ranges t well r known i n.1) (letters_come r i v live (made_unlive s h r)) in
      let tracks : Tracks (live_through live ls) (named_through named ls) (IsSomewhere u) =
      tracks_weaker (live_through live ls) (named_through named ls) _ (IsSomewhere u) (known_after p ready ranges t well r known i n.1) passes.tracks in
      let lives : live_through [] (s.circuit ++ ls) ≡ live_through live ls = fold-append live_past [] s.circuit ls in
      let names : named_through [] (s.circuit ++ ls) ≡ named_through named ls = fold-append (λ ws l. also ws (operands l)) [] s.circuit ls in
      let is = next_is p s r i n.1.read in
      subst IsTracked (sym is) (record {
        state = subst (IsWellState p ready ranges) is (state_next p ready ranges s r h.state known able);
        follow = follow-append s.circuit ls [] [] h.follow passes.follow;
        tracks = subst (λ ws. Tracks ws (named_through [] (s.circuit ++ ls)) (IsSomewhere u)) (sym lives)
            (subst (λ ws. Tracks (live_through live ls) ws (IsSomewhere u)) (sym names) tracks);
      })

  tracked_after : (rs : List ℕ) (s : IdealState) → IsTracked s → IsIdealFrom p s rs → IsTracked (fold (ideal_next p) s rs)
  tracked_after [] s h run = h
  tracked_after (r ∷ rs) s h run = tracked_after rs (ideal_next p s r) (tracked_next s r h run.0 run.1) run.2

  -- after each ideal run
  pub tracked : (rs : List ℕ) → IsIdealRun p rs → IsTracked (ideal_replay p rs)
  unfolding ideal_replay IsIdealRun
  tracked rs run =
      tracked_after rs (ideal_at_start p)
      (record {
        state = record { tables = well_start p; proper = tt; named = tt };
        follow = tt;
        tracks = record { known = λ w z. refl; within = λ w e. absurd (let n : ⊥ = cc in n) };
      }) run
