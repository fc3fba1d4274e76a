-- A test of an event says of the ideal circuit what it says of the letters done, where it looks at no wire of a debt
use Rattle.std.proofs.Common.{◌≡◌, ◌≢◌, ℕ, Bool, true, false, cond, ◌⊎◌, ◌↔◌, inl, inr, List, [], ◌∷◌, refl, sym, subst}
use Rattle.qm_denot.specs.declared.Wire.{Wire}
use Rattle.qm_denot.specs.WireLists.{Lacks}
use Rattle.qm_denot.specs.Circuits.{Circuit, amp}
use Rattle.qm_denot.specs.Weights.{operands}
use Rattle.qm_denot.specs.Tags.{Tagged, letters_of, letters_with}
use Rattle.qm_denot.proofs.Agreement.{Apart, LettersApart}
use Rattle.qm_denot.proofs.Inverses.{AllUnitary}
use Rattle.qm_denot.proofs.Support.{Sector, LooksAt, IsZeroOn}
use Rattle.qm_denot.proofs.Transfers.{IsSomeOn, IsZeroOn-transfer, IsSomeOn-transfer}
use Rattle.qm_denot.proofs.Partings.{IsAmong, IsNamedBy}
use Rattle.qm_instr.specs.Programs.{Programs}
use Rattle.qm_proto.specs.Model.State.{Tables}
use Rattle.qm_simulation.specs.Following.Debts.{Message, is_message, Debt, Holder, Owes}
use Rattle.qm_simulation.specs.Following.Follows.{HasHolder}
use Rattle.qm_simulation.proofs.Following.MessageTests.{message_itself}
use Rattle.qm_simulation.specs.Following.Follows.{Follows}

-- ---- what holds of the letters of each message holds of all letters
all_unitary : (ds : Tagged Message) → ((k : Message) → AllUnitary (letters_with is_message k ds)) → AllUnitary (letters_of ds)
all_unitary [] each = tt
all_unitary (d ∷ ds) each = (
  (let i = message_itself d.0 in rw i at (each d.0)).0,
  all_unitary ds (λ k. rest (is_message k d.0) k (each k)),
)
  where
    rest : (b : Bool) (k : Message) → AllUnitary (cond b (d.1 ∷ letters_with is_message k ds) (letters_with is_message k ds)) → AllUnitary (letters_with is_message k ds)
    rest true k u = u.1
    rest false k u = u

-- letters are off a list of wires where none of these is named
not_among : (ws : List Wire) (v : Wire) → ((w : Wire) → IsAmong ws w → v ≢ w) → Lacks ws v
not_among [] v off = tt
not_among (w ∷ ws) v off = ((λ e. off w (inl refl) (sym e)), not_among ws v (λ u h. off u (inr h)))

operands_off : (vs ws : List Wire) → ((w : Wire) → IsAmong ws w → IsAmong vs w → ⊥) → Apart vs ws
operands_off [] ws off = tt
operands_off (v ∷ vs) ws off = (
  not_among ws v (λ w h e. off w h (inl e)),
  operands_off vs ws (λ w h n. off w h (inr n)),
)

letters_off : (ds : Tagged Message) (ws : List Wire) → ((w : Wire) → IsAmong ws w → (k : Message) → IsNamedBy ds w k → ⊥) → LettersApart (letters_of ds) ws
letters_off [] ws off = tt
letters_off (d ∷ ds) ws off = (
  operands_off (operands d.1) ws (λ w h n. off w h d.0 (inl (refl, n))),
  letters_off ds ws (λ w h k n. off w h k (inr n)),
)

module _ (p : Programs) (t : Tables) (n : ℕ) (g i : Circuit) (ds : Tagged Message) (before : Follows p t n g i ds)
    (unitary : (h : Holder) (d : Debt) → Owes p t h d → AllUnitary d.letters) where
  pub debts_unitary : AllUnitary (letters_of ds)
  debts_unitary = all_unitary ds (λ k. by_known k (before.owed.known k))
    where
      by_known : (k : Message) → (letters_with is_message k ds ≡ []) ⊎ HasHolder p t k → AllUnitary (letters_with is_message k ds)
      by_known k (inl e) = subst AllUnitary (sym e) tt
      by_known k (inr x) =
          subst AllUnitary (sym (subst (λ j. letters_with is_message j ds ≡ x.debt.letters) x.message (before.owed.each x.holder x.debt x.owes))) (unitary x.holder x.debt x.owes)

  module _ (s : Sector) (ws : List Wire) (looks : LooksAt s ws) (off : (w : Wire) → IsAmong ws w → (k : Message) → IsNamedBy ds w k → ⊥) where
    -- the test finds zeros alone of both circuits, or of none
    pub zero_on_both : IsZeroOn s (amp g) ↔ IsZeroOn s (amp i)
    zero_on_both = IsZeroOn-transfer n g i (letters_of ds) before.equal debts_unitary s ws looks (letters_off ds ws off)

    -- and some amplitude that is not zero of both, or of none
    pub some_on_both : IsSomeOn s (amp g) ↔ IsSomeOn s (amp i)
    some_on_both = IsSomeOn-transfer n g i (letters_of ds) before.equal debts_unitary s ws looks (letters_off ds ws off)
