-- The invariant of a run beside its ideal run, and what an event owes so that it is kept
use Rattle.std.proofs.Common.{◌≡◌, ◌≢◌, ℕ, ◌+◌, ◌⊎◌, inl, inr, List, [], ◌++◌}
use Rattle.qm_denot.specs.declared.Wire.{Wire}
use Rattle.qm_denot.specs.declared.Letter.{Letter}
use Rattle.qm_denot.specs.Circuits.{Circuit, IsEqualUpTo}
use Rattle.qm_denot.specs.CircuitFacts.{IsNonzero}
use Rattle.qm_denot.specs.Tags.{Tagged, letters_with}
use Rattle.qm_denot.proofs.Partings.{AreNaming}
use Rattle.qm_instr.specs.Programs.{Programs}
use Rattle.qm_proto.specs.Model.State.{Tables}
use Rattle.qm_proto.specs.Model.Rows.{current}
use Rattle.qm_proto.specs.Model.Tidy.{IsTidy}
use Rattle.qm_simulation.specs.Following.Seen.{tables_seen}
use Rattle.qm_simulation.specs.Following.Debts.{Message, is_message, Debt, Holder, Owes}
use Rattle.qm_simulation.specs.Following.Follows.{HasHolder, AgreeIn, Follows}
use Rattle.qm_confluence.specs.Counted.{NamesCounted}
use Rattle.qm_simulation.proofs.Following.Rewritings.{Entry, letters_in, IsFrame, IsFree, AllInCustody, replaced, owed_next, equal_next}
use Rattle.qm_confluence.proofs.Confluence.IdealWires.{CountsGrow, names_counted_on, names_counted_append}

pub record CanFollow (p : Programs) (t : Tables) (n : ℕ) (g i : Circuit) : Type 0 where
  pub debts : Tagged Message
  pub following : Follows p t n g i debts

module _ (p : Programs) (t : Tables) (n : ℕ) (g i : Circuit) (ds : Tagged Message) (before : Follows p t n g i ds) (k : Message) where
  -- a message that nobody holds owes nothing
  pub owed_by_none : ((h : Holder) (d : Debt) → Owes p t h d → d.message ≢ k) → letters_with is_message k ds ≡ []
  owed_by_none nobody = by_known (before.owed.known k)
    where
      by_known : (letters_with is_message k ds ≡ []) ⊎ HasHolder p t k → letters_with is_message k ds ≡ []
      by_known (inl e) = e
      by_known (inr x) = absurd (nobody x.holder x.debt x.owes x.message)

  -- the letters that a holder owes
  pub owed_by : (h : Holder) (ls : List Letter) → Owes p t h (record { message = k; letters = ls }) → letters_with is_message k ds ≡ ls
  owed_by h ls owes = before.owed.each h (record { message = k; letters = ls }) owes

  -- others owe letters of other messages
  pub owed_by_others : (h : Holder) (ls : List Letter) → Owes p t h (record { message = k; letters = ls })
      → (j : Holder) (d : Debt) → j ≢ h → Owes p t j d → d.message ≢ k
  owed_by_others h ls owes j d ne other e = ne (before.owed.once j h d (record { message = k; letters = ls }) other owes e)

  module _ (u : Tables) (new : Entry) (m : ℕ) (ls ms : List Letter) (tidy : IsTidy t) (custody : AllInCustody p t) where
    pub follow_next : IsFrame p t u k new → ((w : Wire) → AreNaming ls w → IsFree p t k w)
        → IsEqualUpTo m (i ++ (letters_with is_message k ds ++ ls)) (i ++ (ms ++ letters_in new))
        → CountsGrow (tables_seen p t) (tables_seen p u) → NamesCounted (tables_seen p u) ms
        → ((r : ℕ) → (u.parts r).stage ≡ 1 → AgreeIn p u r (i ++ ms) (current p u r)) → IsNonzero (i ++ ms)
        → CanFollow p u (n + m) (g ++ ls) (i ++ ms)
    follow_next frame free law grow named agree nonzero = record {
      debts = replaced k (letters_in new) ds;
      following = record {
        equal = equal_next p t tidy custody ds before.owed n m g i k ls ms (letters_in new) before.equal free law;
        owed = owed_next p t u k new frame ds before.owed;
        named = names_counted_append (tables_seen p u) i ms (names_counted_on (tables_seen p t) (tables_seen p u) i grow before.named) named;
        agree = agree;
        nonzero = nonzero;
      };
    }
