-- The letters of a tree's messages are those of the ideal machine's steps
use Rattle.std.specs.Prelude.{◌≡◌, ◌≢◌, ◌<◌, ℕ, Contains, Some}
use Rattle.qm_instr.specs.declared.Instr.TheVariants.{CopyTo, UndoTo, UndoFrom}
use Rattle.qm_instr.specs.Programs.{Programs}
use Rattle.qm_proto.specs.Model.Ideal.{IdealTables, ideal_wire_in, ideal_wire_made, ideal_current, ideal_row_of}
use Rattle.qm_collect.specs.Letters.{Wiring}
use Rattle.qm_tree.specs.declared.TreeOp.TheVariants.{Cast, Uncast}
use Rattle.qm_tree.specs.Trees.{parent, call_of, instructions_at}
use Rattle.qm_tree.specs.Letters.{letters_up}

-- a copy comes down from parent k to rank d: the parent's list has the copy to d, whose step has the letters of the message, where the wires
-- of the parent's slot and of the next copy that it makes are those in the tables
pub record IsCopied (p : Programs) (t : IdealTables) (w : Wiring) (n root tag : ℕ) (q : ℕ → ℕ) (d k : ℕ) : Type 0 where
  pub listed : Contains (instructions_at (call_of Cast (q k) root tag) k n) (CopyTo (q k) d tag)
  pub stepped : w.slot k (q k) ≡ ideal_wire_in t k (q k) → w.sent k d ≡ ideal_wire_made t k
      → letters_up w n (λ r. call_of Cast (q r) root tag) d ≡ (ideal_row_of p t k (CopyTo (q k) d tag)).letters

-- a copy goes back from rank d to its parent k: the lists of both have their ends of the message, and the step of d has its letters, where
-- the wires of both slots are those in the tables and the parent stands at its end
pub record IsGivenBack (p : Programs) (t : IdealTables) (w : Wiring) (n root tag : ℕ) (q : ℕ → ℕ) (d k : ℕ) : Type 0 where
  pub given : Contains (instructions_at (call_of Uncast (q d) root tag) d n) (UndoTo (q d) k tag)
  pub taken : Contains (instructions_at (call_of Uncast (q k) root tag) k n) (UndoFrom (q k) d tag)
  pub stepped : w.slot k (q k) ≡ ideal_wire_in t k (q k) → w.slot d (q d) ≡ ideal_wire_in t d (q d)
      → ideal_current p t k ≡ Some (UndoFrom (q k) d tag)
      → letters_up w n (λ r. call_of Uncast (q r) root tag) d ≡ (ideal_row_of p t d (UndoTo (q d) k tag)).letters

-- each rank but the root gets its copy from its parent, and gives it back, by steps of the ideal machine with just these letters
pub record TreeLetterLaw : Type 0 where
  pub cast : (p : Programs) (t : IdealTables) (w : Wiring) (n root tag : ℕ) (q : ℕ → ℕ) (d : ℕ) → root < n → d < n → d ≢ root
      → IsCopied p t w n root tag q d (parent d root n)
  pub uncast : (p : Programs) (t : IdealTables) (w : Wiring) (n root tag : ℕ) (q : ℕ → ℕ) (d : ℕ) → root < n → d < n → d ≢ root
      → IsGivenBack p t w n root tag q d (parent d root n)
