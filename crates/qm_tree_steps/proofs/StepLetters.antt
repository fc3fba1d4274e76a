-- The letters of a tree's messages, from the lists of both ends, are those of the ideal machine's steps
use Rattle.std.proofs.Common.{◌≢◌, ◌∙◌, ℕ, ◌<◌, false, [], ◌∷◌, sym, ap}
use Rattle.qm_denot.specs.declared.Letter.TheVariants.{Cx, Take}
use Rattle.qm_instr.specs.Programs.{Programs}
use Rattle.qm_proto.specs.Model.Ideal.{IdealTables, ideal_wire_in, ideal_wire_offered}
use Rattle.qm_proto.specs.Model.Rows.{wire_offered}
use Rattle.qm_collect.specs.Letters.{Wiring}
use Rattle.qm_tree.specs.Trees.{parent}
use Rattle.qm_tree.proofs.Messages.{letters-down, letters-back, copy-listed, giving-listed, taking-listed}
use Rattle.qm_tree_steps.specs.Steps.{IsCopied, IsGivenBack, TreeLetterLaw}

module _ (p : Programs) (t : IdealTables) (w : Wiring) (n root tag : ℕ) (q : ℕ → ℕ) (d : ℕ) (known : root < n) (low : d < n) (other : d ≢ root) where
  abbrev k : ℕ
  k = parent d root n

  copied : IsCopied p t w n root tag q d k
  copied = record {
    listed = copy-listed w n root tag q known d low other;
    stepped = λ slot sent.
        letters-down w n root tag q known d low other
        ∙ ap (λ v. Cx v (w.sent k d) ∷ []) slot ∙ ap (λ f. Cx (ideal_wire_in t k (q k)) f ∷ []) sent;
  }

  given_back : IsGivenBack p t w n root tag q d k
  given_back = record {
    given = giving-listed w n root tag q known d low other;
    taken = taking-listed w n root tag q known d low other;
    stepped = λ theirs ours stands.
        letters-back w n root tag q known d low other
        ∙ ap (λ u. Cx u (w.slot d (q d)) ∷ Take (w.slot d (q d)) false ∷ []) (theirs ∙ ap (wire_offered (ideal_wire_in t k)) (sym stands))
        ∙ ap (λ v. Cx (ideal_wire_offered p t k) v ∷ Take v false ∷ []) ours;
  }

pub letters : TreeLetterLaw
letters = record { cast = copied; uncast = given_back }
