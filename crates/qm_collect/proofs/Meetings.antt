-- The letters of each collective, from the table
use Rattle.std.proofs.Common.{◌≡◌, ◌≢◌, inl, inr, ℕ, zero, suc, ◌+◌, cond, false, List, [], ◌∷◌, ◌++◌, map, Some, refl, sym, ap, ◌∙◌}
use Rattle.std.specs.List.{flat_map}
use Rattle.std.proofs.lemmas.List.{map-append}
use Rattle.std.proofs.lemmas.List.Concat.{flat_map-append}
use Rattle.qm_denot.specs.declared.Wire.{Wire}
use Rattle.qm_denot.specs.declared.Letter.{Letter}
use Rattle.qm_denot.specs.declared.Letter.TheVariants.{Cx, Take, Rename}
use Rattle.qm_denot.specs.Protocols.{crossings}
use Rattle.qm_denot.specs.Collectives.{broadcasting, unbroadcasting, renaming}
use Rattle.qm_instr.specs.declared.Instr.{Instr}
use Rattle.qm_instr.specs.declared.Instr.TheVariants as instr
use Rattle.qm_instr.specs.declared.Kind.TheVariants as kind
use Rattle.qm_instr.specs.declared.Lane.{Lane}
use Rattle.qm_instr.specs.Lanes.{lane}
use Rattle.qm_instr.proofs.LaneOrder.{lane_itself}
use Rattle.qm_collect.specs.declared.Collective.{Collective}
use Rattle.qm_collect.specs.declared.Collective.TheVariants.{Bcast, Unbcast, Scatter, Gather, Reduce}
use Rattle.qm_collect.specs.Table.{line_of, root_of, others, instructions_at}
use Rattle.qm_collect.specs.Letters.{Wiring, message_letters, met_letters, letters_between, letters_at, collective_letters}
use Rattle.qm_collect.specs.Laws.{copies, operands, dealt_wires, gathered_wires}
use Rattle.qm_collect.proofs.Tables.{others-step, at_other, at_root}

-- both ends on one lane
pub met : (a : Lane) (v u f : Wire)
    → met_letters (Some a) (Some a) v u f ≡ message_letters a.kind v u f
met a v u f = ap (λ b. cond b (message_letters a.kind v u f) []) (lane_itself a)

-- what holds of each message of the root holds of their list
flat_map-others : (f : Instr → List Letter) (m : ℕ → Instr) (g : ℕ → List Letter) (root : ℕ)
    → ((d : ℕ) → d ≢ root → f (m d) ≡ g d)
    → (n : ℕ) → flat_map f (map m (others root n)) ≡ flat_map g (others root n)
flat_map-others f m g root h zero = refl
flat_map-others f m g root h (suc n) =
    let rest = flat_map-others f m g root h n in
    let last = n ∷ [] in
    elim (others-step root n) [
      | inl s ↦ ap (λ xs. flat_map f (map m xs)) s.1 ∙ rest ∙ sym (ap (flat_map g) s.1)
      | inr s ↦
          ap (λ xs. flat_map f (map m xs)) s.1
          ∙ ap (flat_map f) (map-append m (others root n) last)
          ∙ flat_map-append f (map m (others root n)) (map m last)
          ∙ ap (λ ls. ls ++ flat_map f (map m last)) rest
          ∙ ap (λ ls. flat_map g (others root n) ++ (ls ++ [])) (h n s.0)
          ∙ sym (flat_map-append g (others root n) last)
          ∙ sym (ap (flat_map g) s.1)
    ]

module _ (w : Wiring) (n root : ℕ) (calls : ℕ → Collective) where
  abbrev programs : ℕ → List Instr
  programs r = instructions_at (calls r) r n

  -- the root's letters, from those of each message
  letters_by : root_of (calls root) ≡ root → (g : ℕ → List Letter)
      → ((d : ℕ) → d ≢ root → letters_at w programs root ((line_of (calls root)).message d) ≡ g d)
      → collective_letters w n root calls ≡ flat_map (letters_at w programs root) (line_of (calls root)).own ++ flat_map g (others root n)
  letters_by is g each =
      let f = letters_at w programs root in
      let l = line_of (calls root) in
      ap (flat_map f) (at_root (calls root) root n (sym is))
      ∙ flat_map-append f l.own (map l.message (others (root_of (calls root)) n))
      ∙ ap (λ r. flat_map f l.own ++ flat_map f (map l.message (others r n))) is
      ∙ ap (λ ls. flat_map f l.own ++ ls) (flat_map-others f l.message g root each n)

  -- a message of the root meets the one instruction at its other end
  one_end : (i : Instr) (d : ℕ) → d ≢ root → root_of (calls d) ≡ root
      → flat_map (letters_between w root i d) (programs d) ≡ letters_between w root i d (line_of (calls d)).elsewhere ++ []
  one_end i d other is = ap (flat_map (letters_between w root i d)) (at_other (calls d) d n (λ e. other (e ∙ is)))

-- ---- one message of each collective
module _ (w : Wiring) (n root tag : ℕ) (q : ℕ → ℕ) where
  pub letters-bcast : collective_letters w n root (λ r. Bcast (q r) root tag) ≡ broadcasting (w.slot root (q root)) (copies w n root)
  letters-bcast =
      letters_by w n root (λ r. Bcast (q r) root tag) refl (λ d. Cx (w.slot root (q root)) (w.sent root d) ∷ []) each
      ∙ listed (others root n)
    where
      each : (d : ℕ) → d ≢ root
          → letters_at w (λ r. instructions_at (Bcast (q r) root tag) r n) root (instr.CopyTo (q root) d tag) ≡ Cx (w.slot root (q root)) (w.sent root d) ∷ []
      each d other =
          one_end w n root (λ r. Bcast (q r) root tag) (instr.CopyTo (q root) d tag) d other refl
          ∙ ap (λ ls. (ls ++ []) ++ []) (met (lane root d kind.Copy tag) (w.slot root (q root)) (w.slot d (q d)) (w.sent root d))

      listed : (ds : List ℕ)
          → flat_map (λ d. Cx (w.slot root (q root)) (w.sent root d) ∷ []) ds ≡ broadcasting (w.slot root (q root)) (map (w.sent root) ds)
      listed [] = refl
      listed (d ∷ ds) = ap (λ ls. Cx (w.slot root (q root)) (w.sent root d) ∷ ls) (listed ds)

  -- the letters at wires that lie where others lay
  pub letters-unbcast : (v : Wire) (f : ℕ → Wire) → w.slot root (q root) ≡ v
      → ((d : ℕ) → d ≢ root → w.slot d (q d) ≡ f d)
      → collective_letters w n root (λ r. Unbcast (q r) root tag) ≡ unbroadcasting v (map f (others root n))
  letters-unbcast v f source held =
      letters_by w n root (λ r. Unbcast (q r) root tag) refl (λ d. Cx v (f d) ∷ Take (f d) false ∷ []) each
      ∙ listed (others root n)
    where
      each : (d : ℕ) → d ≢ root
          → letters_at w (λ r. instructions_at (Unbcast (q r) root tag) r n) root (instr.UndoFrom (q root) d tag) ≡ Cx v (f d) ∷ Take (f d) false ∷ []
      each d other =
          one_end w n root (λ r. Unbcast (q r) root tag) (instr.UndoFrom (q root) d tag) d other refl
          ∙ ap (λ ls. ls ++ []) (met (lane d root kind.Undo tag) (w.slot d (q d)) (w.slot root (q root)) (w.sent d root))
          ∙ ap (λ u. Cx u (w.slot d (q d)) ∷ Take (w.slot d (q d)) false ∷ []) source
          ∙ ap (λ g. Cx v g ∷ Take g false ∷ []) (held d other)

      listed : (ds : List ℕ)
          → flat_map (λ d. Cx v (f d) ∷ Take (f d) false ∷ []) ds ≡ unbroadcasting v (map f ds)
      listed [] = refl
      listed (d ∷ ds) = ap (λ ls. Cx v (f d) ∷ Take (f d) false ∷ ls) (listed ds)

  pub letters-reduce : (t : ℕ → ℕ)
      → collective_letters w n root (λ r. Reduce (q r) (t r) root tag) ≡ crossings (operands w n root q) (w.slot root (t root))
  letters-reduce t =
      letters_by w n root (λ r. Reduce (q r) (t r) root tag) refl (λ d. Cx (w.slot d (q d)) (w.slot root (t root)) ∷ []) each
      ∙ ap (λ ls. Cx (w.slot root (q root)) (w.slot root (t root)) ∷ ls) (listed (others root n))
    where
      each : (d : ℕ) → d ≢ root
          → letters_at w (λ r. instructions_at (Reduce (q r) (t r) root tag) r n) root (instr.ReachFrom (t root) d tag) ≡ Cx (w.slot d (q d)) (w.slot root (t root)) ∷ []
      each d other =
          one_end w n root (λ r. Reduce (q r) (t r) root tag) (instr.ReachFrom (t root) d tag) d other refl
          ∙ ap (λ ls. ls ++ []) (met (lane d root kind.Reach tag) (w.slot d (q d)) (w.slot root (t root)) (w.sent d root))

      listed : (ds : List ℕ)
          → flat_map (λ d. Cx (w.slot d (q d)) (w.slot root (t root)) ∷ []) ds ≡ crossings (map (λ d. w.slot d (q d)) ds) (w.slot root (t root))
      listed [] = refl
      listed (d ∷ ds) = ap (λ ls. Cx (w.slot d (q d)) (w.slot root (t root)) ∷ ls) (listed ds)

  pub letters-scatter : collective_letters w n root (λ r. Scatter (q r) root tag) ≡ renaming (dealt_wires w n root (q root))
  letters-scatter =
      letters_by w n root (λ r. Scatter (q r) root tag) refl (λ d. Rename (w.slot root (q root + d)) (w.sent root d) ∷ []) each
      ∙ listed (others root n)
    where
      each : (d : ℕ) → d ≢ root
          → letters_at w (λ r. instructions_at (Scatter (q r) root tag) r n) root (instr.MoveTo (q root + d) d tag) ≡ Rename (w.slot root (q root + d)) (w.sent root d) ∷ []
      each d other =
          one_end w n root (λ r. Scatter (q r) root tag) (instr.MoveTo (q root + d) d tag) d other refl
          ∙ ap (λ ls. (ls ++ []) ++ []) (met (lane root d kind.Move tag) (w.slot root (q root + d)) (w.slot d (q d)) (w.sent root d))

      listed : (ds : List ℕ)
          → flat_map (λ d. Rename (w.slot root (q root + d)) (w.sent root d) ∷ []) ds
          ≡ renaming (map (λ d. (w.slot root (q root + d), w.sent root d)) ds)
      listed [] = refl
      listed (d ∷ ds) = ap (λ ls. Rename (w.slot root (q root + d)) (w.sent root d) ∷ ls) (listed ds)

  pub letters-gather : collective_letters w n root (λ r. Gather (q r) root tag) ≡ renaming (gathered_wires w n root q)
  letters-gather =
      letters_by w n root (λ r. Gather (q r) root tag) refl (λ d. Rename (w.slot d (q d)) (w.sent d root) ∷ []) each
      ∙ listed (others root n)
    where
      each : (d : ℕ) → d ≢ root
          → letters_at w (λ r. instructions_at (Gather (q r) root tag) r n) root (instr.MoveFrom (q root + d) d tag) ≡ Rename (w.slot d (q d)) (w.sent d root) ∷ []
      each d other =
          one_end w n root (λ r. Gather (q r) root tag) (instr.MoveFrom (q root + d) d tag) d other refl
          ∙ ap (λ ls. ls ++ []) (met (lane d root kind.Move tag) (w.slot d (q d)) (w.slot root (q root + d)) (w.sent d root))

      listed : (ds : List ℕ)
          → flat_map (λ d. Rename (w.slot d (q d)) (w.sent d root) ∷ []) ds ≡ renaming (map (λ d. (w.slot d (q d), w.sent d root)) ds)
      listed [] = refl
      listed (d ∷ ds) = ap (λ ls. Rename (w.slot d (q d)) (w.sent d root) ∷ ls) (listed ds)
