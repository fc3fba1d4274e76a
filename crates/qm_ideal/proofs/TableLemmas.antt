-- The tables that the code keeps, where a lane changes
use Rattle.std.proofs.Common.{◌≡◌, ◌≢◌, ◌∙◌, ℕ, zero, suc, List, [], ◌∷◌, ◌++◌, map, drop, slice_get, slice_index_or, replicate, Option, None, refl, sym, ap}
use Rattle.std.proofs.Math.Path.{fun_ext}
use Rattle.std.proofs.lemmas.List.{map-append, drop-map}
use Rattle.qm_instr.specs.declared.Lane.{Lane}
use Rattle.qm_proto.specs.Model.State.{with_lane}
use Rattle.qm_proto.specs.Model.Ideal as model
use Rattle.qm_proto.specs.Model.Ideal.{IdealTables, ideal_at_start}
use Rattle.qm_confluence.specs.Told.{untaped}
use Rattle.qm_proto.proofs.IdealRuns.{tables_same}
use Rattle.qm_denot.specs.declared.Wire.{Wire}
use Rattle.qm_instr.specs.Programs.{Programs}
use Rattle.qm_ideal.specs.declared.tables.IdealRank.{IdealRank}
use Rattle.qm_ideal.specs.Views.{rank_at_start, part_of, part_in, slot_in, parts_at, slots_at}
use Rattle.qm_proto.proofs.Changes.{by_lane}
use Rattle.qm_ideal.specs.declared.steps.Load.{Load}
use Rattle.qm_ideal.specs.Meanings.{load_meant, load_in}

-- what stands at the front
pub front_meant : (xs : List Load) → load_in (slice_get xs 0) ≡ slice_index_or (map load_meant xs) 0 model.Token
front_meant [] = refl
front_meant (x ∷ xs) = refl

-- ---- another list on a lane
module _ (f g : Lane → List Load) (a : Lane) where
  abbrev meant : (Lane → List Load) → Lane → List model.Load
  meant h b = map load_meant (h b)

  lanes_meant : (xs : List Load) → g ≡ with_lane f a xs → meant g ≡ with_lane (meant f) a (map load_meant xs)
  lanes_meant xs same =
      ap (λ h. meant h) same
      ∙ fun_ext (λ b. by_lane (λ ys. map load_meant ys ≡ with_lane (meant f) a (map load_meant xs) b) f a xs b
      (λ e. sym (here b e)) (λ apart. sym (elsewhere b apart)))
    where
      here : (b : Lane) → b ≡ a → with_lane (meant f) a (map load_meant xs) b ≡ map load_meant xs
      here b e = by_lane (λ ys. ys ≡ map load_meant xs) (meant f) a (map load_meant xs) b (λ _. refl) (λ apart. absurd (apart e))

      elsewhere : (b : Lane) → b ≢ a → with_lane (meant f) a (map load_meant xs) b ≡ map load_meant (f b)
      elsewhere b apart = by_lane (λ ys. ys ≡ map load_meant (f b)) (meant f) a (map load_meant xs) b (λ e. absurd (apart e)) (λ _. refl)

  pub put_meant : (x : Load) → g ≡ with_lane f a (f a ++ x ∷ []) → meant g ≡ with_lane (meant f) a (meant f a ++ load_meant x ∷ [])
  put_meant x same =
      lanes_meant (f a ++ x ∷ []) same ∙ ap (with_lane (meant f) a) (map-append load_meant (f a) (x ∷ []))

  pub take_meant : g ≡ with_lane f a (drop 1 (f a)) → meant g ≡ with_lane (meant f) a (drop 1 (meant f a))
  take_meant same = lanes_meant (drop 1 (f a)) same ∙ ap (with_lane (meant f) a) (sym (drop-map load_meant 1 (f a)))

-- ---- at the start
start_part : (n r : ℕ) → part_in (slice_get (replicate n rank_at_start) r) ≡ part_of rank_at_start
start_part zero r = refl
start_part (suc n) zero = refl
start_part (suc n) (suc r) = start_part n r

start_slot : (n r q : ℕ) → slot_in (slice_get (replicate n rank_at_start) r) q ≡ None
start_slot zero r q = refl
start_slot (suc n) zero q = none 16 q
  where
    none : (k q : ℕ) → slice_index_or {A = Option Wire} (replicate k None) q None ≡ None
    none zero q = refl
    none (suc k) zero = refl
    none (suc k) (suc q) = none k q
start_slot (suc n) (suc r) q = start_slot n r q

pub start_tables : (p : Programs) (ranks : List IdealRank) (n : ℕ) (ls : Lane → List Load) → ranks ≡ replicate n rank_at_start → ls ≡ (λ a. [])
    → (let t : IdealTables = record { parts = parts_at ranks; slots = slots_at ranks; lanes = λ a. map load_meant (ls a) } in t ≡ untaped (ideal_at_start p).tables)
start_tables p ranks n ls same none =
    let t : List IdealRank → (Lane → List Load) → IdealTables = λ k l. record { parts = parts_at k; slots = slots_at k; lanes = λ a. map load_meant (l a) } in
    ap (λ k. t k ls) same ∙ ap (t (replicate n rank_at_start)) none
    ∙ tables_same (t (replicate n rank_at_start) (λ a. [])) (untaped (ideal_at_start p).tables)
    (λ r. start_part n r) (λ r q. start_slot n r q) (λ a. refl)
