-- The acts of two ranks may change places
use Rattle.std.proofs.Common.{◌≡◌, ◌≢◌, ℕ, List, fold, sym, ap, ◌∙◌}
use Rattle.qm_instr.specs.declared.Lane.{Lane}
use Rattle.qm_proto.specs.Model.Ideal.{IdealTables, IdealAct}
use Rattle.qm_confluence.proofs.Confluence.Effects.{stepped, past, part_act, slot_act, lane_act, part_stepped, slot_stepped, lane_stepped, part_elsewhere, slot_elsewhere}
use Rattle.qm_proto.proofs.Changes.{by_number}
use Rattle.qm_proto.proofs.IdealRuns.{tables_same}

module _ (a b : ℕ) (other : a ≢ b) (xs ys : List IdealAct) (t : IdealTables) where
  part_swap : (stepped b ys (stepped a xs t)).parts a ≡ (stepped a xs (stepped b ys t)).parts a
  part_swap =
      part_elsewhere b ys (stepped a xs t) a other ∙ part_stepped a xs t
      ∙ sym (part_stepped a xs (stepped b ys t) ∙ ap (λ x. past (fold part_act x xs)) (part_elsewhere b ys t a other))

  slot_swap : (q : ℕ) → (stepped b ys (stepped a xs t)).slots a q ≡ (stepped a xs (stepped b ys t)).slots a q
  slot_swap q =
      slot_elsewhere b ys (stepped a xs t) a other q ∙ slot_stepped a xs t q
      ∙ sym (slot_stepped a xs (stepped b ys t) q ∙ ap (λ x. fold (slot_act q) x xs) (slot_elsewhere b ys t a other q))

  lane_order : (c : Lane) → (stepped b ys (stepped a xs t)).lanes c ≡ fold (lane_act c) (fold (lane_act c) (t.lanes c) xs) ys
  lane_order c = lane_stepped b ys (stepped a xs t) c ∙ ap (λ ls. fold (lane_act c) ls ys) (lane_stepped a xs t c)

-- acts of different ranks that do to each lane the same in either order
pub acts_swap : (a b : ℕ) → a ≢ b → (xs ys : List IdealAct) (t : IdealTables)
    → ((c : Lane) → fold (lane_act c) (fold (lane_act c) (t.lanes c) xs) ys ≡ fold (lane_act c) (fold (lane_act c) (t.lanes c) ys) xs)
    → stepped b ys (stepped a xs t) ≡ stepped a xs (stepped b ys t)
acts_swap a b other xs ys t lanes =
    let u = stepped b ys (stepped a xs t) in
    let w = stepped a xs (stepped b ys t) in
    let back : b ≢ a = λ e. other (sym e) in
    tables_same u w
    (by_number (λ k. u.parts k ≡ w.parts k) a (part_swap a b other xs ys t)
    (by_number (λ k. k ≢ a → u.parts k ≡ w.parts k) b (λ _. sym (part_swap b a back ys xs t))
    (λ k kb ka.
    part_elsewhere b ys (stepped a xs t) k kb ∙ part_elsewhere a xs t k ka
    ∙ sym (part_elsewhere a xs (stepped b ys t) k ka ∙ part_elsewhere b ys t k kb))))
    (by_number (λ k. (q : ℕ) → u.slots k q ≡ w.slots k q) a (slot_swap a b other xs ys t)
    (by_number (λ k. k ≢ a → (q : ℕ) → u.slots k q ≡ w.slots k q) b (λ _ q. sym (slot_swap b a back ys xs t q))
    (λ k kb ka q.
    slot_elsewhere b ys (stepped a xs t) k kb q ∙ slot_elsewhere a xs t k ka q
    ∙ sym (slot_elsewhere a xs (stepped b ys t) k ka q ∙ slot_elsewhere b ys t k kb q))))
    (λ c. lane_order a b other xs ys t c ∙ lanes c ∙ sym (lane_order b a back ys xs t c))
