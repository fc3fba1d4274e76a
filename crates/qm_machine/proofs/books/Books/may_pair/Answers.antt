use Rattle.std.proofs.Common.{◌≡◌, ◌+◌, ◌⊎◌, nat_lt, Bool, true, false, ◌||◌, IsTrue, inl, inr, refl, ap, sym, ◌∙◌, arith}
use Rattle.std.proofs.lemmas.List.{length-map}
use Rattle.std.proofs.lemmas.Bool.{ltb-true, lt-ltb}
use Rattle.qm_buffers.specs.declared.Buffer.{Buffer}
use Rattle.qm_machine.specs.Views.{tables, held_in}
use Rattle.qm_machine.proofs.Leaving.{size_read}
use Rattle.qm_machine.proofs.books.Books.may_pair.Goals as goal

-- a test that tells one of two facts is theirs
told : (b wanted less : Bool) → (IsTrue b → IsTrue wanted ⊎ IsTrue less) → (IsTrue wanted ⊎ IsTrue less → IsTrue b) → b ≡ (less || wanted)
told true true true to from = refl
told true true false to from = refl
told true false true to from = refl
told true false false to from = elim (to refl) [ inl h ↦ cc | inr h ↦ cc ]
told false true true to from = from (inl refl)
told false true false to from = from (inl refl)
told false false true to from = from (inr refl)
told false false false to from = refl

pub may_pair-requires : goal.may_pair-requires
unfolding tables
may_pair-requires c = omega (arith, c.requires, length-map c.args.self.now.halves (λ (b : Buffer). b.size))

pub returns : goal.returns
unfolding tables
returns c =
    let bs = c.args.self.now.halves in
    let to = c.args.to in
    let n = held_in bs to + 1 in
    let rule = c.may_pair.ensures in
    let so = told c.may_pair.result c.args.wanted (nat_lt n _)
    (λ h. elim (rule.0 h) [ inl wanted ↦ inl wanted | inr less ↦ inr (lt-ltb n _ less) ])
    (λ h. elim h [ inl wanted ↦ rule.1 (inl wanted) | inr less ↦ rule.1 (inr (ltb-true n _ less)) ]) in
    so ∙ ap (λ k. nat_lt n k || c.args.wanted) (sym (size_read bs to))
