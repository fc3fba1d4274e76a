-- The amplitudes of the messages that were worked out by hand, which compute
use Rattle.std.proofs.Common.{◌≡◌, true, false, [], ◌∷◌, refl, sym, ap, ◌∙◌, pos}
use Rattle.qm_zomega.specs.Numbers.{Number, zero_number, one_number, plus, minus, turned, negative, root2_times}
use Rattle.qm_zomega.proofs.Laws.Powers.{root2_times-injective}
use Rattle.qm_denot.specs.declared.Letter.TheVariants.{Flip, Rename}
use Rattle.qm_denot.specs.Wires.{is_wire, put, no_wires}
use Rattle.qm_denot.specs.Circuits.{IsEqualUpTo}
use Rattle.qm_denot.specs.WorkedCircuits.{Shows}
use Rattle.qm_denot.proofs.Listed.{shows}
use Rattle.qm_proto.specs.WorkedMessages.{q, f, exchanged_letters, WorkedMessages}

-- the second of two numbers
pub second : (a b c d : Number) → a ∷ b ∷ [] ≡ c ∷ d ∷ [] → b ≡ d
second a b c d e = cc

exchange : Shows (Flip q ∷ exchanged_letters true false) (f ∷ []) (one_number ∷ zero_number ∷ []) 2
unfolding is_wire plus minus turned negative
exchange = shows _ _ _ _ refl refl

renamed : Shows (Flip q ∷ Rename q f ∷ []) (f ∷ []) (zero_number ∷ one_number ∷ []) 0
unfolding is_wire plus minus turned negative
renamed = shows _ _ _ _ refl refl

one_is_not_zero : zero_number ≡ one_number → ⊥
one_is_not_zero e = let parts : pos 0 ≡ pos 1 = ap (λ (z : Number). z.a) e in cc

exchange_differs : IsEqualUpTo 2 (Flip q ∷ exchanged_letters true false) (Flip q ∷ Rename q f ∷ []) → ⊥
exchange_differs equal =
    let left = second _ _ _ _ exchange.amplitudes in
    let right = second _ _ _ _ renamed.amplitudes in
    one_is_not_zero (root2_times-injective 2 _ _ (sym (ap (root2_times 2) left) ∙ equal (put no_wires f true) ∙ ap (root2_times 2) right))

pub worked_messages : WorkedMessages
unfolding is_wire plus minus turned negative
worked_messages = record {
  copy = shows _ _ _ _ refl refl;
  copied = shows _ _ _ _ refl refl;
  uncopy = shows _ _ _ _ refl refl;
  uncopied = shows _ _ _ _ refl refl;
  move = shows _ _ _ _ refl refl;
  moved = shows _ _ _ _ refl refl;
  reach = shows _ _ _ _ refl refl;
  reached = shows _ _ _ _ refl refl;
  exchange = exchange;
  renamed = renamed;
  exchange_differs = exchange_differs;
}
