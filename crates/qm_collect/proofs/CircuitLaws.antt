-- The laws of the collectives, from their letters
use Rattle.std.proofs.Common.{◌≡◌, List, ◌++◌, refl, ap, ◌∙◌, append_assoc}
use Rattle.qm_denot.specs.declared.Letter.{Letter}
use Rattle.qm_denot.specs.Wires.{Wires}
use Rattle.qm_denot.specs.Circuits.{amp, Amplitudes}
use Rattle.qm_denot.specs.Protocols.{crossings}
use Rattle.qm_denot.specs.Collectives.{broadcasting, unbroadcasting}
use Rattle.qm_denot.proofs.EqualUpTo.{amp-append_at}
use Rattle.qm_denot.proofs.CollectiveLaws.{amp-broadcasting, amp-reducing, amp-renaming, with_letters-unbroadcasting, with_letters-unreducing}
use Rattle.qm_collect.specs.declared.Collective.TheVariants.{Unbcast, Unreduce}
use Rattle.qm_collect.specs.Letters.{collective_letters}
use Rattle.qm_collect.specs.Laws.{BcastLaw, UnbcastLaw, ReduceLaw, UnreduceLaw, ScatterLaw, copies, operands}
use Rattle.qm_collect.proofs.Meetings.{letters-bcast, letters-unbcast, letters-reduce, letters-scatter, letters-gather}

pub bcast : BcastLaw
bcast c w n root tag q distinct blank x =
    ap (λ ls. amp (c ++ ls) x) (letters-bcast w n root tag q)
    ∙ amp-broadcasting c (w.slot root (q root)) (copies w n root) distinct.0 distinct.1 blank x

-- two lists of letters after a circuit
amp-twice : (c a b : List Letter) (x : Wires) → amp ((c ++ a) ++ b) x ≡ amp (c ++ (a ++ b)) x
amp-twice c a b x = ap (λ ls. amp ls x) (append_assoc c a b)

pub unbcast : UnbcastLaw
unbcast c w v n root tag end q p distinct blank held x =
    let s = w.slot root (q root) in
    let cs = copies w n root in
    ap (λ ls. amp ((c ++ ls) ++ collective_letters v n root (λ r. Unbcast (p r) root end)) x) (letters-bcast w n root tag q)
    ∙ ap (λ ls. amp ((c ++ broadcasting s cs) ++ ls) x) (letters-unbcast v n root end p s (w.sent root) held.source held.held)
    ∙ amp-twice c (broadcasting s cs) (unbroadcasting s cs) x
    ∙ amp-append_at c (broadcasting s cs ++ unbroadcasting s cs) x
    ∙ ap (λ (f : Amplitudes). f x) (with_letters-unbroadcasting cs s distinct.0 distinct.1 (amp c) blank)

pub reduce : ReduceLaw
reduce c w n root tag q t distinct x =
    ap (λ ls. amp (c ++ ls) x) (letters-reduce w n root tag q t)
    ∙ amp-reducing c (operands w n root q) (operands w n root q) (w.slot root (t root)) distinct.0 x

pub unreduce : UnreduceLaw
unreduce c w n root tag end q t distinct x =
    let v = w.slot root (t root) in
    let ws = operands w n root q in
    ap (λ ls. amp ((c ++ ls) ++ collective_letters w n root (λ r. Unreduce (q r) (t r) root end)) x) (letters-reduce w n root tag q t)
    ∙ ap (λ ls. amp ((c ++ crossings ws v) ++ ls) x) (letters-reduce w n root end q t)
    ∙ amp-twice c (crossings ws v) (crossings ws v) x
    ∙ amp-append_at c (crossings ws v ++ crossings ws v) x
    ∙ ap (λ (f : Amplitudes). f x) (with_letters-unreducing ws ws v distinct.0 distinct.0 (λ y. refl) (amp c))

pub scatter : ScatterLaw
scatter = record {
  scatter = letters-scatter;
  gather = letters-gather;
  unscatter = letters-gather;
  ungather = letters-scatter;
  renamed = amp-renaming;
}
