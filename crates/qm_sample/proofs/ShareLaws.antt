-- The sums over a store's live wires are those over the wires of a circuit that it stands for
use Rattle.std.proofs.Common.{◌≡◌, ℕ, ◌/◌, ◌<◌, ◌^◌, Bool, true, false, cond, refl, sym, ap, subst, ◌∙◌}
use mathlib.Core.Path.{fun_ext}
use Rattle.qm_zomega.specs.Numbers.{Number, zero_number, norm}
use Rattle.qm_zomega.proofs.Laws.Norms.{norm-zero}
use Rattle.qm_sizes.specs.Surds.{Surd, nought, scaled, is_below}
use Rattle.qm_sizes.specs.Sizes.{size}
use Rattle.qm_denot.specs.declared.Wire.{Wire}
use Rattle.qm_denot.specs.Wires.{Wires, has, no_wires}
use Rattle.qm_denot.specs.Circuits.{Amplitudes, Circuit}
use Rattle.qm_denot.specs.Stores.{Store, StandsFor, IsSound}
use Rattle.qm_denot.specs.Weights.{total, names}
use Rattle.qm_denot.proofs.LiveWires.{absent_where_lacked}
use Rattle.qm_denot.proofs.NameLists.{Distinct-names}
use Rattle.qm_denot.proofs.ReducedForms.{zero_there}
use Rattle.qm_denot.proofs.Support.{IsBlank-unnamed}
use Rattle.qm_denot.proofs.Unique.{one_form}
use Rattle.qm_sample.specs.Shares.{surd_total, all_sizes, sizes_with, IsGiven, IsHeavy}
use Rattle.qm_sample.proofs.SurdTotals.{IsOff, total-either, surd_total-either}

size-zero : size zero_number ≡ nought
unfolding norm
size-zero = refl

-- the size of a number that is marked, and else 0
abbrev pub marked_size : Bool → Number → Surd
marked_size b z = cond b (size z) nought

marked_size-zero : (b : Bool) → marked_size b zero_number ≡ nought
marked_size-zero true = size-zero
marked_size-zero false = refl

module _ (s : Store) (c : Circuit) (sound : IsSound s) (stands : StandsFor s c) where
  off_live : IsOff s.live s.value zero_number
  off_live x w l h = sound.blank w (absent_where_lacked s.live w l) x h

  off_names : IsOff (names c) s.value zero_number
  off_names x w l h = zero_there c s.value s.exponent stands.form.equal x (IsBlank-unnamed c w l x h)

  norms_named : total s.live (λ x. norm (s.value x)) no_wires ≡ total (names c) (λ x. norm (s.value x)) no_wires
  norms_named =
      total-either s.live (names c) (λ x. norm (s.value x)) sound.distinct (Distinct-names c)
      (λ x w l h. ap norm (off_live x w l h) ∙ norm-zero) (λ x w l h. ap norm (off_names x w l h) ∙ norm-zero)

  -- sizes of the numbers, of each that is marked
  sizes_named : (marks : Wires → Bool)
      → surd_total s.live (λ x. marked_size (marks x) (s.value x)) no_wires
      ≡ surd_total (names c) (λ x. marked_size (marks x) (s.value x)) no_wires
  sizes_named marks =
      surd_total-either s.live (names c) (λ x. marked_size (marks x) (s.value x)) sound.distinct (Distinct-names c)
      (λ x w l h. ap (marked_size (marks x)) (off_live x w l h) ∙ marked_size-zero (marks x))
      (λ x w l h. ap (marked_size (marks x)) (off_names x w l h) ∙ marked_size-zero (marks x))

  all_sizes_named : all_sizes s.live s.value ≡ all_sizes (names c) s.value
  all_sizes_named = sizes_named (λ x. true)

  sizes_with_named : (w : Wire) → sizes_with s.live w s.value ≡ sizes_with (names c) w s.value
  sizes_with_named w = sizes_named (λ x. has x w)

  -- the numbers are those of the store, so a measurement is heavy exactly where the store's numbers say so
  pub heavy_by_store : 2 ^ 37 < total s.live (λ x. norm (s.value x)) no_wires → IsHeavy c
  heavy_by_store above =
      record {
        numbers = s.value;
        exponent = s.exponent;
        form = stands.form;
        above = subst (λ n. 2 ^ 37 < n) norms_named above;
      }

  pub store_by_heavy : IsHeavy c → 2 ^ 37 < total s.live (λ x. norm (s.value x)) no_wires
  store_by_heavy heavy =
      let one = one_form heavy.numbers s.value heavy.exponent s.exponent c heavy.form stands.form in
      let alike : heavy.numbers ≡ s.value = fun_ext one.1 in
      subst (λ n. 2 ^ 37 < n) (sym norms_named)
      (subst (λ (u : Amplitudes). 2 ^ 37 < total (names c) (λ x. norm (u x)) no_wires) alike heavy.above)

  -- and a word gives what it gives by the store's sums
  pub given_by_store : (w : Wire) (word : ℕ) {m : Bool} {all marked : Surd} → all ≡ all_sizes s.live s.value
      → marked ≡ sizes_with s.live w s.value
      → m ≡ is_below (scaled (word / 2 ^ 8) all) (scaled (2 ^ 24) marked) → IsGiven c w word m
  given_by_store w word {m} {all} {marked} a b value =
      let whole : all ≡ all_sizes (names c) s.value = a ∙ all_sizes_named in
      let part : marked ≡ sizes_with (names c) w s.value = b ∙ sizes_with_named w in
      record {
        numbers = s.value;
        exponent = s.exponent;
        form = stands.form;
        value =
            value
            ∙ ap (λ x. is_below (scaled (word / 2 ^ 8) x) (scaled (2 ^ 24) marked)) whole
            ∙ ap (λ x. is_below (scaled (word / 2 ^ 8) (all_sizes (names c) s.value)) (scaled (2 ^ 24) x)) part;
      }
