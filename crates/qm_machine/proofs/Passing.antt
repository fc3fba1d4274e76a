-- What a store's answers say about the tests of an event
use Rattle.std.proofs.Common.{◌≡◌, ◌≢◌, true, false, List, [], ◌∷◌, ◌++◌, Bool, Option, Some, None, refl, inl, inr, sym, subst, ap, ◌∙◌}
use mathlib.Core.Path.{fun_ext}
use Rattle.qm_denot.specs.declared.Wire.{Wire}
use Rattle.qm_denot.specs.declared.Letter.{Letter}
use Rattle.qm_denot.specs.declared.Letter.TheVariants.{Had}
use Rattle.qm_denot.specs.Wires.{Wires, has}
use Rattle.qm_denot.specs.Circuits.{Amplitudes, Circuit, amp, halvings}
use Rattle.qm_denot.specs.Stores.{StandsFor, Overflows, LeavesRange}
use Rattle.qm_denot.proofs.Unique.{one_form}
use Rattle.qm_proto.specs.Model.Acts.{list_of}
use Rattle.qm_zomega.specs.Numbers.{zero_number, root2_times}
use Rattle.qm_zomega.proofs.Laws.Powers.{root2_times-zero, zero_where_root2_times-zero}
use Rattle.qm_proto.specs.declared.Act.{Act}
use Rattle.qm_proto.specs.declared.Act.TheVariants.{Apply}
use Rattle.qm_proto.specs.declared.Row.{Row}
use Rattle.qm_proto.specs.declared.Check.{Check}
use Rattle.qm_proto.specs.declared.Check.TheVariants.{Possible, Zero, Equal, Fits}
use Rattle.qm_proto.specs.declared.Cause.{Cause}
use Rattle.qm_proto.specs.declared.Cause.TheVariants as cause
use Rattle.qm_proto.specs.Model.Runs.{FirstFails, NoneFails}
use Rattle.qm_proto.specs.Model.Rows.{letter_checks}
use Rattle.qm_machine.specs.Facts.{Facts}
use Rattle.qm_machine.specs.Tries.{Passes, Stops, Asked, AllOverflow, IsTriable, checks_before_acts, told_by}

-- a circuit has one reduced form, so the store's numbers tell whether those after a `Had` fit
pub passes_fits : (f : Facts) (w : Wire) → ¬ (Overflows (Had w) f.store) → Passes f (Fits w ∷ [])
passes_fits f w fits c s = (
  λ (u, k, form, leaves).
      let same = one_form u f.store.value k f.store.exponent c form s.form in
      let P : Amplitudes → Type 0 = λ v. LeavesRange v w in
      fits (subst P (fun_ext same.1) leaves),
  tt,
)

pub stops_fits : (f : Facts) (w : Wire) → Overflows (Had w) f.store → Stops f (Fits w ∷ []) cause.Overflow
stops_fits f w leaves c s = inl ((f.store.value, f.store.exponent, s.form, leaves), refl)

-- the tests of a letter: only a `Had` has one
pub passes_letter : (f : Facts) (l : Letter) → ¬ (Overflows l f.store) → Passes f (list_of (letter_checks l))
passes_letter f (Had w) h = passes_fits f w h
passes_letter f _ h = λ c s. tt

pub stops_letter : (f : Facts) (l : Letter) → Overflows l f.store → Stops f (list_of (letter_checks l)) cause.Overflow
stops_letter f (Had w) h = stops_fits f w h
stops_letter f _ h = absurd h

-- ---- tests before others
none_both : (c : Circuit) (ks js : List Check) → NoneFails c ks → NoneFails c js → NoneFails c (ks ++ js)
none_both c [] js h i = i
none_both c (k ∷ ks) js h i = (h.0, none_both c ks js h.1 i)

first_before : (c : Circuit) (ks js : List Check) (e : Cause) → FirstFails c ks e → FirstFails c (ks ++ js) e
first_before c [] js e h = absurd h
first_before c (k ∷ ks) js e (inl h) = inl h
first_before c (k ∷ ks) js e (inr h) = inr (h.0, first_before c ks js e h.1)

first_after : (c : Circuit) (ks js : List Check) (e : Cause) → NoneFails c ks → FirstFails c js e → FirstFails c (ks ++ js) e
first_after c [] js e h i = i
first_after c (k ∷ ks) js e h i = inr (h.0, first_after c ks js e h.1 i)

pub passes_both : (f : Facts) (ks js : List Check) → Passes f ks → Passes f js → Passes f (ks ++ js)
passes_both f ks js h i c s = none_both c ks js (h c s) (i c s)

pub stops_before : (f : Facts) (ks js : List Check) (e : Cause) → Stops f ks e → Stops f (ks ++ js) e
stops_before f ks js e h c s = first_before c ks js e (h c s)

pub stops_after : (f : Facts) (ks js : List Check) (e : Cause) → Passes f ks → Stops f js e → Stops f (ks ++ js) e
stops_after f ks js e h i c s = first_after c ks js e (h c s) (i c s)

-- ---- the tests that acts tell
pub passes_told : (f : Facts) (acts : List Act) → ¬ (AllOverflow acts f.store) → Passes f (told_by acts)
passes_told f (Apply l ∷ []) h = passes_letter f l h
passes_told f _ h = λ c s. tt

pub stops_told : (f : Facts) (acts : List Act) → AllOverflow acts f.store → Stops f (told_by acts) cause.Overflow
stops_told f (Apply l ∷ []) h = stops_letter f l h
stops_told f _ h = absurd h

-- ---- a line that is tried
module _ (f : Facts) (w : Row) (triable : IsTriable w) where
  pub passes_row : Passes f (checks_before_acts (list_of w.checks)) → ¬ (AllOverflow (list_of w.acts) f.store) → Passes f (list_of w.checks)
  passes_row h i =
      subst (Passes f) (sym triable.checks)
      (passes_both f (checks_before_acts (list_of w.checks)) (told_by (list_of w.acts)) h (passes_told f (list_of w.acts) i))

  pub stops_asked : (e : Cause) → Stops f (checks_before_acts (list_of w.checks)) e → Stops f (list_of w.checks) e
  stops_asked e h =
      subst (λ ks. Stops f ks e) (sym triable.checks) (stops_before f (checks_before_acts (list_of w.checks)) (told_by (list_of w.acts)) e h)

  pub stops_row : Passes f (checks_before_acts (list_of w.checks)) → AllOverflow (list_of w.acts) f.store → Stops f (list_of w.checks) cause.Overflow
  stops_row h i =
      subst (λ ks. Stops f ks cause.Overflow) (sym triable.checks)
      (stops_after f (checks_before_acts (list_of w.checks)) (told_by (list_of w.acts)) cause.Overflow h (stops_told f (list_of w.acts) i))

-- ---- tests that a store answers
-- numbers of a store are zero where the circuit's are
module _ (f : Facts) (c : Circuit) (s : StandsFor f.store c) (x : Wires) where
  pub zero_here : amp c x ≡ zero_number → f.store.value x ≡ zero_number
  zero_here e = zero_where_root2_times-zero (halvings c) _ (s.form.equal x ∙ ap (root2_times f.store.exponent) e ∙ root2_times-zero f.store.exponent)

  pub zero_there : f.store.value x ≡ zero_number → amp c x ≡ zero_number
  zero_there e = zero_where_root2_times-zero f.store.exponent _ (sym (s.form.equal x) ∙ ap (root2_times (halvings c)) e ∙ root2_times-zero (halvings c))

module _ (f : Facts) where
  pub passes_possible : (w : Wire) (m : Bool) → (x : Wires) × (has x w ≡ m) × (f.store.value x ≢ zero_number) → Passes f (Possible w m ∷ [])
  passes_possible w m (x, is, some) c s = (λ all. some (zero_here f c s x (all x is)), tt)

  pub stops_possible : (w : Wire) (m : Bool) → ((x : Wires) → has x w ≡ m → f.store.value x ≡ zero_number) → Stops f (Possible w m ∷ []) cause.Impossible
  stops_possible w m all c s = inl ((λ x is. zero_there f c s x (all x is)), refl)

  pub passes_zero : (w : Wire) → ((x : Wires) → has x w ≡ true → f.store.value x ≡ zero_number) → Passes f (Zero w ∷ [])
  passes_zero w all c s = (λ (x, is, some). some (zero_there f c s x (all x is)), tt)

  pub stops_zero : (w : Wire) → (x : Wires) × (has x w ≡ true) × (f.store.value x ≢ zero_number) → Stops f (Zero w ∷ []) cause.NotZero
  stops_zero w (x, is, some) c s = inl ((x, is, λ e. some (zero_here f c s x e)), refl)

  pub passes_equal : (w v : Wire) → ((x : Wires) → has x w ≢ has x v → f.store.value x ≡ zero_number) → Passes f (Equal w v ∷ [])
  passes_equal w v all c s = (λ (x, is, some). some (zero_there f c s x (all x is)), tt)

  pub stops_equal : (w v : Wire) → (x : Wires) × (has x w ≢ has x v) × (f.store.value x ≢ zero_number) → Stops f (Equal w v ∷ []) cause.NotEqual
  stops_equal w v (x, is, some) c s = inl ((x, is, λ e. some (zero_here f c s x e)), refl)

-- what is asked of one test, and of others after it
asked_more : (k : Check) (ks : List Check) → checks_before_acts (k ∷ ks) ≡ checks_before_acts (k ∷ []) ++ checks_before_acts ks
asked_more (Possible w m) ks = refl
asked_more (Zero w) ks = refl
asked_more (Equal w v) ks = refl
asked_more (Fits w) ks = refl

module _ (f : Facts) (k : Check) (ks : List Check) where
  pub asked_first : (e : Cause) → Stops f (checks_before_acts (k ∷ [])) e → Stops f (checks_before_acts (k ∷ ks)) e
  asked_first e h = subst (λ js. Stops f js e) (sym (asked_more k ks)) (stops_before f (checks_before_acts (k ∷ [])) (checks_before_acts ks) e h)

  pub asked_then : (o : Option Cause) → Passes f (checks_before_acts (k ∷ [])) → Asked f (checks_before_acts ks) o → Asked f (checks_before_acts (k ∷ ks)) o
  asked_then None h i = subst (Passes f) (sym (asked_more k ks)) (passes_both f (checks_before_acts (k ∷ [])) (checks_before_acts ks) h i)
  asked_then (Some e) h i = subst (λ js. Stops f js e) (sym (asked_more k ks)) (stops_after f (checks_before_acts (k ∷ [])) (checks_before_acts ks) e h i)

-- a test by its answer
module _ (f : Facts) (ks : List Check) (b : Bool) (e : Cause) (o : Option Cause) (yes : b ≡ true → o ≡ None) (no : b ≡ false → o ≡ Some e) where
  pub asked_by : (b ≡ true → Passes f ks) → (b ≡ false → Stops f ks e) → Asked f ks o
  asked_by h i = by_cases b refl
    where
      by_cases : (d : Bool) → b ≡ d → Asked f ks o
      by_cases true s = subst (Asked f ks) (sym (yes s)) (h s)
      by_cases false s = subst (Asked f ks) (sym (no s)) (i s)
