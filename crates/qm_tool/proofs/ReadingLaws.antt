-- A text reads as programs without a fault in one way at most, or is refused for one reason at most, and never both
use Rattle.std.proofs.Common.{◌≡◌, ◌≢◌, ℕ, List, Option, Some, None, Result, Ok, Err, refl, sym, ap, subst, ◌∙◌}
use Rattle.std.proofs.lemmas.Option.{same_Some, none-some}
use Rattle.qm_instr.specs.Programs.{Programs}
use Rattle.qm_check.specs.declared.CheckError.{CheckError}
use Rattle.qm_check.specs.declared.CheckError.TheVariants as check_error
use Rattle.qm_check.specs.Checks.{IsReady, IsFirstFault}
use Rattle.qm_check.specs.Errors.{TellsFirstFault}
use Rattle.qm_expand.specs.declared.ReadError.{ReadError}
use Rattle.qm_expand.specs.declared.ReadError.TheVariants as error
use Rattle.qm_expand.specs.Reading.{Reads}
use Rattle.qm_expand.proofs.OneReading.{one-reading}
use Rattle.qm_print.specs.declared.FaultLine.{FaultLine}
use Rattle.qm_print.specs.declared.FaultLine.TheVariants as line
use Rattle.qm_tool.specs.declared.status.Status.TheVariants as status
use Rattle.qm_tool.specs.Due.{ReadsReady, reading_fault, IsRefusedFor, Misread, Faulty}
use Rattle.qm_tool.specs.Reading.{IsUnready}
use Rattle.qm_tool.specs.Refusals.{check_refusal, line_or_memory, reading_refusal}
use Rattle.qm_tool.specs.Statuses.{status_of_fault}
use Rattle.qm_check.proofs.FirstFaults.{first_fault-one, ready-no_fault}

abbrev Reading : Type 0
Reading = Result Programs ReadError

ok_not_memory : (p : Programs) → ◌≢◌ {A = Reading} (Ok p) (Err error.Memory)
ok_not_memory p e = cc

fault_not_memory : (e : ReadError) (f : FaultLine) → reading_fault e ≡ Some f → ◌≢◌ {A = Reading} (Err e) (Err error.Memory)
fault_not_memory e f is m =
    let same : e ≡ error.Memory = cc in
    absurd (none-some f (sym (ap reading_fault same) ∙ is))

same_programs : (p q : Programs) → ◌≡◌ {A = Reading} (Ok p) (Ok q) → p ≡ q
same_programs p q e = cc

same_error : (d e : ReadError) → ◌≡◌ {A = Reading} (Err d) (Err e) → d ≡ e
same_error d e h = cc

never_both : {A : Type 0} (p : Programs) (e : ReadError) → ◌≡◌ {A = Reading} (Ok p) (Err e) → A
never_both p e h = absurd (cc)

module _ (text : List ℕ) where
  reads_once : (p q : Programs) → Reads text (Ok p) → Reads text (Ok q) → p ≡ q
  reads_once p q a b = same_programs p q (one-reading text (Ok p) (Ok q) (ok_not_memory p) (ok_not_memory q) a b)

  read_or_misread : {A : Type 0} (p : Programs) (e : ReadError) (f : FaultLine) → Reads text (Ok p) → Reads text (Err e) → reading_fault e ≡ Some f → A
  read_or_misread p e f a b is = never_both p e (one-reading text (Ok p) (Err e) (ok_not_memory p) (fault_not_memory e f is) a b)

  pub ReadsReady-one : (p q : Programs) → ReadsReady text p → ReadsReady text q → p ≡ q
  ReadsReady-one p q a b = reads_once p q a.reads b.reads

  pub IsRefusedFor-one : (f g : FaultLine) → IsRefusedFor text f → IsRefusedFor text g → f ≡ g
  IsRefusedFor-one f g (Misread d _ a is) (Misread e _ b so) =
      let same = same_error d e (one-reading text (Err d) (Err e) (fault_not_memory d f is) (fault_not_memory e g so) a b) in
      same_Some f g (sym is ∙ ap reading_fault same ∙ so)
  IsRefusedFor-one f _ (Misread d _ a is) (Faulty q y b k) = read_or_misread q d f b a is
  IsRefusedFor-one _ g (Faulty p x a h) (Misread e _ b so) = read_or_misread p e g a b so
  IsRefusedFor-one _ _ (Faulty p x a h) (Faulty q y b k) =
      ap line.Unready (first_fault-one p x y h (subst (λ (r : Programs). IsFirstFault r y) (sym (reads_once p q a b)) k))

  pub ready_or_refused : (p : Programs) (f : FaultLine) → ReadsReady text p → IsRefusedFor text f → ⊥
  ready_or_refused p f a (Misread e _ b is) = read_or_misread p e f a.reads b is
  ready_or_refused p _ a (Faulty q x b h) = ready-no_fault q x (subst IsReady (reads_once p q a.reads b) a.ready) h

-- a text is refused with that status
reading_fault-refused : (e : ReadError) (f : FaultLine) → reading_fault e ≡ Some f → status_of_fault f ≡ status.Refused
reading_fault-refused (error.BadByte n) f is = ap status_of_fault (sym (same_Some _ _ is))
reading_fault-refused (error.Unexpected n) f is = ap status_of_fault (sym (same_Some _ _ is))
reading_fault-refused (error.NumberTooLarge n) f is = ap status_of_fault (sym (same_Some _ _ is))
reading_fault-refused (error.TooDeep n) f is = ap status_of_fault (sym (same_Some _ _ is))
reading_fault-refused (error.Unended n) f is = ap status_of_fault (sym (same_Some _ _ is))
reading_fault-refused (error.UnknownName n) f is = ap status_of_fault (sym (same_Some _ _ is))
reading_fault-refused (error.OutOfRange n) f is = ap status_of_fault (sym (same_Some _ _ is))
reading_fault-refused (error.TooMany n) f is = ap status_of_fault (sym (same_Some _ _ is))
reading_fault-refused error.Memory f is = absurd (none-some f is)

pub IsRefusedFor-status : (text : List ℕ) (f : FaultLine) → IsRefusedFor text f → status_of_fault f ≡ status.Refused
IsRefusedFor-status text f (Misread e _ a is) = reading_fault-refused e f is
IsRefusedFor-status text _ (Faulty p x a h) = refl

-- ---- what an error of reading or of the check says of the text
module _ (text : List ℕ) where
  pub misread-unready : (e : ReadError) → Reads text (Err e) → IsUnready text (reading_refusal e)
  misread-unready e h = by_line (reading_fault e) refl
    where
      by_line : (o : Option FaultLine) → reading_fault e ≡ o → IsUnready text (line_or_memory o)
      by_line None is = tt
      by_line (Some f) is = Misread e f h is

  pub faulty-unready : (p : Programs) (e : CheckError) → Reads text (Ok p) → TellsFirstFault p e → IsUnready text (check_refusal e)
  faulty-unready p (check_error.Fault f) h first = Faulty p f h first
  faulty-unready p check_error.Memory h x = tt
