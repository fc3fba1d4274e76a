-- Outcomes and tapes, as they are drawn one after another
use Rattle.std.proofs.Common.{◌≡◌, ◌≢◌, ℕ, zero, suc, Bool, List, [], ◌∷◌, ◌++◌, refl, ap, ◌∙◌, sym, subst, append_assoc}
use Rattle.std.specs.Prelude.{if◌then◌else◌, codes, decimal}
use Rattle.qm_seed.specs.Seeds.{Words, words_after}
use Rattle.qm_gen.specs.Outcomes.{words_past, outcome_of, outcomes, outcome_digit, outcome_digits}
use Rattle.qm_gen.specs.Made.{Lines, Tape, lines_text, tape_lines, drawn_lines, words_left}
use Rattle.qm_gen.proofs.LineLemmas.{lines_text-append}

-- a text, the digits of the outcomes that are still to be drawn, and the words behind them, are these
pub record Draws (text : List ℕ) (words : Words) (n : ℕ) (whole : List ℕ) (rest : Words) : Type 0 where
  pub digits : text ++ outcome_digits (outcomes n words) ≡ whole
  pub drawn : words_past n words ≡ rest

pub draws-next : (text new : List ℕ) (v w : Words) (word m n : ℕ) (whole : List ℕ) (rest : Words) → Draws text v n whole rest → n ≡ suc m → word ≡ v 0 → w ≡ words_after v → new ≡ text ++ outcome_digit (outcome_of word) ∷ [] → Draws new w m whole rest
draws-next text new v w word m n whole rest d one first after is =
    let was = subst (λ k. Draws text v k whole rest) one d in
    let more : List ℕ = outcome_digits (outcomes m (words_after v)) in
    let joined : (text ++ outcome_digit (outcome_of (v 0)) ∷ []) ++ more ≡ whole = append_assoc text (outcome_digit (outcome_of (v 0)) ∷ []) more ∙ was.digits in
    let there : new ++ more ≡ whole = ap (λ t. t ++ more) (is ∙ ap (λ k. text ++ outcome_digit (outcome_of k) ∷ []) first) ∙ joined in
    record {
      digits = subst (λ (x : Words). new ++ outcome_digits (outcomes m x) ≡ whole) (sym after) there;
      drawn = subst (λ (x : Words). words_past m x ≡ rest) (sym after) was.drawn;
    }

-- a text, the lines of the tapes that are still to be drawn, and the words behind them, are these
pub record DrawsTapes (text : List ℕ) (words : Words) (ts : List Tape) (whole : List ℕ) (rest : Words) : Type 0 where
  pub lines : text ++ lines_text (drawn_lines ts words) ≡ whole
  pub drawn : words_left ts words ≡ rest

pub tapes-next : (text new : List ℕ) (v w : Words) (t : Tape) (ts : List Tape) (whole : List ℕ) (rest : Words) → DrawsTapes text v (t ∷ ts) whole rest → new ≡ text ++ lines_text (tape_lines t.own t.rank (outcomes t.len v)) → w ≡ words_past t.len v → DrawsTapes new w ts whole rest
tapes-next text new v w t ts whole rest d is after =
    let line : List ℕ = lines_text (tape_lines t.own t.rank (outcomes t.len v)) in
    let left : Words = words_past t.len v in
    let there : new ++ lines_text (drawn_lines ts left) ≡ whole =
    ap (λ x. x ++ lines_text (drawn_lines ts left)) is
    ∙ append_assoc text line (lines_text (drawn_lines ts left))
    ∙ ap (λ x. text ++ x) (sym (lines_text-append (tape_lines t.own t.rank (outcomes t.len v)) (drawn_lines ts left)))
    ∙ d.lines
    in
    record {
      lines = subst (λ (x : Words). new ++ lines_text (drawn_lines ts x) ≡ whole) (sym after) there;
      drawn = subst (λ (x : Words). words_left ts x ≡ rest) (sym after) d.drawn;
    }

-- the tapes of two lists, one after the other
pub drawn_lines-append : (ts us : List Tape) (w : Words) → drawn_lines (ts ++ us) w ≡ drawn_lines ts w ++ drawn_lines us (words_left ts w)
drawn_lines-append [] us w = refl
drawn_lines-append (t ∷ ts) us w =
    ap (λ x. tape_lines t.own t.rank (outcomes t.len w) ++ x) (drawn_lines-append ts us (words_past t.len w))
    ∙ sym (append_assoc (tape_lines t.own t.rank (outcomes t.len w)) (drawn_lines ts (words_past t.len w)) (drawn_lines us (words_left ts (words_past t.len w))))

-- the line of a tape, piece by piece
pub tape_written : (text t1 t2 t3 t4 t5 : List ℕ) (own : Bool) (rank n : ℕ) (w : Words) → n ≢ 0 → t1 ≡ text ++ (if own then codes "own " else codes "protocol ") → t2 ≡ t1 ++ decimal rank → t3 ≡ t2 ++ codes " b" → t4 ≡ t3 ++ outcome_digits (outcomes n w) → t5 ≡ t4 ++ 10 ∷ [] → t5 ≡ text ++ lines_text (tape_lines own rank (outcomes n w))
tape_written text t1 t2 t3 t4 t5 own rank zero w some a b d e f = absurd (some refl)
tape_written text t1 t2 t3 t4 t5 own rank (suc n) w some a b d e f = rw (f, e, d, b, a) (simp append_assoc)

pub all_written : (text a b : List ℕ) (program : Lines) (ts us : List Tape) (v w : Words) → text ≡ lines_text program → a ≡ text ++ lines_text (drawn_lines ts w) → b ≡ a ++ lines_text (drawn_lines us v) → v ≡ words_left ts w → b ≡ lines_text (program ++ drawn_lines (ts ++ us) w)
all_written text a b program ts us v w d e f left =
    let first : a ≡ lines_text program ++ lines_text (drawn_lines ts w) = e ∙ ap (λ t. t ++ lines_text (drawn_lines ts w)) d in
    let second : b ≡ a ++ lines_text (drawn_lines us (words_left ts w)) = f ∙ ap (λ x. a ++ lines_text (drawn_lines us x)) left in
    second
    ∙ ap (λ t. t ++ lines_text (drawn_lines us (words_left ts w))) first
    ∙ append_assoc (lines_text program) (lines_text (drawn_lines ts w)) (lines_text (drawn_lines us (words_left ts w)))
    ∙ ap (λ t. lines_text program ++ t) (sym (lines_text-append (drawn_lines ts w) (drawn_lines us (words_left ts w))))
    ∙ sym (lines_text-append program (drawn_lines ts w ++ drawn_lines us (words_left ts w)))
    ∙ ap (λ x. lines_text (program ++ x)) (sym (drawn_lines-append ts us w))
