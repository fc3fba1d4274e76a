-- Outcomes at the end of a tape, one by one
use Rattle.std.proofs.Common.{◌≡◌, ◌∙◌, ℕ, ◌<◌, Bool, true, false, cond, List, ◌++◌, length, ap, append_assoc, get_or-set_same, length-set, map, ◌==◌}
use Rattle.std.proofs.lemmas.List.{set-set}
use Rattle.qm_instr.specs.Programs.{RankProgram, Programs, idle_rank, rank_of, with_rank}
use Rattle.qm_expand.specs.Drafts.{with_outcomes}

-- a rank with more outcomes
abbrev longer : Bool → List Bool → RankProgram → RankProgram
longer own ms r = cond own (record r { own = r.own ++ ms }) (record r { protocol = r.protocol ++ ms })

longer-longer : (own : Bool) (ms ns : List Bool) (r : RankProgram) → longer own ns (longer own ms r) ≡ longer own (ms ++ ns) r
longer-longer true ms ns r = ap (λ xs. record r { own = xs }) (append_assoc r.own ms ns)
longer-longer false ms ns r = ap (λ xs. record r { protocol = xs }) (append_assoc r.protocol ms ns)

module _ (own : Bool) (rank : ℕ) where
  pub length-with_outcomes : (p : Programs) (ms : List Bool) → length (with_outcomes own rank ms p).ranks ≡ length p.ranks
  length-with_outcomes p ms = length-set p.ranks rank (longer own ms (rank_of p rank))

  pub rank_of-outcomes : (p : Programs) (ms : List Bool) → rank < length p.ranks → rank_of (with_outcomes own rank ms p) rank ≡ longer own ms (rank_of p rank)
  rank_of-outcomes p ms low = get_or-set_same p.ranks rank (longer own ms (rank_of p rank)) idle_rank low

  pub with_outcomes-more : (p : Programs) (ms ns : List Bool) → rank < length p.ranks
      → with_outcomes own rank ns (with_outcomes own rank ms p) ≡ with_outcomes own rank (ms ++ ns) p
  with_outcomes-more p ms ns low =
      ap (λ (x : RankProgram). with_rank (with_outcomes own rank ms p) rank (longer own ns x)) (rank_of-outcomes p ms low)
      ∙ ap (λ (rs : List RankProgram). record p { ranks = rs }) (set-set p.ranks rank (longer own ms (rank_of p rank)) (longer own ns (longer own ms (rank_of p rank))))
      ∙ ap (with_rank p rank) (longer-longer own ms ns (rank_of p rank))

-- digits as outcomes
abbrev pub ones : List ℕ → List Bool
ones ds = map (λ d. d == 49) ds
