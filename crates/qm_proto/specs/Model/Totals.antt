-- How many events programs have
use Rattle.std.specs.Prelude.{ℕ, zero, suc, ◌+◌, sum_by}
use Rattle.qm_instr.specs.Counts.{events_of}
use Rattle.qm_instr.specs.Programs.{Programs}

-- f 0 + f 1 + .. , n of them
abbrev pub sum_below : (ℕ → ℕ) → ℕ → ℕ
sum_below f zero = 0
sum_below f (suc n) = sum_below f n + f n

-- how many events all instructions have
abbrev pub event_total : Programs → ℕ
event_total p = sum_by (λ r. sum_by events_of r.instructions) p.ranks
