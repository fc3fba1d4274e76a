-- The report that marks give: its events go back from the first one at which a longest chain ends
use Rattle.std.specs.Prelude.{◌≡◌, ℕ, ◌<◌, ◌≤◌, List, Option, None, IfSome, map, reverse, length}
use Rattle.qm_cost.specs.declared.Mark.{Mark}
use Rattle.qm_cost.specs.Longest.{Leads, finish_in, before_in, IsBelow, link_at, time_at}
use Rattle.qm_cost.specs.Reports.{ReportView}

pub record IsTold (ms : List Mark) (r : ReportView) : Type 0 where
  pub end : Option ℕ
  pub back : List ℕ  -- from the last event to the first
  pub none : end ≡ None → length ms ≡ 0
  pub known : IsBelow (length ms) end
  pub most : IfSome end (λ e. (k : ℕ) → k < length ms → finish_in ms k ≤ finish_in ms e)
  pub least : IfSome end (λ e. (k : ℕ) → k < e → finish_in ms k < finish_in ms e)
  pub leads : Leads (before_in ms) end back None
  pub time : r.time ≡ time_at ms end
  pub chain : r.chain ≡ map (link_at ms) (reverse back)
