-- The text of a run's cost
use Rattle.std.specs.Prelude.{ℕ, List, ◌++◌, length, codes, decimal}
use Rattle.std.specs.List.{flat_map}
use Rattle.qm_cost.specs.declared.Link.{Link}
use Rattle.qm_cost.specs.Reports.{ReportView}
use Rattle.qm_print.specs.Blocks.{event_name}

-- a number between two texts
abbrev pub numbered : List ℕ → ℕ → List ℕ → List ℕ
numbered before n after = before ++ decimal n ++ after

-- the lines before the chain: how many events the schedule has, how long it takes, and how many events the chain has
abbrev pub cost_head : ℕ → ReportView → List ℕ
cost_head events r =
    numbered (codes "cost 1\nevents ") events (codes "\n") ++ numbered (codes "time ") r.time (codes "\n")
    ++ numbered (codes "chain ") (length r.chain) (codes "\n")

-- the line of an event of the chain: its number in the schedule, its rank, its name, and the length of the chain up to it
abbrev pub link_line : Link → List ℕ
link_line l =
    decimal l.at ++ codes " " ++ decimal l.rank ++ codes " " ++ event_name l.event ++ numbered (codes " ") l.finish (codes "\n")

-- the text of the report on a schedule of so many events
abbrev pub cost_text : ℕ → ReportView → List ℕ
cost_text events r = cost_head events r ++ flat_map link_line r.chain ++ codes "end\n"
