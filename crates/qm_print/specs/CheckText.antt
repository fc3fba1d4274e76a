-- The check text: what the check of programs found
use Rattle.std.specs.Prelude.{ℕ, Bool, if◌then◌else◌, ◌++◌, List, length, codes, decimal}
use Rattle.qm_instr.specs.Programs.{Programs, instruction_total}
use Rattle.qm_check.specs.Checks.{capacity_of}
use Rattle.qm_check.specs.Totals.{totals_over}

-- how the text answers a question
abbrev pub yes_or_no : Bool → List ℕ
yes_or_no b = if b then codes "yes" else codes "no"

-- the text of programs, with totals over all ranks, and whether their rendezvous run ends
abbrev pub check_text : Programs → Bool → List ℕ
check_text p rendezvous =
    codes "check 1\nranks " ++ decimal (length p.ranks)
    ++ codes "\ncapacity " ++ decimal (capacity_of p)
    ++ codes "\ninstructions " ++ decimal (instruction_total p)
    ++ codes "\nevents " ++ decimal (totals_over p.ranks).events
    ++ codes "\nown " ++ decimal (totals_over p.ranks).own
    ++ codes "\nprotocol " ++ decimal (totals_over p.ranks).protocol
    ++ codes "\nrendezvous " ++ yes_or_no rendezvous
    ++ codes "\nend\n"
