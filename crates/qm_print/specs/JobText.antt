-- The job text: the summary of a run of a made program
use Rattle.std.specs.Prelude.{ℕ, ◌++◌, List, codes, decimal}
use Rattle.qm_print.specs.declared.JobNumbers.{JobNumbers}

-- the text of a job of a kind
abbrev pub job_text : List ℕ → JobNumbers → List ℕ
job_text kind n =
    codes "job " ++ kind ++ codes " " ++ decimal n.size ++ codes " " ++ decimal n.number
    ++ codes "\nevents " ++ decimal n.events
    ++ codes "\nprotocol " ++ decimal n.protocol
    ++ codes "\nscale " ++ decimal n.scale
    ++ codes "\nlines " ++ decimal n.lines
    ++ codes "\nend\n"
