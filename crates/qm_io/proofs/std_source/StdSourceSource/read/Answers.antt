use Rattle.std.proofs.Common.{rules}
use Rattle.qm_io.proofs.std_source.StdSourceSource.read.Goals as goal

pub returns-in-Err-clause-err : goal.returns-in-Err-clause-err
returns-in-Err-clause-err g c = search rules

pub returns-in-Err-clause-reader : goal.returns-in-Err-clause-reader
returns-in-Err-clause-reader g c = search rules
