-- `claims::long_run` meets its contract: `proofs/Whole.antt` proves the statement. Assumes nothing.
use Rattle.claims.proofs.Whole.{long_run_lem}
use Rattle.claims.proofs.long_run.Goals as goal

pub returns : goal.returns
returns c = long_run_lem
