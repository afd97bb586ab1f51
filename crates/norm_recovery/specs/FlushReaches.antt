-- A flush reaches every member (RFC 5740 section 5.5.3).
use Rattle.norm_recovery.specs.Flush.{FlushGoes}
use Rattle.norm_recovery.specs.FlushConfirmed.{FlushConfirmed}
use Rattle.norm_recovery.specs.FlushLacks.{FlushLacks}
use Rattle.norm_recovery.specs.FlushTurn.{FlushComes}

-- If nothing else is to be sent a flush goes, and it comes to every receiver in that turn. Who handed up all through its position is listed; and who
-- is not past it then needs something.
pub record FlushReaches : Type 0 where
  pub goes : FlushGoes
  pub comes : FlushComes
  pub confirmed : FlushConfirmed
  pub lacks : FlushLacks
