-- A flush reaches every member.
use Rattle.norm_recovery.specs.FlushReaches.{FlushReaches}
use Rattle.norm_recovery.proofs.FlushConfirmed.{flush_confirmed}
use Rattle.norm_recovery.proofs.FlushGoes.{flush_goes}
use Rattle.norm_recovery.proofs.FlushLacks.{flush_lacks}
use Rattle.norm_recovery.proofs.FlushTurn.{flush_comes}

pub flush_reaches : FlushReaches
flush_reaches = record { goes = flush_goes; comes = flush_comes; confirmed = flush_confirmed; lacks = flush_lacks }
