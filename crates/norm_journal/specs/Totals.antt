-- The counts of a run's summary.
use Rattle.std.specs.Prelude.{◌+◌, ◌<◌, ◌^◌, Result, Ok}
use Rattle.norm_order.specs.declared.up.Up.{Up}
use Rattle.norm_order.specs.declared.up.Up.TheVariants as up
use Rattle.norm_send_rules.specs.declared.job.Receipt.{Receipt}
use Rattle.norm_send_rules.specs.declared.job.Receipt.TheVariants as receipt
use Rattle.norm_send_rules.specs.declared.fault.SendFault.{SendFault}
use Rattle.norm_send_rules.specs.declared.news.News.{News}
use Rattle.norm_send_rules.specs.declared.news.News.TheVariants as news
use Rattle.norm_send_rules.specs.declared.news.Outcome.TheVariants as outcome
use Rattle.norm_journal.specs.declared.totals.Totals.{Totals}

-- as a run begins
abbrev pub nothing_counted : Totals
nothing_counted = record { objects = 0; octets = 0; handed = 0; lost = 0; satisfied = 0; expired = 0; cut = 0 }

-- each count is a number of 64 bits
pub record CountsFit (t : Totals) : Type 0 where
  pub objects : t.objects < 2 ^ 64
  pub octets : t.octets < 2 ^ 64
  pub handed : t.handed < 2 ^ 64
  pub lost : t.lost < 2 ^ 64
  pub satisfied : t.satisfied < 2 ^ 64
  pub expired : t.expired < 2 ^ 64
  pub cut : t.cut < 2 ^ 64

-- with what a command gave
abbrev pub with_gave : Result Receipt SendFault → Totals → Totals
with_gave (Ok (receipt.Object index len)) t = record t { objects = t.objects + 1; octets = t.octets + len }
with_gave (Ok (receipt.Opened index)) t = record t { objects = t.objects + 1 }
with_gave (Ok (receipt.Wrote index offset len)) t = record t { octets = t.octets + len }
with_gave _ t = t

-- with a hand-up
abbrev pub with_up : Up → Totals → Totals
with_up (up.Object index kind info octets) t = record t { handed = t.handed + 1 }
with_up (up.StreamEnd index) t = record t { handed = t.handed + 1 }
with_up (up.Lost index) t = record t { lost = t.lost + 1 }
with_up _ t = t

-- with a change that was told
abbrev pub with_news : News → Totals → Totals
with_news (news.Done mark outcome.Satisfied) t = record t { satisfied = t.satisfied + 1 }
with_news (news.Done mark (outcome.Expired left)) t = record t { expired = t.expired + 1 }
with_news (news.Done mark outcome.Cut) t = record t { cut = t.cut + 1 }
with_news _ t = t
