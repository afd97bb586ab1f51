-- The counts of a summary are those of what the journal says.
use Rattle.std.specs.Prelude.{◌≡◌, ℕ, ◌+◌, List, Bool, true, false, count_by, sum_by, Some, Ok}
use Rattle.norm_order.specs.declared.up.Up.TheVariants as up
use Rattle.norm_send_rules.specs.declared.job.Receipt.TheVariants as receipt
use Rattle.norm_send_rules.specs.declared.news.News.TheVariants as news
use Rattle.norm_send_rules.specs.declared.news.Outcome.TheVariants as outcome
use Rattle.norm_journal.specs.declared.event.Event.{Event}
use Rattle.norm_journal.specs.declared.event.Event.TheVariants as event
use Rattle.norm_journal.specs.declared.totals.Totals.{Totals}
use Rattle.norm_journal.specs.Accepting.{judged_from}
use Rattle.norm_journal.specs.Judged.{Judged}

-- an object was accepted, or a stream was opened
abbrev pub is_accepted : Event → Bool
is_accepted (event.Job by job (Ok (receipt.Object index len))) = true
is_accepted (event.Job by job (Ok (receipt.Opened index))) = true
is_accepted _ = false

-- the octets that were accepted, of an object or for a stream
abbrev pub octets_in : Event → ℕ
octets_in (event.Job by job (Ok (receipt.Object index len))) = len
octets_in (event.Job by job (Ok (receipt.Wrote index offset len))) = len
octets_in _ = 0

-- an object was handed up, or the end of a stream
abbrev pub is_handed : Event → Bool
is_handed (event.Up node instance (up.Object index kind info octets)) = true
is_handed (event.Up node instance (up.StreamEnd index)) = true
is_handed _ = false

-- a loss was handed up
abbrev pub is_lost : Event → Bool
is_lost (event.Up node instance (up.Lost index)) = true
is_lost _ = false

-- a request was satisfied
abbrev pub is_satisfied : Event → Bool
is_satisfied (event.News (news.Done number outcome.Satisfied)) = true
is_satisfied _ = false

-- a request expired
abbrev pub is_expired : Event → Bool
is_expired (event.News (news.Done number (outcome.Expired left))) = true
is_expired _ = false

-- a request was cut
abbrev pub is_cut : Event → Bool
is_cut (event.News (news.Done number outcome.Cut)) = true
is_cut _ = false

-- the counts after these events, from those before
pub record Counts (events : List Event) (old new : Totals) : Type 0 where
  pub objects : new.objects ≡ old.objects + count_by is_accepted events
  pub octets : new.octets ≡ old.octets + sum_by octets_in events
  pub handed : new.handed ≡ old.handed + count_by is_handed events
  pub lost : new.lost ≡ old.lost + count_by is_lost events
  pub satisfied : new.satisfied ≡ old.satisfied + count_by is_satisfied events
  pub expired : new.expired ≡ old.expired + count_by is_expired events
  pub cut : new.cut ≡ old.cut + count_by is_cut events

-- The judge counts what a journal says, each event once.
abbrev pub JournalIsCounted : Type 0
JournalIsCounted = (j last : Judged) (events : List Event) → judged_from j events ≡ Some last → Counts events j.totals last.totals
