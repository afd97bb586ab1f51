-- The counts of a session's summary fit: each is bounded by what its script and its profile say, far below 64 bits.
use Rattle.std.specs.Prelude.{◌≡◌, ℕ, ◌+◌, ◌*◌, ◌≤◌, List, length, Some}
use Rattle.std.specs.List.{AllByRecursion}
use Rattle.norm_script.specs.Commands.{Commands}
use Rattle.norm_script.specs.Scripts.{CanRun}
use Rattle.norm_journal.specs.declared.event.Event.{Event}
use Rattle.norm_journal.specs.declared.totals.Totals.{Totals}
use Rattle.norm_journal.specs.Jobs.{Told, IsOfObjects}
use Rattle.norm_journal.specs.Judged.{Judged, judged_opening}
use Rattle.norm_journal.specs.Laws.{HasOctets}
use Rattle.norm_journal.specs.SessionRun.{judged}
use Rattle.norm_journal.specs.Totals.{CountsFit}
use Rattle.norm_journal.specs.WorldEvents.{TakesHonestly}

-- Objects and outcomes of watermarks are together no more than commands; each object has no more octets than the profile lets the window
-- have; and each receiver hands up or loses each object once at most.
pub record IsBounded (script : Commands) (t : Totals) : Type 0 where
  pub commands : t.objects + (t.satisfied + t.expired + t.cut) ≤ length script.lines
  pub octets : t.octets ≤ t.objects * script.profile.octets
  pub receivers : t.handed + t.lost ≤ script.profile.receivers * t.objects

-- At each moment of a session of data and files over a network that gives only what was offered the counts are bounded so. A script has at
-- most 4,096 commands, and a profile at most 16 receivers and 16,777,216 octets: so each count is a number of 64 bits.
abbrev pub CountsOfASessionFit : Type 0
CountsOfASessionFit = (script : Commands) (files : Told) (nodes : List ℕ) (events : List Event) (last : Judged) → CanRun script
    → AllByRecursion IsOfObjects script.lines → judged script files nodes events ≡ Some last → AllByRecursion HasOctets events
    → TakesHonestly (judged_opening script files nodes) events → IsBounded script last.totals × CountsFit last.totals
