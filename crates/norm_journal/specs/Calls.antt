-- Which call of the outside is due, so that a call that fails is one of those that the journal so far leads to.
use Rattle.std.specs.Prelude.{◌≡◌, ℕ, ◌==◌, ◌&&◌, not, List, Bool, true, false, Option, None, Some}
use Rattle.norm_script.specs.declared.script.Verb.{Verb}
use Rattle.norm_script.specs.declared.script.Verb.TheVariants as verb
use Rattle.norm_send_rules.specs.declared.job.Job.TheVariants as job
use Rattle.norm_journal.specs.declared.event.Event.{Event}
use Rattle.norm_journal.specs.declared.event.Event.TheVariants as event
use Rattle.norm_journal.specs.Accepting.{accepts}
use Rattle.norm_journal.specs.Judged.{Judged, is_done, news_due}
use Rattle.norm_journal.specs.Places.{Place, Starting, Between, Giving, Again, Offering, Taking}

-- The network is started; the clock gives a moment; the length of the file with this name is asked, or its octets are; a
-- datagram is offered to the network, or taken from it. (A line is written as its event joins the journal.)
pub data Call : Type 0 where
  StartsNetwork : Call
  AsksMoment : Call
  LooksIntoFile : (name : List ℕ) → Call
  OffersDatagram : (from : ℕ) (octets : List ℕ) → Call
  TakesDatagram : Call

-- the call for a command's octets
abbrev pub file_call : Verb → Option Call
file_call (verb.File name) = Some (LooksIntoFile name)
file_call _ = None

-- the call for a moment
abbrev pub moment_call : Bool → Option Call
moment_call clock = elim clock [ true ↦ Some AsksMoment | false ↦ None ]

-- the call that is due at a place
abbrev pub call_at : Place → Judged → Option Call
call_at Starting j = Some StartsNetwork
call_at Between j = moment_call (not (is_done j) && j.profile.step == 0)
call_at (Giving line) j = file_call line.verb
call_at (Again line) j = file_call line.verb
call_at (Offering node octets next) j = Some (OffersDatagram node octets)
call_at (Taking taken) j = Some TakesDatagram
call_at _ j = None

-- the call that is due
abbrev pub call_due : Judged → Option Call
call_due j = elim (news_due j) [ Some news ↦ None | None ↦ call_at j.place j ]

-- the call that an event comes by
abbrev pub call_of : Judged → Event → Option Call
call_of j event.Start = Some StartsNetwork
call_of j (event.Turn turn now) = moment_call (j.profile.step == 0)
call_of j (event.Job by (Some (job.File name octets)) gave) = Some (LooksIntoFile name)
call_of j (event.Length by name len fault) = Some (LooksIntoFile name)
call_of j (event.Offer from octets) = Some (OffersDatagram from octets)
call_of j (event.Took to octets) = Some TakesDatagram
call_of j event.Empty = Some TakesDatagram
call_of j _ = None

-- An event that may come comes by the call that is due, and by none where none is.
abbrev pub CallsAreDue : Type 0
CallsAreDue = (j next : Judged) (e : Event) → accepts j e ≡ Some next → call_of j e ≡ call_due j
