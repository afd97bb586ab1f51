-- What stands on standard error of a relay, for people.
use Rattle.std.specs.Prelude.{ℕ, ◌==◌, ◌||◌, List, [], ◌++◌, Bool, not, nat_lt, codes, if◌then◌else◌}
use Rattle.std.specs.Fmt.{decimal}
use Rattle.norm_base.specs.Keys.{row_of}
use Rattle.norm_script.specs.Sentences.{sentence_of}
use Rattle.norm_send_rules.specs.declared.fault.EnqueueFault.{EnqueueFault}
use Rattle.norm_send_rules.specs.declared.fault.EnqueueFault.TheVariants as enqueue
use Rattle.norm_send_rules.specs.declared.fault.SendFault.{SendFault}
use Rattle.norm_send_rules.specs.declared.fault.SendFault.TheVariants as send
use Rattle.norm_send_rules.specs.declared.fault.StreamFault.{StreamFault}
use Rattle.norm_send_rules.specs.declared.fault.StreamFault.TheVariants as stream
use Rattle.norm_show.specs.Sentences.{sentence_of_none}
use Rattle.relay_words.specs.declared.ends.Losses.{Losses}
use Rattle.relay_words.specs.declared.ends.NoEvent.{NoEvent}
use Rattle.relay_words.specs.declared.ends.NoEvent.TheVariants.{Spelt, Form, Digits}
use Rattle.relay_words.specs.declared.ends.NoRelay.{NoRelay}
use Rattle.relay_words.specs.declared.ends.NoRelay.TheVariants as relay
use Rattle.relay_words.specs.declared.ends.Patience.{Patience}

-- why two sessions are not relayed
abbrev pub relay_reason : NoRelay → List ℕ
relay_reason (relay.Size key up down) = (row_of key).name ++ (codes " is " ++ (decimal up ++ (codes " above and " ++ (decimal down ++ codes " below"))))
relay_reason relay.Mode = codes "the mode below is drop, and a relay wants hold"
relay_reason (relay.Node node first last) =
    codes "the node " ++ (decimal node ++ (codes " is no receiver above, where they are " ++ (decimal first ++ (codes " to " ++ decimal last))))
relay_reason (relay.Shared node) = codes "the id " ++ (decimal node ++ codes " is a member above and below")

-- why a line is no event
abbrev pub event_reason : NoEvent → List ℕ
event_reason (Spelt why) = sentence_of why
event_reason Form = codes "it is neither `up HEX` nor `down HEX` nor `tick`"
event_reason (Digits why) = codes "its HEX is no datagram: " ++ sentence_of_none why

-- which job of the session below was refused, and why
abbrev pub other_reason : List ℕ
other_reason = codes "a job below is refused"

abbrev pub stream_reason : StreamFault → List ℕ
stream_reason (stream.Spent octets) =
    codes "the write below is refused: after " ++ (decimal octets ++ codes " octets the stream cannot take so many more")
stream_reason _ = other_reason

abbrev pub enqueue_reason : EnqueueFault → List ℕ
enqueue_reason (enqueue.Stream why) = stream_reason why
enqueue_reason _ = other_reason

abbrev pub command_reason : SendFault → List ℕ
command_reason (send.IdUsed instance) =
    codes "the restart below under instance " ++ (decimal instance ++ codes " is refused: no relay restarts below more than 32767 times")
command_reason (send.Enqueue why) = enqueue_reason why
command_reason _ = other_reason

-- what the sender above dropped
abbrev pub loss_reason : Losses → List ℕ
loss_reason lost =
    codes "the sender above dropped data, so objects or streams are not sent below whole: " ++ (decimal lost.count ++ (codes " in all, the first is "
    ++ (decimal lost.index ++ (codes " of instance " ++ decimal lost.instance))))

-- the sender above may give up before an object was sent below
abbrev pub patience_reason : Patience → List ℕ
patience_reason patience =
    codes "40 grtt above are " ++ (decimal patience.above ++ (codes " microseconds, and octets / e * gap below are " ++ (decimal patience.below
    ++ codes ": the sender above may give up before a large object is sent on")))

-- something was dropped
abbrev pub has_lost : Losses → Bool
has_lost lost = not (lost.count == 0)

-- it may give up too early
abbrev pub is_short : Patience → Bool
is_short patience = nat_lt patience.above patience.below

-- there is something to say once all lines were relayed
abbrev pub is_told : Losses → Patience → Bool
is_told lost patience = has_lost lost || is_short patience

-- what is to be said once all lines were relayed, each on a line of its own
abbrev pub relayed_reason : Losses → Patience → List ℕ
relayed_reason lost patience =
    if has_lost lost then (if is_short patience then loss_reason lost ++ (codes "\n" ++ patience_reason patience) else loss_reason lost) else
    (if is_short patience then patience_reason patience else [])
