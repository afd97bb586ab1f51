-- What `relay` prints: what a relay between two sessions makes of the datagrams and ticks that the lines of the input are.
use Rattle.std.specs.Prelude.{ℕ, zero, suc, ◌+◌, ◌%◌, ◌==◌, List, [], ◌∷◌, ◌++◌, fold, Bool, true, false, codes, Option, None, Some, Result, Ok, Err, if◌then◌else◌}
use Rattle.std.specs.Fmt.{decimal}
use Rattle.std.specs.Option.{option_map}
use Rattle.hex.specs.Hex.{encode_lower}
use Rattle.rand_pcg.specs.Lcg.{Lcg}
use Rattle.norm_base.specs.Settings.{Settings}
use Rattle.norm_text.specs.Words.{line}
use Rattle.norm_script.specs.Text.{text_lines}
use Rattle.norm_ext.specs.Numbers.{type_number}
use Rattle.norm_ext.specs.declared.kinds.MessageType.TheVariants as types
use Rattle.norm_ext.specs.Written.{Written}
use Rattle.norm_order.specs.declared.up.Up.{Up}
use Rattle.norm_order.specs.declared.up.Up.TheVariants as up
use Rattle.norm_send_rules.specs.declared.fault.SendFault.{SendFault}
use Rattle.norm_send_rules.specs.declared.fault.SendFault.TheVariants as send
use Rattle.norm_journal.specs.Draws.{first_draws, next_draw, draws_after}
use Rattle.norm_relay.specs.RelayState.{Relaying, relay_opening, untold, upper_instance}
use Rattle.norm_relay.specs.RelayStep.{RelayEvent, UpDelivered, DownDelivered, PumpAsked, UpTicked, DownTicked, DownNews, RelayAnswer, Took, Counted, Sent, relay_step}
use Rattle.relay_words.specs.Events.{event_in, why_no_event}
use Rattle.relay_words.specs.declared.event.LineEvent.{LineEvent}
use Rattle.relay_words.specs.declared.event.LineEvent.TheVariants as event
use Rattle.relay_words.specs.declared.ends.Losses.{Losses}
use Rattle.relay_words.specs.declared.ends.NoEvent.{NoEvent}
use Rattle.relay_words.specs.declared.ends.RelayEnd.{RelayEnd}
use Rattle.relay_words.specs.declared.ends.RelayEnd.TheVariants as stop
use Rattle.driven_nodes.specs.Gathered.{moment_of_line}

-- What the lines so far led to: the relay with its two sessions; the draws that are to come; how many lines there were; how many hand-ups
-- became jobs below; how many acknowledgements were sent above; and what the sender above dropped.
pub record SoFar : Type 0 where
  pub x : Relaying
  pub draws : Lcg
  pub lines : ℕ
  pub enqueued : ℕ
  pub acknowledged : ℕ
  pub lost : Losses

-- what is printed, and how the lines end
pub record Printed : Type 0 where
  pub lines : List (List ℕ)
  pub end : RelayEnd

-- What is done, and printed of it, if others go on from there.
abbrev pub Act : Type 0
Act = SoFar → (SoFar → Printed) → Printed

-- the relay after an event, and its answer
unfoldable pub next : RelayEvent → Relaying → Relaying
next e x = (relay_step x e).0

unfoldable pub answered : RelayEvent → Relaying → RelayAnswer
answered e x = (relay_step x e).1

-- lines in front of what is printed
abbrev pub in_front : List (List ℕ) → Printed → Printed
in_front lines printed = record { lines = lines ++ printed.lines; end = printed.end }

-- nothing more is printed
abbrev pub halted : RelayEnd → Printed
halted end = record { lines = []; end = end }

abbrev pub after : RelayEvent → SoFar → SoFar
after e g = record g { x = next e g.x }

-- so many news of the members below are asked for, and all
unfoldable pub told_news : ℕ → Relaying → Relaying
told_news zero x = x
told_news (suc n) x = next DownNews (told_news n x)

abbrev pub told_all : Relaying → Relaying
told_all x = told_news (untold x) x

abbrev pub tells : SoFar → SoFar
tells g = record g { x = told_all g.x }

-- the datagram that a tick gave
abbrev pub octets_in : RelayAnswer → Option (List ℕ)
octets_in (Sent datagram) = option_map (λ (w : Written). w.octets) datagram
octets_in _ = None

-- its line, which begins with the side that it is sent to
abbrev pub sent_line : List ℕ → List ℕ → List ℕ
sent_line side octets = line side (encode_lower octets ∷ [])

abbrev pub sent_lines : List ℕ → Option (List ℕ) → List (List ℕ)
sent_lines side None = []
sent_lines side (Some octets) = sent_line side octets ∷ []

-- A tick gave a datagram, or none, and led to a state.
abbrev pub sends : List ℕ → (SoFar → Option (List ℕ)) → (SoFar → SoFar) → Act
sends side given state g others = in_front (sent_lines side (given g)) (others (state g))

-- a datagram is an acknowledgement, by its type: the low four bits of its first octet (RFC 5740 section 4.1)
abbrev pub is_ack : List ℕ → Bool
is_ack [] = false
is_ack (first ∷ octets) = first % 16 == type_number types.Ack

abbrev pub acks_in : Option (List ℕ) → ℕ
acks_in None = 0
acks_in (Some octets) = if is_ack octets then 1 else 0

-- The relay ticks above.
abbrev pub up_sent : ℕ → SoFar → Option (List ℕ)
up_sent now g = octets_in (answered (UpTicked now) g.x)

abbrev pub up_ticked : ℕ → SoFar → SoFar
up_ticked now g = record (after (UpTicked now) g) { acknowledged = g.acknowledged + acks_in (up_sent now g) }

abbrev pub ticks_up : ℕ → Act
ticks_up now = sends (codes "up") (up_sent now) (up_ticked now)

-- It ticks below, and its news are asked for.
abbrev pub down_sent : ℕ → SoFar → Option (List ℕ)
down_sent now g = octets_in (answered (DownTicked now) g.x)

abbrev pub down_ticked : ℕ → SoFar → SoFar
down_ticked now g = tells (after (DownTicked now) g)

abbrev pub ticks_down : ℕ → Act
ticks_down now = sends (codes "down") (down_sent now) (down_ticked now)

-- It pumps, and its news are asked for; or a job was refused for good, and nothing more is done.
abbrev pub pump_told : RelayAnswer → Result ℕ SendFault
pump_told (Counted count) = count
pump_told _ = Err send.Memory

abbrev pub pumped : ℕ → ℕ → SoFar → SoFar
pumped now count g = tells (record (after (PumpAsked now) g) { enqueued = g.enqueued + count })

abbrev pub pumps_by : ℕ → Result ℕ SendFault → Act
pumps_by now (Ok count) g others = others (pumped now count g)
pumps_by now (Err fault) g others = halted (stop.Refused fault)

abbrev pub pumps : ℕ → Act
pumps now g others = pumps_by now (pump_told (answered (PumpAsked now) g.x)) g others

-- one act after another
abbrev pub followed : Act → Act → Act
followed first second g others = first g (λ k. second k others)

-- After each event the relay ticks above, pumps, and ticks below.
abbrev pub answers_below : ℕ → Act
answers_below now = followed (pumps now) (ticks_down now)

abbrev pub answers : ℕ → Act
answers now = followed (ticks_up now) (answers_below now)

-- one more loss; of the first one its instance and index are kept
abbrev pub with_loss : (instance index : ℕ) → Losses → Losses
with_loss instance index lost =
    if lost.count == 0 then record { count = 1; instance = instance; index = index } else record lost { count = lost.count + 1 }

abbrev pub loses : ℕ → Losses → Up → Losses
loses instance lost (up.Lost index) = with_loss instance index lost
loses instance lost _ = lost

-- the losses among the hand-ups of an instance; before the first instance there are none
abbrev pub losses_of : Option ℕ → List Up → Losses → Losses
losses_of None ups lost = lost
losses_of (Some instance) ups lost = fold (loses instance) lost ups

-- what the relay keeps waiting is what it was handed up since nothing waited
abbrev pub with_losses : SoFar → SoFar
with_losses g = record g { lost = losses_of (upper_instance g.x) g.x.waiting g.lost }

-- A datagram from above is taken, with the next draw; or it is lost, since something waits, and no draw is used.
abbrev pub delivery : List ℕ → ℕ → SoFar → RelayEvent
delivery datagram now g = UpDelivered datagram now (next_draw g.draws)

abbrev pub is_taken : RelayAnswer → Bool
is_taken (Took taken) = taken
is_taken _ = false

abbrev pub busy_line : List ℕ
busy_line = line (codes "busy") []

abbrev pub taken_up : List ℕ → ℕ → SoFar → SoFar
taken_up datagram now g = with_losses (record (after (delivery datagram now g) g) { draws = draws_after g.draws })

abbrev pub hears_by : Bool → List ℕ → ℕ → Act
hears_by true datagram now g others = others (taken_up datagram now g)
hears_by false datagram now g others = in_front (busy_line ∷ []) (others (after (delivery datagram now g) g))

abbrev pub hears_up : List ℕ → ℕ → Act
hears_up datagram now g others = hears_by (is_taken (answered (delivery datagram now g) g.x)) datagram now g others

-- A datagram from below is taken, and the news are asked for.
abbrev pub hears_down : List ℕ → ℕ → Act
hears_down datagram now g others = others (tells (after (DownDelivered datagram now) g))

-- what the event of a line does
abbrev pub takes_event : LineEvent → ℕ → Act
takes_event (event.Up datagram) now = followed (hears_up datagram now) (answers now)
takes_event (event.Down datagram) now = followed (hears_down datagram now) (answers now)
takes_event event.Tick now = answers now

-- Line n is one of these events, or else nothing more is done.
abbrev pub counts : Act
counts g others = others (record g { lines = g.lines + 1 })

abbrev pub takes_one : LineEvent → ℕ → Act
takes_one e n = followed counts (takes_event e (moment_of_line n))

abbrev pub takes_or_halts : ℕ → NoEvent → Option LineEvent → Act
takes_or_halts n why None g others = halted (stop.NoEvent n why)
takes_or_halts n why (Some e) g others = takes_one e n g others

abbrev pub takes_line : ℕ → List ℕ → Act
takes_line n text = takes_or_halts n (why_no_event text) (event_in text)

-- the last line
abbrev pub last_line : (lines enqueued acknowledged : ℕ) → List ℕ
last_line lines enqueued acknowledged =
    line (codes "end") (codes "lines" ∷ decimal lines ∷ codes "enqueued" ∷ decimal enqueued ∷ codes "acknowledged" ∷ decimal acknowledged ∷ [])

abbrev pub ended : SoFar → Printed
ended g = record { lines = last_line g.lines g.enqueued g.acknowledged ∷ []; end = stop.All g.lost }

-- the lines from number n on, and then the last line
abbrev pub takes_lines : ℕ → List (List ℕ) → SoFar → Printed
takes_lines n [] g = ended g
takes_lines n (first ∷ lines) g = takes_line n first g (λ k. takes_lines (n + 1) lines k)

abbrev pub nothing_lost : Losses
nothing_lost = record { count = 0; instance = 0; index = 0 }

-- as it begins, at this node of the session above
abbrev pub opening : Settings → ℕ → Settings → SoFar
opening p node q = record {
  x = relay_opening p node q;
  draws = first_draws p;
  lines = 0;
  enqueued = 0;
  acknowledged = 0;
  lost = nothing_lost;
}

-- The profiles of the sessions above and below, and the node above that relays them.
pub record Joined : Type 0 where
  pub up : Settings
  pub node : ℕ
  pub down : Settings

abbrev pub joined : Settings → ℕ → Settings → Joined
joined p node q = record { up = p; node = node; down = q }

-- What is printed of a text, and how it ends.
abbrev pub relayed : Settings → ℕ → Settings → List ℕ → Printed
relayed p node q text = takes_lines 1 (text_lines text) (opening p node q)
