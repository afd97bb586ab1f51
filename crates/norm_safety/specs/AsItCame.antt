-- As a round closes, a request asks by the order as it stood when the request came, whatever was enqueued since (RFC 5740
-- section 5.4).
use Rattle.std.specs.Prelude.{ℕ, ◌≡◌, List, [], ◌∷◌, ◌++◌, filter, Contains, true, Ok, None, Some}
use Rattle.std.specs.List.{AllByRecursion}
use Rattle.norm_base.specs.Settings.{Settings, InRange}
use Rattle.norm_ext.specs.Asking.{Count, asked_counts}
use Rattle.norm_ext.specs.Message.{NackMessage, Nack}
use Rattle.norm_ext.specs.Reading.{decoded}
use Rattle.norm_ext.specs.Requests.{Request}
use Rattle.norm_send_rules.specs.SenderState.{SenderState, Asked, sender_opening}
use Rattle.norm_send_rules.specs.InWindow.{current_shapes}
use Rattle.norm_send_rules.specs.Asking.{asks_for, as_it_came, wants_of, is_kept, counts_of}
use Rattle.norm_send_rules.specs.Hearing.{asked_now, nack_counts}
use Rattle.norm_send_rules.specs.Reached.{IsReached}
use Rattle.norm_send_rules.specs.SenderStep.{SenderEvent, Delivered, sender_step}

-- the sender after these events
unfoldable pub after : Settings → SenderState → List SenderEvent → SenderState
after p s [] = s
after p s (event ∷ events) = after p (sender_step p s event).0 events

-- Of a request that comes now, and of the sender at any later moment of the same instance, this.
abbrev pub AtEachLaterMoment : (Settings → SenderState → Asked → SenderState → Type 0) → Type 0
AtEachLaterMoment Promise =
    (p : Settings) (s : SenderState) (r : Request) (events : List SenderEvent) → InRange p → IsReached p s
    → (after p s events).current.id ≡ s.current.id
    → Promise p s (asked_now p s r) (after p s events)

-- Data, files and streams may have joined the order since, and its last stream may have gone on or ended. The request is still
-- read by the order as it stood: no entry more and no symbol more; its wants are those of then, and its counts are of blocks
-- that had a closed symbol then and were in the window of then.
pub record AsksAsItCame : Type 0 where
  pub order : AtEachLaterMoment (λ p s a later. as_it_came a (current_shapes p later) ≡ current_shapes p s)
  pub wants : AtEachLaterMoment (λ p s a later. wants_of (current_shapes p later) a ≡ asks_for (current_shapes p s) a.request)
  pub counts : AtEachLaterMoment (λ p s a later.
      counts_of (current_shapes p later) a
      ≡ filter (λ (c : Count). is_kept (current_shapes p s) s.current.drop c.of) (asked_counts a.request))

-- the requests of the open round
abbrev pub asked_yet : SenderState → List Asked
asked_yet s = elim s.round [ Some r ↦ r.asked | None ↦ [] ]

-- the datagram is a NACK that counts, with this request
pub record AsksBy (p : Settings) (s : SenderState) (datagram : List ℕ) (r : Request) : Type 0 where
  pub nack : NackMessage
  pub spells : decoded datagram ≡ Ok (Nack nack)
  pub counts : nack_counts p s nack ≡ true
  pub has : Contains nack.requests r

-- A request of a round, after these events: a NACK of this instance brought it, it was kept as it asks at that moment, and the
-- order by which it is read is that of then.
pub record CameByNack (p : Settings) (opening : SenderState) (events : List SenderEvent) (a : Asked) : Type 0 where
  pub before : List SenderEvent
  pub datagram : List ℕ
  pub moment : ℕ
  pub since : List SenderEvent
  pub run : events ≡ before ++ Delivered datagram moment ∷ since
  pub request : Request
  pub asks : AsksBy p (after p opening before) datagram request
  pub kept : a ≡ asked_now p (after p opening before) request
  pub instance : (after p opening events).current.id ≡ (after p opening before).current.id
  pub order : as_it_came a (current_shapes p (after p opening events)) ≡ current_shapes p (after p opening before)

-- So is each request of the open round at each moment of each run, and so each that is read as its round closes.
abbrev pub RoundsAskAsItCame : Type 0
RoundsAskAsItCame =
    (p : Settings) (instance : ℕ) (events : List SenderEvent) → InRange p
    → let opening = sender_opening p instance in
    AllByRecursion (CameByNack p opening events) (asked_yet (after p opening events))
