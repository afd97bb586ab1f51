-- A tail (RFC 5740 section 5): a world goes on over a network that loses nothing, without commands, until a watermark is done.
use Rattle.std.specs.Prelude.{ℕ, zero, suc, ◌+◌, ◌*◌, ◌==◌, ◌||◌, List, [], ◌∷◌, ◌++◌, length, map, filter, find, fold, Bool, true, false, not, nat_lt, Option, None, Some, is_none}
use Rattle.std.specs.Fn.{iterate}
use Rattle.std.specs.Int.{div_ceil}
use Rattle.std.specs.Option.{option_map, option_map_or}
use Rattle.norm_base.specs.Settings.{Settings}
use Rattle.norm_base.specs.Members.{receivers_of, members_of}
use Rattle.norm_base.specs.declared.kinds.Mode.TheVariants as mode
use Rattle.norm_ext.specs.Written.{Written}
use Rattle.norm_order.specs.First.{first_where}
use Rattle.norm_send_rules.specs.SenderState.{SenderState}
use Rattle.norm_send_rules.specs.Repairable.{repairable, streams}
use Rattle.norm_send_rules.specs.Watermarks.{outcome_of, oldest, watermark_of}
use Rattle.norm_send_rules.specs.declared.news.Outcome.{Outcome}
use Rattle.norm_send_rules.specs.declared.news.Outcome.TheVariants as outcome
use Rattle.norm_receive_rules.specs.ReceiverState.{ReceiverState}
use Rattle.norm_safety.specs.Events.{Event, Delivered, Ticked, Offered, UpTaken, NewsAsked}
use Rattle.norm_safety.specs.History.{Happening}
use Rattle.norm_safety.specs.World.{World, receiver_at}
use Rattle.norm_safety.specs.WorldStep.{world_step}

-- A course: the world that events led to, what happened, and how many draws that used. Draws are numbered from 0, one for each delivery to
-- a receiver.
pub record Course : Type 0 where
  pub world : World
  pub happened : List Happening
  pub used : ℕ

-- as a course begins
abbrev pub course_from : World → Course
course_from w = record { world = w; happened = []; used = 0 }

-- the events of a course
abbrev pub events_of : Course → List Event
events_of c = map (λ (h : Happening). h.event) c.happened

-- an event comes
abbrev pub comes : Settings → Event → Course → Course
comes p e c =
    let step = world_step p c.world e in
    let h : Happening = record { before = c.world; event = e; answer = step.1; after = step.0 } in
    record c { world = step.0; happened = c.happened ++ h ∷ [] }

-- how many news the sender has to tell
abbrev pub untold : SenderState → ℕ
untold s = length s.untold_nodes + length s.untold_marks

-- the sender tells all its news
abbrev pub tells : Settings → Course → Course
tells p c = iterate (comes p NewsAsked) (untold c.world.sender) c

-- how many hand-ups of a node were not taken
abbrev pub untaken : World → ℕ → ℕ
untaken w node = option_map_or (λ (r : ReceiverState). length r.holding.ups) (receiver_at w node) 0

-- all hand-ups of a node are taken
abbrev pub takes : Settings → ℕ → Course → Course
takes p node c = iterate (comes p (UpTaken node)) (untaken c.world node) c

-- A copy of a datagram comes to a node: to a receiver with the next draw; to the sender without one, and it tells its news.
abbrev pub copy_comes : Settings → (ℕ → ℕ) → ℕ → List ℕ → Course → ℕ → Course
copy_comes p draws now octets c node = elim (node == p.sender) [
  | true ↦ tells p (comes p (Delivered node octets now 0) c)
  | false ↦ comes p (Delivered node octets now (draws c.used)) (record c { used = c.used + 1 })
]

-- the other members, in order
abbrev pub others_than : Settings → ℕ → List ℕ
others_than p node = filter (λ other. not (other == node)) (members_of p)

-- the datagram that a node's last tick gave, if it was not offered yet
abbrev pub given_by : World → ℕ → Option Written
given_by w node = option_map (λ (g : ℕ × Written). g.1) (find (λ (g : ℕ × Written). g.0 == node) w.given)

-- What a node's tick gave is offered, and a copy comes to each other member in order, the sender first.
abbrev pub passes_on : Settings → (ℕ → ℕ) → ℕ → Course → ℕ → Course
passes_on p draws now c node = elim (given_by c.world node) [
  | Some d ↦ fold (copy_comes p draws now d.octets) (comes p (Offered node d.octets) c) (others_than p node)
  | None ↦ c
]

-- the sender ticks, and tells its news
abbrev pub sender_ticks : Settings → ℕ → Course → Course
sender_ticks p now c = tells p (comes p (Ticked p.sender now) c)

-- a receiver ticks, after its hand-ups were taken
abbrev pub receiver_ticks : Settings → ℕ → Course → ℕ → Course
receiver_ticks p now c node = comes p (Ticked node now) (takes p node c)

-- a receiver ticks, and its datagram is passed on
abbrev pub serves : Settings → (ℕ → ℕ) → ℕ → Course → ℕ → Course
serves p draws now c node = passes_on p draws now (receiver_ticks p now c node) node

-- After the sender's tick its datagram is passed on; then the receivers are served in order, each before the next one ticks.
abbrev pub goes_round : Settings → (ℕ → ℕ) → ℕ → Course → Course
goes_round p draws now c = fold (serves p draws now) (passes_on p draws now c p.sender) (receivers_of p p.receivers)

-- A turn: the sender ticks, and all goes round.
abbrev pub tail_turn : Settings → (ℕ → ℕ) → ℕ → Course → Course
tail_turn p draws now c = goes_round p draws now (sender_ticks p now c)

-- so many turns, a step apart, the first a step after a moment
unfoldable pub tail_turns : ℕ → Settings → (ℕ → ℕ) → ℕ → Course → Course
tail_turns zero p draws last c = c
tail_turns (suc n) p draws last c = tail_turns n p draws (last + p.step) (tail_turn p draws (last + p.step) c)

-- an outcome says that its watermark is open
abbrev pub says_open : Outcome → Bool
says_open (outcome.Open left) = true
says_open outcome.Satisfied = false
says_open (outcome.Expired left) = false
says_open outcome.Cut = false

-- the watermark with this number is open
abbrev pub is_open_mark : World → ℕ → Bool
is_open_mark w mark = option_map_or says_open (option_map (outcome_of w.sender) (watermark_of w.sender mark)) false

-- A turn is cut after the sender's tick and news if these end the watermark.
abbrev pub cut_turn : Settings → (ℕ → ℕ) → ℕ → ℕ → Course → Course
cut_turn p draws mark now c =
    let c' = sender_ticks p now c in
    elim (is_open_mark c'.world mark) [ true ↦ goes_round p draws now c' | false ↦ c' ]

-- A tail: how many turns it has, the moment of the last one, and its course.
pub record Tail : Type 0 where
  pub turns : ℕ
  pub last : ℕ
  pub course : Course

-- one more turn, which counts even if it is cut
abbrev pub turn_more : Settings → (ℕ → ℕ) → ℕ → Tail → Tail
turn_more p draws mark t =
    let now = t.last + p.step in
    record { turns = t.turns + 1; last = now; course = cut_turn p draws mark now t.course }

-- turns until a watermark is done, so many at most
unfoldable pub tail_until : ℕ → Settings → (ℕ → ℕ) → ℕ → Tail → Tail
tail_until zero p draws mark t = t
tail_until (suc n) p draws mark t = elim (is_open_mark t.course.world mark) [
  | true ↦ tail_until n p draws mark (turn_more p draws mark t)
  | false ↦ t
]

-- The time of a tail, in microseconds: a phase for each info and symbol that may need repair, and a last one. A phase is over before 2K + 5
-- flushes were sent, two round trips apart.
abbrev pub tail_time : Settings → SenderState → ℕ
tail_time p s = (repairable p s + 1) * (4 * p.k + 10) * p.grtt

-- as many turns as take that time
abbrev pub tail_bound : Settings → SenderState → ℕ
tail_bound p s = div_ceil (tail_time p s) p.step

-- The tail of a world: turns until the watermark with this number is done, and no more than its bound. The first is a step after a moment
-- that no event of the world passes.
abbrev pub tail_of : Settings → (ℕ → ℕ) → ℕ → World → ℕ → Tail
tail_of p draws last w mark =
    tail_until (tail_bound p w.sender) p draws mark (record { turns = 0; last = last; course = course_from w })

-- why no tail begins
pub data TailRefusal : Type 0 where
  NoRequest : TailRefusal
  Mode : TailRefusal
  Streams : (count : ℕ) → TailRefusal
  Step : (step : ℕ) → TailRefusal
  Pace : (symbols : ℕ) → TailRefusal
  Flushes : (count : ℕ) → TailRefusal

-- the sender drops what not all confirmed
abbrev pub drops : Settings → Bool
drops p = elim p.mode [ mode.Hold ↦ false | mode.Drop ↦ true ]

-- how long the window and one datagram more take, sent twice, if each waits for a gap and a turn
abbrev pub sent_twice : Settings → SenderState → ℕ
sent_twice p s = 2 * (repairable p s + 1) * (p.gap + p.step)

-- The most flushes, with 2K, that may be counted as a tail begins: a phase may take 2K + 5 more, and a watermark expires after 20.
abbrev pub most_counted : ℕ
most_counted = 15

-- Why no tail begins, the first that applies: no watermark is open, the mode is not `hold`, streams are in the window, turns stand still
-- or are further apart than datagrams, the window is not sent twice in a round trip, or too many flushes were counted.
abbrev pub tail_fault : Settings → SenderState → Option TailRefusal
tail_fault p s = first_where (
    (is_none (oldest s), NoRequest)
    ∷ (drops p, Mode)
    ∷ (nat_lt 0 (streams s), Streams (streams s))
    ∷ (p.step == 0 || nat_lt p.gap p.step, Step p.step)
    ∷ (nat_lt p.grtt (sent_twice p s), Pace (repairable p s))
    ∷ (nat_lt most_counted (s.flushes + 2 * p.k), Flushes s.flushes)
    ∷ []
    )
