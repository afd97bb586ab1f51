-- What each turn of a tail leaves, as long as its phase lasts: it began at a moment with so many flushes counted, as the tail began or a closing left less.
use Rattle.std.specs.Prelude.{◌≡◌, ◌≤◌, ◌+◌, ◌*◌, ◌-◌, ◌==◌, ◌&&◌, ◌||◌, ℕ, length, not, nat_lt, nat_le, Bool, true, false, Option, None, Some, is_none}
use Rattle.std.specs.List.{list_all, list_any}
use Rattle.norm_base.specs.Settings.{Settings}
use Rattle.fec_plan.specs.Points.{position_before, reached_by}
use Rattle.norm_receive_rules.specs.Leaving.{is_in}
use Rattle.norm_receive_rules.specs.ReceiverState.{ReceiverState}
use Rattle.norm_send_rules.specs.SenderState.{SenderState}
use Rattle.norm_send_rules.specs.Watermarks.{oldest, has_member}
use Rattle.norm_send_rules.specs.declared.want.Want.{Want}
use Rattle.norm_safety.specs.World.{World}
use Rattle.norm_recovery.specs.Asking.{have_wanted}
use Rattle.norm_recovery.specs.Clean.{is_clean_from}
use Rattle.norm_recovery.specs.Left.{has, in_window}
use Rattle.norm_recovery.specs.RoundAsks.{asks_open}
use Rattle.norm_recovery.specs.RunsOut.{RunsOut, all_new, to_send}
use Rattle.norm_recovery.specs.Timely.{WorldTimely}

-- A phase: when it began, with so many flushes counted; the last closing since, or its begin; and the first flush that went once no member was held off
-- by what it heard before the phase.
pub record Phase : Type 0 where
  pub counted : ℕ
  pub began : ℕ
  pub since : ℕ
  pub first : Option ℕ

-- a test of each member
abbrev pub each_member : (ReceiverState → Bool) → World → Bool
each_member test w = list_all (λ (r : ReceiverState). not (has_member r.node w.sender) || test r) w.receivers

-- the open round asks for something of the window that a receiver lacks
abbrev pub is_asked : Settings → SenderState → ReceiverState → Bool
is_asked p s r = list_any (λ (y : Want). not (has p s r y) && asks_open p s y) (in_window p s)

-- a flush went at this moment
abbrev pub flushed_at : ℕ → SenderState → Bool
flushed_at now s = elim s.last_flush [ Some last ↦ last == now | None ↦ false ]

-- so long may a member be held off by what it heard before the phase
abbrev pub most_held : Settings → Phase → ℕ
most_held p ph = ph.began + (2 * p.k + 4) * p.grtt + 2 * p.step

-- no acknowledgement is due
abbrev pub owes_nothing : ReceiverState → Bool
owes_nothing r = is_none r.knows.due

-- a back-off that runs ends later, or this turn flushed
abbrev pub has_waited : ℕ → SenderState → ReceiverState → Bool
has_waited now s r = elim r.knows.backoff [ Some ends ↦ nat_lt now ends || flushed_at now s | None ↦ true ]

-- no acknowledgement is due, and a back-off that runs ends later, or in this turn if that flushed
abbrev pub has_ticked : Settings → ℕ → SenderState → ReceiverState → Bool
has_ticked p now s r = owes_nothing r && elim r.knows.backoff [
  | Some ends ↦ nat_lt now ends || flushed_at now s && nat_lt now (ends + p.step)
  | None ↦ true
]

-- an open round closes later
abbrev pub closes_later : ℕ → SenderState → Bool
closes_later now s = elim s.round [ Some r ↦ nat_lt now r.closes | None ↦ true ]

-- a round that is open closes a round trip after the last closing, or later; the first of the phase may close sooner
abbrev pub closes_apart : Settings → Phase → SenderState → Bool
closes_apart p ph s = ph.since == ph.began || elim s.round [ Some r ↦ nat_le (ph.since + p.grtt) r.closes | None ↦ true ]

-- nothing new is left, and every member has everything that is wanted
abbrev pub is_spent : Settings → World → Bool
is_spent p w = length (all_new p w.sender) == 0 && have_wanted p w

-- flushes are two round trips apart
abbrev pub are_apart : Settings → Phase → SenderState → Bool
are_apart p ph s = nat_le s.flushes ph.counted || elim s.last_flush [
  | Some last ↦ nat_le (ph.began + 2 * p.grtt * (s.flushes - ph.counted)) (last + 2 * p.grtt)
  | None ↦ false
]

-- a member is not past the position of the oldest watermark
abbrev pub is_behind : SenderState → ReceiverState → Bool
is_behind s r = elim (oldest s) [ Some w ↦ not (position_before w.at r.holding.point) | None ↦ false ]

-- a member that is behind is asked for, or backs off, at most so long after that flush
abbrev pub is_waited : Settings → ℕ → SenderState → ReceiverState → Bool
is_waited p flush s r = not (is_behind s r) || is_asked p s r || elim r.knows.backoff [ Some ends ↦ nat_le ends (flush + p.k * p.grtt) | None ↦ false ]

-- after the back-offs that began with that flush, the open round closes soon
abbrev pub closes_soon : Settings → ℕ → ℕ → SenderState → Bool
closes_soon p flush now s = nat_lt now (flush + p.k * p.grtt + 2 * p.step) || elim s.round [
  | Some r ↦ nat_le r.closes (flush + (2 * p.k + 1) * p.grtt + 3 * p.step)
  | None ↦ false
]

-- a member knows a flush of the oldest watermark's position, or of a further one
abbrev pub knows_flush : SenderState → ReceiverState → Bool
knows_flush s r = is_in r s.current.id && elim (oldest s) [ Some w ↦ reached_by r.knows.flush w.at | None ↦ false ]

-- no flush went once nobody was held off by what it heard before
abbrev pub flushed_before : Settings → Phase → SenderState → Bool
flushed_before p ph s = elim s.last_flush [ Some last ↦ nat_lt last (most_held p ph) | None ↦ true ]

-- all that is to be sent goes by a gap after that moment, or half a round trip and a gap after the last closing
abbrev pub sends_soon : Settings → Phase → SenderState → Bool
sends_soon p ph s =
    nat_le (s.next_send + to_send p s * (p.gap + p.step)) (most_held p ph + p.gap)
    || nat_le (2 * (s.next_send + to_send p s * (p.gap + p.step) + p.step)) (2 * (ph.since + p.gap) + p.grtt)

-- From two round trips after it on the sender may not send yet; and since the first turn then no round closed.
abbrev pub waits_to_send : Settings → Phase → ℕ → SenderState → Bool
waits_to_send p ph now s =
    nat_lt now (most_held p ph + 2 * p.grtt) || nat_lt now s.next_send && nat_lt ph.since (most_held p ph + 2 * p.grtt + p.step)

-- Before that flush it goes as soon as the sender may send. After it every member knows it, some member is behind, each of those is waited for, and the
-- open round closes soon.
abbrev pub is_waiting : Settings → Phase → ℕ → World → Bool
is_waiting p ph now w = elim ph.first [
  | Some flush ↦ nat_le (most_held p ph) flush && nat_le flush now && nat_le (2 * flush) (2 * most_held p ph + 5 * p.grtt + 2 * (p.gap + p.step))
      && each_member (knows_flush w.sender) w && not (each_member (λ r. not (is_behind w.sender r)) w) && each_member (is_waited p flush w.sender) w
      && closes_soon p flush now w.sender
  | None ↦ flushed_before p ph w.sender && sends_soon p ph w.sender && waits_to_send p ph now w.sender
]

-- Of a world at a moment at which a turn ended, in this phase.
pub record Watch (p : Settings) (ph : Phase) (now : ℕ) (w : World) : Type 0 where
  -- the last closing lies in it
  pub within : (ph.began ≤ ph.since) × (ph.since ≤ now)
  -- nothing is put off further than the rules say
  pub timely : WorldTimely p now w
  -- a turn after its begin nobody owes an acknowledgement; and from three turns on everybody did what was due
  pub acked : (nat_lt now (ph.began + p.step) || list_all owes_nothing w.receivers) ≡ true
  pub waited : (nat_lt now (ph.began + 2 * p.step) || list_all (has_waited now w.sender) w.receivers) ≡ true
  pub ticked : (nat_lt now (ph.began + 3 * p.step) || list_all (has_ticked p now w.sender) w.receivers) ≡ true
  pub later : closes_later now w.sender ≡ true
  -- all that is to be sent goes within a round trip of the last closing
  pub runs_out : RunsOut p (ph.since + p.grtt) now w.sender
  pub apart : closes_apart p ph w.sender ≡ true
  -- two round trips after its begin, or once a round closed a round trip after it: nothing new is left, and what is wanted everybody has
  pub spent : (not (nat_lt (ph.began + p.grtt) ph.since || nat_le (ph.began + 2 * p.grtt) now) || is_spent p w) ≡ true
  -- a back-off that began two round trips after its begin, or later, is clean
  pub clean : each_member (is_clean_from (ph.began + (p.k + 2) * p.grtt + 1) p w.sender) w ≡ true
  -- whoever is held off longer than by what it heard before is asked for
  pub held_off : each_member (λ r. nat_le r.knows.holdoff (most_held p ph) || is_asked p w.sender r) w ≡ true
  pub flushed : are_apart p ph w.sender ≡ true
  pub asking : is_waiting p ph now w ≡ true
