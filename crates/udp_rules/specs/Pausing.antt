-- How a network of sockets pauses where nothing is there to be taken: it never waits in a read.
use Rattle.std.specs.Prelude.{◌≡◌, ℕ, ℤ, pos, negsuc, ◌+◌, ◌-◌, ◌<◌, ◌≤◌, min, nat_le, nat_lt, Bool, true, false, not, ◌&&◌, ◌||◌, is_none, Option, None, Some, if◌then◌else◌}
use Rattle.udp_rules.specs.declared.pace.Pace.{Pace}
use Rattle.udp_rules.specs.declared.pace.Pause.{Pause}
use Rattle.udp_rules.specs.declared.pace.Pause.TheVariants as pause

-- a sender that offered at this moment waits until its gap is over, and at most for a millisecond
abbrev pub wait_until : ℕ → ℕ → ℕ
wait_until gap offered = min (offered + min gap 1000) 18446744073709551615

-- until then it sleeps if 60 microseconds or more are left, and else it reads the clock until it is over
abbrev pub rest_of : ℕ → ℕ → Pause
rest_of until now = if nat_le 60 (until - now) then pause.Rest (min (until - now) 1000) else pause.Look until

-- nothing came or went for ten milliseconds: in these it was not answered that nothing is there after something was offered or taken
abbrev pub is_idle : Option ℕ → ℕ → Bool
is_idle None now = true
is_idle (Some busy) now = not (nat_le (now - busy) 10000)

-- What is done at this moment where nothing is there: a sender that offered since that was last answered waits until its gap is over; whoever was busy
-- since then answers it at once; a node that is idle waits in a poll; and any other sleeps for 250 microseconds.
abbrev pub pause_of : Pace → ℕ → Pause
pause_of p now = elim p.offered [
  | Some offered ↦ rest_of (wait_until p.gap offered) now
  | None ↦ if p.busy then pause.Answer else (if is_idle p.last now then pause.Poll else pause.Sleep 250)
]

-- it waits in a poll
abbrev pub polls : Pause → Bool
polls (pause.Look until) = false
polls (pause.Rest micros) = false
polls pause.Answer = false
polls pause.Poll = true
polls (pause.Sleep micros) = false

-- a poll found a datagram where it did not fail, counts some sockets, and one of them may be read; an error alone is none
abbrev pub found_by_poll : ℤ → Bool → Bool
found_by_poll (pos count) readable = nat_lt 0 count && readable
found_by_poll (negsuc count) readable = false

-- a poll waited for its whole time where it did not fail and counts no socket
abbrev pub waited_by_poll : ℤ → Bool
waited_by_poll (pos count) = nat_le count 0
waited_by_poll (negsuc count) = false

-- Whether a sender looks at its socket at this moment: not if it looked less than 50 microseconds ago. If the clock fell since, it looks. No other
-- node notes when it looked, so each of its looks is due.
abbrev pub is_look_due : Pace → ℕ → Bool
is_look_due p now = elim p.looked [
  | Some looked ↦ nat_lt now looked || nat_le (looked + 50) now
  | None ↦ true
]

-- before anything was offered or taken
abbrev pub new_pace : ℕ → Pace
new_pace gap = record { gap = gap; offered = None; busy = false; last = None; looked = None }

-- a sender offered at this moment
abbrev pub with_offer_at : Pace → ℕ → Pace
with_offer_at p now = record p { offered = Some now; busy = true }

-- something was offered or taken
abbrev pub made_busy : Pace → Pace
made_busy p = record p { busy = true }

-- it is answered at this moment that nothing is there
abbrev pub found_empty : Pace → ℕ → Pace
found_empty p now = record p { offered = None; busy = false; last = if p.busy then Some now else p.last }

-- a sender looks at its socket at this moment
abbrev pub looked_at : Pace → ℕ → Pace
looked_at p now = record p { looked = Some now }

-- it looks if that is due
abbrev pub looked_if_due : Pace → ℕ → Pace
looked_if_due p now = if is_look_due p now then looked_at p now else p

-- nothing was done since it was last answered that nothing is there
abbrev pub is_answered : Pace → Bool
is_answered p = is_none p.offered && not p.busy

-- A sender looks at its socket again: 50 microseconds after a look, and no earlier, and at once if the clock falls. Each look of another node is due.
pub record LookLaws : Type 0 where
  pub again : (p : Pace) (at now : ℕ) → at + 50 ≤ now → is_look_due (looked_at p at) now ≡ true
  pub apart : (p : Pace) (at now : ℕ) → at ≤ now → is_look_due (looked_at p at) now ≡ true → at + 50 ≤ now
  pub falls : (p : Pace) (at now : ℕ) → now < at → is_look_due (looked_at p at) now ≡ true
  pub others : (p : Pace) (now : ℕ) → p.looked ≡ None → is_look_due p now ≡ true

-- A node waits in a poll only if nothing waits to be done and nothing came or went for ten milliseconds. So one that took or offered anything within
-- them never does.
pub record PollLaws : Type 0 where
  pub idle : (p : Pace) (now : ℕ) → polls (pause_of p now) ≡ true → (is_answered p ≡ true) × (is_idle p.last now ≡ true)
  pub busy : (p : Pace) (last now : ℕ) → p.last ≡ Some last → now ≤ last + 10000 → polls (pause_of p now) ≡ false
  pub offers : (p : Pace) (at now : ℕ) → polls (pause_of (with_offer_at p at) now) ≡ false
  pub takes : (p : Pace) (now : ℕ) → polls (pause_of (made_busy p) now) ≡ false
