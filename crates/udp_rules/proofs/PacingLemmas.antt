-- The moments of a sender's clock, and when a sender looks at its socket.
use Rattle.std.proofs.Common.{◌≡◌, ℕ, ◌+◌, ◌-◌, ◌<◌, ◌≤◌, Bool, true, false, cond, Option, Some, None, refl, arith}
use Rattle.std.specs.Prelude.{min, max, nat_lt, nat_le, ◌||◌, ◌&&◌, not, is_none}
use Rattle.std.proofs.lemmas.Bool.Decides.{nat_tests}
use Rattle.udp_rules.specs.Lagging.{next_moment, ClockLaws}
use Rattle.udp_rules.specs.Pausing.{is_look_due, looked_at, LookLaws, is_idle, rest_of, polls, pause_of, with_offer_at, made_busy, is_answered, wait_until, PollLaws}
use Rattle.udp_rules.specs.declared.pace.Pace.{Pace}
use Rattle.udp_rules.specs.declared.pace.Pause.{Pause}
use Rattle.udp_rules.specs.declared.pace.Pause.TheVariants as pause

never_ahead : (gap : Option ℕ) (last reading : ℕ) → next_moment gap last reading ≤ reading
never_ahead None last reading = omega arith
never_ahead (Some gap) last reading = omega arith

near : (gap : Option ℕ) (last reading : ℕ) → reading ≤ next_moment gap last reading + 2000
near None last reading = omega arith
near (Some gap) last reading = omega arith

apart : (gap last reading : ℕ) → next_moment (Some gap) last reading < reading → last + gap ≤ next_moment (Some gap) last reading
apart gap last reading lags = omega arith

makes_up : (gap last reading : ℕ) → last + gap ≤ reading → reading ≤ last + gap + 2000 → next_moment (Some gap) last reading ≡ last + gap
makes_up gap last reading past within = omega arith

between : (early late reading reading' : ℕ) → reading ≤ early + 2000 → late ≤ reading' → late - early ≤ (reading' - reading) + 2000
between early late reading reading' le le' = omega arith

burst : (gap gap' : Option ℕ) (last last' reading reading' : ℕ)
    → next_moment gap' last' reading' - next_moment gap last reading ≤ (reading' - reading) + 2000
burst gap gap' last last' reading reading' =
    between (next_moment gap last reading) (next_moment gap' last' reading') reading reading' (near gap last reading) (never_ahead gap' last' reading')

pub clock_laws : ClockLaws
clock_laws = record { never_ahead = never_ahead; near = near; apart = apart; makes_up = makes_up; burst = burst }

again : (p : Pace) (at now : ℕ) → at + 50 ≤ now → is_look_due (looked_at p at) now ≡ true
again p at now le = grind (arith, nat_tests)

spaced : (p : Pace) (at now : ℕ) → at ≤ now → is_look_due (looked_at p at) now ≡ true → at + 50 ≤ now
spaced p at now le due = grind (arith, nat_tests)

falls : (p : Pace) (at now : ℕ) → now < at → is_look_due (looked_at p at) now ≡ true
falls p at now lt = grind (arith, nat_tests)

unlooked : (looked : Option ℕ) (now : ℕ) → looked ≡ None → elim looked [ Some at ↦ nat_lt now at || nat_le (at + 50) now | None ↦ true ] ≡ true
unlooked None now is = refl
unlooked (Some at) now is = cc

pub look_laws : LookLaws
look_laws = record { again = again; apart = spaced; falls = falls; others = λ p now is. unlooked p.looked now is }

no_poll : (until now : ℕ) (rests : Bool) → polls (cond rests (pause.Rest (min (until - now) 1000)) (pause.Look until)) ≡ false
no_poll until now true = refl
no_poll until now false = refl

rests_alone : (until now : ℕ) → polls (rest_of until now) ≡ false
rests_alone until now = no_poll until now (nat_le 60 (until - now))

-- what is done, by what was offered, whether it is busy and whether it is idle
abbrev pause_by : ℕ → ℕ → Option ℕ → Bool → Bool → Pause
pause_by gap now offered busy idle = elim offered [
  | Some at ↦ rest_of (wait_until gap at) now
  | None ↦ cond busy pause.Answer (cond idle pause.Poll (pause.Sleep 250))
]

idle_by : (gap now : ℕ) (offered : Option ℕ) (busy idle : Bool) → polls (pause_by gap now offered busy idle) ≡ true
    → ((is_none offered && not busy) ≡ true) × (idle ≡ true)
idle_by gap now (Some at) busy idle is = let no = rests_alone (wait_until gap at) now in cc
idle_by gap now None true idle is = cc
idle_by gap now None false true is = (refl, refl)
idle_by gap now None false false is = cc

busy_by : (gap now : ℕ) (offered : Option ℕ) (busy idle : Bool) → idle ≡ false → polls (pause_by gap now offered busy idle) ≡ false
busy_by gap now (Some at) busy idle is = rests_alone (wait_until gap at) now
busy_by gap now None true idle is = refl
busy_by gap now None false true is = cc
busy_by gap now None false false is = refl

recent : (last : Option ℕ) (at now : ℕ) → last ≡ Some at → now ≤ at + 10000 → is_idle last now ≡ false
recent None at now is le = cc
recent (Some other) at now is le = grind (arith, nat_tests)

takes_by : (gap now : ℕ) (offered : Option ℕ) (idle : Bool) → polls (pause_by gap now offered true idle) ≡ false
takes_by gap now (Some at) idle = rests_alone (wait_until gap at) now
takes_by gap now None idle = refl

pub poll_laws : PollLaws
poll_laws = record {
  idle = λ p now is. idle_by p.gap now p.offered p.busy (is_idle p.last now) is;
  busy = λ p last now is le. busy_by p.gap now p.offered p.busy (is_idle p.last now) (recent p.last last now is le);
  offers = λ p at now. rests_alone (wait_until p.gap at) now;
  takes = λ p now. takes_by p.gap now p.offered (is_idle p.last now);
}
