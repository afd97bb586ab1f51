use Rattle.std.specs.Prelude.{ℕ, nat_le, List, [], ◌∷◌, ◌++◌, length, Option, None, Some, true, false, if◌then◌else◌}
use Rattle.norm_base.specs.Settings.{Settings}
use Rattle.norm_base.specs.Network.{Network}
use Rattle.norm_base.specs.Members.{members_of}
use Rattle.norm_base.specs.declared.kinds.Local.{Local}
use Rattle.norm_memory.specs.declared.fate.Fate.{Fate}
use Rattle.norm_memory.specs.declared.copy.WaitingCopy.{WaitingCopy}
use Rattle.norm_memory.specs.Fates.{copies_of}
use Rattle.norm_memory.specs.Offers.{offer_at}
use Rattle.norm_memory.specs.Waiting.{put_copies}

-- A network in memory: its starts, its members in their order, what was offered and answered since the last start,
-- and the copies that wait, in the order in which they are taken.
pub record NetworkState : Type 0 where
  pub starts : List (Settings × Local)
  pub members : List ℕ
  pub offered : List (ℕ × List ℕ)
  pub answers : List (Option (ℕ × List ℕ))
  pub waiting : List WaitingCopy

-- it tells all that it knows, is honest, and does not tell that it is direct
abbrev pub told_by : NetworkState → Network
told_by s = record { starts = Some s.starts; offered = Some s.offered; answers = Some s.answers; honest = true; direct = false }

-- as it was made: no start, no member
abbrev pub unstarted : NetworkState
unstarted = record { starts = []; members = []; offered = []; answers = []; waiting = [] }

-- a start: these members, and nothing offered, answered or waiting
abbrev pub started : NetworkState → Settings → Local → NetworkState
started s profile local = record {
  starts = s.starts ++ (profile, local) ∷ [];
  members = members_of profile;
  offered = [];
  answers = [];
  waiting = [];
}

-- an offer with what becomes of it: its copies wait, each in its place among the others
abbrev pub after_offer : NetworkState → ℕ → List ℕ → List (ℕ × Fate) → NetworkState
after_offer s from bytes plan = record {
  starts = s.starts;
  members = s.members;
  offered = s.offered ++ (from, bytes) ∷ [];
  answers = s.answers;
  waiting = put_copies (copies_of (length s.offered) plan) s.waiting;
}

-- the copy that is taken next, if it is ready
abbrev pub ready_copy : ℕ → List WaitingCopy → Option WaitingCopy
ready_copy offers [] = None
ready_copy offers (c ∷ cs) = if nat_le c.ready offers then Some c else None

-- the copies without that one
abbrev pub without_ready : ℕ → List WaitingCopy → List WaitingCopy
without_ready offers [] = []
without_ready offers (c ∷ cs) = if nat_le c.ready offers then cs else c ∷ cs

-- a copy as it is answered: for whom it is, and its octets
abbrev pub answered : List (ℕ × List ℕ) → Option WaitingCopy → Option (ℕ × List ℕ)
answered offered None = None
answered offered (Some c) = Some (c.to, (offer_at offered c.offer).1)

-- what a take answers: the first copy that waits, if it is ready, and nothing else
abbrev pub next_answer : NetworkState → Option (ℕ × List ℕ)
next_answer s = answered s.offered (ready_copy (length s.offered) s.waiting)

-- a take
abbrev pub after_take : NetworkState → NetworkState
after_take s = record {
  starts = s.starts;
  members = s.members;
  offered = s.offered;
  answers = s.answers ++ next_answer s ∷ [];
  waiting = without_ready (length s.offered) s.waiting;
}
