-- Over a direct network a turn takes all that the nodes offered.
use Rattle.std.specs.Prelude.{◌≡◌, ◌≤◌, ℕ, ◌+◌, List, map, length, Some}
use Rattle.norm_base.specs.Copies.{copies_in}
use Rattle.norm_base.specs.Members.{members_of, receivers_of}
use Rattle.norm_base.specs.Settings.{InRange}
use Rattle.norm_ext.specs.Written.{Written}
use Rattle.norm_script.specs.Commands.{Commands}
use Rattle.norm_journal.specs.declared.event.Event.{Event}
use Rattle.norm_journal.specs.Jobs.{Told}
use Rattle.norm_journal.specs.Judged.{Judged, judged_opening}
use Rattle.norm_journal.specs.Places.{Taking}
use Rattle.norm_journal.specs.SessionRun.{judged}
use Rattle.norm_journal.specs.Takes.{after_take}
use Rattle.norm_journal.specs.WorldEvents.{TakesDirectly, taken_after}

-- how many copies there are of what the nodes offered, one for each other member
abbrev pub copies_of : Judged → ℕ
copies_of j = length (copies_in (members_of j.profile) (map (λ (o : ℕ × Written). (o.0, o.1.octets)) j.world.offered))

-- So many copies wait at most: in a turn each of at most 17 members offers one datagram, of which there are at most 16 copies.
abbrev pub most_waiting : ℕ
most_waiting = 272

-- Where so many copies were taken: those that wait are few; this turn took no more than were waiting in it, and a take that gives one is followed by
-- another, so that the last one of each turn finds none.
pub record TakesAll (taken : ℕ) (j : Judged) : Type 0 where
  pub few : copies_of j ≤ taken + most_waiting
  pub in_turn : (n : ℕ) → j.place ≡ Taking n → n ≤ most_waiting
  pub goes_on : (n : ℕ) → j.place ≡ Taking n → after_take n j ≡ Taking (n + 1)

-- So it is at each moment of each session whose takes are direct.
abbrev pub DirectTakesAll : Type 0
DirectTakesAll = (script : Commands) → InRange script.profile → (files : Told) (events : List Event) (last : Judged)
    → judged script files (receivers_of script.profile script.profile.receivers) events ≡ Some last
    → TakesDirectly 0 (judged_opening script files (receivers_of script.profile script.profile.receivers)) events
    → TakesAll (taken_after 0 events) last
