-- What is wanted as a round closes and was never sent is held by nobody (RFC 5740 section 5.4): so it is of use to whoever lacks it.
use Rattle.std.specs.Prelude.{Bool, true, None, Some, IsTrue}
use Rattle.std.specs.List.{list_all, AllByRecursion}
use Rattle.norm_base.specs.Settings.{Settings}
use Rattle.norm_send_rules.specs.Closing.{round_closed}
use Rattle.norm_safety.specs.History.{Happening, History}
use Rattle.norm_safety.specs.RepairSuffices.{closes_by, wanted_symbols, is_fresh}

-- where an event closes a round, each symbol that is wanted then was sent in this instance, or no receiver of the instance holds it
abbrev pub wants_are_fresh : Settings → Happening → Bool
wants_are_fresh p x = elim (closes_by p x.before x.event) [
  | Some r ↦ list_all (is_fresh x.before) (wanted_symbols (round_closed p r x.before.sender).wants)
  | None ↦ true
]

-- of each closing of a run
abbrev pub FreshWants : Settings → History → Type 0
FreshWants p h = AllByRecursion (λ (x : Happening). IsTrue (wants_are_fresh p x)) h.happened

-- The same as a test.
abbrev pub are_fresh_wants : Settings → History → Bool
are_fresh_wants p h = list_all (wants_are_fresh p) h.happened
