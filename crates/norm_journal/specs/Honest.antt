-- Takes that an honest network gives: what another member offered.
use Rattle.std.specs.Prelude.{ℕ, ◌==◌, ◌&&◌, not, List, Bool, true, ⊤}
use Rattle.std.specs.List.{list_any}
use Rattle.norm_ext.specs.Written.{Written}
use Rattle.norm_safety.specs.InTime.{WasOffered}
use Rattle.norm_safety.specs.World.{same_octets}
use Rattle.norm_journal.specs.declared.event.Event.{Event}
use Rattle.norm_journal.specs.declared.event.Event.TheVariants as event
use Rattle.norm_journal.specs.Judged.{Judged}

-- a take gives what another member offered before, however late
abbrev pub IsHonest : Judged → Event → Type 0
IsHonest j (event.Took to octets) = WasOffered j.world to octets
IsHonest j _ = ⊤

-- The same as a test.
abbrev pub is_honest : Judged → Event → Bool
is_honest j (event.Took to octets) = list_any (λ (o : ℕ × Written). not (o.0 == to) && same_octets o.1.octets octets) j.world.offered
is_honest j _ = true
