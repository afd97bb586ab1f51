-- Takes that a direct network gives: the copies of what the nodes offered, one after the other, each once.
use Rattle.std.specs.Prelude.{◌≡◌, ℕ, ◌+◌, ◌==◌, ◌&&◌, List, map, Bool, true, false, Option, None, Some, is_none, ⊤}
use Rattle.norm_base.specs.Copies.{next_copy}
use Rattle.norm_base.specs.Members.{members_of}
use Rattle.norm_ext.specs.Written.{Written}
use Rattle.norm_safety.specs.World.{same_octets}
use Rattle.norm_journal.specs.declared.event.Event.{Event}
use Rattle.norm_journal.specs.declared.event.Event.TheVariants as event
use Rattle.norm_journal.specs.Judged.{Judged}

-- the copy that is due after this many, of what the nodes offered
abbrev pub copy_due : ℕ → Judged → Option (ℕ × List ℕ)
copy_due taken j = next_copy (members_of j.profile) (map (λ (o : ℕ × Written). (o.0, o.1.octets)) j.world.offered) taken

-- after this many copies a take gives the next, and None only if there is none
abbrev pub IsDirect : ℕ → Judged → Event → Type 0
IsDirect taken j (event.Took to octets) = copy_due taken j ≡ Some (to, octets)
IsDirect taken j event.Empty = copy_due taken j ≡ None
IsDirect taken j _ = ⊤

-- this many copies were taken with this event
abbrev pub taken_with : ℕ → Event → ℕ
taken_with taken (event.Took to octets) = taken + 1
taken_with taken _ = taken

-- The same as a test.
abbrev pub is_direct : ℕ → Judged → Event → Bool
is_direct taken j (event.Took to octets) =
    elim (copy_due taken j) [ Some copy ↦ copy.0 == to && same_octets copy.1 octets | None ↦ false ]
is_direct taken j event.Empty = is_none (copy_due taken j)
is_direct taken j _ = true
