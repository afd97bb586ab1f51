-- What stays of an entry whatever is sent of it or joins it: its kind, and how and where an object lies.
use Rattle.std.specs.Prelude.{ℕ, ◌≡◌, ◌*◌, ⊤, List, length, Option, None, Some, slice_get}
use Rattle.norm_base.specs.Settings.{Settings}
use Rattle.tx_object.specs.Held.{octets_of}
use Rattle.tx_window.specs.declared.entry.HeldEntry.{HeldEntry}
use Rattle.tx_window.specs.declared.entry.HeldEntry.TheVariants as held

-- an object stays one, cut as it was, at its place in the ring and with its info; a stream stays one
abbrev pub Stays : HeldEntry → HeldEntry → Type 0
Stays (held.Object h) (held.Object k) = (k.cut ≡ h.cut) × (k.start ≡ h.start) × (k.info ≡ h.info)
Stays (held.Object h) (held.Stream stream) = ⊥
Stays (held.Stream stream) (held.Object k) = ⊥
Stays (held.Stream stream) (held.Stream other) = ⊤

-- all entries of a row stay so, each at its place
pub record AllStay (old new : List HeldEntry) : Type 0 where
  pub long : length new ≡ length old
  pub each : (n : ℕ) (e k : HeldEntry) → slice_get old n ≡ Some e → slice_get new n ≡ Some k → Stays e k

-- how many octets of the window it takes: an object's own, or those of a stream's buffer
abbrev pub held_size : Settings → HeldEntry → ℕ
held_size p (held.Object h) = octets_of h.cut
held_size p (held.Stream stream) = p.blocks * p.b * p.e

-- its info; a stream has none
abbrev pub held_info : HeldEntry → Option (List ℕ)
held_info (held.Object h) = h.info
held_info (held.Stream stream) = None
