-- The entries of a window in their order.
use Rattle.std.specs.Prelude.{ℕ, ◌≡◌, ◌+◌, ◌-◌, List, length, take, Some, slice_get, slice_set, MatchOption, Result, Err}
use Rattle.norm_base.specs.Settings.{Settings}
use Rattle.norm_order.specs.Entries.{Part, Entry, Stream}
use Rattle.norm_send_rules.specs.SenderState.{SenderState}
use Rattle.norm_send_rules.specs.Room.{may_all_go}
use Rattle.norm_send_rules.specs.declared.fault.EnqueueFault.{EnqueueFault}
use Rattle.norm_send_rules.specs.declared.fault.EnqueueFault.TheVariants.{NoStream}
use Rattle.stream_buffer.specs.StreamState.{with_cut}
use Rattle.tx_window.specs.EntryGrowing.{EntryGoesOn, KeepsObject}
use Rattle.tx_window.specs.EntryState.{EntryReads, StandsFor, reads_of, first_of}
use Rattle.tx_window.specs.declared.entry.HeldEntry.{HeldEntry}

-- these stand for the entries of an order, the first of which has this index, each for its own
pub record AreEntries (ring : List ℕ) (p : Settings) (first : ℕ) (entries : List Entry) (s : SenderState) (held : List HeldEntry) : Type 0 where
  pub long : length entries ≡ length held
  pub each : (n : ℕ) (entry : Entry) (e : HeldEntry) → slice_get entries n ≡ Some entry → slice_get held n ≡ Some e
      → StandsFor (reads_of ring p (first + n) entry.object s) e

-- The last of them goes on by these parts, where it is an open stream, and the others stay as they are. Without one nothing changes.
abbrev pub LastGoesOn : {X : Type 0} → List ℕ → Settings → ℕ → List Entry → SenderState → List Part → (List Part → X) → List HeldEntry → List HeldEntry → Result X EnqueueFault → Type 0
LastGoesOn ring p first entries s more value old new answer =
    let last = length old - 1 in
    MatchOption (slice_get old last)
    ((answer ≡ Err NoStream) × (new ≡ old))
    (λ e. (entry : Entry) → slice_get entries last ≡ Some entry → (now : HeldEntry) × (new ≡ slice_set old last now)
    × EntryGoesOn ring p (first + last) entry.object s more (may_all_go p s first (take last entries)) value e now answer)

-- The segment that fills of the last of them is closed, where it is a stream with one that holds octets; the others stay as they are,
-- and an object does. The same blocks are kept.
abbrev pub LastIsCut : List HeldEntry → List HeldEntry → Type 0
LastIsCut old new =
    let last = length old - 1 in
    MatchOption (slice_get old last) (new ≡ old)
    (λ e. (now : HeldEntry) × (new ≡ slice_set old last now) × KeepsObject e now × (first_of now ≡ first_of e)
    × ((r : EntryReads) (parts : List Part) → StandsFor r e → r.object ≡ Stream parts → StandsFor (record r { object = Stream (with_cut r.p.e parts) }) now))
