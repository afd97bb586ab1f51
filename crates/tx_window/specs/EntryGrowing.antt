-- How the last entry of a window goes on, where it is an open stream (RFC 5740 section 5.1 on NORM_OBJECT_STREAM).
use Rattle.std.specs.Prelude.{ℕ, ◌≡◌, ◌++◌, List, max, Bool, MatchOption, Result, Ok, Err, ⊤}
use Rattle.norm_base.specs.Settings.{Settings}
use Rattle.norm_order.specs.Entries.{Part, Object, Stream}
use Rattle.norm_send_rules.specs.SenderState.{SenderState}
use Rattle.norm_send_rules.specs.Enqueuing.{open_parts}
use Rattle.norm_send_rules.specs.Room.{least_kept}
use Rattle.norm_send_rules.specs.Streaming.{used_segments}
use Rattle.norm_send_rules.specs.declared.fault.EnqueueFault.{EnqueueFault}
use Rattle.norm_send_rules.specs.declared.fault.EnqueueFault.TheVariants.{NoStream, Stream as OfStream}
use Rattle.stream_buffer.specs.HeldState.{HeldState, Knows}
use Rattle.stream_buffer.specs.Growing.{growing_fault}
use Rattle.tx_window.specs.EntryState.{StandsFor, reads_of, first_of}
use Rattle.tx_window.specs.declared.entry.HeldEntry.{HeldEntry}
use Rattle.tx_window.specs.declared.entry.HeldEntry.TheVariants as held

-- These parts join the stream, the first block that is kept is the least that has to be, and the answer is this value; or the first
-- fault of the stream is answered, and nothing changes.
abbrev pub Goes : {X : Type 0} → Settings → ℕ → List Part → SenderState → List Part → Bool → X → HeldState → HeldState → Result X EnqueueFault → Type 0
Goes p index parts s more before value old new answer =
    MatchOption (growing_fault p s index parts more old.buffer.first before)
    ((answer ≡ Ok value) × Knows p index (parts ++ more) s.sent new
    × (new.buffer.first ≡ max old.buffer.first (least_kept p (used_segments p (parts ++ more)))))
    (λ fault. (answer ≡ Err (OfStream fault)) × (new ≡ old))

-- So it is of a stream that is open. Another one does not go on, and nothing changes.
abbrev pub GoesOn : {X : Type 0} → Settings → ℕ → List Part → SenderState → List Part → Bool → X → HeldState → HeldState → Result X EnqueueFault → Type 0
GoesOn p index parts s more before value old new answer =
    MatchOption (open_parts (Stream parts))
    ((answer ≡ Err NoStream) × (new ≡ old))
    (λ now. Goes p index parts s more before value old new answer)

-- The same of an entry: one that is no open stream does not go on.
abbrev pub EntryGoesOn : {X : Type 0} → List ℕ → Settings → ℕ → Object → SenderState → List Part → Bool → (List Part → X) → HeldEntry → HeldEntry → Result X EnqueueFault → Type 0
EntryGoesOn ring p index object s more before value old new answer =
    MatchOption (open_parts object)
    ((answer ≡ Err NoStream) × (new ≡ old))
    (λ parts. MatchOption (growing_fault p s index parts more (first_of old) before)
    ((answer ≡ Ok (value parts)) × StandsFor (reads_of ring p index (Stream (parts ++ more)) s) new
    × (first_of new ≡ max (first_of old) (least_kept p (used_segments p (parts ++ more)))))
    (λ fault. (answer ≡ Err (OfStream fault)) × (new ≡ old)))

-- an object stays as it is
abbrev pub KeepsObject : HeldEntry → HeldEntry → Type 0
KeepsObject (held.Object h) new = new ≡ held.Object h
KeepsObject (held.Stream stream) new = ⊤
