-- How an open stream of the window goes on, as its entry.
use Rattle.std.proofs.Common.{◌≡◌, ℕ, Bool, true, false, refl, sym, ap, subst, Option, Some, None, List, ◌++◌}
use Rattle.std.specs.Prelude.{max, Result, Ok, Err, MatchOption}
use Rattle.norm_base.specs.Settings.{Settings}
use Rattle.norm_order.specs.Entries.{Part, Object, Stream}
use Rattle.norm_order.specs.Segments.{has_end}
use Rattle.norm_send_rules.specs.SenderState.{SenderState}
use Rattle.norm_send_rules.specs.Room.{least_kept}
use Rattle.norm_send_rules.specs.Streaming.{used_segments}
use Rattle.norm_send_rules.specs.declared.fault.EnqueueFault.{EnqueueFault}
use Rattle.norm_send_rules.specs.declared.fault.EnqueueFault.TheVariants.{NoStream, Stream as OfStream}
use Rattle.norm_send_rules.specs.declared.fault.StreamFault.{StreamFault}
use Rattle.stream_buffer.specs.HeldState.{HeldState, Knows}
use Rattle.stream_buffer.specs.Growing.{growing_fault}
use Rattle.tx_window.specs.EntryState.{IsStream, StandsFor, reads_of}
use Rattle.tx_window.specs.EntryGrowing.{Goes, GoesOn, EntryGoesOn}
use Rattle.tx_window.specs.declared.entry.HeldEntry.{HeldEntry}
use Rattle.tx_window.specs.declared.entry.HeldEntry.TheVariants as held

pub same_parts : (xs ys : List Part) → Stream xs ≡ Stream ys → xs ≡ ys
same_parts xs ys e = cc

stream_goes : {X : Type 0} (ring : List ℕ) (p : Settings) (index : ℕ) (parts : List Part) (s : SenderState) (more : List Part) (before : Bool) (value : List Part → X)
    (old new : HeldState) (answer : Result X EnqueueFault) → GoesOn p index parts s more before (value parts) old new answer
    → EntryGoesOn ring p index (Stream parts) s more before value (held.Stream old) (held.Stream new) answer
stream_goes ring p index parts s more before value old new answer goes = go (has_end parts) goes
  where
    kept : HeldState → HeldEntry
    kept h = held.Stream h

    inner : (r : Option StreamFault)
        → MatchOption r ((answer ≡ Ok (value parts)) × Knows p index (parts ++ more) s.sent new
        × (new.buffer.first ≡ max old.buffer.first (least_kept p (used_segments p (parts ++ more))))) (λ fault. (answer ≡ Err (OfStream fault)) × (new ≡ old))
        → MatchOption r ((answer ≡ Ok (value parts)) × StandsFor (reads_of ring p index (Stream (parts ++ more)) s) (held.Stream new)
        × (new.buffer.first ≡ max old.buffer.first (least_kept p (used_segments p (parts ++ more)))))
        (λ fault. (answer ≡ Err (OfStream fault)) × (◌≡◌ {A = HeldEntry} (held.Stream new) (held.Stream old)))
    inner None m = (m.0, record { parts = parts ++ more; object = refl; knows = m.1 }, m.2)
    inner (Some fault) m = (m.0, ap kept m.1)

    go : (b : Bool)
        → MatchOption (elim b as (λ v. Option (List Part)) [ true ↦ None | false ↦ Some parts ]) ((answer ≡ Err NoStream) × (new ≡ old)) (λ now. Goes p index parts s more before (value parts) old new answer)
        → MatchOption (elim b as (λ v. Option (List Part)) [ true ↦ None | false ↦ Some parts ]) ((answer ≡ Err NoStream) × (◌≡◌ {A = HeldEntry} (held.Stream new) (held.Stream old)))
        (λ now. MatchOption (growing_fault p s index now more old.buffer.first before)
        ((answer ≡ Ok (value now)) × StandsFor (reads_of ring p index (Stream (now ++ more)) s) (held.Stream new)
        × (new.buffer.first ≡ max old.buffer.first (least_kept p (used_segments p (now ++ more)))))
        (λ fault. (answer ≡ Err (OfStream fault)) × (◌≡◌ {A = HeldEntry} (held.Stream new) (held.Stream old))))
    go true m = (m.0, ap kept m.1)
    go false m = inner (growing_fault p s index parts more old.buffer.first before) m

pub entry_goes : {X : Type 0} (ring : List ℕ) (p : Settings) (index : ℕ) (object : Object) (s : SenderState) (more : List Part) (before : Bool) (value : List Part → X)
    (old new : HeldState) (answer : Result X EnqueueFault) → IsStream (reads_of ring p index object s) old
    → ((parts : List Part) → Knows p index parts s.sent old → GoesOn p index parts s more before (value parts) old new answer)
    → EntryGoesOn ring p index object s more before value (held.Stream old) (held.Stream new) answer
entry_goes ring p index object s more before value old new answer is goes =
    subst (λ (o : Object). EntryGoesOn ring p index o s more before value (held.Stream old) (held.Stream new) answer) (sym is.object)
    (stream_goes ring p index is.parts s more before value old new answer (goes is.parts is.knows))
