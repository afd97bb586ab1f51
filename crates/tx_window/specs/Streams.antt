-- How the open stream of a window goes on.
use Rattle.std.specs.Prelude.{ℕ, ◌≡◌, ◌+◌, ◌-◌, ◌*◌, ◌<◌, ◌==◌, List, [], ◌∷◌, length, drop, slice_get, slice_set, nat_lt, true, false, Option, Some, None, Result, Ok, Err, MatchResult}
use Rattle.norm_base.specs.Settings.{Settings}
use Rattle.norm_base.specs.declared.node.Origin.{Origin}
use Rattle.fec_plan.specs.declared.position.Position.{Position}
use Rattle.norm_order.specs.Entries.{Part, Stream, Entry}
use Rattle.norm_order.specs.First.{first_where}
use Rattle.norm_order.specs.Shapes.{Shape, last_in}
use Rattle.norm_send_rules.specs.SenderState.{SenderState}
use Rattle.norm_send_rules.specs.InWindow.{last_index}
use Rattle.norm_send_rules.specs.Streaming.{wrote, closed}
use Rattle.norm_send_rules.specs.declared.fault.EnqueueFault.{EnqueueFault}
use Rattle.norm_send_rules.specs.declared.fault.EnqueueFault.TheVariants.{Empty, TooBig}
use Rattle.norm_send_rules.specs.declared.job.Receipt.TheVariants.{Wrote, Closed}
use Rattle.tx_window.specs.EntryState.{first_of}
use Rattle.tx_window.specs.declared.entry.HeldEntry.{HeldEntry}
use Rattle.tx_window.specs.WindowState.{without_info, WindowState, Stands}

-- Octets were written at this index and offset, or refused as the rules say; and the window stands for the state after it.
pub record IsWritten (p : Settings) (s : SenderState) (by : Origin) (octets : List ℕ) (answer : Result (ℕ × ℕ) EnqueueFault) (w : WindowState) : Type 0 where
  pub answers : MatchResult answer (λ at. (wrote p s by octets).1 ≡ Ok (Wrote at.0 at.1 (length octets))) (λ fault. (wrote p s by octets).1 ≡ Err fault)
  pub stands : Stands w (wrote p s by octets).0

-- The stream with this index was closed, or that was refused as the rules say; and the window stands for the state after it.
pub record IsClosed (p : Settings) (s : SenderState) (answer : Result ℕ EnqueueFault) (w : WindowState) : Type 0 where
  pub answers : MatchResult answer (λ index. (closed p s).1 ≡ Ok (Closed index)) (λ fault. (closed p s).1 ≡ Err fault)
  pub stands : Stands w (closed p s).0

-- The last entry of a state's order is the stream of these parts, and was not dropped whole.
pub record EndsIn (parts : List Part) (s : SenderState) : Type 0 where
  pub kept : s.current.drop.index < length s.current.order
  pub last : (entry : Entry) → slice_get s.current.order (last_index s) ≡ Some entry → entry.object ≡ Stream parts

-- what is wrong with a write of so many octets: the first that applies
abbrev pub write_size_fault : Settings → ℕ → Option EnqueueFault
write_size_fault p len = first_where ((len == 0, Empty) ∷ (nat_lt ((p.blocks - 1) * p.b * p.e) len, TooBig len) ∷ [])

-- the last position of an order, where this is the last entry's
abbrev pub last_or : Option Position → Option Position → Option Position
last_or at found = elim at [ Some x ↦ Some x | None ↦ found ]

-- the window where its last entry, of this shape, may have given up blocks: if it did, the entries before it are dropped
abbrev pub given_up : HeldEntry → WindowState → WindowState
given_up e w = elim (nat_lt 0 (first_of e)) [
  | true ↦ record w { dropped = w.dropped + (length w.entries - 1); entries = drop (length w.entries - 1) w.entries }
  | false ↦ w
]

-- the window after its last entry went on, which has this shape now
abbrev pub followed : HeldEntry → Shape → WindowState → WindowState
followed e shape w = given_up e (record w {
  shapes = slice_set w.shapes (length w.shapes - 1) (without_info shape);
  last = last_or (last_in (w.dropped + (length w.entries - 1)) shape) w.last;
})
