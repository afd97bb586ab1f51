-- A sender that began an object of which octets are missing.
use Rattle.std.specs.Prelude.{ℕ, ◌≡◌, List, length, None, Some}
use Rattle.norm_base.specs.declared.kinds.Kind.TheVariants.{File}
use Rattle.norm_base.specs.declared.node.Origin.{Origin}
use Rattle.norm_order.specs.Entries.{Entry, Whole}
use Rattle.norm_send_rules.specs.SenderState.{SenderState}
use Rattle.norm_send_rules.specs.Enqueuing.{object_fault, with_entry}
use Rattle.norm_send_rules.specs.Reached.{IsReached}
use Rattle.tx_window.specs.Taking.{room_made}
use Rattle.tx_window.specs.WindowState.{Filling, Stands as WindowStands}
use Rattle.nack_union.specs.Kept.{Marked, with_object}
use Rattle.nack_union.specs.UnionState.{UnionState, Stands as UnionStands}
use Rattle.mark_book.specs.BookState.{Stands as BookStands}
use Rattle.norm_sender.specs.Pacing.{pace_of}
use Rattle.norm_sender.specs.SenderKept.{SenderKept}

-- an object that was begun as an entry of the order, once these are its octets
abbrev pub entry_of : Origin → Filling → List ℕ → Entry
entry_of by f octets = record { by = by; object = Whole f.kind f.info octets }

-- A union has an object at its end that did not join the order yet. Without it the union stands for a state, and with it for each
-- one in which an object of so many octets joined.
pub record HasAdmitted (u : UnionState) (s : SenderState) (f : Filling) : Type 0 where
  pub before : UnionState
  pub marked : Marked
  pub is : u ≡ record before { kept = with_object marked before.kept }
  pub stands : UnionStands before s
  pub joins : (by : Origin) (octets : List ℕ) → length octets ≡ f.len → UnionStands u (with_entry (entry_of by f octets) s)

-- A sender that agreed with a state began an object, for which the rules find no fault there: room was made for it, and what is
-- asked for of it will be known.
pub record Fills (k : SenderKept) (s : SenderState) (f : Filling) : Type 0 where
  pub window_profile : k.window.p ≡ k.p
  pub union_profile : k.union.p ≡ k.p
  pub filling : k.window.filling ≡ Some f
  pub window : WindowStands k.window (room_made k.p f.len s)
  pub union : HasAdmitted k.union (room_made k.p f.len s) f
  pub book : BookStands k.p k.book s
  pub pace : k.pace ≡ pace_of (room_made k.p f.len s)
  pub free : (octets : List ℕ) → length octets ≡ f.len → object_fault k.p s f.info octets ≡ None

-- a file of this name and length, of which these octets are there
abbrev pub file_of : List ℕ → ℕ → List ℕ → Filling
file_of name len octets = record { kind = File; info = Some name; len = len; octets = octets }

-- A sender that stood for a state began a file of this name and length, of which these octets are there.
pub record HasBegun (k : SenderKept) (s : SenderState) (name : List ℕ) (len : ℕ) (octets : List ℕ) : Type 0 where
  pub fills : Fills k s (file_of name len octets)
  pub reached : IsReached k.p s
