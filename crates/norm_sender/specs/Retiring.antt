-- How a sender's union follows its window: what was dropped is forgotten, and the open stream goes on.
use Rattle.std.specs.Prelude.{ℕ, ◌≡◌, ◌<◌, ◌≤◌, List, length, Some}
use Rattle.norm_base.specs.Settings.{Settings}
use Rattle.fec_plan.specs.Points.{Point}
use Rattle.norm_order.specs.Entries.{Part, Stream}
use Rattle.norm_order.specs.Shapes.{shape_of}
use Rattle.norm_send_rules.specs.SenderState.{SenderState}
use Rattle.norm_send_rules.specs.InWindow.{next_index, last_index}
use Rattle.norm_send_rules.specs.Enqueuing.{open_stream}
use Rattle.norm_send_rules.specs.Streaming.{with_parts}
use Rattle.tx_window.specs.WindowState.{Stands as WindowStands}
use Rattle.nack_union.specs.Laws.{IsStreamAt}
use Rattle.nack_union.specs.UnionState.{UnionState, Stands as UnionStands}
use Rattle.norm_sender.specs.SenderKept.{SenderKept}
use Rattle.norm_sender.specs.SenderMoves.{IsBehind}

-- A point of a state's order does not lie before the drop point, and lies where an entry begins or within a stream.
pub record IsOnward (p : Settings) (s : SenderState) (d : Point) : Type 0 where
  pub not_back : s.current.drop.index ≤ d.index
  pub within : d.index ≤ next_index s
  pub onward : d.index ≡ s.current.drop.index → s.current.drop.block ≤ d.block
  pub stream : 0 < d.block → (d.index < next_index s) × IsStreamAt p s d.index

-- a union stands for some state, in whose order this point lies so
pub record CanRetire (u : UnionState) (d : Point) : Type 0 where
  pub state : SenderState
  pub stands : UnionStands u state
  pub onward : IsOnward u.p state d

-- The open stream of a state, which was not dropped whole, goes on by these parts in the window, and not yet in the union.
pub record GoesOn (k : SenderKept) (s : SenderState) (parts : List Part) : Type 0 where
  pub window_profile : k.window.p ≡ k.p
  pub union_profile : k.union.p ≡ k.p
  pub window : WindowStands k.window (with_parts parts s)
  pub union : UnionStands k.union s
  pub was : List Part
  pub opened : open_stream s ≡ Some was
  pub more : (shape_of k.p (Stream was)).closed ≤ (shape_of k.p (Stream parts)).closed
  pub kept : s.current.drop.index < length s.current.order

-- the open stream of some state does, which has this index
pub record IsGrowing (k : SenderKept) (index : ℕ) : Type 0 where
  pub state : SenderState
  pub parts : List Part
  pub goes : GoesOn k state parts
  pub place : index ≡ last_index state

-- a sender agrees with some state but for its book
pub record CanCut (k : SenderKept) : Type 0 where
  pub state : SenderState
  pub ahead : SenderState
  pub behind : IsBehind k state ahead
