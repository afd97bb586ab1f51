-- There is room after room was made, and nothing went that did not have to (RFC 5740 section 5.1).
use Rattle.std.specs.Prelude.{◌≡◌, ◌<◌, ℕ, List, [], take, drop, true, false}
use Rattle.std.specs.Bool.{Decides}
use Rattle.norm_base.specs.Settings.{Settings}
use Rattle.norm_order.specs.Entries.{Entry}
use Rattle.norm_send_rules.specs.Dropping.{dropped_to}
use Rattle.norm_send_rules.specs.Room.{window, has_room, has_to_go, may_all_go, can_make_room, drop_after}
use Rattle.norm_send_rules.specs.SenderState.{SenderState}

-- some front of the window, of which all may go, makes room
abbrev pub SomeFrontMakesRoom : Settings → SenderState → ℕ → Type 0
SomeFrontMakesRoom p s size = (n : ℕ) × (may_all_go p s s.current.drop.index (take n (window s)) ≡ true)
    × (has_room p size (drop n (window s)) ≡ true)

-- Where an empty window has room for an object: after as many went as have to there is room; one fewer would not do; an object is
-- refused for want of room exactly where no front that may go makes room. And what is left of the window is what did not go.
pub record RoomLaws : Type 0 where
  pub enough : (p : Settings) (size : ℕ) (entries : List Entry) → has_room p size [] ≡ true
      → has_room p size (drop (has_to_go p size entries) entries) ≡ true
  pub fewest : (p : Settings) (size n : ℕ) (entries : List Entry) → n < has_to_go p size entries → has_room p size (drop n entries) ≡ false
  pub refused : (p : Settings) (s : SenderState) (size : ℕ) → has_room p size [] ≡ true
      → Decides (can_make_room p s size) (SomeFrontMakesRoom p s size)
  pub left : (s : SenderState) (n : ℕ) → window (dropped_to (drop_after s.current.drop n) s) ≡ drop n (window s)
