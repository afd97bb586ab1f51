-- What a sender keeps, and for which states of the rules it stands.
use Rattle.std.specs.Prelude.{◌≡◌, None}
use Rattle.norm_base.specs.Settings.{Settings}
use Rattle.norm_send_rules.specs.SenderState.{SenderState}
use Rattle.norm_send_rules.specs.Reached.{IsReached}
use Rattle.tx_window.specs.WindowState.{WindowState, Stands as WindowStands}
use Rattle.nack_union.specs.UnionState.{UnionState, Stands as UnionStands}
use Rattle.mark_book.specs.BookState.{BookState, Stands as BookStands}
use Rattle.norm_sender.specs.Pacing.{pace_of}
use Rattle.norm_sender.specs.declared.pace.Pace.{Pace}

-- a sender: its profile, its parts and its numbers
pub record SenderKept : Type 0 where
  pub p : Settings
  pub window : WindowState
  pub union : UnionState
  pub book : BookState
  pub pace : Pace

-- A sender agrees with a state where each of its parts stands for it, under its profile, and its numbers are the state's. No
-- object is begun of which octets are missing.
pub record Agrees (k : SenderKept) (s : SenderState) : Type 0 where
  pub window_profile : k.window.p ≡ k.p
  pub filling : k.window.filling ≡ None
  pub union_profile : k.union.p ≡ k.p
  pub window : WindowStands k.window s
  pub union : UnionStands k.union s
  pub book : BookStands k.p k.book s
  pub pace : k.pace ≡ pace_of s

-- A sender stands for a state that a sender can come to, and with which it agrees.
pub record Stands (k : SenderKept) (s : SenderState) : Type 0 where
  pub agrees : Agrees k s
  pub reached : IsReached k.p s
