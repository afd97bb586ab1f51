-- What a call of a sender leaves and answers.
use Rattle.std.specs.Prelude.{ℕ, ◌≡◌, List, Option, None}
use Rattle.std.specs.Option.{option_map}
use Rattle.norm_base.specs.Settings.{Settings}
use Rattle.norm_base.specs.Datagrams.{datagram_of}
use Rattle.norm_base.specs.declared.kinds.Sent.{Sent}
use Rattle.norm_ext.specs.Written.{Written}
use Rattle.norm_send_rules.specs.SenderState.{SenderState}
use Rattle.tx_window.specs.WindowState.{Stands as WindowStands}
use Rattle.nack_union.specs.UnionState.{Stands as UnionStands}
use Rattle.mark_book.specs.BookState.{Stands as BookStands}
use Rattle.norm_sender.specs.Pacing.{pace_of}
use Rattle.norm_sender.specs.SenderKept.{SenderKept, Agrees, Stands}

-- with each state that the sender agreed with, it agrees after a rule
abbrev pub SenderMoves : SenderKept → SenderKept → (Settings → SenderState → SenderState) → Type 0
SenderMoves old new rule = (s : SenderState) → Agrees old s → Agrees new (rule old.p s)

-- The sender agrees with the step's state, and what it sent are the octets of the step's datagram, or nothing where the
-- step sends none.
pub record IsSent (k : SenderKept) (out : List ℕ) (answer : Sent) (step : SenderState × Option Written) : Type 0 where
  pub stands : Agrees k step.0
  pub octets : datagram_of answer out ≡ option_map (λ (w : Written). w.octets) step.1

-- with each state that the sender agreed with, it sent what a rule says, and agrees with what that leaves
abbrev pub SenderSends : SenderKept → SenderKept → List ℕ → Sent → (Settings → SenderState → SenderState × Option Written) → Type 0
SenderSends old new out answer rule = (s : SenderState) → Agrees old s → IsSent new out answer (rule old.p s)

-- A tick: the sender stands for the step's state, and what it sent are the octets of the step's datagram, or nothing where
-- the step sends none.
pub record IsTick (k : SenderKept) (out : List ℕ) (answer : Sent) (step : SenderState × Option Written) : Type 0 where
  pub stands : Stands k step.0
  pub octets : datagram_of answer out ≡ option_map (λ (w : Written). w.octets) step.1

-- a state with the listings, the strikes, the watermarks and the news of another
abbrev pub with_book : SenderState → SenderState → SenderState
with_book t s = record s {
  listings = t.listings;
  struck = t.struck;
  watermarks = t.watermarks;
  untold_nodes = t.untold_nodes;
  untold_marks = t.untold_marks;
}

-- The sender agrees with a state but for its book, which is ahead: it stands for another one.
pub record IsBehind (k : SenderKept) (s t : SenderState) : Type 0 where
  pub window_profile : k.window.p ≡ k.p
  pub filling : k.window.filling ≡ None
  pub union_profile : k.union.p ≡ k.p
  pub window : WindowStands k.window s
  pub union : UnionStands k.union s
  pub book : BookStands k.p k.book t
  pub pace : k.pace ≡ pace_of s
