-- What holds of each book.
use Rattle.std.specs.Prelude.{◌≡◌, ◌<◌, ◌≤◌, ◌^◌, ◌+◌, ℕ, List, [], ◌∷◌, length, true, is_some, nat_eq, vec_capacity}
use Rattle.std.specs.List.{prefix_len}
use Rattle.std.specs.Set.{is_member}
use Rattle.norm_order.specs.Sets.{Rises}
use Rattle.mark_book.specs.BookState.{BookState, Kept}
use Rattle.mark_book.specs.BookMoves.{is_finished, open_count, past_in}
use Rattle.mark_book.specs.declared.book.Book.TheInside.{Inside}
use Rattle.mark_book.specs.declared.watermarks.Watermarks.TheInside.{Inside as WatermarksInside}

-- watermarks are numbered in their order, the first by this number
abbrev pub AreNumbered : ℕ → List Kept → Type 0
AreNumbered n [] = Unit {0}
AreNumbered n (k ∷ ks) = (k.mark ≡ n) × AreNumbered (n + 1) ks

-- Watermarks are numbered in their order. So many at the front are done with, and the next one, where there is one, is not. So
-- many of all are open.
pub record AreKept (w : WatermarksInside) : Type 0 where
  pub numbered : AreNumbered 1 w.all.items
  pub counted : length w.all.items < 2 ^ 32
  pub within : w.done ≤ length w.all.items
  pub done : w.done ≡ prefix_len is_finished w.all.items
  pub still_open : w.still_open ≡ open_count w.all.items

-- There are 1 to 16 members, of at most 16 receivers. The members to be told rise, are listed past something, and have room.
pub record BookSound (b : Inside) : Type 0 where
  pub some : 0 < length b.listings
  pub few : length b.listings ≤ 16
  pub rise : Rises b.untold.items
  pub listed : (q : ℕ) → is_member nat_eq b.untold.items q ≡ true → is_some (past_in b.listings q) ≡ true
  pub room : length b.listings ≤ vec_capacity b.untold

abbrev pub book_view : Inside → BookState
book_view b = record {
  receivers = b.receivers;
  listings = b.listings;
  watermarks = b.watermarks;
  untold_nodes = b.untold.items;
}
