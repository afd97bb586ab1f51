-- How a sender follows its book, over what it keeps.
use Rattle.std.proofs.Common.{◌≡◌, ◌∙◌, Bool, true, false, refl, ap}
use Rattle.norm_base.specs.Settings.{Settings}
use Rattle.norm_send_rules.specs.SenderState.{SenderState}
use Rattle.norm_send_rules.specs.Watermarks.{keeps_oldest, counted_anew, all_past}
use Rattle.tx_window.specs.WindowState.{reads as window_reads, WindowState, Stands as WindowStands}
use Rattle.nack_union.specs.UnionState.{UnionState, Stands as UnionStands}
use Rattle.mark_book.specs.BookState.{BookState, Stands as BookStands}
use Rattle.norm_sender.specs.Pacing.{pace_of, counted_by}
use Rattle.norm_sender.specs.SenderKept.{SenderKept, Agrees}
use Rattle.norm_sender.specs.SenderMoves.{IsBehind, with_book}

-- a state of which flushes are counted anew, or not
abbrev counted_if : Bool → SenderState → SenderState
counted_if kept t = elim kept [ true ↦ t | false ↦ record t { flushes = 0 } ]

past_read : (kept : Bool) (s t : SenderState)
    → window_reads (counted_if kept (with_book t s)) ≡ record (window_reads s) { past = all_past (counted_if kept (with_book t s)) }
past_read true s t = refl
past_read false s t = refl

pub followed_past : (s t : SenderState)
    → window_reads (counted_anew s (with_book t s)) ≡ record (window_reads s) { past = all_past (counted_anew s (with_book t s)) }
followed_past s t = past_read (keeps_oldest s (with_book t s)) s t

union_read : (kept : Bool) (u : UnionState) (s t : SenderState) → UnionStands u s → UnionStands u (counted_if kept (with_book t s))
union_read true u s t h = h
union_read false u s t h = h

book_read : (kept : Bool) (p : Settings) (book : BookState) (t : SenderState) → BookStands p book t → BookStands p book (counted_if kept t)
book_read true p book t h = h
book_read false p book t h = h

pub followed_book : (p : Settings) (book : BookState) (s t : SenderState) → BookStands p book t → BookStands p book (counted_anew s t)
followed_book p book s t h = book_read (keeps_oldest s t) p book t h

-- a book that stands for a state whose flushes are counted anew stands for the one before too
book_unread : (kept : Bool) (p : Settings) (book : BookState) (t : SenderState) → BookStands p book (counted_if kept t) → BookStands p book t
book_unread true p book t h = h
book_unread false p book t h = h

pub unfollowed_book : (p : Settings) (book : BookState) (s t : SenderState) → BookStands p book (counted_anew s t) → BookStands p book t
unfollowed_book p book s t h = book_unread (keeps_oldest s t) p book t h

pace_read : (kept : Bool) (s t : SenderState) → counted_by kept (pace_of s) ≡ pace_of (counted_if kept (with_book t s))
pace_read true s t = refl
pace_read false s t = refl

pub followed_stands : (k : SenderKept) (window : WindowState) (kept : Bool) (s t : SenderState) → IsBehind k s (with_book t s)
    → window.p ≡ k.window.p → window.filling ≡ k.window.filling → WindowStands window (counted_anew s (with_book t s)) → kept ≡ keeps_oldest s (with_book t s)
    → Agrees (record k { window = window; pace = counted_by kept k.pace }) (counted_anew s (with_book t s))
followed_stands k window kept s t h profile filling behind is = record {
  window_profile = profile ∙ h.window_profile;
  filling = filling ∙ h.filling;
  union_profile = h.union_profile;
  window = behind;
  union = union_read (keeps_oldest s (with_book t s)) k.union s t h.union;
  book = followed_book k.p k.book s (with_book t s) h.book;
  pace =
      ap (counted_by kept) h.pace ∙ ap (λ (b : Bool). counted_by b (pace_of s)) is
      ∙ pace_read (keeps_oldest s (with_book t s)) s t;
}
