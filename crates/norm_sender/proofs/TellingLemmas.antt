-- What is told changes of a sender's state only what is to be told.
use Rattle.std.proofs.Common.{◌≡◌, ◌∙◌, ℕ, List, [], ◌∷◌, Option, None, refl}
use Rattle.norm_send_rules.specs.SenderState.{SenderState}
use Rattle.norm_send_rules.specs.Watermarks.{watermark_of}
use Rattle.norm_send_rules.specs.Telling.{told, past_news, listing_of, done_news}
use Rattle.norm_send_rules.specs.declared.news.News.{News}
use Rattle.tx_window.specs.WindowState.{WindowState, Stands as WindowStands}
use Rattle.nack_union.specs.UnionState.{UnionState, Stands as UnionStands}
use Rattle.mark_book.specs.BookState.{BookState, Stands as BookStands}
use Rattle.norm_sender.specs.Pacing.{pace_of}
use Rattle.norm_sender.specs.SenderKept.{SenderKept, Agrees}

abbrev told_by : SenderState → List ℕ → List ℕ → SenderState × Option News
told_by s nodes marks = elim nodes [
  | node ∷ more ↦ (record s { untold_nodes = more }, past_news node (listing_of s node))
  | [] ↦ elim marks [
    | mark ∷ more ↦ (record s { untold_marks = more }, done_news s mark (watermark_of s mark))
    | [] ↦ (s, None)
  ]
]

abbrev left : SenderState × Option News → SenderState
left step = step.0

told_window : (s : SenderState) (nodes marks : List ℕ) (w : WindowState) → WindowStands w s → WindowStands w (left (told_by s nodes marks))
told_window s [] [] w h = h
told_window s [] (m ∷ marks) w h = h
told_window s (n ∷ nodes) marks w h = h

told_union : (s : SenderState) (nodes marks : List ℕ) (u : UnionState) → UnionStands u s → UnionStands u (left (told_by s nodes marks))
told_union s [] [] u h = h
told_union s [] (m ∷ marks) u h = h
told_union s (n ∷ nodes) marks u h = h

told_pace : (s : SenderState) (nodes marks : List ℕ) → pace_of s ≡ pace_of (left (told_by s nodes marks))
told_pace s [] [] = refl
told_pace s [] (m ∷ marks) = refl
told_pace s (n ∷ nodes) marks = refl

pub told_agrees : (k : SenderKept) (book : BookState) (s : SenderState) → Agrees k s → BookStands k.p book (told s).0 → Agrees (record k { book = book }) (told s).0
told_agrees k book s h after = record {
  window_profile = h.window_profile;
  filling = h.filling;
  union_profile = h.union_profile;
  window = told_window s s.untold_nodes s.untold_marks k.window h.window;
  union = told_union s s.untold_nodes s.untold_marks k.union h.union;
  book = after;
  pace = h.pace ∙ told_pace s s.untold_nodes s.untold_marks;
}
