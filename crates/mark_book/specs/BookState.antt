-- What a book keeps of a sender's state, and which states it stands for (RFC 5740 section 5.5.3).
use Rattle.std.specs.Prelude.{◌≡◌, ℕ, List, [], Option, Bool, length, map, filter}
use Rattle.norm_base.specs.Settings.{Settings}
use Rattle.fec_plan.specs.declared.position.Position.{Position}
use Rattle.norm_send_rules.specs.SenderState.{SenderState, Listing, Watermark, unlisted}
use Rattle.norm_send_rules.specs.declared.news.Outcome.{Outcome}

-- a watermark without the command that it came by: its number, its position, its quorum, and its outcome where it ended
pub record MarkState : Type 0 where
  pub mark : ℕ
  pub at : Position
  pub quorum : Option ℕ
  pub ended : Option Outcome

-- a kept watermark: its number, its position, its quorum, its outcome where it ended, and whether that is still to be told
pub record Kept : Type 0 where
  pub mark : ℕ
  pub at : Position
  pub quorum : Option ℕ
  pub ended : Option Outcome
  pub untold : Bool

-- a book: how many receivers there were, the members in their order, all watermarks, and the members whose listing is to
-- be told
pub record BookState : Type 0 where
  pub receivers : ℕ
  pub listings : List Listing
  pub watermarks : List Kept
  pub untold_nodes : List ℕ

-- what a book reads of a sender's state
pub record WhatItReads : Type 0 where
  pub listings : List Listing
  pub watermarks : List Watermark
  pub untold_nodes : List ℕ
  pub untold_marks : List ℕ

abbrev pub reads : SenderState → WhatItReads
reads s = record {
  listings = s.listings;
  watermarks = s.watermarks;
  untold_nodes = s.untold_nodes;
  untold_marks = s.untold_marks;
}

-- a watermark of the sender's state, without its command
abbrev pub mark_state : Watermark → MarkState
mark_state w = record { mark = w.mark; at = w.at; quorum = w.quorum; ended = w.ended }

-- a kept watermark as one of the sender's state
abbrev pub kept_state : Kept → MarkState
kept_state k = record { mark = k.mark; at = k.at; quorum = k.quorum; ended = k.ended }

-- the numbers of the kept watermarks whose outcome is to be told, in order
abbrev pub untold_marks : List Kept → List ℕ
untold_marks watermarks = map (λ (k : Kept). k.mark) (filter (λ k. k.untold) watermarks)

-- A book stands for what it reads of a state: it was begun over as many receivers as the profile has, lists the same, has
-- the same watermarks, and has the same to tell.
pub record StandsFor (p : Settings) (book : BookState) (r : WhatItReads) : Type 0 where
  pub receivers : book.receivers ≡ p.receivers
  pub listings : book.listings ≡ r.listings
  pub watermarks : map kept_state book.watermarks ≡ map mark_state r.watermarks
  pub nodes : book.untold_nodes ≡ r.untold_nodes
  pub marks : untold_marks book.watermarks ≡ r.untold_marks

-- A book stands for a sender's state.
abbrev pub Stands : Settings → BookState → SenderState → Type 0
Stands p book s = StandsFor p book (reads s)

-- a book over these receivers, as it begins
abbrev pub begun_book : List ℕ → BookState
begun_book nodes = record { receivers = length nodes; listings = unlisted nodes; watermarks = []; untold_nodes = [] }
