-- What holds of every state that a sender comes to.
use Rattle.std.specs.Prelude.{ℕ, ◌≡◌, ◌*◌, ◌<◌, ◌≤◌, List, length, map, true, None, is_some, IfSome}
use Rattle.std.specs.List.{AllByRecursion, range_with_len}
use Rattle.norm_base.specs.Settings.{Settings, InRange}
use Rattle.fec_plan.specs.declared.position.Position.{Position}
use Rattle.norm_order.specs.Entries.{Object, Whole, Stream, Entry}
use Rattle.norm_order.specs.Shapes.{is_source, is_encoded}
use Rattle.norm_send_rules.specs.SenderState.{SenderState, Listing, Watermark, sender_opening}
use Rattle.norm_send_rules.specs.InWindow.{current_shapes}
use Rattle.norm_send_rules.specs.Watermarks.{is_open, watermark_of}
use Rattle.norm_send_rules.specs.Enqueuing.{info_length}
use Rattle.norm_send_rules.specs.Streaming.{used_segments}
use Rattle.norm_send_rules.specs.Telling.{listing_of, told}
use Rattle.norm_send_rules.specs.SenderStep.{SenderEvent, sender_step}
use Rattle.norm_send_rules.specs.Laws.{WantsHold}

-- Data and files have octets, and no more than the profile says, with an info of at most e; a stream has no more segments than
-- 24 bits number blocks of.
abbrev pub FitsProfile : Settings → Object → Type 0
FitsProfile p (Whole kind info octets) = (0 < length octets) × (length octets ≤ p.octets) × (info_length info ≤ p.e)
FitsProfile p (Stream parts) = used_segments p parts ≤ 16777216 * p.b

-- a position has an index of 32 bits, a block of 24, and a symbol of 8
abbrev pub HasName : Position → Type 0
HasName at = (at.index < 4294967295) × (at.block < 16777216) × (at.symbol < 256)

-- the numbers of watermarks
abbrev pub marks_of : List Watermark → List ℕ
marks_of watermarks = map (λ (w : Watermark). w.mark) watermarks

-- There are at most 16 members; watermarks are numbered from 1 on; who has a rise to be told is listed past something, and
-- each outcome to be told is of a watermark.
pub record BookHolds (s : SenderState) : Type 0 where
  pub members : length s.listings ≤ 16
  pub numbered : marks_of s.watermarks ≡ range_with_len 1 (length s.watermarks)
  pub rises : AllByRecursion (λ node. is_some (listing_of s node) ≡ true) s.untold_nodes
  pub outcomes : AllByRecursion (λ mark. is_some (watermark_of s mark) ≡ true) s.untold_marks

-- What every state holds that a sender comes to: its wants are of its window, its objects fit the profile and have indices
-- of 32 bits, its book is sound, and what open watermarks ask for and what members are listed past are source symbols of
-- the order.
pub record IsReached (p : Settings) (s : SenderState) : Type 0 where
  pub wants : WantsHold p s
  pub objects : AllByRecursion (λ (entry : Entry). FitsProfile p entry.object) s.current.order
  pub indices : length s.current.order ≤ 4294967295
  pub book : BookHolds s
  pub asked : AllByRecursion (λ (w : Watermark). is_open w ≡ true → is_source (current_shapes p s) w.at ≡ true) s.watermarks
  pub listed : AllByRecursion (λ (l : Listing). IfSome l.past (λ at. is_source (current_shapes p s) at ≡ true)) s.listings

-- It holds as a sender begins, and each step keeps it. In such a state symbols have names, and where nothing new is told the
-- sender is as it was.
pub record ReachedLaws : Type 0 where
  pub at_first : (p : Settings) (instance : ℕ) → InRange p → IsReached p (sender_opening p instance)
  pub always : (p : Settings) (s : SenderState) (event : SenderEvent) → InRange p → IsReached p s → IsReached p (sender_step p s event).0
  -- each encoded symbol of its order, and so each source symbol, has a name of 32, 24 and 8 bits
  pub symbols : (p : Settings) (s : SenderState) (at : Position) → InRange p → IsReached p s → is_encoded (current_shapes p s) at ≡ true → HasName at
  pub sources : (p : Settings) (s : SenderState) (at : Position) → InRange p → IsReached p s → is_source (current_shapes p s) at ≡ true → HasName at
  pub quiet : (p : Settings) (s : SenderState) → IsReached p s → (told s).1 ≡ None → (told s).0 ≡ s
