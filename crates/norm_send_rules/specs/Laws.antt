-- What is promised of the sender's rules.
use Rattle.std.specs.Prelude.{ℕ, ◌≡◌, ◌+◌, ◌<◌, ◌≤◌, ◌&&◌, not, List, [], ◌∷◌, length, find, slice_get, ⊤, Bool, true, Err, Option, None, Some, false}
use Rattle.std.specs.List.{AllByRecursion}
use Rattle.norm_base.specs.Settings.{Settings, InRange}
use Rattle.norm_base.specs.declared.node.Origin.{Origin}
use Rattle.norm_order.specs.Entries.{Entry}
use Rattle.norm_order.specs.Shapes.{Shape, shape_of, is_encoded, has_info}
use Rattle.norm_send_rules.specs.Wants.{want_before, want_index}
use Rattle.norm_send_rules.specs.SenderState.{SenderState, Round, sender_opening}
use Rattle.norm_send_rules.specs.InWindow.{stands_behind, current_shapes}
use Rattle.norm_send_rules.specs.Streaming.{cut}
use Rattle.norm_send_rules.specs.Marking.{is_no_quorum}
use Rattle.norm_send_rules.specs.Commanding.{commanded}
use Rattle.norm_send_rules.specs.Closing.{round_closed}
use Rattle.norm_send_rules.specs.Sending.{new_of, next_new, behind}
use Rattle.norm_send_rules.specs.SenderStep.{SenderEvent, sender_step}
use Rattle.norm_send_rules.specs.declared.fault.SendFault.{SendFault}
use Rattle.norm_send_rules.specs.declared.job.Job.{Job}
use Rattle.norm_send_rules.specs.declared.job.Job.TheVariants as job
use Rattle.norm_send_rules.specs.declared.want.Want.{Want}
use Rattle.norm_send_rules.specs.declared.want.Want.TheVariants.{Info, Symbol}

-- the state that a refused command leaves: the old one, where a mark cuts the open stream unless its quorum is refused
abbrev pub left_by : Settings → SenderState → Job → SenderState
left_by p s (job.Data info bytes) = s
left_by p s (job.File name bytes) = s
left_by p s job.Open = s
left_by p s (job.Write bytes) = s
left_by p s job.Close = s
left_by p s (job.Mark None) = cut p s
left_by p s (job.Mark (Some q)) = elim (is_no_quorum p q) [ true ↦ s | false ↦ cut p s ]
left_by p s (job.Restart instance) = s
left_by p s (job.Strike node) = s

-- a refused command leaves the state but for the cut
abbrev pub RefusedLeaves : Type 0
RefusedLeaves = (p : Settings) (s : SenderState) (by : Origin) (job : Job) (fault : SendFault)
    → (commanded p s by job).1 ≡ Err fault → (commanded p s by job).0 ≡ left_by p s job

-- each want is before all that follow it: none is there twice, and the first is the lowest
abbrev pub Rise : List Want → Type 0
Rise [] = ⊤
Rise (w ∷ wants) = AllByRecursion (λ other. want_before w other ≡ true) wants × Rise wants

-- each want stands behind the drop point
abbrev pub AreInWindow : SenderState → List Want → Type 0
AreInWindow s wants = AllByRecursion (λ want. stands_behind s.current.drop want ≡ true) wants

-- the closing of a round keeps the wants in order, none twice, and in the window
pub record ClosingLaws : Type 0 where
  pub rise : (p : Settings) (r : Round) (s : SenderState) → Rise s.wants → Rise (round_closed p r s).wants
  pub in_window : (p : Settings) (r : Round) (s : SenderState) → AreInWindow s s.wants → AreInWindow s (round_closed p r s).wants

-- the want is an info or an encoded symbol of an entry of the order
abbrev pub is_of_order : List Shape → Want → Bool
is_of_order shapes (Info index) = has_info shapes index
is_of_order shapes (Symbol at) = is_encoded shapes at

-- What a sender wants to send again stands in order, none of it twice, so that the first want is the lowest; each is an
-- info or an encoded symbol of an entry of the order; and none lies before the drop point.
pub record WantsHold (p : Settings) (s : SenderState) : Type 0 where
  pub rise : Rise s.wants
  pub of_order : AllByRecursion (λ want. is_of_order (current_shapes p s) want ≡ true) s.wants
  pub in_window : AreInWindow s s.wants

-- the wants of a sender hold as it begins, and each step keeps that
pub record WantLaws : Type 0 where
  pub at_first : (p : Settings) (instance : ℕ) → WantsHold p (sender_opening p instance)
  pub always : (p : Settings) (s : SenderState) (event : SenderEvent) → InRange p → WantsHold p s → WantsHold p (sender_step p s event).0

-- What is sent next by itself is an info or an encoded symbol of the order that was not dropped, and stands behind the last
-- one: so each is new once.
pub record NewLaws : Type 0 where
  pub of_order : (p : Settings) (s : SenderState) (w : Want) → InRange p → next_new p s ≡ Some w → is_of_order (current_shapes p s) w ≡ true
  pub in_window : (p : Settings) (s : SenderState) (w : Want) → next_new p s ≡ Some w → stands_behind s.current.drop w ≡ true
  pub rises : (p : Settings) (s : SenderState) (last w : Want) → s.next ≡ behind last → next_new p s ≡ Some w → want_before last w ≡ true

-- the first of these that is neither before the next place nor before the drop point
abbrev pub first_standing : SenderState → List Want → Option Want
first_standing s wants = find (λ w. not (want_before w s.next) && stands_behind s.current.drop w) wants

-- the sender where the object with this index is next
abbrev pub next_at : ℕ → SenderState → SenderState
next_at index s = record s { next = Info index }

-- What is new next, object by object.
pub record NextLaws : Type 0 where
  -- at the end of the order nothing is
  pub at_end : (p : Settings) (s : SenderState) → length s.current.order ≤ want_index s.next → next_new p s ≡ None
  -- of the object at hand the first that is neither before the next place nor before the drop point; and where none of it
  -- is, what is new of the objects behind it
  pub at_hand : (p : Settings) (s : SenderState) (entry : Entry) → slice_get s.current.order (want_index s.next) ≡ Some entry
      → next_new p s ≡ elim (first_standing s (new_of p (want_index s.next) (shape_of p entry.object))) [
        | Some w ↦ Some w
        | None ↦ next_new p (next_at (want_index s.next + 1) s)
      ]
  -- where the drop point is of an object behind the one at hand, what is new from that object on
  pub dropped : (p : Settings) (s : SenderState) → want_index s.next < s.current.drop.index
      → next_new p s ≡ next_new p (next_at s.current.drop.index s)
