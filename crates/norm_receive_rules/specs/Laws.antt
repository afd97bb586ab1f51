-- What is promised of the receiver's rules.
use Rattle.std.specs.Prelude.{◌≡◌, ◌<◌, ◌≤◌, ◌⊎◌, ℕ, List, ◌++◌, flat_map, Bool, true, false, not, ◌||◌, nat_le, Option, None, Some, IfSome, Ok}
use Rattle.std.specs.Bool.{Decides}
use Rattle.std.specs.List.{list_all, list_any, AllByRecursion}
use Rattle.norm_base.specs.Settings.{Settings}
use Rattle.fec_plan.specs.Points.{Point, point, position, position_before, reaches}
use Rattle.fec_plan.specs.declared.position.Position.{Position}
use Rattle.norm_order.specs.declared.up.Up.{Up}
use Rattle.norm_receive_rules.specs.Holding.{Holding, Held, Plan, holding_nothing}
use Rattle.norm_receive_rules.specs.ReceiverState.{ReceiverState, receiver_opening}
use Rattle.norm_receive_rules.specs.ReceiverStep.{ReceiverEvent, receiver_step}
use Rattle.norm_ext.specs.Asking.{Named, Span, asked_spans, asks_info, asked_counts}
use Rattle.norm_ext.specs.InstanceIds.{is_above}
use Rattle.norm_ext.specs.Message.{Squelch, SquelchCommand}
use Rattle.norm_ext.specs.Reading.{decoded}
use Rattle.norm_receive_rules.specs.Heard.{heard_all}
use Rattle.norm_receive_rules.specs.HeardNeeds.{is_asked, asks_as_many, covers}
use Rattle.norm_receive_rules.specs.HandingUp.{hands_one, handed_up}
use Rattle.norm_receive_rules.specs.AllNeeds.{needs_of, last_known, needs_nothing}
use Rattle.norm_receive_rules.specs.Lazy.{Nil, Next}
use Rattle.norm_receive_rules.specs.Needs.{is_covered}
use Rattle.norm_receive_rules.specs.Plans.{plan_of, says_stream, is_done}
use Rattle.norm_receive_rules.specs.NothingMissing.{IsThere, NothingIsMissing}
use Rattle.norm_receive_rules.specs.StreamNeeds.{is_end, last_block, open_block}
use Rattle.norm_receive_rules.specs.Leaving.{is_in}
use Rattle.norm_receive_rules.specs.Losing.{squelched}
use Rattle.norm_receive_rules.specs.Receiving.{squelch_received, received}
use Rattle.norm_receive_rules.specs.Taking.{up_taken, took}

-- the hand-ups are those that were there, and further ones
abbrev pub HasMore : Holding → Holding → Type 0
HasMore s after = (more : List Up) × (after.ups ≡ s.ups ++ more)

-- Hand-ups go on from the hand-up point: each joins those before it and moves the point on, so that no place is handed
-- up twice.
pub record HandUpLaws : Type 0 where
  pub each_joins : (p : Settings) (s after : Holding) → hands_one p s ≡ Some after → HasMore s after
  pub each_moves_on : (p : Settings) (s after : Holding) → hands_one p s ≡ Some after → position_before s.point after.point ≡ true
  pub all_join : (p : Settings) (s : Holding) → HasMore s (handed_up p s)
  pub never_back : (p : Settings) (s : Holding) → reaches (handed_up p s).point s.point ≡ true

-- Nothing is needed exactly where nothing is missing; and every covered object is among those that this looks at.
pub record NeedsLaws : Type 0 where
  pub exact : (p : Settings) (s : ReceiverState) → Decides (needs_nothing p s) (NothingIsMissing p s)
  pub covered : (farthest : Option Point) (flush : Option Position) (index : ℕ)
      → is_covered farthest flush index ≡ true → index < last_known farthest flush

-- each source symbol of an object from one to another was asked for, where its blocks have so many
abbrev pub EachIsAsked : List Span → ℕ → Position → Position → Type 0
EachIsAsked spans width first last = (at : Position) → at.index ≡ first.index → at.symbol < width
    → reaches at first ≡ true → reaches last at ≡ true → is_asked spans at ≡ true

-- What was heard tells, kept merged, the same as the requests as they were heard: of a symbol, of an info, of a count; and the
-- walk over it says whether each source symbol from one to another was asked for.
pub record HeardLaws : Type 0 where
  pub symbols : (requests : List Named) (at : Position) → is_asked (heard_all requests).symbols at ≡ is_asked (flat_map asked_spans requests) at
  pub infos : (requests : List Named) (index : ℕ)
      → is_asked (heard_all requests).infos (position index 0 0) ≡ list_any (λ (r : Named). asks_info r index) requests
  pub counts : (requests : List Named) (at : Point) (wanted : ℕ)
      → asks_as_many (heard_all requests).counts at wanted ≡ asks_as_many (flat_map asked_counts requests) at wanted
  pub covered : (requests : List Named) (width : ℕ) (first last : Position) → first.index ≡ last.index
      → first.symbol < width → last.symbol < width → reaches last first ≡ true
      → Decides (covers width first last (heard_all requests).symbols) (EachIsAsked (flat_map asked_spans requests) width first last)

-- a receiver that is in no instance holds nothing, so that nothing is there to be taken
abbrev pub HoldsNothingOutside : ReceiverState → Type 0
HoldsNothingOutside s = s.instance ≡ None → s.holding ≡ holding_nothing

-- it is the same instance, or the first, or one that lies above
abbrev pub GoesOnTo : Option ℕ → Option ℕ → Type 0
GoesOnTo from to = (to ≡ from) ⊎ ((id : ℕ) × (to ≡ Some id) × IfSome from (λ current. is_above current id ≡ true))

-- A receiver stays the node that it is, whatever happens to it; it goes on to instances that lie above its own; and while it
-- is in none it holds nothing.
pub record StepLaws : Type 0 where
  pub node : (p : Settings) (s : ReceiverState) (event : ReceiverEvent) → (receiver_step p s event).0.node ≡ s.node
  pub instance : (p : Settings) (s : ReceiverState) (event : ReceiverEvent) → GoesOnTo s.instance (receiver_step p s event).0.instance
  pub begins : (node : ℕ) → HoldsNothingOutside (receiver_opening node)
  pub goes_on : (p : Settings) (s : ReceiverState) (event : ReceiverEvent) → HoldsNothingOutside s → HoldsNothingOutside (receiver_step p s event).0

-- nothing is needed of the object at the hand-up point
abbrev pub needs_nothing_first : Settings → ReceiverState → Bool
needs_nothing_first p s =
    elim (needs_of p s.knows.farthest s.knows.flush s.holding s.holding.point.index) [ Nil ↦ true | Next need rest ↦ false ]

-- The hand-up point is where an object begins.
pub record IsAtStart (s : Holding) : Type 0 where
  pub block : s.point.block ≡ 0
  pub symbol : s.point.symbol ≡ 0

-- Of a stream at the hand-up point each block before it is done, and of its block each source symbol before it is there,
-- and is no end.
pub record IsPassed (p : Settings) (s : Holding) (plan : Plan) : Type 0 where
  pub done : (block : ℕ) → block < s.point.block → is_done s plan block ≡ true
  pub there : (symbol : ℕ) → symbol < s.point.symbol → IsThere s plan (position plan.index s.point.block symbol)
  pub no_end : (symbol : ℕ) → symbol < s.point.symbol → is_end p s plan (position plan.index s.point.block symbol) ≡ false

-- the same where an object has a plan or none
abbrev pub PassedBy : Settings → Holding → Option Plan → Type 0
PassedBy p s None = IsAtStart s
PassedBy p s (Some plan) = elim (says_stream plan.flags) as (λ _. Type 0) [ true ↦ IsPassed p s plan | false ↦ IsAtStart s ]

-- of the object at the hand-up point
abbrev pub HasPassed : Settings → Holding → Type 0
HasPassed p s = PassedBy p s (plan_of s s.point.index)

-- Of a stream each block before the hand-up point's is done, and nothing that was handed up of the point's block is an end:
-- so it is at first, and after each step.
pub record PassedLaws : Type 0 where
  pub begins : (p : Settings) (node : ℕ) → HasPassed p (receiver_opening node).holding
  pub goes_on : (p : Settings) (s : ReceiverState) (event : ReceiverEvent)
      → HasPassed p s.holding → HasPassed p (receiver_step p s event).0.holding

-- a block of an object was seen: it has a plan, and where it is a stream the greatest block seen is this one or behind it
abbrev pub was_seen : Option Plan → ℕ → Bool
was_seen found block = elim found [ Some plan ↦ not (says_stream plan.flags) || nat_le block plan.seen | None ↦ false ]

-- the block of each held symbol was seen
abbrev pub each_was_seen : Holding → Bool
each_was_seen s = list_all (λ (h : Held). was_seen (plan_of s h.at.index) h.at.block) s.held

-- The block of each held symbol was seen: so it is at first, and after each step.
pub record SeenLaws : Type 0 where
  pub begins : (node : ℕ) → each_was_seen (receiver_opening node).holding ≡ true
  pub goes_on : (p : Settings) (s : ReceiverState) (event : ReceiverEvent)
      → each_was_seen s.holding ≡ true → each_was_seen (receiver_step p s event).0.holding ≡ true

-- Where all that can be was handed up: where anything is needed, something of the object at the hand-up point is. So nothing
-- else has to be looked at to say whether anything is. Of a stream there it holds while a block is left that could hold its
-- end: where the greatest block seen is the last that 24 bits name, all its symbols are held and none is an end, no request
-- can ask for more of the stream, and what is behind it may be needed all the same.
pub record FrontLaws : Type 0 where
  pub first : (p : Settings) (s : ReceiverState) → hands_one p s.holding ≡ None
      → IfSome (plan_of s.holding s.holding.point.index) (λ (plan : Plan). says_stream plan.flags ≡ false)
      → needs_nothing_first p s ≡ true → needs_nothing p s ≡ true
  pub stream : (p : Settings) (s : ReceiverState) (plan : Plan) → HasPassed p s.holding → each_was_seen s.holding ≡ true
      → hands_one p s.holding ≡ None → plan_of s.holding s.holding.point.index ≡ Some plan → says_stream plan.flags ≡ true
      → open_block s.holding plan ≤ last_block → needs_nothing_first p s ≡ true → needs_nothing p s ≡ true

-- plans, symbols and infos are held as they were
pub record HoldsSame (s after : Holding) : Type 0 where
  pub plans : after.plans ≡ s.plans
  pub held : after.held ≡ s.held
  pub infos : after.infos ≡ s.infos

-- taking a hand-up changes nothing but which wait to be taken
pub record IsTaking (s after : Holding) : Type 0 where
  pub holds : HoldsSame s after
  pub point : after.point ≡ s.point
  pub lost : after.lost ≡ s.lost

-- handing up changes nothing but what waits to be taken and the hand-up point, which does not go back
pub record IsHandingUp (s after : Holding) : Type 0 where
  pub holds : HoldsSame s after
  pub lost : after.lost ≡ s.lost
  pub ups : HasMore s after
  pub point : reaches after.point s.point ≡ true

-- further objects are lost, none of them before the one at the hand-up point
abbrev pub LosesMore : Holding → Holding → Type 0
LosesMore s after = (more : List ℕ) × (after.lost ≡ s.lost ++ more) × AllByRecursion (λ index. s.point.index ≤ index) more

-- a squelch is handing up and losing: it changes what was lost too
pub record IsLosing (s after : Holding) : Type 0 where
  pub holds : HoldsSame s after
  pub lost : LosesMore s after
  pub ups : HasMore s after
  pub point : reaches after.point s.point ≡ true

-- a receiver beside what it holds, but for the greatest index that it knows and the back-off that it may begin
pub record IsAlikeBeside (s after : ReceiverState) : Type 0 where
  pub node : after.node ≡ s.node
  pub instance : after.instance ≡ s.instance
  pub sequence : after.sequence ≡ s.sequence
  pub farthest : after.knows.farthest ≡ s.knows.farthest
  pub flush : after.knows.flush ≡ s.knows.flush
  pub holdoff : after.knows.holdoff ≡ s.knows.holdoff
  pub due : after.knows.due ≡ s.knows.due

-- Hand-ups and a squelch change nothing beside what is held: each goes from what was held to what is held then, and there
-- leaves plans, symbols and infos. After a squelch nothing before its index is left.
pub record BesideLaws : Type 0 where
  pub takes : (s : Holding) → IsTaking s (up_taken s).0
  pub hands_up : (p : Settings) (s : Holding) → IsHandingUp s (handed_up p s)
  pub loses : (p : Settings) (first : Point) (s : Holding) → IsLosing s (squelched p first s)
  pub leaves_none : (p : Settings) (first : Point) (s : Holding) → first.index ≤ (squelched p first s).point.index
  pub taken : (s : ReceiverState) → (took s).0 ≡ record s { holding = (up_taken s.holding).0 }
  pub squelch : (p : Settings) (m : SquelchCommand) (index : ℕ) (s : ReceiverState)
      → squelch_received p m index s ≡ record s { holding = squelched p (point index m.id.block) s.holding }
  pub heard : (p : Settings) (s : ReceiverState) (bytes : List ℕ) (now draw : ℕ) (m : SquelchCommand) → decoded bytes ≡ Ok (Squelch m)
      → is_in s m.head.instance ≡ true → IsAlikeBeside s (received p s bytes now draw)
