-- What a member acknowledges is credited, in every run.
use Rattle.std.proofs.Common.{◌≡◌, ℕ, List, [], ◌∷◌, map, Bool, true, false, Option, None, Some, Result, Ok, refl, sym, ap, ◌∙◌, arith, inr}
use Rattle.std.specs.Prelude.{◌==◌, ◌&&◌, ◌||◌, not, nat_lt}
use Rattle.std.specs.List.{AllByRecursion, list_any}
use Rattle.norm_base.specs.Settings.{Settings}
use Rattle.fec_plan.specs.declared.position.Position.{Position}
use Rattle.fec_plan.proofs.PositionLemmas.{reached}
use Rattle.norm_ext.specs.Asking.{item_named}
use Rattle.norm_ext.specs.Message.{Message, Ack, AckMessage, AckContent, Mark, Unread}
use Rattle.norm_ext.specs.Reading.{decoded}
use Rattle.norm_order.specs.Sets.{with_member}
use Rattle.norm_order.specs.Shapes.{is_source}
use Rattle.norm_send_rules.specs.SenderState.{SenderState, Listing}
use Rattle.norm_send_rules.specs.InWindow.{last_index, current_shapes}
use Rattle.norm_send_rules.specs.Watermarks.{has_member, is_past, counted_anew, keeps_oldest, settled}
use Rattle.norm_send_rules.specs.Hearing.{listed_past, rises, credited, credited_by, ack_counts, ack_heard, message_heard}
use Rattle.norm_safety.specs.CreditsMembers.{is_listed_past, ack_credits, message_credits, event_credits}
use Rattle.norm_safety.specs.Events.{Event, Commanded, Delivered, Ticked, Offered, UpTaken, NewsAsked}
use Rattle.norm_safety.specs.History.{Happening, happens}
use Rattle.norm_safety.specs.Laws.{CreditRun}
use Rattle.norm_safety.specs.World.{World, world_opening, receiver_at}
use Rattle.norm_safety.specs.WorldStep.{node_move, moved, world_step}
use Rattle.norm_receive_rules.specs.ReceiverStep as receiver
use Rattle.norm_send_rules.specs.SenderStep as sender

clash : false ≡ true → ⊥
clash e = cc

-- What is so of each event is so along a run.
pub each_event : (p : Settings) (Claim : Happening → Type 0)
    → ((w : World) (e : Event) → Claim (record { before = w; event = e; answer = (world_step p w e).1; after = (world_step p w e).0 }))
    → (w : World) (events : List Event) → AllByRecursion Claim (happens p w events)
unfolding happens
each_event p Claim each w [] = tt
each_event p Claim each w (e ∷ events) = (each w e, each_event p Claim each (world_step p w e).0 events)

-- a position reaches itself
past_itself : (node : ℕ) (at : Position) → is_past at (record { node = node; past = Some at }) ≡ true
past_itself node at = reached at at (inr (refl, inr (refl, omega arith)))

-- a node that is listed is past the position afterwards
now_past : (node : ℕ) (at : Position) (ls : List Listing) → list_any (λ (l : Listing). l.node == node) ls ≡ true
    → list_any (λ (l : Listing). l.node == node && is_past at l) (map (listed_past node at) ls) ≡ true
now_past node at [] e = e
now_past node at (l ∷ ls) e = go (l.node == node) refl (is_past at l) refl (now_past node at ls) e
  where
    rest : Bool
    rest = list_any (λ (x : Listing). x.node == node && is_past at x) (map (listed_past node at) ls)

    risen : Bool → Bool → Listing
    risen b c = elim (b && c) [ true ↦ l | false ↦ elim b [ true ↦ record l { past = Some at } | false ↦ l ] ]

    passes : Listing → Bool
    passes x = x.node == node && is_past at x

    go : (b : Bool) → (l.node == node) ≡ b → (c : Bool) → is_past at l ≡ c → (list_any (λ (x : Listing). x.node == node) ls ≡ true → rest ≡ true)
        → (b || list_any (λ (x : Listing). x.node == node) ls) ≡ true → (passes (risen b c) || rest) ≡ true
    go true is true past more e = ap (λ (t : Bool). (t && is_past at l) || rest) is ∙ ap (λ (t : Bool). t || rest) past
    go true is false past more e = ap (λ (t : Bool). (t && is_past at (record l { past = Some at })) || rest) is ∙ ap (λ (t : Bool). t || rest) (past_itself l.node at)
    go false is c past more e = ap (λ (t : Bool). (t && is_past at l) || rest) is ∙ more e

-- and was so where it does not rise
was_past : (node : ℕ) (at : Position) (ls : List Listing) → list_any (λ (l : Listing). l.node == node) ls ≡ true
    → list_any (λ (l : Listing). l.node == node && not (is_past at l)) ls ≡ false → list_any (λ (l : Listing). l.node == node && is_past at l) ls ≡ true
was_past node at [] e f = e
was_past node at (l ∷ ls) e f = go (l.node == node) (is_past at l) (was_past node at ls) e f
  where
    go : (b c : Bool)
        → (list_any (λ (x : Listing). x.node == node) ls ≡ true → list_any (λ (x : Listing). x.node == node && not (is_past at x)) ls ≡ false
        → list_any (λ (x : Listing). x.node == node && is_past at x) ls ≡ true)
        → (b || list_any (λ (x : Listing). x.node == node) ls) ≡ true → ((b && not c) || list_any (λ (x : Listing). x.node == node && not (is_past at x)) ls) ≡ false
        → ((b && c) || list_any (λ (x : Listing). x.node == node && is_past at x) ls) ≡ true
    go true true more e f = refl
    go true false more e f = absurd (clash (sym f))
    go false c more e f = more e f

-- the count of flushes leaves the listings
counted_lists : (old s : SenderState) (node : ℕ) (at : Position) → is_listed_past s node at ≡ true → is_listed_past (counted_anew old s) node at ≡ true
counted_lists old s node at h = go (keeps_oldest old s)
  where
    go : (b : Bool) → is_listed_past (elim b [ true ↦ s | false ↦ record s { flushes = 0 } ]) node at ≡ true
    go true = h
    go false = h

credited_lists : (node : ℕ) (at : Position) (s : SenderState) → has_member node s ≡ true → is_listed_past (credited node at s) node at ≡ true
credited_lists node at s member = go (rises node at s) refl
  where
    risen : SenderState
    risen = record s { listings = map (listed_past node at) s.listings; untold_nodes = with_member nat_lt node s.untold_nodes }

    go : (b : Bool) → rises node at s ≡ b → is_listed_past (elim b [ true ↦ counted_anew s (settled risen) | false ↦ s ]) node at ≡ true
    go true e = counted_lists s (settled risen) node at (now_past node at s.listings member)
    go false e = was_past node at s.listings member e

first_of_both : (a b : Bool) → (a && b) ≡ true → a ≡ true
first_of_both true b e = refl
first_of_both false b e = absurd (clash e)

ack_is_credited : (p : Settings) (s : SenderState) (m : AckMessage) → ack_credits p s (ack_heard p s m) m ≡ true
ack_is_credited p s m = go (ack_counts p s m) refl m.content
  where
    left : Bool → AckContent → SenderState
    left b content = elim b [
      | true ↦ elim content [ Mark item ↦ credited_by p m.source (item_named p (last_index s) item) s | Unread octets ↦ s ]
      | false ↦ s
    ]

    named : AckContent → Option Position
    named content = elim content [ Mark item ↦ item_named p (last_index s) item | Unread octets ↦ None ]

    only : Bool → Bool → Bool
    only b claim = elim b [ true ↦ claim | false ↦ true ]

    after : Bool → Position → SenderState
    after b at = elim b [ true ↦ credited m.source at s | false ↦ s ]

    of : Option Position → SenderState → Bool
    of found later = elim found [ Some at ↦ only (is_source (current_shapes p s) at) (is_listed_past later m.source at) | None ↦ true ]

    at_source : (at : Position) → has_member m.source s ≡ true → (b : Bool) → only b (is_listed_past (after b at) m.source at) ≡ true
    at_source at member true = credited_lists m.source at s member
    at_source at member false = refl

    by_name : (found : Option Position) → has_member m.source s ≡ true → of found (credited_by p m.source found s) ≡ true
    by_name None member = refl
    by_name (Some at) member = at_source at member (is_source (current_shapes p s) at)

    go : (b : Bool) → ack_counts p s m ≡ b → (content : AckContent) → only b (of (named content) (left b content)) ≡ true
    go false e content = refl
    go true e (Mark item) = by_name (item_named p (last_index s) item) (first_of_both (has_member m.source s) _ e)
    go true e (Unread octets) = refl

heard_is_credited : {E : Type 0} (p : Settings) (s : SenderState) (now : ℕ) (read : Result Message E)
    → message_credits p s (message_heard p s now read) read ≡ true
heard_is_credited p s now (Ok (Ack m)) = ack_is_credited p s m
heard_is_credited p s now _ = refl

event_is_credited : (p : Settings) (w : World) (e : Event) → event_credits p w.sender (world_step p w e).0.sender e ≡ true
event_is_credited p w (Delivered node datagram now draw) = go (node == p.sender)
  where
    only : Bool → Bool → Bool
    only b claim = elim b [ true ↦ claim | false ↦ true ]

    after : Bool → World
    after b = (moved p w (node_move b (receiver_at w node) (sender.Delivered datagram now) (receiver.Delivered datagram now draw))).0

    go : (b : Bool) → only b (message_credits p w.sender (after b).sender (decoded datagram)) ≡ true
    go true = heard_is_credited p w.sender now (decoded datagram)
    go false = refl
event_is_credited p w (Commanded by job now) = refl
event_is_credited p w (Ticked node now) = refl
event_is_credited p w (Offered node octets) = refl
event_is_credited p w (UpTaken node) = refl
event_is_credited p w NewsAsked = refl

pub credit_run : CreditRun
credit_run p events = each_event p (λ (x : Happening). event_credits p x.before.sender x.after.sender x.event ≡ true) (event_is_credited p) (world_opening p) events
