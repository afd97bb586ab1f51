-- What a sender hears, over what it keeps.
use Rattle.std.proofs.Common.{eq-eqb, ◌≡◌, ◌∙◌, ℕ, List, [], ◌∷◌, length, Bool, true, false, Option, Some, None, refl, sym, subst, ap}
use Rattle.std.specs.Prelude.{◌==◌, ◌&&◌}
use Rattle.std.specs.Option.{option_map}
use Rattle.norm_base.specs.Settings.{Settings}
use Rattle.fec_plan.specs.declared.position.Position.{Position}
use Rattle.norm_ext.specs.Requests.{Request}
use Rattle.norm_send_rules.specs.SenderState.{SenderState, Watermark}
use Rattle.norm_send_rules.specs.Watermarks.{counted_anew, oldest, keeps_oldest, settled}
use Rattle.norm_order.specs.Sets.{with_member}
use Rattle.std.specs.Prelude.{nat_lt, map}
use Rattle.std.specs.Prelude.{length}
use Rattle.norm_ext.specs.Message.{AckMessage}
use Rattle.norm_cmdmsg.specs.declared.command.CommandMsg.TheVariants as lent
use Rattle.norm_send_rules.specs.SenderState.{Round}
use Rattle.norm_send_rules.specs.Watermarks.{has_member}
use Rattle.norm_send_rules.specs.Hearing.{ack_heard, credited, rises, listed_past, joined_round, round_at}
use Rattle.tx_window.specs.WindowState.{WindowState, Stands as WindowStands}
use Rattle.nack_union.specs.UnionState.{UnionState, Stands as UnionStands}
use Rattle.mark_book.specs.BookState.{BookState, Stands as BookStands}
use Rattle.norm_sender.specs.declared.pace.Pace.{Pace}
use Rattle.norm_sender.specs.Pacing.{pace_of, opened_at}
use Rattle.norm_sender.specs.Feedback.{content_heard}
use Rattle.norm_sender.specs.SenderKept.{SenderKept, Agrees}
use Rattle.norm_sender.specs.SenderMoves.{IsBehind, with_book}
use Rattle.norm_sender.proofs.FollowingLemmas.{unfollowed_book}

-- the state with a listing that rose, before the count of flushes is looked at
abbrev risen : ℕ → Position → SenderState → SenderState
risen node at s = settled (record s { listings = map (listed_past node at) s.listings; untold_nodes = with_member nat_lt node s.untold_nodes })

-- keeping the oldest watermark, by what is the oldest afterwards, and before
abbrev kept_after : SenderState → Option Watermark → Bool
kept_after old found = elim found [ Some w ↦ elim (oldest old) [ Some v ↦ v.mark == w.mark | None ↦ false ] | None ↦ true ]

abbrev kept_before : Watermark → Option Watermark → Bool
kept_before w found = elim found [ Some v ↦ v.mark == w.mark | None ↦ false ]

keeps_itself : (s : SenderState) (found : Option Watermark) → oldest s ≡ found → keeps_oldest s s ≡ true
keeps_itself s None e = ap (kept_after s) e
keeps_itself s (Some w) e = ap (kept_after s) e ∙ ap (kept_before w) e ∙ eq-eqb w.mark w.mark refl

-- what a crediting makes of the book, by whether the listing rises
abbrev pub risen_if : Bool → ℕ → Position → SenderState → SenderState
risen_if up node at s = elim up [ true ↦ risen node at s | false ↦ s ]

abbrev credited_if : Bool → ℕ → Position → SenderState → SenderState
credited_if up node at s = elim up [ true ↦ counted_anew s (risen node at s) | false ↦ s ]

followed_if : (up : Bool) (node : ℕ) (at : Position) (s : SenderState) → credited_if up node at s ≡ counted_anew s (with_book (risen_if up node at s) s)
followed_if true node at s = refl
followed_if false node at s =
    sym (ap (λ (b : Bool). elim b as (λ _. SenderState) [ true ↦ s | false ↦ record s { flushes = 0 } ]) (keeps_itself s (oldest s) refl))

-- the state that the book is ahead with, once a member confirmed a position
abbrev pub credited_book : ℕ → Position → SenderState → SenderState
credited_book node at s = risen_if (rises node at s) node at s

pub credited_follows : (node : ℕ) (at : Position) (s : SenderState) → credited node at s ≡ counted_anew s (with_book (credited_book node at s) s)
credited_follows node at s = followed_if (rises node at s) node at s

pub credited_behind : (k : SenderKept) (book : BookState) (node : ℕ) (at : Position) (s : SenderState) → Agrees k s
    → BookStands k.p book (credited node at s) → IsBehind (record k { book = book }) s (with_book (credited_book node at s) s)
credited_behind k book node at s h listed = record {
  window_profile = h.window_profile;
  filling = h.filling;
  union_profile = h.union_profile;
  window = h.window;
  union = h.union;
  book = unfollowed_book k.p book s (with_book (credited_book node at s) s) (subst (λ (t : SenderState). BookStands k.p book t) (credited_follows node at s) listed);
  pace = h.pace;
}

-- An acknowledgement's item.

-- Requests that join the round.

opened_as : (p : Settings) (now : ℕ) (s : SenderState) (round : Option Round)
    → opened_at p now (record (pace_of s) { closes = option_map (λ (r : Round). r.closes) round })
    ≡ record (pace_of s) { closes = Some (round_at p (record s { round = round }) now).closes }
opened_as p now s None = refl
opened_as p now s (Some r) = refl

joined_pace : (p : Settings) (s : SenderState) (now : ℕ) (requests : List Request) → (length requests ≡ 0 → ⊥)
    → opened_at p now (pace_of s) ≡ pace_of (joined_round p s now requests)
joined_pace p s now [] some = absurd (some refl)
joined_pace p s now (r ∷ requests) some = opened_as p now s s.round

joined_window : (p : Settings) (s : SenderState) (now : ℕ) (requests : List Request) (w : WindowState) → WindowStands w s → WindowStands w (joined_round p s now requests)
joined_window p s now [] w h = h
joined_window p s now (r ∷ requests) w h = h

joined_book : (p : Settings) (s : SenderState) (now : ℕ) (requests : List Request) (b : BookState) → BookStands p b s → BookStands p b (joined_round p s now requests)
joined_book p s now [] b h = h
joined_book p s now (r ∷ requests) b h = h

pub joined_stands : (k : SenderKept) (union : UnionState) (requests : List Request) (now : ℕ) (s : SenderState) → Agrees k s → (length requests ≡ 0 → ⊥)
    → union.p ≡ k.union.p → UnionStands union (joined_round k.union.p s now requests)
    → Agrees (record k { union = union; pace = opened_at k.p now k.pace }) (joined_round k.p s now requests)
joined_stands k union requests now s h some profile after = record {
  window_profile = h.window_profile;
  filling = h.filling;
  union_profile = profile ∙ h.union_profile;
  window = joined_window k.p s now requests k.window h.window;
  union = subst (λ (q : Settings). UnionStands union (joined_round q s now requests)) h.union_profile after;
  book = joined_book k.p s now requests k.book h.book;
  pace = ap (opened_at k.p now) h.pace ∙ joined_pace k.p s now requests some;
}

-- Whom a sender hears.

-- a message is to this sender and its current instance, by the numbers
abbrev pub to_me : SenderKept → ℕ → ℕ → Bool
to_me k sender instance = sender == k.p.sender && instance == k.pace.instance

instance_is : (k : SenderKept) (s : SenderState) → Agrees k s → (sender instance : ℕ) → to_me k sender instance ≡ (sender == k.p.sender && instance == s.current.id)
instance_is k s h sender instance = ap (λ (q : Pace). sender == k.p.sender && instance == q.instance) h.pace

abbrev ack_where : Settings → SenderState → AckMessage → Bool → SenderState
ack_where p s m counts = elim counts [ true ↦ content_heard p m.source s m.content | false ↦ s ]

pub ack_of_other : (k : SenderKept) (m : AckMessage) (s : SenderState) (member : Bool) → Agrees k s → member ≡ has_member m.source s → member ≡ false → Agrees k (ack_heard k.p s m)
ack_of_other k m s member h is e =
    subst (λ (t : SenderState). Agrees k t)
    (sym (ap (λ (b : Bool). ack_where k.p s m (b && (m.sender == k.p.sender && m.instance == s.current.id))) (sym is ∙ e))) h

pub ack_to_other : (k : SenderKept) (m : AckMessage) (s : SenderState) (member : Bool) → Agrees k s → member ≡ has_member m.source s → member ≡ true
    → to_me k m.sender m.instance ≡ false → Agrees k (ack_heard k.p s m)
ack_to_other k m s member h is of e =
    subst (λ (t : SenderState). Agrees k t)
    (sym (ap (λ (b : Bool). ack_where k.p s m (b && (m.sender == k.p.sender && m.instance == s.current.id))) (sym is ∙ of)
    ∙ ap (λ (b : Bool). ack_where k.p s m (true && b)) (sym (instance_is k s h m.sender m.instance) ∙ e))) h

pub ack_to_me : (k new : SenderKept) (m : AckMessage) (s : SenderState) (member : Bool) → Agrees k s → member ≡ has_member m.source s → member ≡ true
    → to_me k m.sender m.instance ≡ true → Agrees new (content_heard k.p m.source s m.content) → Agrees new (ack_heard k.p s m)
ack_to_me k new m s member h is of e after =
    subst (λ (t : SenderState). Agrees new t)
    (sym (ap (λ (b : Bool). ack_where k.p s m (b && (m.sender == k.p.sender && m.instance == s.current.id))) (sym is ∙ of)
    ∙ ap (λ (b : Bool). ack_where k.p s m (true && b)) (sym (instance_is k s h m.sender m.instance) ∙ e))) after
