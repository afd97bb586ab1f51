-- What the events of a steady session leave of a sender: its order goes on, members stay, and listings and open watermarks do.
use Rattle.std.proofs.Common.{◌≡◌, ℕ, zero, suc, ◌+◌, ◌<◌, ◌≤◌, cond, List, [], ◌∷◌, ◌++◌, length, map, Bool, true, false, Option, None, Some, Result, Ok, Err, refl, sym, ap, ◌∙◌, subst, arith, inl, inr, append-nil}
use Rattle.std.specs.Prelude.{◌==◌, ◌&&◌, ◌||◌, ◌⊎◌, find, filter, nat_lt, nat_le, min, ⊤}
use Rattle.std.specs.List.{AllByRecursion, list_any, range_with_len}
use Rattle.std.proofs.lemmas.Bool.Decides.{Decides-eqb, Decides-ltb, leb_tells}
use Rattle.std.proofs.lemmas.Option.{none-some, same_Some}
use Rattle.norm_base.specs.Members.{receivers_of}
use Rattle.norm_base.specs.Settings.{Settings}
use Rattle.norm_base.specs.declared.kinds.Kind.{Kind}
use Rattle.norm_base.specs.declared.kinds.Kind.TheVariants as kind
use Rattle.norm_base.specs.declared.node.Origin.{Origin}
use Rattle.fec_plan.specs.Points.{Point, point, point_before}
use Rattle.fec_plan.specs.declared.position.Position.{Position}
use Rattle.fec_plan.proofs.PointLemmas.{not_before, not_before_itself, not_before_both}
use Rattle.norm_ext.specs.Asking.{item_named}
use Rattle.norm_ext.specs.Message.{Message, Nack, Ack, AckContent, Mark as Marks, Unread}
use Rattle.norm_ext.specs.Reading.{decoded}
use Rattle.norm_ext.specs.Requests.{Request}
use Rattle.norm_ext.specs.Written.{Written, writes}
use Rattle.norm_order.specs.Entries.{Object, Whole}
use Rattle.norm_order.specs.Sets.{with_member}
use Rattle.norm_order.specs.Shapes.{is_source, last_source}
use Rattle.norm_send_rules.specs.Commanding.{commanded, answered}
use Rattle.norm_send_rules.specs.Enqueuing.{object_fault, joined}
use Rattle.norm_send_rules.specs.Flushing.{most_flushes, may_flush, flushes_for, flushes_no_more, flushed, flushes_in_turn, flushes}
use Rattle.norm_send_rules.specs.Hearing.{listed_past, rises, credited_by, joined_round, nack_counts, ack_counts, message_heard, heard}
use Rattle.norm_send_rules.specs.InWindow.{last_index, current_shapes}
use Rattle.norm_send_rules.specs.Marking.{is_no_quorum, most_open, with_watermark, watermark_at, cut_and_marked}
use Rattle.norm_send_rules.specs.Messages.{squelch_message}
use Rattle.norm_send_rules.specs.Reached.{marks_of, BookHolds}
use Rattle.norm_send_rules.specs.Room.{size_of, window, has_to_go, drop_after}
use Rattle.norm_send_rules.specs.Closing.{round_closed}
use Rattle.norm_send_rules.specs.SenderState.{SenderState, Instance, Round, Listing, Watermark}
use Rattle.norm_send_rules.specs.Sending.{sends, next_new, noted, sends_new, repairs_next, behind}
use Rattle.norm_send_rules.specs.Telling.{told, past_news, done_news, listing_of}
use Rattle.norm_send_rules.specs.Ticking.{closed_where_due, sends_further, sends_wanted, sends_first, sends_in_time, ticked}
use Rattle.norm_send_rules.specs.Watermarks.{members, is_past, is_open, is_met, oldest, keeps_oldest, counted_anew, ended_with, settled, open_watermarks, watermark_of}
use Rattle.norm_send_rules.specs.declared.fault.EnqueueFault.{EnqueueFault}
use Rattle.norm_send_rules.specs.declared.fault.MarkFault.TheVariants.{TooMany, Quorum}
use Rattle.norm_send_rules.specs.declared.fault.SendFault.{SendFault}
use Rattle.norm_send_rules.specs.declared.fault.SendFault.TheVariants.{Enqueue, Mark}
use Rattle.norm_send_rules.specs.declared.job.Job.{Job}
use Rattle.norm_send_rules.specs.declared.job.Job.TheVariants as job
use Rattle.norm_send_rules.specs.declared.job.Receipt.{Receipt}
use Rattle.norm_send_rules.specs.declared.job.Receipt.TheVariants as receipt
use Rattle.norm_send_rules.specs.declared.news.News.{News}
use Rattle.norm_send_rules.specs.declared.news.Outcome.TheVariants.{Satisfied}
use Rattle.norm_send_rules.specs.declared.want.Want.{Want}
use Rattle.norm_send_rules.specs.declared.want.Want.TheVariants.{Info, Symbol}
use Rattle.norm_send_rules.proofs.BookLemmas.{more_book}
use Rattle.norm_safety.specs.CreditsMembers.{is_listed_past}
use Rattle.norm_safety.specs.Events.{Event, Commanded, Delivered, Ticked, Offered, UpTaken, NewsAsked}
use Rattle.norm_safety.specs.World.{World}
use Rattle.norm_safety.specs.WorldStep.{world_step}
use Rattle.norm_safety.proofs.GoesOn.{OrderLater, order_itself}
use Rattle.norm_safety.proofs.MetLemmas.{NoneMet, met_by, NonePass}
use Rattle.norm_safety.proofs.Onward.{order_both, order_joined}
use Rattle.norm_laws.proofs.CountSender.{sender_after, sender_is}
use Rattle.norm_laws.proofs.NewOrder.{clash}
use Rattle.norm_laws.proofs.WholeOrders.{AreWhole, none_open, cut_nothing}
use Rattle.norm_recovery.specs.SteadyAsked.{IsOpenOrSatisfied}
use Rattle.norm_recovery.specs.SteadyNothing.{AsksNothing}
use Rattle.norm_recovery.specs.TailKeeps.{Stays}
use Rattle.norm_recovery.specs.TailOf.{IsQuiet}
use Rattle.norm_recovery.proofs.FlushListed.{flush_listed}
use Rattle.norm_recovery.proofs.KeepsSender.{event_stays}
use Rattle.norm_recovery.proofs.SteadyJobs.{IsPlainJob, IsPlainEvent}
use Rattle.norm_send_rules.specs.SenderStep as sender

-- ---- the sender goes on in its instance

pub record Goes (s t : SenderState) : Type 0 where
  pub id : t.current.id ≡ s.current.id
  pub order : OrderLater s.current.order t.current.order
  pub drop : point_before t.current.drop s.current.drop ≡ false
  pub nodes : members t ≡ members s
  pub listed : (node : ℕ) (at : Position) → is_listed_past s node at ≡ true → is_listed_past t node at ≡ true

pub goes_itself : (s : SenderState) → Goes s s
goes_itself s = record { id = refl; order = order_itself s.current.order; drop = not_before_itself s.current.drop; nodes = refl; listed = λ node at h. h }

pub goes_both : (s t u : SenderState) → Goes s t → Goes t u → Goes s u
goes_both s t u h g = record {
  id = g.id ∙ h.id;
  order = order_both s.current.order t.current.order u.current.order h.order g.order;
  drop = not_before_both s.current.drop t.current.drop u.current.drop h.drop g.drop;
  nodes = g.nodes ∙ h.nodes;
  listed = λ node at is. g.listed node at (h.listed node at is);
}

stays_goes : (s t : SenderState) → Stays s t → ((node : ℕ) (at : Position) → is_listed_past s node at ≡ true → is_listed_past t node at ≡ true) → Goes s t
stays_goes s t h listed = record {
  id = ap (λ (i : Instance). i.id) h.current;
  order = subst (λ (i : Instance). OrderLater s.current.order i.order) (sym h.current) (order_itself s.current.order);
  drop = subst (λ (i : Instance). point_before i.drop s.current.drop ≡ false) (sym h.current) (not_before_itself s.current.drop);
  nodes = h.members;
  listed = listed;
}

quiet_goes : (p : Settings) (w : World) (e : Event) → IsQuiet e → Goes w.sender (world_step p w e).0.sender
quiet_goes p w e quiet =
    stays_goes w.sender (world_step p w e).0.sender (event_stays p w e quiet)
    (λ node at h. ap (λ (s : SenderState). is_listed_past s node at) (sender_is p w e) ∙ go e quiet node at h)
  where
    either : (b : Bool) (t : SenderState) (node : ℕ) (at : Position) → is_listed_past t node at ≡ true → is_listed_past w.sender node at ≡ true
        → is_listed_past (elim b as (λ _. SenderState) [ true ↦ t | false ↦ w.sender ]) node at ≡ true
    either true t node at h k = h
    either false t node at h k = k

    go : (x : Event) → IsQuiet x → (node : ℕ) (at : Position) → is_listed_past w.sender node at ≡ true → is_listed_past (sender_after p w.sender x) node at ≡ true
    go (Commanded by job now) quiet node at h = absurd quiet
    go (Delivered to octets now draw) quiet node at h =
        either (to == p.sender) (heard p w.sender octets now) node at (flush_listed.stays p w.sender (sender.Delivered octets now) node at tt h) h
    go (Ticked to now) quiet node at h =
        either (to == p.sender) (ticked p w.sender now).0 node at (flush_listed.stays p w.sender (sender.Ticked now) node at tt h) h
    go (Offered to octets) quiet node at h = h
    go (UpTaken to) quiet node at h = h
    go NewsAsked quiet node at h = flush_listed.stays p w.sender sender.NewsAsked node at tt h

-- the state of a step
abbrev state_of : SenderState × Result Receipt SendFault → SenderState
state_of step = step.0

drop_goes : (d : Point) (n : ℕ) → point_before (drop_after d n) d ≡ false
drop_goes d zero = not_before_itself d
drop_goes d (suc n) = not_before (point (d.index + suc n) 0) d (inl (omega arith))

joined_goes : (p : Settings) (by : Origin) (object : Object) (s : SenderState) → Goes s (joined p by object s)
joined_goes p by object s = record {
  id = refl;
  order = order_joined s.current.order (record { by = by; object = object } ∷ []);
  drop = drop_goes s.current.drop (has_to_go p (size_of p object) (window s));
  nodes = refl;
  listed = λ node at h. h;
}

anew_goes : (before s t : SenderState) → Goes s t → Goes s (counted_anew before t)
anew_goes before s t h = go (keeps_oldest before t)
  where
    go : (b : Bool) → Goes s (elim b as (λ _. SenderState) [ true ↦ t | false ↦ record t { flushes = 0 } ])
    go true = h
    go false = record { id = h.id; order = h.order; drop = h.drop; nodes = h.nodes; listed = h.listed }

-- what is kept from a state to what a command of data, of a file or a mark leaves, if it is kept by an object that joins and a watermark that is made
command_keeps : (p : Settings) (s : SenderState) (by : Origin) (Kept : SenderState → Type 0) → Kept s
    → ((object : Object) → Kept (joined p by object s)) → ((quorum : Option ℕ) (at : Position) → Kept (with_watermark s by quorum at))
    → (given : Job) → IsPlainJob given → AreWhole s.current.order → Kept (commanded p s by given).0
command_keeps p s by Kept here joins marks given is whole = go given is
  where
    enqueues : (kind : Kind) (info : Option (List ℕ)) (octets : List ℕ) (found : Option EnqueueFault) → Kept (state_of (answered Enqueue (elim found [
      | Some fault ↦ (s, Err fault)
      | None ↦ (joined p by (Whole kind info octets) s, Ok (receipt.Object (length s.current.order) (length octets)))
    ])))
    enqueues kind info octets (Some fault) = here
    enqueues kind info octets None = joins (Whole kind info octets)

    room : (quorum : Option ℕ) (at : Position) (full : Bool) → Kept (state_of (answered Mark (elim full [
      | true ↦ (s, Err (TooMany (length (open_watermarks s))))
      | false ↦ (with_watermark s by quorum at, Ok (receipt.Mark (length s.watermarks + 1) at))
    ])))
    room quorum at true = here
    room quorum at false = marks quorum at

    found : (quorum : Option ℕ) (at : Option Position) → Kept (state_of (answered Mark (watermark_at s by quorum at)))
    found quorum None = here
    found quorum (Some at) = room quorum at (nat_le most_open (length (open_watermarks s)))

    mark : (quorum : Option ℕ) → Kept (state_of (answered Mark (cut_and_marked p s by quorum)))
    mark quorum =
        let C : SenderState → Type 0 = λ u. Kept (state_of (answered Mark (watermark_at u by quorum (last_source (current_shapes p u))))) in
        subst C (sym (cut_nothing p s (none_open s.current.order whole))) (found quorum (last_source (current_shapes p s)))

    go : (x : Job) → IsPlainJob x → Kept (commanded p s by x).0
    go (job.Data info bytes) is = enqueues kind.Data info bytes (object_fault p s info bytes)
    go (job.File name bytes) is = enqueues kind.File (Some name) bytes (object_fault p s (Some name) bytes)
    go job.Open is = absurd is
    go (job.Write bytes) is = absurd is
    go job.Close is = absurd is
    go (job.Mark None) is = mark None
    go (job.Mark (Some q)) is = by_quorum (is_no_quorum p q)
      where
        by_quorum : (no : Bool) → Kept (state_of (answered Mark (elim no [ true ↦ (s, Err (Quorum q)) | false ↦ cut_and_marked p s by (Some q) ])))
        by_quorum true = here
        by_quorum false = mark (Some q)
    go (job.Restart instance) is = absurd is
    go (job.Strike node) is = absurd is

-- a watermark that is made
abbrev pub new_mark : SenderState → Origin → Option ℕ → Position → Watermark
new_mark s by quorum at = record { mark = length s.watermarks + 1; by = by; at = at; quorum = quorum; ended = None }

abbrev pub with_mark : SenderState → Origin → Option ℕ → Position → SenderState
with_mark s by quorum at = record s { watermarks = s.watermarks ++ new_mark s by quorum at ∷ [] }

pub event_goes : (p : Settings) (w : World) (e : Event) → IsPlainEvent e → AreWhole w.sender.current.order → Goes w.sender (world_step p w e).0.sender
event_goes p w (Commanded by given now) is whole =
    command_keeps p w.sender by (Goes w.sender) (goes_itself w.sender) (λ object. joined_goes p by object w.sender)
    (λ quorum at. anew_goes w.sender w.sender (settled (with_mark w.sender by quorum at))
    (record { id = refl; order = order_itself w.sender.current.order; drop = not_before_itself w.sender.current.drop; nodes = refl; listed = λ node x h. h }))
    given is whole
event_goes p w (Delivered to octets now draw) is whole = quiet_goes p w (Delivered to octets now draw) tt
event_goes p w (Ticked to now) is whole = quiet_goes p w (Ticked to now) tt
event_goes p w (Offered to octets) is whole = quiet_goes p w (Offered to octets) tt
event_goes p w (UpTaken to) is whole = quiet_goes p w (UpTaken to) tt
event_goes p w NewsAsked is whole = quiet_goes p w NewsAsked tt

-- ---- the oldest watermark, and how often it was flushed

-- If the oldest watermark was flushed it was before, and as often; and what ended was satisfied.
pub record AsksOn (s t : SenderState) : Type 0 where
  pub same : (wm : Watermark) → oldest t ≡ Some wm → 1 ≤ t.flushes → (oldest s ≡ Some wm) × (t.flushes ≡ s.flushes) × (t.last_flush ≡ s.last_flush)
  pub few : t.flushes ≤ s.flushes
  pub ended : AllByRecursion IsOpenOrSatisfied s.watermarks → AllByRecursion IsOpenOrSatisfied t.watermarks

pub same_asks : (s t : SenderState) → t.watermarks ≡ s.watermarks → t.flushes ≡ s.flushes → t.last_flush ≡ s.last_flush → AsksOn s t
same_asks s t marks count last = record {
  same = λ wm is some. (ap (λ (ws : List Watermark). find is_open ws) (sym marks) ∙ is, count, last);
  few = omega (arith, count);
  ended = λ all. subst (λ (ws : List Watermark). AllByRecursion IsOpenOrSatisfied ws) (sym marks) all;
}

-- the numbers rise
abbrev AllAbove : ℕ → List Watermark → Type 0
AllAbove k ws = AllByRecursion (λ (w : Watermark). k < w.mark) ws

abbrev Rising : List Watermark → Type 0
Rising [] = ⊤
Rising (w ∷ ws) = AllAbove w.mark ws × Rising ws

numbers_rise : (k : ℕ) (ws : List Watermark) → marks_of ws ≡ range_with_len (suc k) (length ws) → Rising ws × AllAbove k ws
numbers_rise k [] e = (tt, tt)
numbers_rise k (w ∷ ws) e =
    let head : w.mark ≡ suc k = heads e in
    let more = numbers_rise (suc k) ws (tails e ∙ ap (λ (n : ℕ). range_with_len n (length ws)) (let h : suc k + 1 ≡ suc (suc k) = omega arith in h)) in
    ((subst (λ (n : ℕ). AllAbove n ws) (sym head) more.1, more.0), (omega (arith, head), less ws more.1))
  where
    heads : {a b : ℕ} {xs ys : List ℕ} → (a ∷ xs) ≡ (b ∷ ys) → a ≡ b
    heads e = cc

    tails : {a b : ℕ} {xs ys : List ℕ} → (a ∷ xs) ≡ (b ∷ ys) → xs ≡ ys
    tails e = cc

    less : (vs : List Watermark) → AllAbove (suc k) vs → AllAbove k vs
    less [] all = tt
    less (v ∷ vs) all = ((let lt = all.0 in omega (arith, lt)), less vs all.1)

-- a watermark that is satisfied by a test
abbrev pub ends_by : (Watermark → Bool) → Watermark → Watermark
ends_by test w = cond (is_open w && test w) (ended_with Satisfied w) w

found_above : (k : ℕ) (ws : List Watermark) (w : Watermark) → AllAbove k ws → find is_open ws ≡ Some w → k < w.mark
found_above k [] w all e = absurd (none-some w e)
found_above k (x ∷ ws) w all e = go (is_open x) e (λ more. found_above k ws w all.1 more)
  where
    go : (b : Bool) → cond b (Some x) (find is_open ws) ≡ Some w → (find is_open ws ≡ Some w → k < w.mark) → k < w.mark
    go true e next = subst (λ (y : Watermark). k < y.mark) (same_Some x w e) all.0
    go false e next = next e

-- If some watermarks end, and some are more, the oldest is the one that was, or has a higher number.
still_first : (test : Watermark → Bool) (ws more : List Watermark) (v w : Watermark) → Rising (map (ends_by test) (ws ++ more)) → find is_open ws ≡ Some v
    → find is_open (map (ends_by test) (ws ++ more)) ≡ Some w → (v ≡ w) ⊎ (v.mark < w.mark)
still_first test [] more v w rising e f = absurd (none-some v e)
still_first test (x ∷ ws) more v w rising e f = go (is_open x) (test x) refl e rising.0 f (λ e. still_first test ws more v w rising.1 e)
  where
    rest : List Watermark
    rest = map (ends_by test) (ws ++ more)

    go : (a b : Bool) → is_open x ≡ a → cond a (Some x) (find is_open ws) ≡ Some v
        → AllAbove (cond (a && b) (ended_with Satisfied x) x).mark (map (ends_by test) (ws ++ more))
        → cond (is_open (cond (a && b) (ended_with Satisfied x) x)) (Some (cond (a && b) (ended_with Satisfied x) x)) (find is_open (map (ends_by test) (ws ++ more))) ≡ Some w
        → (find is_open ws ≡ Some v → find is_open (map (ends_by test) (ws ++ more)) ≡ Some w → (v ≡ w) ⊎ (v.mark < w.mark))
        → (v ≡ w) ⊎ (v.mark < w.mark)
    go true true is e above f next = inr (subst (λ (y : Watermark). y.mark < w.mark) (same_Some x v e) (found_above x.mark (map (ends_by test) (ws ++ more)) w above f))
    go true false is e above f next =
        inl (sym (same_Some x v e) ∙ same_Some x w (ap (λ (c : Bool). cond c (Some x) (find is_open rest)) (sym is) ∙ f))
    go false b is e above f next = next e (ap (λ (c : Bool). cond c (Some x) (find is_open rest)) (sym is) ∙ f)

rising_maps : (test : Watermark → Bool) (ws : List Watermark) → Rising ws → Rising (map (ends_by test) ws)
rising_maps test [] rising = tt
rising_maps test (x ∷ ws) rising = (by (is_open x && test x), rising_maps test ws rising.1)
  where
    above : (k : ℕ) (vs : List Watermark) → AllAbove k vs → AllAbove k (map (ends_by test) vs)
    above k [] all = tt
    above k (v ∷ vs) all = (one (is_open v && test v), above k vs all.1)
      where
        one : (b : Bool) → k < (cond b (ended_with Satisfied v) v).mark
        one true = all.0
        one false = all.0

    by : (b : Bool) → AllAbove (cond b (ended_with Satisfied x) x).mark (map (ends_by test) ws)
    by true = above x.mark ws rising.0
    by false = above x.mark ws rising.0

all_end_so : (test : Watermark → Bool) (ws : List Watermark) → AllByRecursion IsOpenOrSatisfied ws → AllByRecursion IsOpenOrSatisfied (map (ends_by test) ws)
all_end_so test [] all = tt
all_end_so test (w ∷ ws) all = (go (is_open w && test w), all_end_so test ws all.1)
  where
    go : (b : Bool) → IsOpenOrSatisfied (cond b (ended_with Satisfied w) w)
    go true = inl refl
    go false = all.0

all_more : (ws more : List Watermark) → AllByRecursion IsOpenOrSatisfied ws → AllByRecursion IsOpenOrSatisfied more → AllByRecursion IsOpenOrSatisfied (ws ++ more)
all_more [] more all rest = rest
all_more (w ∷ ws) more all rest = (all.0, all_more ws more all.1 rest)

-- as a state has more watermarks, and those end that are met
settled_asks : (s r : SenderState) (more : List Watermark) → r.watermarks ≡ s.watermarks ++ more → AllByRecursion IsOpenOrSatisfied more → r.flushes ≡ s.flushes
    → r.last_flush ≡ s.last_flush → marks_of r.watermarks ≡ range_with_len 1 (length r.watermarks) → AsksOn s (counted_anew s (settled r))
settled_asks s r more marks made count last numbered = go (keeps_oldest s (settled r)) refl
  where
    rising : Rising (map (ends_by (is_met r)) (s.watermarks ++ more))
    rising = subst (λ (ws : List Watermark). Rising (map (ends_by (is_met r)) ws)) marks (rising_maps (is_met r) r.watermarks (numbers_rise 0 r.watermarks numbered).0)

    ends : AllByRecursion IsOpenOrSatisfied s.watermarks → AllByRecursion IsOpenOrSatisfied (settled r).watermarks
    ends all = all_end_so (is_met r) r.watermarks (subst (λ (ws : List Watermark). AllByRecursion IsOpenOrSatisfied ws) (sym marks) (all_more s.watermarks more all made))

    keeps_by : Option Watermark → Option Watermark → Bool
    keeps_by now was = elim now [ Some w ↦ elim was [ Some v ↦ v.mark == w.mark | None ↦ false ] | None ↦ true ]

    was_it : (wm : Watermark) → oldest (settled r) ≡ Some wm → keeps_oldest s (settled r) ≡ true → oldest s ≡ Some wm
    was_it wm is keeps = by (oldest s) refl (sym (ap (λ (o : Option Watermark). keeps_by o (oldest s)) is) ∙ keeps)
      where
        by : (o : Option Watermark) → oldest s ≡ o → keeps_by (Some wm) o ≡ true → oldest s ≡ Some wm
        by None e k = absurd (clash k)
        by (Some v) e k =
            let same = (Decides-eqb v.mark wm.mark).0 k in
            one (still_first (is_met r) s.watermarks more v wm rising e (ap (λ (ws : List Watermark). find is_open (map (ends_by (is_met r)) ws)) (sym marks) ∙ is)) same
          where
            one : (v ≡ wm) ⊎ (v.mark < wm.mark) → v.mark ≡ wm.mark → oldest s ≡ Some wm
            one (inl is) same = e ∙ ap (λ (x : Watermark). Some x) is
            one (inr lt) same = absurd (omega (arith, lt, same))

    go : (b : Bool) → keeps_oldest s (settled r) ≡ b → AsksOn s (elim b as (λ _. SenderState) [ true ↦ settled r | false ↦ record (settled r) { flushes = 0 } ])
    go true keeps = record { same = λ wm is some. (was_it wm is keeps, count, last); few = omega (arith, count); ended = ends }
    go false keeps = record { same = λ wm is some. absurd (omega (arith, some)); few = omega arith; ended = ends }

-- what a sender hears
heard_asks : {E : Type 0} (p : Settings) (s : SenderState) (now : ℕ) (read : Result Message E) → marks_of s.watermarks ≡ range_with_len 1 (length s.watermarks)
    → AsksOn s (message_heard p s now read)
heard_asks p s now (Ok (Nack m)) numbered = go (nack_counts p s m)
  where
    joined_so : (requests : List Request) → AsksOn s (joined_round p s now requests)
    joined_so [] = same_asks s s refl refl refl
    joined_so (r ∷ requests) = same_asks s (joined_round p s now (r ∷ requests)) refl refl refl

    go : (b : Bool) → AsksOn s (elim b as (λ _. SenderState) [ true ↦ joined_round p s now m.requests | false ↦ s ])
    go true = joined_so m.requests
    go false = same_asks s s refl refl refl
heard_asks p s now (Ok (Ack m)) numbered = go (ack_counts p s m) m.content
  where
    risen : Position → SenderState
    risen due = record s { listings = map (listed_past m.source due) s.listings; untold_nodes = with_member nat_lt m.source s.untold_nodes }

    by_rise : (due : Position) (b : Bool) → AsksOn s (elim b as (λ _. SenderState) [
      | true ↦ counted_anew s (settled (record s { listings = map (listed_past m.source due) s.listings; untold_nodes = with_member nat_lt m.source s.untold_nodes }))
      | false ↦ s
    ])
    by_rise due true = settled_asks s (record s { listings = map (listed_past m.source due) s.listings; untold_nodes = with_member nat_lt m.source s.untold_nodes }) []
        (sym (append-nil s.watermarks)) tt refl refl numbered
    by_rise due false = same_asks s s refl refl refl

    by_source : (due : Position) (b : Bool) → AsksOn s (elim b as (λ _. SenderState) [
      | true ↦ elim (rises m.source due s) [
        | true ↦ counted_anew s (settled (record s { listings = map (listed_past m.source due) s.listings; untold_nodes = with_member nat_lt m.source s.untold_nodes }))
        | false ↦ s
      ]
      | false ↦ s
    ])
    by_source due true = by_rise due (rises m.source due s)
    by_source due false = same_asks s s refl refl refl

    by_name : (o : Option Position) → AsksOn s (credited_by p m.source o s)
    by_name None = same_asks s s refl refl refl
    by_name (Some due) = by_source due (is_source (current_shapes p s) due)

    go : (b : Bool) (c : AckContent) → AsksOn s (elim b as (λ _. SenderState) [
      | true ↦ elim c [ Marks item ↦ credited_by p m.source (item_named p (last_index s) item) s | Unread octets ↦ s ]
      | false ↦ s
    ])
    go true (Marks item) = by_name (item_named p (last_index s) item)
    go true (Unread octets) = same_asks s s refl refl refl
    go false c = same_asks s s refl refl refl
heard_asks p s now _ numbered = same_asks s s refl refl refl

told_asks : (s : SenderState) → AsksOn s (told s).0
told_asks s = go s.untold_nodes s.untold_marks
  where
    by : List ℕ → List ℕ → SenderState × Option News
    by nodes marks = elim nodes [
      | node ∷ others ↦ (record s { untold_nodes = others }, past_news node (listing_of s node))
      | [] ↦ elim marks [
        | mark ∷ others ↦ (record s { untold_marks = others }, done_news s mark (watermark_of s mark))
        | [] ↦ (s, None)
      ]
    ]

    go : (nodes marks : List ℕ) → AsksOn s (by nodes marks).0
    go (node ∷ nodes) marks = same_asks s (record s { untold_nodes = nodes }) refl refl refl
    go [] (mark ∷ marks) = same_asks s (record s { untold_marks = marks }) refl refl refl
    go [] [] = same_asks s s refl refl refl

-- an event that is no tick of the sender
pub event_asks : (p : Settings) (w : World) (e : Event) → IsPlainEvent e → AreWhole w.sender.current.order → BookHolds w.sender
    → ((now : ℕ) → e ≡ Ticked p.sender now → ⊥) → AsksOn w.sender (world_step p w e).0.sender
event_asks p w e plain whole book other = subst (AsksOn w.sender) (sym (sender_is p w e)) (go e plain other)
  where
    s : SenderState
    s = w.sender

    go : (x : Event) → IsPlainEvent x → ((now : ℕ) → x ≡ Ticked p.sender now → ⊥) → AsksOn w.sender (sender_after p w.sender x)
    go (Commanded by given now) is other =
        command_keeps p w.sender by (AsksOn w.sender) (same_asks w.sender w.sender refl refl refl) (λ object. same_asks w.sender (joined p by object w.sender) refl refl refl)
        (λ quorum at. settled_asks w.sender (with_mark w.sender by quorum at) (new_mark w.sender by quorum at ∷ []) refl (inr refl, tt) refl refl
        (more_book w.sender (new_mark w.sender by quorum at) refl book).numbered)
        given is whole
    go (Delivered to octets now draw) is other = by (to == p.sender)
      where
        by : (b : Bool) → AsksOn w.sender (elim b as (λ _. SenderState) [ true ↦ heard p w.sender octets now | false ↦ w.sender ])
        by true = heard_asks p w.sender now (decoded octets) book.numbered
        by false = same_asks w.sender w.sender refl refl refl
    go (Ticked to now) is other = by (to == p.sender) refl
      where
        by : (b : Bool) → (to == p.sender) ≡ b → AsksOn w.sender (elim b as (λ _. SenderState) [ true ↦ (ticked p w.sender now).0 | false ↦ w.sender ])
        by true e = absurd (other now (ap (λ (n : ℕ). Ticked n now) ((Decides-eqb to p.sender).0 e)))
        by false e = same_asks w.sender w.sender refl refl refl
    go (Offered to octets) is other = same_asks w.sender w.sender refl refl refl
    go (UpTaken to) is other = same_asks w.sender w.sender refl refl refl
    go NewsAsked is other = told_asks w.sender

-- ---- the sender's tick

-- A tick of a sender that repairs nothing: it comes too early; something new goes; nothing goes; or a flush for the oldest watermark.
pub data TickCase (p : Settings) (now : ℕ) (s : SenderState) : Type 0 where
  Early : now < s.next_send → ticked p s now ≡ (s, None) → TickCase p now s
  New : (w : Want) → next_new p s ≡ Some w → ticked p s now ≡ sends_new p now w s → TickCase p now s
  Waits : next_new p s ≡ None → (may_flush p s now ≡ false) ⊎ (oldest s ≡ None) → ticked p s now ≡ (s, None) → TickCase p now s
  Asks : (wm : Watermark) → next_new p s ≡ None → oldest s ≡ Some wm → ticked p s now ≡ flushes_for p now wm s → TickCase p now s

pub tick_case : (p : Settings) (now : ℕ) (s : SenderState) → AsksNothing s → s.flushes < 20 → TickCase p now s
tick_case p now s calm few = by_time (nat_lt now s.next_send) refl
  where
    Step : Type 0
    Step = SenderState × Option Written

    closed : closed_where_due p now s ≡ s
    closed = ap (λ (o : Option Round). elim o as (λ _. SenderState) [
      | Some r ↦ elim (nat_le r.closes now) [ true ↦ round_closed p r s | false ↦ s ]
      | None ↦ s
    ]) calm.round

    by_send : Bool → SenderState × Option Written
    by_send b = elim b [ true ↦ (s, None) | false ↦ sends_first p now s ]

    in_time : (b : Bool) → nat_lt now s.next_send ≡ b → ticked p s now ≡ by_send b
    in_time b e = ap (λ (t : SenderState). sends_in_time p now t) closed ∙ ap by_send e

    further : sends_first p now s ≡ sends_further p now s
    further = ap (λ (b : Bool). elim b as (λ _. SenderState × Option Written) [
      | true ↦ sends p now (writes (squelch_message p s s.current.drop) (s.current.drop.index ∷ [])) (record s { squelch_due = false })
      | false ↦ sends_wanted p now s
    ]) calm.squelch
        ∙ ap (λ (ws : List Want). elim ws as (λ _. SenderState × Option Written) [ [] ↦ sends_further p now s | v ∷ more ↦ repairs_next p now v more s ]) calm.wants

    by_new : Option Want → SenderState × Option Written
    by_new o = elim o [ Some v ↦ sends_new p now v s | None ↦ flushes p now s ]

    by_may : Bool → SenderState × Option Written
    by_may b = elim b [ true ↦ flushes_in_turn p now s | false ↦ (s, None) ]

    by_oldest : Option Watermark → SenderState × Option Written
    by_oldest o = elim o [ Some v ↦ flushed p now v s | None ↦ (s, None) ]

    counts : (v : Watermark) → flushed p now v s ≡ flushes_for p now v s
    counts v = ap (λ (b : Bool). elim b as (λ _. SenderState × Option Written) [ true ↦ flushes_for p now v s | false ↦ flushes_no_more p now v s ])
        ((Decides-ltb s.flushes most_flushes).1 few)

    by_turn : next_new p s ≡ None → may_flush p s now ≡ true → ticked p s now ≡ flushes p now s → (o : Option Watermark) → oldest s ≡ o → TickCase p now s
    by_turn none may so None e = Waits none (inr e) (so ∙ ap by_may may ∙ ap by_oldest e)
    by_turn none may so (Some v) e = Asks v none e (so ∙ ap by_may may ∙ ap by_oldest e ∙ counts v)

    by_flush : next_new p s ≡ None → ticked p s now ≡ flushes p now s → (b : Bool) → may_flush p s now ≡ b → TickCase p now s
    by_flush none so true e = by_turn none e so (oldest s) refl
    by_flush none so false e = Waits none (inl e) (so ∙ ap by_may e)

    by_next : ticked p s now ≡ sends_further p now s → (o : Option Want) → next_new p s ≡ o → TickCase p now s
    by_next goes (Some v) e = New v e (goes ∙ ap by_new e)
    by_next goes None e = by_flush e (goes ∙ ap by_new e) (may_flush p s now) refl

    by_time : (b : Bool) → nat_lt now s.next_send ≡ b → TickCase p now s
    by_time true e = Early ((Decides-ltb now s.next_send).0 e) (in_time true e)
    by_time false e = by_next (in_time false e ∙ further) (next_new p s) refl

-- what is new leaves watermarks and flushes
noted_leaves : (w : Want) (s : SenderState) → ((noted w s).watermarks ≡ s.watermarks) × ((noted w s).flushes ≡ s.flushes) × ((noted w s).last_flush ≡ s.last_flush)
noted_leaves (Info index) s = (refl, refl, refl)
noted_leaves (Symbol at) s = (refl, refl, refl)

pub new_leaves : (p : Settings) (now : ℕ) (s : SenderState) (w : Want) → AsksOn s (sends_new p now w s).0
new_leaves p now s w = let same = noted_leaves w (record s { next = behind w }) in same_asks s (sends_new p now w s).0 same.0 same.1 same.2

-- ---- an open watermark is not met

abbrev pub AllOver : ℕ → List ℕ → Type 0
AllOver k nodes = AllByRecursion (λ (n : ℕ). k < n) nodes

-- nodes in order, each once
abbrev pub RisingNodes : List ℕ → Type 0
RisingNodes [] = ⊤
RisingNodes (n ∷ nodes) = AllOver n nodes × RisingNodes nodes

pub receivers_rise : (p : Settings) (n : ℕ) → RisingNodes (receivers_of p n)
receivers_rise p n = (go n).0
  where
    push : (nodes : List ℕ) (x : ℕ) → RisingNodes nodes → AllByRecursion (λ (m : ℕ). m < x) nodes → RisingNodes (nodes ++ x ∷ [])
    push [] x rising low = (tt, tt)
    push (m ∷ nodes) x rising low = (over nodes rising.0, push nodes x rising.1 low.1)
      where
        over : (ns : List ℕ) → AllOver m ns → AllOver m (ns ++ x ∷ [])
        over [] all = (low.0, tt)
        over (k ∷ ns) all = (all.0, over ns all.1)

    below : (nodes : List ℕ) (x : ℕ) → AllByRecursion (λ (m : ℕ). m < x) nodes → AllByRecursion (λ (m : ℕ). m < x + 1) (nodes ++ x ∷ [])
    below [] x all = (omega arith, tt)
    below (m ∷ nodes) x all = ((let lt = all.0 in omega (arith, lt)), below nodes x all.1)

    go : (n : ℕ) → RisingNodes (receivers_of p n) × AllByRecursion (λ (m : ℕ). m < p.sender + 1 + n) (receivers_of p n)
    go zero = (tt, tt)
    go (suc n) =
        let so = go n in
        let N : ℕ → Type 0 = λ k. AllByRecursion (λ (m : ℕ). m < k) (receivers_of p n ++ (p.sender + 1 + n) ∷ []) in (
          push (receivers_of p n) (p.sender + 1 + n) so.0 so.1,
          subst N (let z : p.sender + 1 + n + 1 ≡ p.sender + 1 + suc n = omega arith in z) (below (receivers_of p n) (p.sender + 1 + n) so.1),
        )

-- a listing of the node past the position
abbrev pub past_of : Position → ℕ → Listing → Bool
past_of at node l = l.node == node && is_past at l

abbrev pub node_in : Listing → ℕ
node_in l = l.node

differs : (a b : ℕ) → a < b → (b == a) ≡ false
differs a b lt = go (b == a) refl
  where
    go : (t : Bool) → (b == a) ≡ t → t ≡ false
    go true e = (let same = (Decides-eqb b a).0 e in absurd (omega (arith, same, lt)))
    go false e = refl

all_past_them : (at : Position) (ls : List Listing) → RisingNodes (map node_in ls)
    → AllByRecursion (λ (node : ℕ). list_any (past_of at node) ls ≡ true) (map node_in ls) → length (filter (is_past at) ls) ≡ length ls
all_past_them at [] rising all = refl
all_past_them at (l ∷ ls) rising all =
    count (is_past at l) (own (is_past at l) (list_any (past_of at l.node) ls) (none_of ls rising.0)
    (sym (ap (λ (b : Bool). (b && is_past at l) || list_any (past_of at l.node) ls) ((Decides-eqb l.node l.node).1 refl)) ∙ all.0))
    (all_past_them at ls rising.1 (others (map node_in ls) rising.0 all.1))
  where
    none_of : (xs : List Listing) → AllOver l.node (map node_in xs) → list_any (past_of at l.node) xs ≡ false
    none_of [] over = refl
    none_of (x ∷ xs) over =
        ap (λ (b : Bool). (b && is_past at x) || list_any (past_of at l.node) xs) (differs l.node x.node over.0) ∙ none_of xs over.1

    own : (b c : Bool) → c ≡ false → (b || c) ≡ true → b ≡ true
    own true c e h = refl
    own false c e h = absurd (clash (sym e ∙ h))

    others : (nodes : List ℕ) → AllOver l.node nodes → AllByRecursion (λ (node : ℕ). ((l.node == node && is_past at l) || list_any (past_of at node) ls) ≡ true) nodes
        → AllByRecursion (λ (node : ℕ). list_any (past_of at node) ls ≡ true) nodes
    others [] over h = tt
    others (n ∷ nodes) over h =
        (sym (ap (λ (b : Bool). (b && is_past at l) || list_any (past_of at n) ls) (apart n over.0)) ∙ h.0, others nodes over.1 h.1)
      where
        apart : (m : ℕ) → l.node < m → (l.node == m) ≡ false
        apart m lt = go (l.node == m) refl
          where
            go : (t : Bool) → (l.node == m) ≡ t → t ≡ false
            go true e = (let same = (Decides-eqb l.node m).0 e in absurd (omega (arith, same, lt)))
            go false e = refl

    count : (b : Bool) → b ≡ true → length (filter (is_past at) ls) ≡ length ls → length (cond b (l ∷ filter (is_past at) ls) (filter (is_past at) ls)) ≡ suc (length ls)
    count true e more = ap suc more
    count false e more = absurd (clash e)

-- A watermark that every member is listed past is met.
pub all_listed_met : (ls : List Listing) (wm : Watermark) → RisingNodes (map node_in ls)
    → AllByRecursion (λ (node : ℕ). list_any (past_of wm.at node) ls ≡ true) (map node_in ls) → met_by ls wm ≡ true
all_listed_met ls wm rising all = by wm.quorum (all_past_them wm.at ls rising all)
  where
    le_test : (a b : ℕ) → a ≤ b → nat_le a b ≡ true
    le_test a b le = grind (arith, leb_tells a b)

    by : (q : Option ℕ) → length (filter (is_past wm.at) ls) ≡ length ls
        → nat_le (elim q as (λ _. ℕ) [ Some n ↦ min n (length ls) | None ↦ length ls ]) (length (filter (is_past wm.at) ls)) ≡ true
    by None same = le_test (length ls) (length (filter (is_past wm.at) ls)) (omega (arith, same))
    by (Some n) same = le_test (min n (length ls)) (length (filter (is_past wm.at) ls)) (omega (arith, same))

open_unmet : (test : Watermark → Bool) (ws : List Watermark) (wm : Watermark) → NonePass test ws → find is_open ws ≡ Some wm → test wm ≡ false
open_unmet test [] wm all e = absurd (none-some wm e)
open_unmet test (w ∷ ws) wm all e = by (is_open w) refl e (λ more. open_unmet test ws wm all.1 more)
  where
    by : (b : Bool) → is_open w ≡ b → cond b (Some w) (find is_open ws) ≡ Some wm → (find is_open ws ≡ Some wm → test wm ≡ false) → test wm ≡ false
    by true is e next = subst (λ (x : Watermark). test x ≡ false) (same_Some w wm e) (all.0 is)
    by false is e next = next e

pub oldest_unmet : (s : SenderState) (wm : Watermark) → NoneMet s → oldest s ≡ Some wm → met_by s.listings wm ≡ false
oldest_unmet s wm none e = open_unmet (met_by s.listings) s.watermarks wm none e
