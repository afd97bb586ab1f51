-- With the position of an open watermark a part of the order ends: it did as the watermark was made, and it does so in any later order.
use Rattle.std.proofs.Common.{◌≡◌, ℕ, zero, suc, ◌+◌, cond, List, [], ◌∷◌, ◌++◌, map, Bool, true, false, Option, None, Some, refl, sym, ap, ◌∙◌, subst, arith, ◌⊎◌, inl, inr}
use Rattle.std.specs.Prelude.{◌==◌, ◌-◌, ◌&&◌, find, is_none, nat_lt, slice_get, unwrap_or, IsSomeAnd, IsTrue}
use Rattle.std.specs.List.{AllByRecursion}
use Rattle.norm_base.specs.Settings.{Settings}
use Rattle.norm_base.specs.declared.node.Origin.{Origin}
use Rattle.fec_plan.specs.Points.{position, same_position}
use Rattle.fec_plan.specs.declared.position.Position.{Position}
use Rattle.fec_plan.proofs.PositionLemmas.{positions_same, position_itself}
use Rattle.norm_order.specs.Entries.{Part, Cut, Object, Whole, Stream, Entry}
use Rattle.norm_order.specs.Segments.{unclosed}
use Rattle.norm_order.specs.Shapes.{Shape, shape_of, shapes_of, closed_in, closed_blocks, at_index, is_source, last_in, last_from, last_source}
use Rattle.norm_send_rules.specs.Commanding.{commanded}
use Rattle.norm_send_rules.specs.Enqueuing.{open_stream, joined}
use Rattle.norm_send_rules.specs.Hearing.{heard}
use Rattle.norm_send_rules.specs.SenderState.{SenderState, Instance, Watermark}
use Rattle.norm_send_rules.specs.Streaming.{parts_now, with_parts, grown, cut}
use Rattle.norm_send_rules.specs.Telling.{told}
use Rattle.norm_send_rules.specs.Ticking.{ticked}
use Rattle.norm_send_rules.specs.Watermarks.{is_open, oldest, ended_with}
use Rattle.norm_send_rules.specs.declared.news.Outcome.TheVariants.{Cut as CutOff}
use Rattle.norm_safety.specs.Acknowledges.{EndsPart, EndsPartOf}
use Rattle.norm_safety.specs.Events.{Event, Commanded, Delivered, Ticked, Offered, UpTaken, NewsAsked}
use Rattle.norm_safety.specs.Jobs.{IsEvent, AreEvents}
use Rattle.norm_safety.specs.World.{World, world_opening}
use Rattle.norm_safety.specs.WorldStep.{world_step, run_from, run}
use Rattle.norm_safety.proofs.CommandSteps.{no_parts}
use Rattle.norm_safety.proofs.GoesOn.{ObjectLater, OrderLater, later_entry}
use Rattle.norm_safety.proofs.Onward.{order_joined}
use Rattle.norm_safety.proofs.SenderHolds.{open_ends, ends_later}
use Rattle.norm_safety.proofs.SenderKeeps.{Keeps, AllOpen, mark_position, heard_keeps, ticked_keeps, told_keeps}
use Rattle.norm_safety.proofs.SizedOrders.{Steady, keeps_steady, OrderCase, Rests, Enqueues, Grows, Marks, Begins, order_case}
use Rattle.norm_laws.proofs.CountSender.{sender_after, sender_is}
use Rattle.norm_laws.proofs.NewOrder.{clash}
use Rattle.norm_recovery.specs.MarksEnd.{OpenMarksEnd, MarksEnd}
use Rattle.norm_recovery.proofs.FlushKnown.{after_run}

-- ---- the test

-- the position is the last source symbol of data or a file, or the object is a stream
abbrev ends_object : Settings → Position → Object → Bool
ends_object p at (Whole kind info octets) =
    elim (last_in at.index (shape_of p (Whole kind info octets))) [ Some last ↦ same_position last at | None ↦ false ]
ends_object p at (Stream parts) = true

-- so it is of the object at the position's index
abbrev ends_in : Settings → List Entry → Position → Bool
ends_in p order at = at_index order at.index false (λ (x : Entry). ends_object p at x.object)

none_some : {X : Type 0} (x : X) → None ≡ Some x → ⊥
none_some x e = cc

-- ---- the last source symbol of an order

-- an entry has this last source symbol, the first index being given
record LastOf (p : Settings) (first : ℕ) (order : List Entry) (at : Position) : Type 0 where
  i : ℕ
  index : ℕ
  is : index ≡ first + i
  entry : Entry
  found : slice_get order i ≡ Some entry
  last : last_in index (shape_of p entry.object) ≡ Some at

last_of : (p : Settings) (first : ℕ) (before : Option Position) (order : List Entry) (at : Position) → last_from first before (shapes_of p order) ≡ Some at
    → (before ≡ Some at) ⊎ LastOf p first order at
unfolding last_from
last_of p first before [] at e = inl e
last_of p first before (x ∷ order) at e =
    go (last_in first (shape_of p x.object)) refl (last_of p (first + 1) (by (last_in first (shape_of p x.object))) order at e)
  where
    by : Option Position → Option Position
    by own = elim own [ Some at ↦ Some at | None ↦ before ]

    go : (own : Option Position) → last_in first (shape_of p x.object) ≡ own → (by own ≡ Some at) ⊎ LastOf p (first + 1) order at
        → (before ≡ Some at) ⊎ LastOf p first (x ∷ order) at
    go None own (inl e) = inl e
    go (Some last) own (inl e) = inr (record { i = 0; index = first; is = omega arith; entry = x; found = refl; last = own ∙ e })
    go found own (inr r) =
        inr (record { i = suc r.i; index = r.index; is = (let is = r.is in omega (arith, is)); entry = r.entry; found = r.found; last = r.last })

index_of_last : (index : ℕ) (s : Shape) (at : Position) → last_in index s ≡ Some at → at.index ≡ index
index_of_last index s at e = go (s.closed == 0) e
  where
    last : Position
    last = position index (closed_blocks s - 1) (closed_in s (closed_blocks s - 1) - 1)

    same : (x : Position) → Some x ≡ Some at → x ≡ at
    same x e = cc

    go : (b : Bool) → (elim b as (λ _. Option Position) [ true ↦ None | false ↦ Some last ]) ≡ Some at → at.index ≡ index
    go true e = absurd (none_some at e)
    go false e = sym (ap (λ (x : Position). x.index) (same last e))

object_ends : (p : Settings) (at : Position) (o : Object) → last_in at.index (shape_of p o) ≡ Some at → ends_object p at o ≡ true
object_ends p at (Whole kind info octets) last =
    ap (λ (found : Option Position). elim found as (λ _. Bool) [ Some l ↦ same_position l at | None ↦ false ]) last ∙ position_itself at
object_ends p at (Stream parts) last = refl

last_ends : (p : Settings) (order : List Entry) (at : Position) → last_source (shapes_of p order) ≡ Some at → ends_in p order at ≡ true
last_ends p order at e = go (last_of p 0 None order at e)
  where
    go : (None ≡ Some at) ⊎ LastOf p 0 order at → ends_in p order at ≡ true
    go (inl none) = absurd (none_some at none)
    go (inr r) =
        let own : at.index ≡ r.index = index_of_last r.index (shape_of p r.entry.object) at r.last in
        let here : at.index ≡ r.i = (let is = r.is in omega (arith, own, is)) in
        let found : slice_get order at.index ≡ Some r.entry = ap (slice_get order) here ∙ r.found in
        let last : last_in at.index (shape_of p r.entry.object) ≡ Some at = ap (λ (n : ℕ). last_in n (shape_of p r.entry.object)) own ∙ r.last in
        ap (λ (o : Option Entry). elim o as (λ _. Bool) [ Some x ↦ ends_object p at x.object | None ↦ false ]) found ∙ object_ends p at r.entry.object last

-- ---- an order that goes on

still_object : (p : Settings) (at : Position) (o later : Object) → ObjectLater o later → ends_object p at o ≡ true → ends_object p at later ≡ true
still_object p at (Whole kind info octets) later on e = ap (ends_object p at) on ∙ e
still_object p at (Stream parts) later (more, is, none) e = ap (ends_object p at) is

still_in : (p : Settings) (order later : List Entry) (at : Position) → OrderLater order later → ends_in p order at ≡ true → ends_in p later at ≡ true
still_in p order later at on e = go (slice_get order at.index) refl e
  where
    go : (o : Option Entry) → slice_get order at.index ≡ o → (elim o as (λ _. Bool) [ Some x ↦ ends_object p at x.object | None ↦ false ]) ≡ true
        → ends_in p later at ≡ true
    go None is e = absurd (clash e)
    go (Some x) is e =
        let found = later_entry order later at.index x on is in
        ap (λ (o : Option Entry). elim o as (λ _. Bool) [ Some y ↦ ends_object p at y.object | None ↦ false ]) found.1
        ∙ still_object p at x.object (found.0).object found.3 e

still_open : (p : Settings) (order later : List Entry) (ws : List Watermark) → OrderLater order later → AllOpen (ends_in p order) ws
    → AllOpen (ends_in p later) ws
still_open p order later [] on all = tt
still_open p order later (w ∷ ws) on all = (λ is. still_in p order later w.at on (all.0 is), still_open p order later ws on all.1)

-- ---- an event

-- each open watermark of a sender passes the test
abbrev AllEnd : Settings → SenderState → Type 0
AllEnd p s = AllOpen (ends_in p s.current.order) s.watermarks

steady_ends : (p : Settings) (s t : SenderState) → Steady p s t → AllEnd p s → AllEnd p t
steady_ends p s t same h =
    subst (λ (i : Instance). AllOpen (ends_in p i.order) t.watermarks) (sym same.current)
    (same.asked (ends_in p s.current.order) (λ at e. last_ends p s.current.order at e) h)

keeps_ends : (p : Settings) (s t : SenderState) → Keeps s t → AllEnd p s → AllEnd p t
keeps_ends p s t keeps h = steady_ends p s t (keeps_steady p s t keeps) h

-- the cut of an open stream
cut_ends : (p : Settings) (s : SenderState) → AllEnd p s → AllEnd p (cut p s)
cut_ends p s h = go (is_none (open_stream s)) refl (unclosed p.e (parts_now s)) refl
  where
    none_of : (o : Option (List Part)) → is_none o ≡ true → o ≡ None
    none_of None e = refl
    none_of (Some parts) e = absurd (clash e)

    go : (b : Bool) → is_none (open_stream s) ≡ b → (n : ℕ) → unclosed p.e (parts_now s) ≡ n
        → AllEnd p (elim n as (λ _. SenderState) [ zero ↦ s | suc k ↦ with_parts (parts_now s ++ Cut ∷ []) s ])
    go b is zero e = h
    go false is (suc n) e =
        still_open p s.current.order (with_parts (parts_now s ++ Cut ∷ []) s).current.order s.watermarks (ends_later s Cut (open_ends s is)) h
    go true is (suc n) e =
        let none : unclosed p.e (parts_now s) ≡ 0 = ap (λ (o : Option (List Part)). unclosed p.e (unwrap_or o [])) (none_of (open_stream s) is) ∙ no_parts p.e in
        absurd (omega (arith, e, none))

-- a restart leaves no watermark open
all_cut : (test : Position → Bool) (ws : List Watermark) → AllOpen test (map (λ (w : Watermark). cond (is_open w && true) (ended_with CutOff w) w) ws)
all_cut test [] = tt
all_cut test (w ∷ ws) = (go (is_open w) refl, all_cut test ws)
  where
    now : Bool → Watermark
    now b = cond (b && true) (ended_with CutOff w) w

    go : (b : Bool) → is_open w ≡ b → is_open (now b) ≡ true → test (mark_position (now b)) ≡ true
    go true is e = absurd (clash e)
    go false is e = absurd (clash (sym is ∙ e))

case_ends : (p : Settings) (by : Origin) (s t : SenderState) → OrderCase p s by t → AllEnd p s → AllEnd p t
case_ends p by s t (Rests same) h = steady_ends p s t same h
case_ends p by s t (Enqueues object sized none few room) h =
    still_open p s.current.order (joined p by object s).current.order s.watermarks (order_joined s.current.order (record { by = by; object = object } ∷ [])) h
case_ends p by s t (Grows part octets there spent crowded) h =
    still_open p s.current.order (grown p s (parts_now s ++ part ∷ [])).current.order s.watermarks (ends_later s part (open_ends s there)) h
case_ends p by s t (Marks same) h = steady_ends p (cut p s) t same (cut_ends p s h)
case_ends p by s t (Begins id unused few) h = all_cut (ends_in p []) s.watermarks

event_ends : (p : Settings) (w : World) (e : Event) → IsEvent e → AllEnd p w.sender → AllEnd p (world_step p w e).0.sender
event_ends p w e is h = subst (AllEnd p) (sym (sender_is p w e)) (after e is)
  where
    either : (b : Bool) (t : SenderState) → Keeps w.sender t → AllEnd p (elim b as (λ _. SenderState) [ true ↦ t | false ↦ w.sender ])
    either true t keeps = keeps_ends p w.sender t keeps h
    either false t keeps = h

    after : (e : Event) → IsEvent e → AllEnd p (sender_after p w.sender e)
    after (Commanded by job now) is = case_ends p by w.sender (commanded p w.sender by job).0 (order_case p w.sender by job is) h
    after (Delivered node datagram now draw) is = either (node == p.sender) (heard p w.sender datagram now) (heard_keeps p w.sender datagram now)
    after (Ticked node now) is = either (node == p.sender) (ticked p w.sender now).0 (ticked_keeps p w.sender now)
    after (Offered node octets) is = h
    after (UpTaken node) is = h
    after NewsAsked is = keeps_ends p w.sender (told w.sender).0 (told_keeps w.sender) h

ends_from : (p : Settings) (w : World) (events : List Event) → AreEvents events → AllEnd p w.sender → AllEnd p (run_from p w events).sender
ends_from p w [] are h = h
ends_from p w (e ∷ events) are h = ends_from p (world_step p w e).0 events are.1 (event_ends p w e are.0 h)

-- ---- a source symbol that passes the test ends a part

shape_at : (p : Settings) (order : List Entry) (i : ℕ) (x : Entry) → slice_get order i ≡ Some x → slice_get (shapes_of p order) i ≡ Some (shape_of p x.object)
shape_at p [] i x e = absurd (none_some x e)
shape_at p (y ∷ order) zero x e = ap (λ (o : Option Entry). elim o as (λ _. Option Shape) [ Some z ↦ Some (shape_of p z.object) | None ↦ None ]) e
shape_at p (y ∷ order) (suc i) x e = shape_at p order i x e

object_part : (p : Settings) (at : Position) (o : Object) → ends_object p at o ≡ true → nat_lt at.symbol (closed_in (shape_of p o) at.block) ≡ true → EndsPart p at o
object_part p at (Whole kind info octets) ends source = go (last_in at.index (shape_of p (Whole kind info octets))) ends
  where
    go : (found : Option Position) → (elim found as (λ _. Bool) [ Some l ↦ same_position l at | None ↦ false ]) ≡ true → found ≡ Some at
    go None e = absurd (clash e)
    go (Some l) e = ap Some (positions_same l at e)
object_part p at (Stream parts) ends source = by (nat_lt at.symbol (closed_in (shape_of p (Stream parts)) at.block)) source
  where
    by : (b : Bool) → b ≡ true → IsTrue b
    by true e = refl
    by false e = absurd (clash e)

ends_part : (p : Settings) (order : List Entry) (at : Position) → is_source (shapes_of p order) at ≡ true → ends_in p order at ≡ true → EndsPartOf p order at
ends_part p order at source ends = go (slice_get order at.index) refl ends
  where
    go : (o : Option Entry) → slice_get order at.index ≡ o → (elim o as (λ _. Bool) [ Some x ↦ ends_object p at x.object | None ↦ false ]) ≡ true
        → IsSomeAnd o (λ (x : Entry). EndsPart p at x.object)
    go None is e = absurd (clash e)
    go (Some x) is e =
        object_part p at x.object e
        (sym (ap (λ (o : Option Shape). elim o as (λ _. Bool) [ Some s ↦ nat_lt at.symbol (closed_in s at.block) | None ↦ false ]) (shape_at p order at.index x is)) ∙ source)

each_ends : (p : Settings) (order : List Entry) (ws : List Watermark) → AllOpen (is_source (shapes_of p order)) ws → AllOpen (ends_in p order) ws
    → AllByRecursion (λ (w : Watermark). is_open w ≡ true → EndsPartOf p order w.at) ws
each_ends p order [] source ends = tt
each_ends p order (w ∷ ws) source ends =
    (λ is. ends_part p order w.at (source.0 is) (ends.0 is), each_ends p order ws source.1 ends.1)

pub marks_end : MarksEnd
marks_end p range events lawful are =
    each_ends p (run p events).sender.current.order (run p events).sender.watermarks (after_run p range events lawful are).holds.sender.asked
    (ends_from p (world_opening p) events are tt)

-- and so it is of the oldest
pub oldest_ends : (p : Settings) (s : SenderState) (w : Watermark) → OpenMarksEnd p s → oldest s ≡ Some w → EndsPartOf p s.current.order w.at
oldest_ends p s w all found = go s.watermarks all found
  where
    same : (x : Watermark) → Some x ≡ Some w → x ≡ w
    same x e = cc

    go : (ws : List Watermark) → AllByRecursion (λ (x : Watermark). is_open x ≡ true → EndsPartOf p s.current.order x.at) ws → find is_open ws ≡ Some w
        → EndsPartOf p s.current.order w.at
    go [] all e = absurd (none_some w e)
    go (x ∷ ws) all e = by (is_open x) refl e (go ws all.1)
      where
        by : (b : Bool) → is_open x ≡ b → cond b (Some x) (find is_open ws) ≡ Some w → (find is_open ws ≡ Some w → EndsPartOf p s.current.order w.at)
            → EndsPartOf p s.current.order w.at
        by true is e more = subst (λ (y : Watermark). EndsPartOf p s.current.order y.at) (same x e) (all.0 is)
        by false is e more = more e
