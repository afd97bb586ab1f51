-- What a sender's tick sends is true of its orders, and stays true as its instances go on.
use Rattle.std.proofs.Common.{◌≡◌, ℕ, zero, suc, ◌<◌, cond, List, [], ◌∷◌, Bool, true, false, Option, None, Some, refl, sym, ap, ◌∙◌, subst, arith, inl, inr}
use Rattle.std.specs.Prelude.{map, filter, find, slice_get, nat_lt, nat_eq, ⊤, IsTrue, IsSomeAnd}
use Rattle.std.specs.List.{AllByRecursion, IsDistinct}
use Rattle.norm_base.specs.Settings.{Settings, InRange}
use Rattle.fec_plan.specs.Points.{position}
use Rattle.fec_plan.specs.declared.position.Position.{Position}
use Rattle.fec_plan.specs.Partition.{source_symbols}
use Rattle.norm_ext.specs.Message.{Message, Info, Data, Flush, Eot, Squelch, RepairAdv, AckReq, Opaque, Nack, Ack, Report, InfoMessage, DataMessage}
use Rattle.norm_ext.specs.Written.{Written, writes}
use Rattle.norm_ext.specs.Extensions.{Extension}
use Rattle.norm_ext.specs.declared.fti.Fti.{Fti}
use Rattle.norm_order.specs.Entries.{Object, Whole, Stream, Entry}
use Rattle.norm_order.specs.Symbols.{symbol_octets}
use Rattle.norm_order.specs.Shapes.{Shape, shape_of, shapes_of, encoded_in, at_index, is_source}
use Rattle.norm_send_rules.specs.SenderState.{SenderState, Instance, Listing, Watermark, Round}
use Rattle.norm_send_rules.specs.InWindow.{current_shapes, stands_behind}
use Rattle.norm_send_rules.specs.Restarting.{instances}
use Rattle.norm_send_rules.specs.Messages.{fti_of_object, object_flags, command_head, squelch_message, explicit_repair, parity_repair}
use Rattle.norm_send_rules.specs.Sending.{next_new, behind, sends, noted, repair_flags, message_of, sends_want, repairs_next, sends_new}
use Rattle.norm_send_rules.specs.Flushing.{most_flushes, flushes_for, expired, flushes_oldest, flushes_no_more, flushed, flushes_in_turn, flushes, may_flush}
use Rattle.norm_send_rules.specs.Watermarks.{is_open, oldest, pending}
use Rattle.norm_send_rules.specs.Ticking.{closed_where_due, sends_further, sends_wanted, sends_first, ticked}
use Rattle.norm_send_rules.specs.Wants.{want_index}
use Rattle.norm_send_rules.specs.Laws.{Rise, is_of_order, WantsHold}
use Rattle.norm_send_rules.specs.declared.want.Want.{Want}
use Rattle.norm_send_rules.specs.declared.want.Want.TheVariants.{Info as WantedInfo, Symbol}
use Rattle.norm_send_rules.proofs.StepLemmas.{due_holds}
use Rattle.norm_send_rules.proofs.ShapeLemmas.{blocks_of}
use Rattle.norm_send_rules.proofs.NewLemmas.{next_of_order}
use Rattle.norm_safety.specs.OnceEach.{order_of, instance_ids}
use Rattle.norm_safety.specs.Said.{first_index, entry_at}
use Rattle.norm_safety.proofs.CommandSteps.{same_instances, keeps_ids}
use Rattle.fec_plan.proofs.PointLemmas.{not_before_both}
use Rattle.norm_safety.proofs.EntryLemmas.{clash}
use Rattle.norm_safety.proofs.Onward.{GoOn, Onward, goes_on_itself}
use Rattle.norm_safety.proofs.Members.{all_stay}
use Rattle.norm_safety.proofs.SenderKeeps.{Keeps, keeps_all, expired_keeps, closed_keeps, nodes_in, AllOpen}
use Rattle.norm_safety.proofs.SenderHolds.{SenderHolds, some_octets, keeps_steps, order_later}
use Rattle.norm_safety.specs.InOrder.{is_stream_object}
use Rattle.norm_safety.specs.SaysSymbols.{SaysObject, info_of_object}
use Rattle.norm_safety.proofs.GoesOn.{ObjectLater, OrderLater, later_entry, source_later}
use Rattle.norm_safety.proofs.SymbolLater.{symbol_later}
use Rattle.norm_send_rules.proofs.CutNames.{cut_range}
use Rattle.norm_safety.proofs.Spoken.{IsOfStream, IsTrueOf, SaysTrue, SpeaksTrue, command_head_fits, want_true, squelch_true, flush_true}
use Rattle.norm_safety.proofs.Feedback.{IsOther}

-- what says nothing of objects is true
pub nothing_true : (p : Settings) (s : SenderState) (indices : List ℕ) (m : Message) → IsOther m → IsTrueOf p s indices m
nothing_true p s indices (Info m) h = absurd h
nothing_true p s indices (Data m) h = absurd h
nothing_true p s indices (Squelch m) h = absurd h
nothing_true p s indices (Flush m) h = absurd h
nothing_true p s indices (Eot m) h = tt
nothing_true p s indices (RepairAdv m) h = tt
nothing_true p s indices (AckReq m) h = tt
nothing_true p s indices (Opaque m) h = tt
nothing_true p s indices (Nack m) h = tt
nothing_true p s indices (Ack m) h = tt
nothing_true p s indices (Report m) h = tt

-- ---- what is true stays true

-- what is told of an object does not change as it goes on
pub record ToldSame (p : Settings) (o later : Object) : Type 0 where
  pub fti : fti_of_object p o ≡ fti_of_object p later
  pub flags : object_flags o ≡ object_flags later
  pub info : info_of_object o ≡ info_of_object later
  pub stream : is_stream_object o ≡ is_stream_object later

pub told_same : (p : Settings) (o later : Object) → ObjectLater o later → ToldSame p o later
told_same p (Whole kind info octets) later is = record {
  fti = ap (fti_of_object p) (sym is);
  flags = ap object_flags (sym is);
  info = ap info_of_object (sym is);
  stream = ap is_stream_object (sym is);
}
told_same p (Stream parts) later (more, is, none) = record {
  fti = ap (fti_of_object p) (sym is);
  flags = ap object_flags (sym is);
  info = ap info_of_object (sym is);
  stream = ap is_stream_object (sym is);
}

says_later : (p : Settings) (o later : Object) (extensions : List Extension) (flags : ℕ) → ObjectLater o later → SaysObject p o extensions flags
    → SaysObject p later extensions flags
says_later p o later extensions flags on says =
    let same = told_same p o later on in (says.0 ∙ ap (λ (f : Fti). Some f) same.fti, says.1 ∙ same.flags)

-- what stays true of an entry as its object goes on
abbrev pub Stable : (Entry → Type 0) → Type 0
Stable P = (x y : Entry) → ObjectLater x.object y.object → P x → P y

data_stable : (p : Settings) → InRange p → (m : DataMessage) → Stable (λ (x : Entry).
    IsTrue (nat_lt m.id.symbol (encoded_in (shape_of p x.object) m.id.block))
    × (m.payload ≡ symbol_octets p x.object m.id.block m.id.symbol)
    × SaysObject p x.object m.extensions m.head.flags)
data_stable p range m x y on (encoded, payload, says) =
    let stays = symbol_later p (cut_range p range) x.object y.object m.id.block m.id.symbol on encoded in
    (stays.0, payload ∙ sym stays.1, says_later p x.object y.object m.extensions m.head.flags on says)

info_stable : (p : Settings) (m : InfoMessage) → Stable (λ (x : Entry).
    (info_of_object x.object ≡ Some m.info) × SaysObject p x.object m.extensions m.head.flags)
info_stable p m x y on (info, says) =
    (sym (told_same p x.object y.object on).info ∙ info, says_later p x.object y.object m.extensions m.head.flags on says)

pub order_entry_later : (P : Entry → Type 0) → Stable P → (order later : List Entry) (index : ℕ) → OrderLater order later
    → IsSomeAnd (slice_get order index) P → IsSomeAnd (slice_get later index) P
order_entry_later P stable order later index on h = go (slice_get order index) refl h
  where
    go : (found : Option Entry) → slice_get order index ≡ found → IsSomeAnd found P → IsSomeAnd (slice_get later index) P
    go None e h = absurd h
    go (Some x) e h =
        let now = later_entry order later index x on e in
        let S : Option Entry → Type 0 = λ o. IsSomeAnd o P in subst S (sym now.1) (stable x now.0 now.3 h)

entry_later : (P : Entry → Type 0) → Stable P → (s t : SenderState) (id index : ℕ) → Onward s t → IsSomeAnd (entry_at s id index) P → IsSomeAnd (entry_at t id index) P
entry_later P stable s t id index onward h =
    order_entry_later P stable (order_of s id) (order_of t id) index (order_later s t onward id).order h

of_stream_later : (p : Settings) (order later : List Entry) (index block : ℕ) → OrderLater order later → IsOfStream order index block → IsOfStream later index block
of_stream_later p order later index block on (inl none) = inl none
of_stream_later p order later index block on (inr (x, e, is)) =
    let now = later_entry order later index x on e in inr (now.0, now.1, sym (told_same p x.object now.0.object now.3).stream ∙ is)

message_later : (p : Settings) → InRange p → (s t : SenderState) (indices : List ℕ) (m : Message) → Onward s t → IsTrueOf p s indices m → IsTrueOf p t indices m
message_later p range s t indices (Info m) onward h = (h.0, entry_later _ (info_stable p m) s t m.head.instance _ onward h.1)
message_later p range s t indices (Data m) onward h = (h.0, entry_later _ (data_stable p range m) s t m.head.instance _ onward h.1)
message_later p range s t indices (Squelch m) onward (speaks, says) =
    let later = onward m.head.instance says.0 says.1 in (
      speaks,
      (
        later.0,
        later.1,
        not_before_both _ says.0.drop later.0.drop says.2 later.2.drop,
        of_stream_later p says.0.order later.0.order _ m.id.block later.2.order says.3,
      ),
    )
message_later p range s t indices (Flush m) onward h =
    let later = order_later s t onward m.head.instance in
    let at : Position = position (first_index indices) m.id.block m.id.symbol in
    (h.0, source_later p (order_of s m.head.instance) (order_of t m.head.instance) at (some_octets p range) later.order h.1)
message_later p range s t indices (Eot m) onward h = tt
message_later p range s t indices (RepairAdv m) onward h = tt
message_later p range s t indices (AckReq m) onward h = tt
message_later p range s t indices (Opaque m) onward h = tt
message_later p range s t indices (Nack m) onward h = tt
message_later p range s t indices (Ack m) onward h = tt
message_later p range s t indices (Report m) onward h = tt

pub true_later : (p : Settings) → InRange p → (s t : SenderState) (o : Written) → Onward s t → SaysTrue p s o → SaysTrue p t o
true_later p range s t o onward h = (h.0, message_later p range s t o.indices o.message onward h.1)

-- ---- a tick

-- what a step sends is true of a state's orders, and no acknowledgement
abbrev pub SentTrue : Settings → SenderState → Option Written → Type 0
SentTrue p s (Some datagram) = SpeaksTrue p s datagram
SentTrue p s None = ⊤

-- what a step gives
abbrev given : SenderState × Option Written → Option Written
given step = step.1

repair_few : (p : Settings) (object : Object) (w : Want) → repair_flags p object w < 4
repair_few p object (WantedInfo index) = omega arith
repair_few p object (Symbol at) = go (nat_lt at.symbol (source_symbols (shape_of p object).cut at.block))
  where
    go : (b : Bool) → cond b explicit_repair parity_repair < 4
    go true = omega arith
    go false = omega arith

-- what is of the order has its entry
not_at : (p : Settings) (order : List Entry) (index : ℕ) (test : Shape → Bool) → slice_get order index ≡ None → at_index (shapes_of p order) index false test ≡ true → ⊥
not_at p [] index test e h = clash h
not_at p (x ∷ order) zero test e h = absurd (some_none x e)
  where
    some_none : (y : Entry) → Some y ≡ None → ⊥
    some_none y e = cc
not_at p (x ∷ order) (suc index) test e h = not_at p order index test e h

not_of_order : (p : Settings) (order : List Entry) (w : Want) → slice_get order (want_index w) ≡ None → is_of_order (shapes_of p order) w ≡ true → ⊥
not_of_order p order (WantedInfo index) e h = not_at p order index (λ s. s.info) e h
not_of_order p order (Symbol at) e h = not_at p order at.index (λ s. nat_lt at.symbol (encoded_in s at.block)) e h

-- a want of the order that is sent
wanted_true : (p : Settings) → InRange p → (s : SenderState) (now : ℕ) (repair : Object → ℕ) (w : Want) → SenderHolds p s
    → IsDistinct nat_eq (instance_ids s) → is_of_order (current_shapes p s) w ≡ true → ((object : Object) → repair object < 4)
    → SentTrue p s (sends_want p now repair w s).1
wanted_true p range s now repair w h differ of few = go (slice_get s.current.order (want_index w)) refl
  where
    object_in : Option Entry → Object
    object_in found = elim found [ Some entry ↦ entry.object | None ↦ Stream [] ]

    sent : Object → Option Written
    sent object = (sends p now (writes (message_of p s w object (repair object)) (want_index w ∷ [])) (noted w s)).1

    go : (found : Option Entry) → slice_get s.current.order (want_index w) ≡ found → SentTrue p s (sent (object_in found))
    go None e = absurd (not_of_order p s.current.order w e of)
    go (Some entry) e = want_true p range s w entry (repair entry.object) h differ of e (few entry.object)

-- those that are waited for have ids of 32 bits
pending_few : (test : Listing → Bool) (listings : List Listing) → AllByRecursion (λ id. id < 4294967296) (nodes_in listings)
    → AllByRecursion (λ id. id < 4294967296) (map (λ (l : Listing). l.node) (filter test listings))
pending_few test [] all = tt
pending_few test (l ∷ listings) all = go (test l) (pending_few test listings all.1)
  where
    nodes : List Listing → List ℕ
    nodes ls = map (λ (l : Listing). l.node) ls

    go : (b : Bool) → AllByRecursion (λ id. id < 4294967296) (nodes (filter test listings))
        → AllByRecursion (λ id. id < 4294967296) (nodes (cond b (l ∷ filter test listings) (filter test listings)))
    go true more = (all.0, more)
    go false more = more

-- the oldest open watermark is of a position that passes the test
oldest_passes : (test : Position → Bool) (watermarks : List Watermark) (w : Watermark) → AllOpen test watermarks → find is_open watermarks ≡ Some w
    → test w.at ≡ true
oldest_passes test [] w all e = absurd (none_some w e)
  where
    none_some : (x : Watermark) → None ≡ Some x → ⊥
    none_some x e = cc
oldest_passes test (x ∷ watermarks) w all e = go (is_open x) refl (λ e. oldest_passes test watermarks w all.1 e) e
  where
    same_mark : (x y : Watermark) → Some x ≡ Some y → x ≡ y
    same_mark x y e = cc

    go : (b : Bool) → is_open x ≡ b → (find is_open watermarks ≡ Some w → test w.at ≡ true) → cond b (Some x) (find is_open watermarks) ≡ Some w → test w.at ≡ true
    go true is more e = subst (λ (v : Watermark). test v.at ≡ true) (same_mark x w e) (all.0 is)
    go false is more e = more e

-- a flush of a state that keeps the orders
flushed_one : (p : Settings) → InRange p → (t : SenderState) → SenderHolds p t → IsDistinct nat_eq (instance_ids t) → (s : SenderState) → Keeps t s
    → (w : Watermark) → is_source (current_shapes p t) w.at ≡ true → (now : ℕ) → SentTrue p t (flushes_for p now w s).1
flushed_one p range t h differ s keeps w source now =
    let I : Instance → Type 0 = λ i. i.id < 65536 in
    flush_true p range t (command_head p s) w.at (pending s w.at) h differ
    (command_head_fits p range s (keeps.sequence h.sequence) (subst I (sym keeps.current) h.id))
    (ap (λ (i : Instance). i.id) keeps.current) source (pending_few _ s.listings (keeps.nodes h.nodes))

oldest_true : (p : Settings) → InRange p → (t : SenderState) → SenderHolds p t → IsDistinct nat_eq (instance_ids t) → (now : ℕ) (s : SenderState) → Keeps t s
    → SentTrue p t (flushes_oldest p now s).1
oldest_true p range t h differ now s keeps = go (oldest s) refl
  where
    go : (found : Option Watermark) → oldest s ≡ found → SentTrue p t (given (elim found [ Some w ↦ flushes_for p now w s | None ↦ (s, None) ]))
    go None e = tt
    go (Some w) e =
        let source = oldest_passes (is_source (current_shapes p t)) s.watermarks w (keeps.asked (is_source (current_shapes p t)) h.asked) e in
        flushed_one p range t h differ s keeps w source now

no_more_true : (p : Settings) → InRange p → (t : SenderState) → SenderHolds p t → IsDistinct nat_eq (instance_ids t) → (now : ℕ) (w : Watermark)
    → SentTrue p t (flushes_no_more p now w t).1
no_more_true p range t h differ now w = go t.round
  where
    go : (round : Option Round) → SentTrue p t (given (elim round [ Some r ↦ (t, None) | None ↦ flushes_oldest p now (expired w.mark t) ]))
    go (Some r) = tt
    go None = oldest_true p range t h differ now (expired w.mark t) (expired_keeps w.mark t)

flushed_true : (p : Settings) → InRange p → (t : SenderState) → SenderHolds p t → IsDistinct nat_eq (instance_ids t) → (now : ℕ) (w : Watermark)
    → is_source (current_shapes p t) w.at ≡ true → SentTrue p t (flushed p now w t).1
flushed_true p range t h differ now w source = go (nat_lt t.flushes most_flushes)
  where
    go : (b : Bool) → SentTrue p t (given (elim b [ true ↦ flushes_for p now w t | false ↦ flushes_no_more p now w t ]))
    go true = flushed_one p range t h differ t (keeps_all t) w source now
    go false = no_more_true p range t h differ now w

in_turn_true : (p : Settings) → InRange p → (now : ℕ) (s : SenderState) → SenderHolds p s → IsDistinct nat_eq (instance_ids s) → SentTrue p s (flushes_in_turn p now s).1
in_turn_true p range now s h differ = go (oldest s) refl
  where
    go : (found : Option Watermark) → oldest s ≡ found → SentTrue p s (given (elim found [ Some w ↦ flushed p now w s | None ↦ (s, None) ]))
    go None e = tt
    go (Some w) e = flushed_true p range s h differ now w (oldest_passes (is_source (current_shapes p s)) s.watermarks w h.asked e)

flushes_true : (p : Settings) → InRange p → (now : ℕ) (s : SenderState) → SenderHolds p s → IsDistinct nat_eq (instance_ids s) → SentTrue p s (flushes p now s).1
flushes_true p range now s h differ = go (may_flush p s now)
  where
    go : (b : Bool) → SentTrue p s (given (elim b [ true ↦ flushes_in_turn p now s | false ↦ (s, None) ]))
    go true = in_turn_true p range now s h differ
    go false = tt

-- the state in which a want is sent holds what holds, and has the same orders
without : (p : Settings) (s t : SenderState) → Keeps s t → WantsHold p t → SenderHolds p s → SenderHolds p t
without p s t keeps wants h = (keeps_steps p s t keeps wants h).holds

same_true : (p : Settings) → InRange p → (s t : SenderState) (sent : Option Written) → Onward s t → SentTrue p s sent → SentTrue p t sent
same_true p range s t None onward h = tt
same_true p range s t (Some datagram) onward h = record { says = true_later p range s t datagram onward h.says; read = h.read; no_ack = h.no_ack; spoken = h.spoken }

further_true : (p : Settings) → InRange p → (now : ℕ) (s : SenderState) → SenderHolds p s → IsDistinct nat_eq (instance_ids s) → SentTrue p s (sends_further p now s).1
further_true p range now s h differ = go (next_new p s) refl
  where
    next : Want → SenderState
    next w = record s { next = behind w }

    go : (found : Option Want) → next_new p s ≡ found → SentTrue p s (given (elim found [ Some w ↦ sends_new p now w s | None ↦ flushes p now s ]))
    go None e = flushes_true p range now s h differ
    go (Some w) e =
        let keeps : Keeps s (next w) = record { earlier = refl; current = refl; by = refl; nodes = λ few. few; sequence = λ n. n; asked = λ test all. all; strikes = all_stay _ _; sent = λ at n. n } in
        let wants : WantsHold p (next w) = record { rise = h.wants.rise; of_order = h.wants.of_order; in_window = h.wants.in_window } in
        same_true p range (next w) s (sends_want p now (λ object. 0) w (next w)).1 (goes_on_itself (instances s))
        (wanted_true p range (next w) now (λ object. 0) w (without p s (next w) keeps wants h) differ
        (next_of_order p (blocks_of p range) s w e) (λ object. omega arith))

wants_true : (p : Settings) → InRange p → (now : ℕ) (s : SenderState) → SenderHolds p s → IsDistinct nat_eq (instance_ids s) → SentTrue p s (sends_wanted p now s).1
wants_true p range now s h differ = go s.wants refl
  where
    rest : List Want → SenderState
    rest wants = record s { wants = wants }

    go : (wants : List Want) → s.wants ≡ wants → SentTrue p s (given (elim wants [ [] ↦ sends_further p now s | w ∷ wants ↦ repairs_next p now w wants s ]))
    go [] e = further_true p range now s h differ
    go (w ∷ wants) e =
        let R : List Want → Type 0 = λ ws. Rise ws in
        let O : List Want → Type 0 = λ ws. AllByRecursion (λ want. is_of_order (current_shapes p s) want ≡ true) ws in
        let W : List Want → Type 0 = λ ws. AllByRecursion (λ want. stands_behind s.current.drop want ≡ true) ws in
        let rise = subst R e h.wants.rise in
        let of = subst O e h.wants.of_order in
        let within = subst W e h.wants.in_window in
        let keeps : Keeps s (rest wants) = record { earlier = refl; current = refl; by = refl; nodes = λ few. few; sequence = λ n. n; asked = λ test all. all; strikes = all_stay _ _; sent = λ at n. n } in
        let hold : WantsHold p (rest wants) = record { rise = rise.1; of_order = of.1; in_window = within.1 } in
        same_true p range (rest wants) s (sends_want p now (λ object. repair_flags p object w) w (rest wants)).1 (goes_on_itself (instances s))
        (wanted_true p range (rest wants) now (λ object. repair_flags p object w) w (without p s (rest wants) keeps hold h) differ of.0
        (λ object. repair_few p object w))

first_true : (p : Settings) → InRange p → (now : ℕ) (s : SenderState) → SenderHolds p s → IsDistinct nat_eq (instance_ids s) → SentTrue p s (sends_first p now s).1
first_true p range now s h differ = go s.squelch_due
  where
    go : (due : Bool) → SentTrue p s (given (elim due [
      | true ↦ sends p now (writes (squelch_message p s s.current.drop) (s.current.drop.index ∷ [])) (record s { squelch_due = false })
      | false ↦ sends_wanted p now s
    ]))
    go true = squelch_true p range s h differ
    go false = wants_true p range now s h differ

-- A tick sends nothing, or what is true of the sender's orders.
pub tick_true : (p : Settings) → InRange p → (s : SenderState) (now : ℕ) → SenderHolds p s → IsDistinct nat_eq (instance_ids s)
    → SentTrue p s (ticked p s now).1
tick_true p range s now h differ =
    let c : SenderState = closed_where_due p now s in
    let keeps = closed_keeps p now s in
    let D : List ℕ → Type 0 = λ ids. IsDistinct nat_eq ids in
    let steps = keeps_steps p s c keeps (due_holds p (blocks_of p range) now s h.wants) h in
    let back : Onward c s = (let G : List Instance → Type 0 = λ all. GoOn all (instances s) in subst G (sym (same_instances s c keeps)) (goes_on_itself (instances s))) in
    go c steps.holds (subst D (sym (keeps_ids s c keeps)) differ) back (nat_lt now c.next_send)
  where
    go : (c : SenderState) → SenderHolds p c → IsDistinct nat_eq (instance_ids c) → Onward c s → (early : Bool)
        → SentTrue p s (given (elim early [ true ↦ (c, None) | false ↦ sends_first p now c ]))
    go c holds differ back true = tt
    go c holds differ back false = same_true p range c s (sends_first p now c).1 back (first_true p range now c holds differ)
