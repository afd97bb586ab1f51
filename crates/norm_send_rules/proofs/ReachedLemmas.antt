-- What holds of every state that a sender comes to.
use Rattle.std.proofs.Common.{◌≡◌, ℕ, zero, suc, ◌+◌, ◌*◌, ◌/◌, ◌%◌, ◌<◌, ◌≤◌, List, [], ◌∷◌, ◌++◌, length, Bool, true, false, Option, None, Some, Ok, Err, refl, sym, ap, ◌∙◌, subst, arith, is_none, Result}
use Rattle.std.specs.Prelude.{IfSome, drop, map, min, nat_lt, nat_le, unwrap_or, ◌==◌, ◌||◌}
use Rattle.std.specs.List.{AllByRecursion}
use Rattle.std.specs.Int.{div_ceil}
use Rattle.std.proofs.Math.Nat.{zero-mod, zero-div}
use Rattle.std.proofs.lemmas.Bool.Decides.{Decides-ltb}
use Rattle.std.proofs.lemmas.List.{length-append, length-map}
use Rattle.norm_base.specs.Settings.{Settings, InRange}
use Rattle.norm_base.specs.Members.{receivers_of}
use Rattle.norm_base.specs.declared.kinds.Kind.{Kind}
use Rattle.norm_base.specs.declared.kinds.Kind.TheVariants as kind
use Rattle.norm_base.specs.declared.node.Origin.{Origin}
use Rattle.fec_plan.specs.declared.position.Position.{Position}
use Rattle.norm_ext.specs.Asking.{item_named}
use Rattle.norm_ext.specs.Message.{Message, Nack, Ack, AckContent, Mark, Unread}
use Rattle.norm_ext.specs.Reading.{decoded}
use Rattle.norm_ext.specs.Requests.{Request}
use Rattle.norm_order.specs.Entries.{Part, Write, Cut, End, Object, Whole, Stream, Entry}
use Rattle.norm_order.specs.Segments.{pieces, full_pieces, all_pieces, closed_from, since_cut, unclosed, has_end}
use Rattle.norm_order.specs.Sets.{with_member}
use Rattle.norm_order.specs.Shapes.{shapes_of, is_source, last_source}
use Rattle.norm_send_rules.specs.SenderState.{SenderState, Instance, Watermark, unlisted, sender_opening, Listing}
use Rattle.norm_send_rules.specs.InWindow.{next_index, last_index, current_shapes}
use Rattle.norm_send_rules.specs.Watermarks.{open_watermarks, pending, end_where, settled, counted_anew, is_open, watermark_of, is_met}
use Rattle.norm_send_rules.specs.Dropping.{dropped_to}
use Rattle.norm_send_rules.specs.Room.{stream_drop}
use Rattle.norm_send_rules.specs.Enqueuing.{info_length, open_stream, ids_spent, object_fault, joined}
use Rattle.norm_send_rules.specs.Streaming.{open_fault, used_segments, parts_now, with_last, with_parts, is_spent, write_fault, close_fault, grown, cut}
use Rattle.norm_send_rules.specs.Marking.{is_no_quorum, most_open, with_watermark, watermark_at, cut_and_marked}
use Rattle.norm_send_rules.specs.Striking.{strike_fault, without_node, struck_off}
use Rattle.norm_send_rules.specs.Restarting.{is_used, begun_anew}
use Rattle.norm_send_rules.specs.Commanding.{commanded}
use Rattle.norm_send_rules.specs.Closing.{round_closed}
use Rattle.norm_send_rules.specs.Hearing.{listed_past, rises, credited_at, credited_by, joined_round, nack_counts, ack_counts, message_heard, heard}
use Rattle.norm_send_rules.specs.Sending.{behind, noted}
use Rattle.norm_send_rules.specs.Flushing.{expired}
use Rattle.norm_send_rules.specs.Telling.{listing_of, past_news, done_news, told}
use Rattle.norm_send_rules.specs.SenderStep as events
use Rattle.norm_send_rules.specs.SenderStep.{SenderEvent, sender_step}
use Rattle.norm_send_rules.specs.Reached.{FitsProfile, BookHolds, IsReached, ReachedLaws}
use Rattle.norm_send_rules.specs.declared.job.Job.{Job}
use Rattle.norm_send_rules.specs.declared.job.Job.TheVariants as job
use Rattle.norm_send_rules.specs.declared.news.Outcome.TheVariants.{Satisfied, Expired}
use Rattle.norm_send_rules.specs.declared.news.News.{News}
use Rattle.norm_send_rules.specs.declared.want.Want.{Want}
use Rattle.norm_send_rules.specs.declared.want.Want.TheVariants.{Info, Symbol}
use Rattle.norm_send_rules.proofs.ShapeLemmas.{Blocks, blocks_of, HaveAll, have_all_joined, source_still}
use Rattle.norm_send_rules.proofs.CutNames.{cut_range}
use Rattle.norm_send_rules.proofs.PlaceLemmas.{PlacesPass, places_more, ends_places, counted_places, more_places, risen_places, fewer_places, anew_holds_places, unlisted_places, last_is_source, symbol_names, source_names}
use Rattle.norm_send_rules.proofs.TickLemmas.{TickKeeps, tick_keeps}
use Rattle.norm_send_rules.proofs.WantLemmas.{goes_longer, where_free, either, no_row, EndsOpen, ends_open, Same, anew}
use Rattle.norm_send_rules.proofs.StepLemmas.{step_holds, heard_same, told_same, expired_same, noted_same}
use Rattle.norm_send_rules.proofs.BookLemmas.{book_of, nothing_told, same_book, ends_book, counted_book, settled_book, more_book, struck_book, anew_holds_book, told_book, heard_book}

clash : false ≡ true → ⊥
clash e = cc

not_less : (a b : ℕ) → nat_lt a b ≡ false → b ≤ a
not_less a b e = let no : a < b → ⊥ = λ lt. clash (sym e ∙ (Decides-ltb a b).1 lt) in omega arith

-- a step that is refused where a fault was found keeps what holds
by_fault : (Kept : SenderState → Type 0) {F A : Type 0} (found : Option F) (s after : SenderState) (refused : F → A) (given : A) → Kept s
    → (found ≡ None → Kept after) → Kept (where_free found s after refused given).0
by_fault Kept None s after refused given h k = k refl
by_fault Kept (Some fault) s after refused given h k = h

-- and one by a test
by_test : (Kept : SenderState → Type 0) {A : Type 0} (b : Bool) (t u : SenderState × A) → Kept t.0 → Kept u.0 → Kept (either b t u).0
by_test Kept true t u h k = h
by_test Kept false t u h k = k

-- ---- the book

cut_book : (p : Settings) (s : SenderState) → book_of (cut p s) ≡ book_of s
cut_book p s = go (unclosed p.e (parts_now s))
  where
    cut_by : ℕ → SenderState
    cut_by n = elim n [ zero ↦ s | suc n ↦ with_parts (parts_now s ++ Cut ∷ []) s ]

    go : (n : ℕ) → book_of (cut_by n) ≡ book_of s
    go zero = refl
    go (suc n) = refl

watermark_book : (s : SenderState) (by : Origin) (quorum : Option ℕ) (found : Option Position) → BookHolds s → BookHolds (watermark_at s by quorum found).0
watermark_book s by quorum None h = h
watermark_book s by quorum (Some at) h =
    let w : Watermark = record { mark = length s.watermarks + 1; by = by; at = at; quorum = quorum; ended = None } in
    let more : SenderState = record s { watermarks = s.watermarks ++ w ∷ [] } in
    by_test BookHolds (nat_le most_open (length (open_watermarks s))) (s, _) (with_watermark s by quorum at, _) h
    (counted_book s (settled more) (settled_book more (more_book s w refl h)))

mark_book : (p : Settings) (s : SenderState) (by : Origin) (quorum : Option ℕ) → BookHolds s → BookHolds (cut_and_marked p s by quorum).0
mark_book p s by quorum h =
    watermark_book (cut p s) by quorum (last_source (current_shapes p (cut p s))) (same_book s (cut p s) (cut_book p s) h)

commands_book : (p : Settings) (s : SenderState) (by : Origin) (job : Job) → BookHolds s → BookHolds (commanded p s by job).0
commands_book p s by (job.Data info bytes) h =
    by_fault BookHolds (object_fault p s info bytes) s (joined p by (Whole kind.Data info bytes) s) Err (Ok _) h (λ e. same_book s (joined p by (Whole kind.Data info bytes) s) refl h)
commands_book p s by (job.File name bytes) h =
    by_fault BookHolds (object_fault p s (Some name) bytes) s (joined p by (Whole kind.File (Some name) bytes) s) Err (Ok _) h
    (λ e. same_book s (joined p by (Whole kind.File (Some name) bytes) s) refl h)
commands_book p s by job.Open h =
    by_fault BookHolds (open_fault p s) s (joined p by (Stream []) s) Err (Ok _) h (λ e. same_book s (joined p by (Stream []) s) refl h)
commands_book p s by (job.Write bytes) h =
    let parts = parts_now s ++ Write by bytes ∷ [] in
    by_fault BookHolds (write_fault p s bytes parts) s (grown p s parts) Err (Ok _) h (λ e. same_book s (grown p s parts) refl h)
commands_book p s by job.Close h =
    let parts = parts_now s ++ End ∷ [] in
    by_fault BookHolds (close_fault p s parts) s (grown p s parts) Err (Ok _) h (λ e. same_book s (grown p s parts) refl h)
commands_book p s by (job.Mark None) h = mark_book p s by None h
commands_book p s by (job.Mark (Some q)) h = by_test BookHolds (is_no_quorum p q) (s, _) (cut_and_marked p s by (Some q)) h (mark_book p s by (Some q) h)
commands_book p s by (job.Restart instance) h = by_test BookHolds (is_used s instance) (s, _) (begun_anew instance s, _) h (anew_holds_book instance s h)
commands_book p s by (job.Strike node) h =
    by_fault BookHolds (strike_fault s node) s (struck_off node s) Err (Ok _) h (λ e. struck_book node s h)

noted_book : (w : Want) (s : SenderState) → book_of (noted w s) ≡ book_of s
noted_book (Info index) s = refl
noted_book (Symbol at) s = refl

ticks_book : (p : Settings) → TickKeeps p BookHolds
ticks_book p = record {
  closes = λ s r h. same_book s (round_closed p r s) refl h;
  squelched = λ s h. same_book s (record s { squelch_due = false }) refl h;
  repaired = λ s w wants e h. same_book s (record s { wants = wants }) refl h;
  goes_on = λ s w e h. same_book s (record s { next = behind w }) refl h;
  notes = λ s w h. same_book s (noted w s) (noted_book w s) h;
  flushes = λ s now h. same_book s (record s { flushes = s.flushes + 1; last_flush = Some now }) refl h;
  expires = λ s w e h. counted_book s (end_where (λ v. v.mark == w.mark) (λ v. Expired (length (pending s v.at))) s) (ends_book (λ v. v.mark == w.mark) (λ v. Expired (length (pending s v.at))) s h);
  spends = λ s moment h. same_book s (record s { next_send = moment; sequence = (s.sequence + 1) % 65536 }) refl h;
}

pub steps_book : (p : Settings) (s : SenderState) (event : SenderEvent) → BookHolds s → BookHolds (sender_step p s event).0
steps_book p s (events.Commanded by job now) h = commands_book p s by job h
steps_book p s (events.Delivered datagram now) h = heard_book p s now (decoded datagram) h
steps_book p s (events.Ticked now) h = tick_keeps p BookHolds (ticks_book p) s now h
steps_book p s events.NewsAsked h = told_book s h

-- ---- objects and their indices

-- each entry's object fits the profile, and each index 32 bits
abbrev OrderFits : Settings → List Entry → Type 0
OrderFits p order = AllByRecursion (λ (entry : Entry). FitsProfile p entry.object) order × (length order ≤ 4294967295)

fits_joined : (p : Settings) (order : List Entry) (entry : Entry) → FitsProfile p entry.object → AllByRecursion (λ (e : Entry). FitsProfile p e.object) order
    → AllByRecursion (λ (e : Entry). FitsProfile p e.object) (order ++ entry ∷ [])
fits_joined p [] entry h all = (h, tt)
fits_joined p (x ∷ order) entry h all = (all.0, fits_joined p order entry h all.1)

-- an entry joins where ids are not spent
joins_fit : (p : Settings) (by : Origin) (object : Object) (s : SenderState) → ids_spent s ≡ false → FitsProfile p object → OrderFits p s.current.order
    → OrderFits p (joined p by object s).current.order
joins_fit p by object s free fits h =
    let entry : Entry = record { by = by; object = object } in
    let many = length-append s.current.order (entry ∷ []) in
    let le = not_less 4294967294 (next_index s) free in
    (fits_joined p s.current.order entry fits h.0, omega arith)

-- the last object in place of what it was
last_fits : (p : Settings) (object : Object) (order : List Entry) → FitsProfile p object → AllByRecursion (λ (e : Entry). FitsProfile p e.object) order
    → AllByRecursion (λ (e : Entry). FitsProfile p e.object) (with_last object order)
last_fits p object [] fits all = tt
last_fits p object (x ∷ []) fits all = (fits, tt)
last_fits p object (x ∷ y ∷ order) fits all = (all.0, last_fits p object (y ∷ order) fits all.1)

last_many : (object : Object) (order : List Entry) → length (with_last object order) ≡ length order
last_many object [] = refl
last_many object (x ∷ []) = refl
last_many object (x ∷ y ∷ order) = ap suc (last_many object (y ∷ order))

parts_fit : (p : Settings) (parts : List Part) (s : SenderState) → used_segments p parts ≤ 16777216 * p.b → OrderFits p s.current.order
    → OrderFits p (with_parts parts s).current.order
parts_fit p parts s few h =
    let same = last_many (Stream parts) s.current.order in (last_fits p (Stream parts) s.current.order few h.0, omega (arith, same, h.1))

-- the stream with these parts is not spent, and so it has few segments
not_spent : (p : Settings) (octets : ℕ) (parts : List Part) → (nat_lt 4294967295 octets || nat_lt (16777216 * p.b) (used_segments p parts)) ≡ false
    → used_segments p parts ≤ 16777216 * p.b
not_spent p octets parts e = go (nat_lt 4294967295 octets) (nat_lt (16777216 * p.b) (used_segments p parts)) refl e
  where
    go : (b c : Bool) → nat_lt (16777216 * p.b) (used_segments p parts) ≡ c → (b || c) ≡ false → used_segments p parts ≤ 16777216 * p.b
    go true c is e = absurd (clash (sym e))
    go false true is e = absurd (clash (sym e))
    go false false is e = not_less (16777216 * p.b) (used_segments p parts) is

-- A cut closes the segment that it counted already.

pieces_many : (e n : ℕ) (octets : List ℕ) → length (pieces e n octets) ≡ n
unfolding pieces
pieces_many e zero octets = refl
pieces_many e (suc n) octets = ap suc (pieces_many e n (drop e octets))

-- the segments that a stream takes room for, from octets since its last cut on
abbrev used_from : ℕ → List ℕ → List Part → ℕ
used_from e since parts = length (closed_from e since parts) + min 1 (length (since_cut since parts) % e)

cut_used : (e : ℕ) (since : List ℕ) (parts : List Part) → has_end parts ≡ false → used_from e since (parts ++ Cut ∷ []) ≤ used_from e since parts
unfolding closed_from since_cut has_end
cut_used e since [] unended =
    let all = pieces_many e (div_ceil (length since) e) since in
    let full = pieces_many e (length since / e) since in
    let none = pieces_many e (0 / e) [] in
    let no_blocks : 0 / e ≡ 0 = zero-div e in
    let nothing : 0 % e ≡ 0 = zero-mod e in
    let more = length-append (all_pieces e since) (full_pieces e []) in
    omega (arith, all, full, none, no_blocks, nothing, more)
cut_used e since (Write by octets ∷ parts) unended = cut_used e (since ++ octets) parts unended
cut_used e since (Cut ∷ parts) unended =
    let h = cut_used e [] parts unended in
    let before = length-append (all_pieces e since) (closed_from e [] parts) in
    let after = length-append (all_pieces e since) (closed_from e [] (parts ++ Cut ∷ [])) in
    omega (arith, h, before, after)
cut_used e since (End ∷ parts) unended = absurd (clash (sym unended))

of_last : (p : Settings) (front : List Entry) (last : Entry) → AllByRecursion (λ (e : Entry). FitsProfile p e.object) (front ++ last ∷ []) → FitsProfile p last.object
of_last p [] last all = all.0
of_last p (x ∷ front) last all = of_last p front last all.1

-- an open stream has few segments
open_fits : (p : Settings) (order : List Entry) (parts : List Part) → EndsOpen order parts → AllByRecursion (λ (e : Entry). FitsProfile p e.object) order
    → used_segments p parts ≤ 16777216 * p.b
open_fits p order parts (front, last, is, object, unended) all =
    let A : List Entry → Type 0 = λ xs. AllByRecursion (λ (e : Entry). FitsProfile p e.object) xs in
    subst (FitsProfile p) object (of_last p front last (subst A is all))

cut_fits : (p : Settings) (s : SenderState) → OrderFits p s.current.order → OrderFits p (cut p s).current.order
unfolding since_cut
cut_fits p s h = go (open_stream s) refl
  where
    cut_where : ℕ → List Part → SenderState
    cut_where n parts = elim n [ zero ↦ s | suc k ↦ with_parts (parts ++ Cut ∷ []) s ]

    some : (parts : List Part) → open_stream s ≡ Some parts → (n : ℕ) → OrderFits p (cut_where n parts).current.order
    some parts e zero = h
    some parts e (suc n) =
        let ends = ends_open s.current.order parts e in
        let few = open_fits p s.current.order parts ends h.0 in
        let same = cut_used p.e [] parts ends.4 in
        parts_fit p (parts ++ Cut ∷ []) s (omega (arith, few, same)) h

    go : (found : Option (List Part)) → open_stream s ≡ found → OrderFits p (cut_where (unclosed p.e (unwrap_or found [])) (unwrap_or found [])).current.order
    go None e = subst (λ (n : ℕ). OrderFits p (cut_where n []).current.order) (sym (zero-mod p.e)) h
    go (Some parts) e = some parts e (unclosed p.e parts)

-- what a state's order is
abbrev HasFit : Settings → SenderState → Type 0
HasFit p s = OrderFits p s.current.order

same_fit : (p : Settings) (s t : SenderState) → t.current ≡ s.current → HasFit p s → HasFit p t
same_fit p s t e h = subst (λ (i : Instance). OrderFits p i.order) (sym e) h

watermark_same : (s : SenderState) (by : Origin) (quorum : Option ℕ) (found : Option Position) → (watermark_at s by quorum found).0.current ≡ s.current
watermark_same s by quorum None = refl
watermark_same s by quorum (Some at) =
    let w : Watermark = record { mark = length s.watermarks + 1; by = by; at = at; quorum = quorum; ended = None } in
    let more : SenderState = record s { watermarks = s.watermarks ++ w ∷ [] } in
    (by_test (λ t. Same s t) (nat_le most_open (length (open_watermarks s))) (s, _) (with_watermark s by quorum at, _) (refl, refl) (anew s s (settled more) (refl, refl))).0

mark_fits : (p : Settings) (s : SenderState) (by : Origin) (quorum : Option ℕ) → HasFit p s → HasFit p (cut_and_marked p s by quorum).0
mark_fits p s by quorum h =
    same_fit p (cut p s) (cut_and_marked p s by quorum).0 (watermark_same (cut p s) by quorum (last_source (current_shapes p (cut p s)))) (cut_fits p s h)

-- an object that has no fault joins and fits
object_fits : (p : Settings) (s : SenderState) (by : Origin) (kind : Kind) (info : Option (List ℕ)) (octets : List ℕ) → object_fault p s info octets ≡ None
    → HasFit p s → HasFit p (joined p by (Whole kind info octets) s)
object_fits p s by kind info octets none h =
    let first = no_row _ _ _ none in
    let second = no_row _ _ _ first.1 in
    let third = no_row _ _ _ second.1 in
    let fourth = no_row _ _ _ third.1 in
    let fifth = no_row _ _ _ fourth.1 in
    joins_fit p by (Whole kind info octets) s fifth.0
    (some_length (length octets) first.0, not_less p.octets (length octets) second.0, not_less p.e (info_length info) third.0) h
  where
    some_length : (n : ℕ) → (n == 0) ≡ false → 0 < n
    some_length zero e = absurd (clash (sym e))
    some_length (suc n) e = omega arith

open_fits_in : (p : Settings) (s : SenderState) (by : Origin) → open_fault p s ≡ None → HasFit p s → HasFit p (joined p by (Stream []) s)
unfolding closed_from since_cut pieces
open_fits_in p s by none h =
    let first = no_row _ _ _ none in
    let second = no_row _ _ _ first.1 in
    let third = no_row _ _ _ second.1 in
    let many = pieces_many p.e (0 / p.e) [] in
    let no_blocks : 0 / p.e ≡ 0 = zero-div p.e in
    let nothing : 0 % p.e ≡ 0 = zero-mod p.e in
    let few : used_segments p [] ≤ 16777216 * p.b = omega (arith, many, no_blocks, nothing) in
    joins_fit p by (Stream []) s third.0 few h

grown_fits : (p : Settings) (s : SenderState) (parts : List Part) → is_spent p parts ≡ false → HasFit p s → HasFit p (grown p s parts)
grown_fits p s parts e h = parts_fit p parts (dropped_to (stream_drop p s (last_index s) (used_segments p parts)) s) (not_spent p _ parts e) h

commands_fit : (p : Settings) (s : SenderState) (by : Origin) (job : Job) → HasFit p s → HasFit p (commanded p s by job).0
commands_fit p s by (job.Data info bytes) h =
    by_fault (HasFit p) (object_fault p s info bytes) s (joined p by (Whole kind.Data info bytes) s) Err (Ok _) h (λ e. object_fits p s by kind.Data info bytes e h)
commands_fit p s by (job.File name bytes) h =
    by_fault (HasFit p) (object_fault p s (Some name) bytes) s (joined p by (Whole kind.File (Some name) bytes) s) Err (Ok _) h
    (λ e. object_fits p s by kind.File (Some name) bytes e h)
commands_fit p s by job.Open h = by_fault (HasFit p) (open_fault p s) s (joined p by (Stream []) s) Err (Ok _) h (λ e. open_fits_in p s by e h)
commands_fit p s by (job.Write bytes) h =
    let parts = parts_now s ++ Write by bytes ∷ [] in
    by_fault (HasFit p) (write_fault p s bytes parts) s (grown p s parts) Err (Ok _) h (λ e.
    let first = no_row _ _ _ e in
    let second = no_row _ _ _ first.1 in
    let third = no_row _ _ _ second.1 in
    grown_fits p s parts (no_row _ _ _ third.1).0 h)
commands_fit p s by job.Close h =
    let parts = parts_now s ++ End ∷ [] in
    by_fault (HasFit p) (close_fault p s parts) s (grown p s parts) Err (Ok _) h (λ e. grown_fits p s parts (no_row _ _ _ (no_row _ _ _ e).1).0 h)
commands_fit p s by (job.Mark None) h = mark_fits p s by None h
commands_fit p s by (job.Mark (Some q)) h = by_test (HasFit p) (is_no_quorum p q) (s, _) (cut_and_marked p s by (Some q)) h (mark_fits p s by (Some q) h)
commands_fit p s by (job.Restart instance) h =
    by_test (HasFit p) (is_used s instance) (s, _) (begun_anew instance s, _) h (tt, (let le : 0 ≤ 4294967295 = omega arith in le))
commands_fit p s by (job.Strike node) h =
    by_fault (HasFit p) (strike_fault s node) s (struck_off node s) Err (Ok _) h
    (λ e. same_fit p s (struck_off node s) (anew s s (settled (without_node node s)) (refl, refl)).0 h)

ticks_fit : (p : Settings) → TickKeeps p (HasFit p)
ticks_fit p = record {
  closes = λ s r h. h;
  squelched = λ s h. h;
  repaired = λ s w wants e h. h;
  goes_on = λ s w e h. h;
  notes = λ s w h. same_fit p s (noted w s) (noted_same w s).0 h;
  flushes = λ s now h. h;
  expires = λ s w e h. same_fit p s (expired w.mark s) (expired_same w.mark s).0 h;
  spends = λ s moment h. h;
}

steps_fit : (p : Settings) (s : SenderState) (event : SenderEvent) → HasFit p s → HasFit p (sender_step p s event).0
steps_fit p s (events.Commanded by job now) h = commands_fit p s by job h
steps_fit p s (events.Delivered datagram now) h = same_fit p s (heard p s datagram now) (heard_same p s now (decoded datagram)).0 h
steps_fit p s (events.Ticked now) h = tick_keeps p (HasFit p) (ticks_fit p) s now h
steps_fit p s events.NewsAsked h = same_fit p s (told s).0 (told_same s).0 h

-- ---- what is asked for and listed

-- each open watermark, and what each member is listed past, is a source symbol of the order
abbrev Placed : Settings → SenderState → Type 0
Placed p s = PlacesPass (is_source (current_shapes p s)) s

same_placed : (p : Settings) (s t : SenderState) → t.current ≡ s.current → t.listings ≡ s.listings → t.watermarks ≡ s.watermarks → Placed p s → Placed p t
same_placed p s t current listings watermarks h =
    let A : Instance → Type 0 = λ i. AllByRecursion (λ (w : Watermark). is_open w ≡ true → is_source (shapes_of p i.order) w.at ≡ true) t.watermarks in
    let W : List Watermark → Type 0 = λ ws. AllByRecursion (λ (w : Watermark). is_open w ≡ true → is_source (current_shapes p s) w.at ≡ true) ws in
    let B : Instance → Type 0 = λ i. AllByRecursion (λ (l : Listing). IfSome l.past (λ at. is_source (shapes_of p i.order) at ≡ true)) t.listings in
    let L : List Listing → Type 0 = λ ls. AllByRecursion (λ (l : Listing). IfSome l.past (λ at. is_source (current_shapes p s) at ≡ true)) ls in
    record {
      asked = subst A (sym current) (subst W (sym watermarks) h.asked);
      listed = subst B (sym current) (subst L (sym listings) h.listed);
    }

-- where the order gets longer
longer_placed : (p : Settings) (s t : SenderState) → HaveAll (current_shapes p s) (current_shapes p t) → t.listings ≡ s.listings → t.watermarks ≡ s.watermarks
    → Placed p s → Placed p t
longer_placed p s t all listings watermarks h =
    let more = places_more (is_source (current_shapes p s)) (is_source (current_shapes p t)) (λ at e. source_still (current_shapes p s) (current_shapes p t) at all e) s h in
    let W : List Watermark → Type 0 = λ ws. AllByRecursion (λ (w : Watermark). is_open w ≡ true → is_source (current_shapes p t) w.at ≡ true) ws in
    let L : List Listing → Type 0 = λ ls. AllByRecursion (λ (l : Listing). IfSome l.past (λ at. is_source (current_shapes p t) at ≡ true)) ls in
    record { asked = subst W (sym watermarks) more.asked; listed = subst L (sym listings) more.listed }

joins_placed : (p : Settings) → Blocks p → (by : Origin) (object : Object) (s : SenderState) → Placed p s → Placed p (joined p by object s)
joins_placed p blocks by object s h =
    longer_placed p s (joined p by object s) (have_all_joined p blocks s.current.order (record { by = by; object = object } ∷ [])) refl refl h

-- an open stream goes on
parts_placed : (p : Settings) → Blocks p → (s : SenderState) (parts more : List Part) → open_stream s ≡ Some parts → Placed p s
    → Placed p (with_parts (parts ++ more) s)
parts_placed p blocks s parts more e h =
    longer_placed p s (with_parts (parts ++ more) s) (goes_longer p blocks s.current.order parts more (ends_open s.current.order parts e)) refl refl h

grown_placed : (p : Settings) → Blocks p → (s : SenderState) (more : List Part) → is_none (open_stream s) ≡ false → Placed p s
    → Placed p (grown p s (parts_now s ++ more))
grown_placed p blocks s more is h = go (open_stream s) refl is
  where
    drop : List Part → SenderState
    drop parts = dropped_to (stream_drop p s (last_index s) (used_segments p (parts ++ more))) s

    go : (found : Option (List Part)) → open_stream s ≡ found → is_none found ≡ false
        → Placed p (with_parts (unwrap_or found [] ++ more) (drop (unwrap_or found [])))
    go None e none = absurd (clash (sym none))
    go (Some parts) e there = parts_placed p blocks (drop parts) parts more e (record { asked = h.asked; listed = h.listed })

cut_placed : (p : Settings) → Blocks p → (s : SenderState) → Placed p s → Placed p (cut p s)
unfolding since_cut
cut_placed p blocks s h = go (open_stream s) refl
  where
    cut_where : ℕ → List Part → SenderState
    cut_where n parts = elim n [ zero ↦ s | suc k ↦ with_parts (parts ++ Cut ∷ []) s ]

    some : (parts : List Part) → open_stream s ≡ Some parts → (n : ℕ) → Placed p (cut_where n parts)
    some parts e zero = h
    some parts e (suc n) = parts_placed p blocks s parts (Cut ∷ []) e h

    go : (found : Option (List Part)) → open_stream s ≡ found → Placed p (cut_where (unclosed p.e (unwrap_or found [])) (unwrap_or found []))
    go None e = subst (λ (n : ℕ). Placed p (cut_where n [])) (sym (zero-mod p.e)) h
    go (Some parts) e = some parts e (unclosed p.e parts)

watermark_placed : (p : Settings) (s : SenderState) (by : Origin) (quorum : Option ℕ) (found : Option Position)
    → ((at : Position) → found ≡ Some at → is_source (current_shapes p s) at ≡ true) → Placed p s → Placed p (watermark_at s by quorum found).0
watermark_placed p s by quorum None last h = h
watermark_placed p s by quorum (Some at) last h =
    let w : Watermark = record { mark = length s.watermarks + 1; by = by; at = at; quorum = quorum; ended = None } in
    let more : SenderState = record s { watermarks = s.watermarks ++ w ∷ [] } in
    let test = is_source (current_shapes p s) in
    let placed : PlacesPass test (with_watermark s by quorum at) =
    counted_places test s (settled more) (ends_places test (is_met more) (λ w. Satisfied) more (more_places test s w (last at refl) h)) in
    let same = watermark_same s by quorum (Some at) in
    by_test (λ t. t.current ≡ s.current → Placed p t) (nat_le most_open (length (open_watermarks s))) (s, _) (with_watermark s by quorum at, _) (λ e. h)
    (λ e. (let P : Instance → Type 0 = λ i. PlacesPass (is_source (shapes_of p i.order)) (with_watermark s by quorum at) in subst P (sym e) placed))
    same

mark_placed : (p : Settings) → InRange p → (s : SenderState) (by : Origin) (quorum : Option ℕ) → HasFit p s → Placed p s → Placed p (cut_and_marked p s by quorum).0
mark_placed p range s by quorum fit h =
    watermark_placed p (cut p s) by quorum (last_source (current_shapes p (cut p s)))
    (λ at e. last_is_source p (cut_range p range) (cut p s).current.order at (cut_fits p s fit).0 e) (cut_placed p (blocks_of p range) s h)

commands_placed : (p : Settings) → InRange p → (s : SenderState) (by : Origin) (job : Job) → HasFit p s → Placed p s → Placed p (commanded p s by job).0
commands_placed p range s by (job.Data info bytes) fit h =
    by_fault (Placed p) (object_fault p s info bytes) s (joined p by (Whole kind.Data info bytes) s) Err (Ok _) h
    (λ e. joins_placed p (blocks_of p range) by (Whole kind.Data info bytes) s h)
commands_placed p range s by (job.File name bytes) fit h =
    by_fault (Placed p) (object_fault p s (Some name) bytes) s (joined p by (Whole kind.File (Some name) bytes) s) Err (Ok _) h
    (λ e. joins_placed p (blocks_of p range) by (Whole kind.File (Some name) bytes) s h)
commands_placed p range s by job.Open fit h =
    by_fault (Placed p) (open_fault p s) s (joined p by (Stream []) s) Err (Ok _) h (λ e. joins_placed p (blocks_of p range) by (Stream []) s h)
commands_placed p range s by (job.Write bytes) fit h =
    let parts = parts_now s ++ Write by bytes ∷ [] in
    by_fault (Placed p) (write_fault p s bytes parts) s (grown p s parts) Err (Ok _) h (λ e.
    let first = no_row _ _ _ e in
    let second = no_row _ _ _ first.1 in
    grown_placed p (blocks_of p range) s (Write by bytes ∷ []) (no_row _ _ _ second.1).0 h)
commands_placed p range s by job.Close fit h =
    let parts = parts_now s ++ End ∷ [] in
    by_fault (Placed p) (close_fault p s parts) s (grown p s parts) Err (Ok _) h (λ e. grown_placed p (blocks_of p range) s (End ∷ []) (no_row _ _ _ e).0 h)
commands_placed p range s by (job.Mark None) fit h = mark_placed p range s by None fit h
commands_placed p range s by (job.Mark (Some q)) fit h =
    by_test (Placed p) (is_no_quorum p q) (s, _) (cut_and_marked p s by (Some q)) h (mark_placed p range s by (Some q) fit h)
commands_placed p range s by (job.Restart instance) fit h =
    by_test (Placed p) (is_used s instance) (s, _) (begun_anew instance s, _) h (anew_holds_places (is_source []) instance s)
commands_placed p range s by (job.Strike node) fit h =
    let test = is_source (current_shapes p s) in
    let gone : SenderState = without_node node s in
    let placed : PlacesPass test (struck_off node s) =
    counted_places test s (settled gone) (ends_places test (is_met gone) (λ w. Satisfied) gone (fewer_places test node s h)) in
    by_fault (Placed p) (strike_fault s node) s (struck_off node s) Err (Ok _) h
    (λ e. (let P : Instance → Type 0 = λ i. PlacesPass (is_source (shapes_of p i.order)) (struck_off node s) in
    subst P (sym (anew s s (settled gone) (refl, refl)).0) placed))

noted_placed : (p : Settings) (w : Want) (s : SenderState) → Placed p s → Placed p (noted w s)
noted_placed p (Info index) s h = same_placed p s (noted (Info index) s) refl refl refl h
noted_placed p (Symbol at) s h = same_placed p s (noted (Symbol at) s) refl refl refl h

expired_placed : (p : Settings) (w : Watermark) (s : SenderState) → Placed p s → Placed p (expired w.mark s)
expired_placed p w s h =
    let test = is_source (current_shapes p s) in
    let ended : SenderState = end_where (λ v. v.mark == w.mark) (λ v. Expired (length (pending s v.at))) s in
    let placed : PlacesPass test (expired w.mark s) =
    counted_places test s ended (ends_places test (λ v. v.mark == w.mark) (λ v. Expired (length (pending s v.at))) s h) in
    let P : Instance → Type 0 = λ i. PlacesPass (is_source (shapes_of p i.order)) (expired w.mark s) in
    subst P (sym (expired_same w.mark s).0) placed

ticks_placed : (p : Settings) → TickKeeps p (Placed p)
ticks_placed p = record {
  closes = λ s r h. same_placed p s (round_closed p r s) refl refl refl h;
  squelched = λ s h. same_placed p s (record s { squelch_due = false }) refl refl refl h;
  repaired = λ s w wants e h. same_placed p s (record s { wants = wants }) refl refl refl h;
  goes_on = λ s w e h. same_placed p s (record s { next = behind w }) refl refl refl h;
  notes = λ s w h. noted_placed p w s h;
  flushes = λ s now h. same_placed p s (record s { flushes = s.flushes + 1; last_flush = Some now }) refl refl refl h;
  expires = λ s w e h. expired_placed p w s h;
  spends = λ s moment h. same_placed p s (record s { next_send = moment; sequence = (s.sequence + 1) % 65536 }) refl refl refl h;
}

credited_placed : (p : Settings) (node : ℕ) (at : Position) (s : SenderState) → Placed p s → Placed p (credited_at p node at s)
credited_placed p node at s h = go (is_source (current_shapes p s) at) refl (rises node at s)
  where
    test : Position → Bool
    test = is_source (current_shapes p s)

    risen : SenderState
    risen = record s { listings = map (listed_past node at) s.listings; untold_nodes = with_member nat_lt node s.untold_nodes }

    rise : test at ≡ true → Placed p (counted_anew s (settled risen))
    rise is =
        let placed : PlacesPass test (counted_anew s (settled risen)) =
        counted_places test s (settled risen) (ends_places test (is_met risen) (λ w. Satisfied) risen (risen_places test node at s is h)) in
        let P : Instance → Type 0 = λ i. PlacesPass (is_source (shapes_of p i.order)) (counted_anew s (settled risen)) in
        subst P (sym (anew s s (settled risen) (refl, refl)).0) placed

    go : (b : Bool) → is_source (current_shapes p s) at ≡ b → (c : Bool)
        → Placed p (elim b [ true ↦ elim c [ true ↦ counted_anew s (settled risen) | false ↦ s ] | false ↦ s ])
    go true is true = rise is
    go true is false = h
    go false is c = h

heard_placed : {E : Type 0} (p : Settings) (s : SenderState) (now : ℕ) (read : Result Message E) → Placed p s → Placed p (message_heard p s now read)
heard_placed p s now (Ok (Nack m)) h = go (nack_counts p s m) m.requests
  where
    go : (b : Bool) (requests : List Request) → Placed p (elim b [ true ↦ joined_round p s now requests | false ↦ s ])
    go true [] = h
    go true (r ∷ requests) = same_placed p s (joined_round p s now (r ∷ requests)) refl refl refl h
    go false requests = h
heard_placed p s now (Ok (Ack m)) h = go (ack_counts p s m) m.content
  where
    by : (at : Option Position) → Placed p (credited_by p m.source at s)
    by None = h
    by (Some at) = credited_placed p m.source at s h

    go : (b : Bool) (content : AckContent) → Placed p (elim b [
      | true ↦ elim content [ Mark item ↦ credited_by p m.source (item_named p (last_index s) item) s | Unread octets ↦ s ]
      | false ↦ s
    ])
    go true (Mark item) = by (item_named p (last_index s) item)
    go true (Unread octets) = h
    go false content = h
heard_placed p s now _ h = h

told_placed : (p : Settings) (s : SenderState) → Placed p s → Placed p (told s).0
told_placed p s h = go s.untold_nodes s.untold_marks
  where
    news : List ℕ → List ℕ → SenderState × Option News
    news nodes marks = elim nodes [
      | node ∷ others ↦ (record s { untold_nodes = others }, past_news node (listing_of s node))
      | [] ↦ elim marks [
        | mark ∷ others ↦ (record s { untold_marks = others }, done_news s mark (watermark_of s mark))
        | [] ↦ (s, None)
      ]
    ]

    go : (nodes marks : List ℕ) → Placed p (news nodes marks).0
    go (node ∷ nodes) marks = same_placed p s (record s { untold_nodes = nodes }) refl refl refl h
    go [] (mark ∷ marks) = same_placed p s (record s { untold_marks = marks }) refl refl refl h
    go [] [] = h

steps_placed : (p : Settings) → InRange p → (s : SenderState) (event : SenderEvent) → HasFit p s → Placed p s → Placed p (sender_step p s event).0
steps_placed p range s (events.Commanded by job now) fit h = commands_placed p range s by job fit h
steps_placed p range s (events.Delivered datagram now) fit h = heard_placed p s now (decoded datagram) h
steps_placed p range s (events.Ticked now) fit h = tick_keeps p (Placed p) (ticks_placed p) s now h
steps_placed p range s events.NewsAsked fit h = told_placed p s h

-- ---- all of it

pub receivers_many : (p : Settings) (n : ℕ) → length (receivers_of p n) ≡ n
receivers_many p zero = refl
receivers_many p (suc n) =
    let more = length-append (receivers_of p n) ((p.sender + 1 + n) ∷ []) in let before = receivers_many p n in omega (arith, more, before)

opening_reached : (p : Settings) (instance : ℕ) → InRange p → IsReached p (sender_opening p instance)
opening_reached p instance range =
    let listed : length (unlisted (receivers_of p p.receivers)) ≡ length (receivers_of p p.receivers) = length-map (receivers_of p p.receivers) (λ (node : ℕ). record { node = node; past = None }) in
    let many = receivers_many p p.receivers in
    let most = range.receivers.1 in
    record {
      wants = record { rise = tt; of_order = tt; in_window = tt };
      objects = tt;
      indices = omega arith;
      book = record { members = omega (arith, listed, many, most); numbered = refl; rises = tt; outcomes = tt };
      asked = tt;
      listed = unlisted_places (is_source []) (receivers_of p p.receivers);
    }

step_reached : (p : Settings) (s : SenderState) (event : SenderEvent) → InRange p → IsReached p s → IsReached p (sender_step p s event).0
step_reached p s event range h =
    let fit = steps_fit p s event (h.objects, h.indices) in
    let placed = steps_placed p range s event (h.objects, h.indices) (record { asked = h.asked; listed = h.listed }) in
    record {
      wants = step_holds p (blocks_of p range) s event h.wants;
      objects = fit.0;
      indices = fit.1;
      book = steps_book p s event h.book;
      asked = placed.asked;
      listed = placed.listed;
    }

pub reached_laws : ReachedLaws
reached_laws = record {
  at_first = opening_reached;
  always = step_reached;
  quiet = λ p s h e. nothing_told s h.book e;
  symbols = λ p s at range h e. symbol_names p range s.current.order at h.objects h.indices e;
  sources = λ p s at range h e. source_names p range s.current.order at h.objects h.indices e;
}
