-- Each event leaves the order of the instance, or lets it grow, or begins another instance.
use Rattle.std.proofs.Common.{◌≡◌, ℕ, zero, suc, ◌<◌, List, [], ◌∷◌, ◌++◌, length, take, Bool, true, false, Option, None, Some, Ok, Err, refl, sym, ap, ◌∙◌, subst, arith, ◌⊎◌, inl, inr}
use Rattle.std.specs.Prelude.{filter, is_none, map, nat_le, unwrap_or}
use Rattle.std.proofs.Math.Nat.{zero-mod}
use Rattle.std.proofs.lemmas.List.{length-map, map-append}
use Rattle.norm_base.specs.Settings.{Settings, InRange}
use Rattle.norm_base.specs.declared.kinds.Kind.TheVariants as kind
use Rattle.norm_base.specs.declared.node.Origin.{Origin}
use Rattle.fec_plan.specs.declared.position.Position.{Position}
use Rattle.norm_ext.specs.Asking.{Count, asked_counts}
use Rattle.norm_ext.specs.InstanceIds.{rise}
use Rattle.norm_ext.specs.Requests.{Request}
use Rattle.norm_order.specs.Entries.{Part, Write, Cut, End, Object, Whole, Stream, Entry}
use Rattle.norm_order.specs.Segments.{since_cut, unclosed, has_end}
use Rattle.norm_order.specs.Shapes.{Shape, shape_of, shapes_of, last_source}
use Rattle.norm_order.proofs.StreamLemmas.{closed_grow}
use Rattle.norm_send_rules.specs.SenderState.{SenderState, Instance}
use Rattle.norm_send_rules.specs.InWindow.{current_shapes}
use Rattle.norm_send_rules.specs.Watermarks.{open_watermarks}
use Rattle.norm_send_rules.specs.Enqueuing.{open_stream, object_fault, joined}
use Rattle.norm_send_rules.specs.Streaming.{open_fault, with_last, with_parts, parts_now, write_fault, close_fault, grown, cut}
use Rattle.norm_send_rules.specs.Marking.{is_no_quorum, most_open, with_watermark, watermark_at, cut_and_marked}
use Rattle.norm_send_rules.specs.Restarting.{first_id, is_used, begun_anew}
use Rattle.norm_send_rules.specs.Striking.{strike_fault, struck_off}
use Rattle.norm_send_rules.specs.Commanding.{commanded}
use Rattle.norm_send_rules.specs.Asking.{asks_for, shapes_at, as_it_came, is_kept}
use Rattle.norm_send_rules.specs.Hearing.{asked_now, heard}
use Rattle.norm_send_rules.specs.Ticking.{ticked}
use Rattle.norm_send_rules.specs.Telling.{told}
use Rattle.norm_send_rules.specs.Reached.{IsReached}
use Rattle.norm_send_rules.specs.SenderStep as events
use Rattle.norm_send_rules.specs.SenderStep.{SenderEvent, sender_step}
use Rattle.norm_send_rules.specs.declared.job.Job.{Job}
use Rattle.norm_send_rules.specs.declared.job.Job.TheVariants as job
use Rattle.norm_send_rules.proofs.CutNames.{cut_range}
use Rattle.norm_send_rules.proofs.ShapeLemmas.{blocks_of}
use Rattle.norm_send_rules.proofs.WantLemmas.{where_free, either, no_row, EndsOpen, ends_open, with_last_is}
use Rattle.norm_safety.proofs.SenderKeeps.{Keeps, heard_keeps, ticked_keeps, told_keeps, struck_keeps}
use Rattle.norm_safety.proofs.CommandSteps.{with_mark, marked_keeps}
use Rattle.norm_safety.proofs.OnceLemmas.{unused_above}
use Rattle.norm_safety.specs.AsItCame.{after, AsksAsItCame}
use Rattle.norm_safety.proofs.ShapesThen.{Longer, Grew, grew_joined, grew_itself, grew_last, grew_both, order_ends, shapes_then}

-- ---- orders that grow

entry_grew : (p : Settings) (order : List Entry) (entry : Entry) → Grew (shapes_of p order) (shapes_of p (order ++ entry ∷ []))
entry_grew p order entry =
    let G : List Shape → Type 0 = λ xs. Grew (shapes_of p order) xs in
    subst G (sym (map-append (λ (x : Entry). shape_of p x.object) order (entry ∷ []))) (grew_joined (shapes_of p order) (shapes_of p (entry ∷ [])))

stream_longer : (p : Settings) → 0 < p.e → (last : Object) (parts more : List Part) → last ≡ Stream parts
    → has_end parts ≡ false → Longer (shape_of p last) (shape_of p (Stream (parts ++ more)))
stream_longer p e_pos last parts more is unended =
    let L : Object → Type 0 = λ o. Longer (shape_of p o) (shape_of p (Stream (parts ++ more))) in
    subst L (sym is) (record { cut = refl; closed = closed_grow p.e parts more e_pos unended; info = refl })

front_grew : (p : Settings) (front : List Entry) (last : Entry) (object : Object) → Longer (shape_of p last.object) (shape_of p object)
    → Grew (shapes_of p (front ++ last ∷ [])) (shapes_of p (with_last object (front ++ last ∷ [])))
front_grew p front last object longer =
    let f : Entry → Shape = λ x. shape_of p x.object in
    let G : List Shape → Type 0 = λ xs. Grew xs (shapes_of p (with_last object (front ++ last ∷ []))) in
    let H : List Entry → Type 0 = λ xs. Grew (map f front ++ f last ∷ []) (shapes_of p xs) in
    let K : List Shape → Type 0 = λ xs. Grew (map f front ++ f last ∷ []) xs in
    subst G (sym (map-append f front (last ∷ [])))
    (subst H (sym (with_last_is object front last))
    (subst K (sym (map-append f front (record last { object = object } ∷ []))) (grew_last (map f front) (f last) (shape_of p object) longer)))

-- an open stream goes on
parts_grew : (p : Settings) → 0 < p.e → (order : List Entry) (parts more : List Part) → EndsOpen order parts
    → Grew (shapes_of p order) (shapes_of p (with_last (Stream (parts ++ more)) order))
parts_grew p e_pos order parts more ends =
    let G : List Entry → Type 0 = λ xs. Grew (shapes_of p xs) (shapes_of p (with_last (Stream (parts ++ more)) xs)) in
    subst G (sym ends.2) (front_grew p ends.0 ends.1 (Stream (parts ++ more)) (stream_longer p e_pos ends.1.object parts more ends.3 ends.4))

-- ---- what an event does to the order

-- the sender goes on in its instance, whose order grew at most
pub record Stays (p : Settings) (s t : SenderState) : Type 0 where
  pub earlier : t.earlier ≡ s.earlier
  pub id : t.current.id ≡ s.current.id
  pub grew : Grew (current_shapes p s) (current_shapes p t)

-- it stays in its instance, or begins another one
abbrev pub Moves : Settings → SenderState → SenderState → Type 0
Moves p s t = Stays p s t ⊎ ((id : ℕ) × (is_used s id ≡ false) × (t ≡ begun_anew id s))

stays_itself : (p : Settings) (s : SenderState) → Stays p s s
stays_itself p s = record { earlier = refl; id = refl; grew = grew_itself (current_shapes p s) }

stays_kept : (p : Settings) (s t u : SenderState) → Stays p s t → Keeps t u → Stays p s u
stays_kept p s t u h keeps =
    let G : Instance → Type 0 = λ i. Grew (current_shapes p s) (shapes_of p i.order) in
    record {
      earlier = keeps.earlier ∙ h.earlier;
      id = ap (λ (i : Instance). i.id) keeps.current ∙ h.id;
      grew = subst G (sym keeps.current) h.grew;
    }

keeps_moves : (p : Settings) (s t : SenderState) → Keeps s t → Moves p s t
keeps_moves p s t keeps = inl (stays_kept p s s t (stays_itself p s) keeps)

joined_moves : (p : Settings) (by : Origin) (object : Object) (s : SenderState) → Moves p s (joined p by object s)
joined_moves p by object s =
    inl (record { earlier = refl; id = refl; grew = entry_grew p s.current.order (record { by = by; object = object }) })

parts_stay : (p : Settings) → 0 < p.e → (s t : SenderState) (parts more : List Part) → open_stream s ≡ Some parts
    → t.earlier ≡ s.earlier → t.current.id ≡ s.current.id → t.current.order ≡ with_last (Stream (parts ++ more)) s.current.order → Stays p s t
parts_stay p e_pos s t parts more e earlier id is =
    let G : List Entry → Type 0 = λ xs. Grew (current_shapes p s) (shapes_of p xs) in
    record { earlier = earlier; id = id; grew = subst G (sym is) (parts_grew p e_pos s.current.order parts more (ends_open s.current.order parts e)) }

grown_moves : (p : Settings) → 0 < p.e → (s : SenderState) (more : List Part) → is_none (open_stream s) ≡ false
    → Moves p s (grown p s (parts_now s ++ more))
grown_moves p e_pos s more there = go (open_stream s) refl there
  where
    go : (found : Option (List Part)) → open_stream s ≡ found → is_none found ≡ false → Moves p s (grown p s (unwrap_or found [] ++ more))
    go None e none = absurd (cc)
    go (Some parts) e some = inl (parts_stay p e_pos s (grown p s (parts ++ more)) parts more e refl refl refl)

cut_stays : (p : Settings) → 0 < p.e → (s : SenderState) → Stays p s (cut p s)
unfolding since_cut
cut_stays p e_pos s = go (open_stream s) refl
  where
    cut_where : ℕ → List Part → SenderState
    cut_where n parts = elim n [ zero ↦ s | suc k ↦ with_parts (parts ++ Cut ∷ []) s ]

    some : (parts : List Part) → open_stream s ≡ Some parts → (n : ℕ) → Stays p s (cut_where n parts)
    some parts e zero = stays_itself p s
    some parts e (suc n) = parts_stay p e_pos s (with_parts (parts ++ Cut ∷ []) s) parts (Cut ∷ []) e refl refl refl

    go : (found : Option (List Part)) → open_stream s ≡ found → Stays p s (cut_where (unclosed p.e (unwrap_or found [])) (unwrap_or found []))
    go None e = let S : ℕ → Type 0 = λ n. Stays p s (cut_where n []) in subst S (sym (zero-mod p.e)) (stays_itself p s)
    go (Some parts) e = some parts e (unclosed p.e parts)

-- a step that is refused where a fault was found
pub by_fault : (Kept : SenderState → Type 0) {F A : Type 0} (found : Option F) (s after : SenderState) (refused : F → A) (given : A) → Kept s
    → (found ≡ None → Kept after) → Kept (where_free found s after refused given).0
by_fault Kept None s after refused given h k = k refl
by_fault Kept (Some fault) s after refused given h k = h

-- and one by a test
pub by_test : (Kept : SenderState → Type 0) {A : Type 0} (b : Bool) (t u : SenderState × A) → (b ≡ true → Kept t.0) → (b ≡ false → Kept u.0)
    → Kept (either b t u).0
by_test Kept true t u h k = h refl
by_test Kept false t u h k = k refl

watermark_stays : (p : Settings) (s t : SenderState) (by : Origin) (quorum : Option ℕ) (found : Option Position) → Stays p s t
    → Stays p s (watermark_at t by quorum found).0
watermark_stays p s t by quorum None h = h
watermark_stays p s t by quorum (Some at) h =
    by_test (Stays p s) (nat_le most_open (length (open_watermarks t))) (t, _) (with_watermark t by quorum at, _) (λ e. h)
    (λ e. stays_kept p s (with_mark by quorum at t) (with_watermark t by quorum at)
    (record { earlier = h.earlier; id = h.id; grew = h.grew }) (marked_keeps by t quorum at))

mark_moves : (p : Settings) → 0 < p.e → (s : SenderState) (by : Origin) (quorum : Option ℕ) → Moves p s (cut_and_marked p s by quorum).0
mark_moves p e_pos s by quorum = inl (watermark_stays p s (cut p s) by quorum (last_source (current_shapes p (cut p s))) (cut_stays p e_pos s))

command_moves : (p : Settings) → 0 < p.e → (s : SenderState) (by : Origin) (job : Job) → Moves p s (commanded p s by job).0
command_moves p e_pos s by (job.Data info bytes) =
    by_fault (Moves p s) (object_fault p s info bytes) s (joined p by (Whole kind.Data info bytes) s) Err (Ok _) (inl (stays_itself p s))
    (λ e. joined_moves p by (Whole kind.Data info bytes) s)
command_moves p e_pos s by (job.File name bytes) =
    by_fault (Moves p s) (object_fault p s (Some name) bytes) s (joined p by (Whole kind.File (Some name) bytes) s) Err (Ok _) (inl (stays_itself p s))
    (λ e. joined_moves p by (Whole kind.File (Some name) bytes) s)
command_moves p e_pos s by job.Open =
    by_fault (Moves p s) (open_fault p s) s (joined p by (Stream []) s) Err (Ok _) (inl (stays_itself p s)) (λ e. joined_moves p by (Stream []) s)
command_moves p e_pos s by (job.Write bytes) =
    let parts = parts_now s ++ Write by bytes ∷ [] in
    by_fault (Moves p s) (write_fault p s bytes parts) s (grown p s parts) Err (Ok _) (inl (stays_itself p s)) (λ e.
    let first = no_row _ _ _ e in
    let second = no_row _ _ _ first.1 in
    grown_moves p e_pos s (Write by bytes ∷ []) (no_row _ _ _ second.1).0)
command_moves p e_pos s by job.Close =
    let parts = parts_now s ++ End ∷ [] in
    by_fault (Moves p s) (close_fault p s parts) s (grown p s parts) Err (Ok _) (inl (stays_itself p s)) (λ e. grown_moves p e_pos s (End ∷ []) (no_row _ _ _ e).0)
command_moves p e_pos s by (job.Mark None) = mark_moves p e_pos s by None
command_moves p e_pos s by (job.Mark (Some q)) =
    by_test (Moves p s) (is_no_quorum p q) (s, _) (cut_and_marked p s by (Some q)) (λ e. inl (stays_itself p s)) (λ e. mark_moves p e_pos s by (Some q))
command_moves p e_pos s by (job.Restart instance) =
    by_test (Moves p s) (is_used s instance) (s, _) (begun_anew instance s, _) (λ e. inl (stays_itself p s)) (λ e. inr (instance, e, refl))
command_moves p e_pos s by (job.Strike node) =
    by_fault (Moves p s) (strike_fault s node) s (struck_off node s) Err (Ok _) (inl (stays_itself p s)) (λ e. keeps_moves p s (struck_off node s) (struck_keeps node s))

pub step_moves : (p : Settings) → 0 < p.e → (s : SenderState) (event : SenderEvent) → Moves p s (sender_step p s event).0
step_moves p e_pos s (events.Commanded by job now) = command_moves p e_pos s by job
step_moves p e_pos s (events.Delivered datagram now) = keeps_moves p s (heard p s datagram now) (heard_keeps p s datagram now)
step_moves p e_pos s (events.Ticked now) = keeps_moves p s (ticked p s now).0 (ticked_keeps p s now)
step_moves p e_pos s events.NewsAsked = keeps_moves p s (told s).0 (told_keeps s)

-- ---- what a run does

-- The first instance stays the first. The sender is in the same instance, whose order grew at most, or in a later one, whose id
-- lies higher above the first one's.
record GoesOn (p : Settings) (s t : SenderState) : Type 0 where
  first : first_id t ≡ first_id s
  where_to : ((t.current.id ≡ s.current.id) × Grew (current_shapes p s) (current_shapes p t)) ⊎ (rise (first_id s) s.current.id < rise (first_id s) t.current.id)

-- the first of instances
abbrev first_of : List Instance → ℕ → ℕ
first_of earlier id = elim earlier [ i ∷ more ↦ i.id | [] ↦ id ]

move_goes : (p : Settings) (s t : SenderState) → Moves p s t → GoesOn p s t
move_goes p s t (inl h) = record {
  first = ap (λ (earlier : List Instance). first_of earlier t.current.id) h.earlier ∙ ap (first_of s.earlier) h.id;
  where_to = inl (h.id, h.grew);
}
move_goes p s t (inr (id, unused, is)) =
    let G : SenderState → Type 0 = λ x. GoesOn p s x in
    subst G (sym is) (record { first = same s.earlier s.current; where_to = inr (unused_above s id unused) })
  where
    same : (earlier : List Instance) (i : Instance) → first_of (earlier ++ i ∷ []) id ≡ first_of earlier i.id
    same [] i = refl
    same (x ∷ earlier) i = refl

goes_both : (p : Settings) (s t u : SenderState) → GoesOn p s t → GoesOn p t u → GoesOn p s u
goes_both p s t u h g = record { first = g.first ∙ h.first; where_to = go h.where_to g.where_to }
  where
    to : SenderState → ℕ
    to x = rise (first_id s) x.current.id

    further : rise (first_id t) t.current.id < rise (first_id t) u.current.id → to t < to u
    further lt = let R : ℕ → Type 0 = λ f. rise f t.current.id < rise f u.current.id in subst R h.first lt

    go : ((t.current.id ≡ s.current.id) × Grew (current_shapes p s) (current_shapes p t)) ⊎ (to s < to t)
        → ((u.current.id ≡ t.current.id) × Grew (current_shapes p t) (current_shapes p u)) ⊎ (rise (first_id t) t.current.id < rise (first_id t) u.current.id)
        → ((u.current.id ≡ s.current.id) × Grew (current_shapes p s) (current_shapes p u)) ⊎ (to s < to u)
    go (inl (id, grew)) (inl (id', grew')) = inl (id' ∙ id, grew_both (current_shapes p s) (current_shapes p t) (current_shapes p u) grew grew')
    go (inl (id, grew)) (inr lt) = inr (let same : to t ≡ to s = ap (rise (first_id s)) id in let more = further lt in omega (arith, same, more))
    go (inr lt) (inl (id', grew')) = inr (let same : to u ≡ to t = ap (rise (first_id s)) id' in omega (arith, same, lt))
    go (inr lt) (inr lt') = inr (let more = further lt' in omega (arith, lt, more))

run_goes : (p : Settings) → 0 < p.e → (s : SenderState) (events : List SenderEvent) → GoesOn p s (after p s events)
unfolding after
run_goes p e_pos s [] = move_goes p s s (inl (stays_itself p s))
run_goes p e_pos s (event ∷ events) =
    let t : SenderState = (sender_step p s event).0 in
    goes_both p s t (after p t events) (move_goes p s t (step_moves p e_pos s event)) (run_goes p e_pos t events)

-- an instance that is the same grew
same_grew : (p : Settings) (s t : SenderState) → GoesOn p s t → t.current.id ≡ s.current.id → Grew (current_shapes p s) (current_shapes p t)
same_grew p s t h same = go h.where_to
  where
    go : ((t.current.id ≡ s.current.id) × Grew (current_shapes p s) (current_shapes p t)) ⊎ (rise (first_id s) s.current.id < rise (first_id s) t.current.id)
        → Grew (current_shapes p s) (current_shapes p t)
    go (inl (id, grew)) = grew
    go (inr lt) = absurd (let is : rise (first_id s) t.current.id ≡ rise (first_id s) s.current.id = ap (rise (first_id s)) same in omega (arith, is, lt))

-- ---- the order as a request came

-- an order that grew, as it was when a request came
pub order_then : (p : Settings) → InRange p → (s : SenderState) (r : Request) (now : List Shape) → IsReached p s → Grew (current_shapes p s) now
    → as_it_came (asked_now p s r) now ≡ current_shapes p s
order_then p range s r now reached grew =
    ap (λ (n : ℕ). shapes_at (last_source (current_shapes p s)) 0 (take n now)) (sym (length-map s.current.order (λ (x : Entry). shape_of p x.object)))
    ∙ shapes_then 0 None (current_shapes p s) now tt (order_ends p (cut_range p range) s.current.order reached.objects) grew

later_order : (p : Settings) (s : SenderState) (r : Request) (events : List SenderEvent) → InRange p → IsReached p s
    → (after p s events).current.id ≡ s.current.id → as_it_came (asked_now p s r) (current_shapes p (after p s events)) ≡ current_shapes p s
later_order p s r events range reached same =
    order_then p range s r (current_shapes p (after p s events)) reached
    (same_grew p s (after p s events) (run_goes p (blocks_of p range).e_pos s events) same)

pub as_it_came_law : AsksAsItCame
as_it_came_law = record {
  order = later_order;
  wants = λ p s r events range reached same.
      ap (λ (shapes : List Shape). asks_for shapes (asked_now p s r).request) (later_order p s r events range reached same);
  counts = λ p s r events range reached same.
      ap (λ (shapes : List Shape). filter (λ (c : Count). is_kept shapes s.current.drop c.of) (asked_counts (asked_now p s r).request))
      (later_order p s r events range reached same);
}
