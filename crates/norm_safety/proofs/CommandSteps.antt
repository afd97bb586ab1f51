-- What a command does to the orders: it adds its own origin at most, a new instance has a new id, and all keep their places.
use Rattle.std.proofs.Common.{◌≡◌, ℕ, zero, suc, ◌+◌, List, [], ◌∷◌, ◌++◌, length, Bool, true, false, Option, None, Some, Result, Ok, Err, refl, sym, ap, ◌∙◌, subst, append_assoc, arith, ◌⊎◌, inl, inr}
use Rattle.std.specs.Prelude.{map, nat_le, is_ok, is_none, unwrap_or}
use Rattle.std.proofs.lemmas.List.{append-nil, map-append}
use Rattle.norm_base.specs.Settings.{Settings}
use Rattle.norm_base.specs.declared.kinds.Kind.TheVariants as kind
use Rattle.norm_base.specs.declared.node.Origin.{Origin}
use Rattle.fec_plan.specs.declared.position.Position.{Position}
use Rattle.norm_order.specs.First.{first_where}
use Rattle.norm_order.specs.Entries.{Part, Write, Cut, End, Object, Whole, Stream, Entry}
use Rattle.norm_order.specs.Segments.{unclosed, since_cut}
use Rattle.norm_order.specs.Shapes.{last_source}
use Rattle.norm_send_rules.specs.SenderState.{SenderState, Instance, Watermark, begun}
use Rattle.norm_send_rules.specs.InWindow.{current_shapes}
use Rattle.norm_send_rules.specs.Restarting.{instances, is_used, begun_anew, restarted}
use Rattle.norm_send_rules.specs.Enqueuing.{open_stream, object_fault, joined}
use Rattle.norm_send_rules.specs.Streaming.{open_fault, parts_now, with_parts, write_fault, close_fault, grown, wrote, closed, cut, with_last}
use Rattle.norm_send_rules.specs.Marking.{is_no_quorum, most_open, with_watermark, watermark_at, cut_and_marked, marked}
use Rattle.norm_send_rules.specs.Striking.{strike_fault, struck_off, strikes}
use Rattle.norm_send_rules.specs.Watermarks.{open_watermarks}
use Rattle.norm_send_rules.specs.Commanding.{commanded, answered}
use Rattle.norm_send_rules.specs.declared.news.Outcome.TheVariants.{Cut as CutOff}
use Rattle.norm_send_rules.specs.declared.fault.EnqueueFault.{EnqueueFault}
use Rattle.norm_send_rules.specs.declared.fault.MarkFault.TheVariants.{TooMany, Quorum}
use Rattle.norm_send_rules.specs.declared.fault.StrikeFault.{StrikeFault}
use Rattle.norm_send_rules.specs.declared.fault.SendFault.{SendFault}
use Rattle.norm_send_rules.specs.declared.fault.SendFault.TheVariants.{Enqueue, Mark, Strike, IdUsed}
use Rattle.norm_send_rules.specs.declared.job.Job.{Job}
use Rattle.norm_send_rules.specs.declared.job.Job.TheVariants as job
use Rattle.norm_send_rules.specs.declared.job.Receipt.{Receipt}
use Rattle.norm_send_rules.specs.declared.job.Receipt.TheVariants as receipt
use Rattle.norm_safety.specs.OnceEach.{origin_of_part, origins_of, origins, instance_ids}
use Rattle.norm_safety.proofs.SenderKeeps.{bys, Keeps, keeps_all, ended_by, counted_keeps, settled_keeps, struck_keeps}
use Rattle.norm_safety.proofs.EntryLemmas.{PlacesKept, AllKept, append_places, with_last_places, current_kept, begun_kept, origins_in, origins_of_all, origins_last, origins_entry, origins_with_last, EndsOpen, ends_open}

-- An accepted command may add its origin, once; a refused one adds none.
abbrev pub Adds : Origin → Bool → List Origin → List Origin → Type 0
Adds by accepted old new =
    (new ≡ old) ⊎ ((accepted ≡ true) × (front : List Origin) × (back : List Origin) × (old ≡ front ++ back) × (new ≡ front ++ by ∷ back))

-- The instances stay, or one more begins whose id was not used.
abbrev pub IdsGo : SenderState → SenderState → Type 0
IdsGo s new =
    (instance_ids new ≡ instance_ids s) ⊎ ((id : ℕ) × (is_used s id ≡ false) × (instance_ids new ≡ instance_ids s ++ id ∷ []))

-- what a command does to the orders
pub record Goes (by : Origin) (s : SenderState) (new : SenderState) (accepted : Bool) : Type 0 where
  pub origins : Adds by accepted (origins s) (origins new)
  pub ids : IdsGo s new
  pub places : AllKept (instances s) (instances new)

-- all origins, by parts
abbrev total : List Instance → List Origin → List Origin → List Origin
total earlier current watermarks = (origins_of_all earlier ++ current) ++ watermarks

total_is : (s : SenderState) → origins s ≡ total s.earlier (origins_in s.current.order) (bys s.watermarks)
total_is s = ap (λ (xs : List Origin). xs ++ bys s.watermarks) (origins_last s.earlier s.current)

pub kept_all : (all : List Instance) → AllKept all all
kept_all all id index test stays h = h

pub same_instances : (s new : SenderState) → Keeps s new → instances new ≡ instances s
same_instances s new h =
    ap (λ (xs : List Instance). xs ++ new.current ∷ []) h.earlier ∙ ap (λ (x : Instance). s.earlier ++ x ∷ []) h.current

pub keeps_origins : (s new : SenderState) → Keeps s new → origins new ≡ origins s
keeps_origins s new h =
    ap (λ (xs : List Instance). origins_of_all xs ++ bys new.watermarks) (same_instances s new h)
    ∙ ap (λ (xs : List Origin). origins_of_all (instances s) ++ xs) h.by

pub keeps_ids : (s new : SenderState) → Keeps s new → instance_ids new ≡ instance_ids s
keeps_ids s new h = ap (λ (xs : List Instance). map (λ (i : Instance). i.id) xs) (same_instances s new h)

pub keeps_goes : (by : Origin) (s new : SenderState) (accepted : Bool) → Keeps s new → Goes by s new accepted
keeps_goes by s new accepted h =
    let K : List Instance → Type 0 = λ all. AllKept (instances s) all in
    record {
      origins = inl (keeps_origins s new h);
      ids = inl (keeps_ids s new h);
      places = subst K (sym (same_instances s new h)) (kept_all (instances s));
    }

-- The current instance goes on with another order, and the rest stays.
pub record OrderGoes (s new : SenderState) : Type 0 where
  pub earlier : new.earlier ≡ s.earlier
  pub id : new.current.id ≡ s.current.id
  pub by : bys new.watermarks ≡ bys s.watermarks
  pub places : PlacesKept s.current.order new.current.order

same_ids : (s new : SenderState) → OrderGoes s new → instance_ids new ≡ instance_ids s
same_ids s new h =
    ap (λ (xs : List Instance). map (λ (i : Instance). i.id) (xs ++ new.current ∷ [])) h.earlier
    ∙ map-append (λ (i : Instance). i.id) s.earlier (new.current ∷ [])
    ∙ ap (λ (id : ℕ). map (λ (i : Instance). i.id) s.earlier ++ id ∷ []) h.id
    ∙ sym (map-append (λ (i : Instance). i.id) s.earlier (s.current ∷ []))

all_places : (s new : SenderState) → OrderGoes s new → AllKept (instances s) (instances new)
all_places s new h =
    let K : List Instance → Type 0 = λ earlier. AllKept (instances s) (earlier ++ new.current ∷ []) in
    let L : ℕ → Type 0 = λ id. AllKept (instances s)
    (s.earlier ++ record { id = id; order = new.current.order; drop = new.current.drop } ∷ []) in
    subst K (sym h.earlier) (subst L (sym h.id)
    (current_kept s.earlier s.current.id s.current.order new.current.order s.current.drop new.current.drop h.places))

-- all origins where the current order has these more
total_more : (s new : SenderState) (more : List Origin) → OrderGoes s new → origins_in new.current.order ≡ origins_in s.current.order ++ more
    → origins new ≡ (origins_of_all s.earlier ++ origins_in s.current.order) ++ (more ++ bys s.watermarks)
total_more s new more h e =
    total_is new
    ∙ ap (λ (xs : List Instance). total xs (origins_in new.current.order) (bys new.watermarks)) h.earlier
    ∙ ap (λ (xs : List Origin). total s.earlier xs (bys new.watermarks)) e
    ∙ ap (λ (xs : List Origin). total s.earlier (origins_in s.current.order ++ more) xs) h.by
    ∙ ap (λ (xs : List Origin). xs ++ bys s.watermarks) (sym (append_assoc (origins_of_all s.earlier) (origins_in s.current.order) more))
    ∙ append_assoc (origins_of_all s.earlier ++ origins_in s.current.order) more (bys s.watermarks)

quiet_goes : (by : Origin) (s new : SenderState) (accepted : Bool) → OrderGoes s new
    → origins_in new.current.order ≡ origins_in s.current.order ++ [] → Goes by s new accepted
quiet_goes by s new accepted h e = record {
  origins = inl (total_more s new [] h e ∙ sym (total_is s));
  ids = inl (same_ids s new h);
  places = all_places s new h;
}

adding_goes : (by : Origin) (s new : SenderState) → OrderGoes s new
    → origins_in new.current.order ≡ origins_in s.current.order ++ by ∷ [] → Goes by s new true
adding_goes by s new h e = record {
  origins = inr (refl, origins_of_all s.earlier ++ origins_in s.current.order, bys s.watermarks, total_is s, total_more s new (by ∷ []) h e);
  ids = inl (same_ids s new h);
  places = all_places s new h;
}

-- an object or a stream joins the order
joined_goes : (p : Settings) (by : Origin) (object : Object) (s : SenderState)
    → origins_of (record { by = by; object = object }) ≡ by ∷ [] → Goes by s (joined p by object s) true
joined_goes p by object s e = adding_goes by s (joined p by object s)
    (record { earlier = refl; id = refl; by = refl; places = append_places s.current.order (record { by = by; object = object } ∷ []) })
    (origins_entry s.current.order by object e)

-- the open stream has one part more
parts_goes : (by : Origin) (part : Part) (accepted : Bool) (parts : List Part) (s new : SenderState) → EndsOpen s.current.order parts
    → new.earlier ≡ s.earlier → new.current.id ≡ s.current.id → bys new.watermarks ≡ bys s.watermarks
    → new.current.order ≡ with_last (Stream (parts ++ part ∷ [])) s.current.order
    → (origin_of_part part ≡ []) ⊎ ((accepted ≡ true) × (origin_of_part part ≡ by ∷ []))
    → Goes by s new accepted
parts_goes by part accepted parts s new ends earlier id same order adds = go adds
  where
    places : PlacesKept s.current.order new.current.order
    places =
        let P : List Entry → Type 0 = λ before. PlacesKept before (with_last (Stream (parts ++ part ∷ [])) before) in
        let Q : List Entry → Type 0 = λ after. PlacesKept s.current.order after in
        subst Q (sym order) (subst P (sym ends.is) (with_last_places parts (part ∷ []) ends.front ends.by))

    goes_on : OrderGoes s new
    goes_on = record { earlier = earlier; id = id; by = same; places = places }

    more : origins_in new.current.order ≡ origins_in s.current.order ++ origin_of_part part
    more =
        ap origins_in order
        ∙ ap (λ (before : List Entry). origins_in (with_last (Stream (parts ++ part ∷ [])) before)) ends.is
        ∙ origins_with_last ends.front ends.by parts part
        ∙ ap (λ (before : List Entry). origins_in before ++ origin_of_part part) (sym ends.is)

    go : (origin_of_part part ≡ []) ⊎ ((accepted ≡ true) × (origin_of_part part ≡ by ∷ [])) → Goes by s new accepted
    go (inl none) = quiet_goes by s new accepted goes_on (more ∙ ap (λ (xs : List Origin). origins_in s.current.order ++ xs) none)
    go (inr (is, one)) =
        let G : Bool → Type 0 = λ b. Goes by s new b in
        subst G (sym is) (adding_goes by s new goes_on (more ∙ ap (λ (xs : List Origin). origins_in s.current.order ++ xs) one))

-- a part's step answers this receipt where there is no fault
abbrev pub where_free : Option EnqueueFault → SenderState → SenderState → Receipt → SenderState × Result Receipt SendFault
where_free found s after receipt = answered Enqueue (elim found [ Some fault ↦ (s, Err fault) | None ↦ (after, Ok receipt) ])

-- what a whole step does
abbrev pub StepGoes : Origin → SenderState → SenderState × Result Receipt SendFault → Type 0
StepGoes by s step = Goes by s step.0 (is_ok step.1)

free_goes : (by : Origin) (found : Option EnqueueFault) (s after : SenderState) (receipt : Receipt)
    → (found ≡ None → Goes by s after true) → StepGoes by s (where_free found s after receipt)
free_goes by None s after receipt h = h refl
free_goes by (Some fault) s after receipt h = keeps_goes by s s false (keeps_all s)

-- a table without a row that applies has none in its first row, and none in the others
pub first_none : (b : Bool) (x : EnqueueFault) (rows : List (Bool × EnqueueFault)) → first_where ((b, x) ∷ rows) ≡ None
    → (b ≡ false) × (first_where rows ≡ None)
unfolding first_where
first_none true x rows e = absurd (cc)
first_none false x rows e = (refl, e)

-- a value that is there
some_of : {X : Type 0} (o : Option X) → is_none o ≡ false → (x : X) × (o ≡ Some x)
some_of None e = absurd (cc)
some_of (Some x) e = (x, refl)

-- the parts of an open stream that is there
pub open_parts_now : (s : SenderState) → is_none (open_stream s) ≡ false → EndsOpen s.current.order (parts_now s)
open_parts_now s e =
    let found = some_of (open_stream s) e in
    ends_open s.current.order (parts_now s) (found.1 ∙ ap (λ (o : Option (List Part)). Some (unwrap_or o [])) (sym found.1))

grown_goes : (p : Settings) (by : Origin) (part : Part) (s : SenderState) → is_none (open_stream s) ≡ false
    → (origin_of_part part ≡ []) ⊎ ((true ≡ true) × (origin_of_part part ≡ by ∷ []))
    → Goes by s (grown p s (parts_now s ++ part ∷ [])) true
grown_goes p by part s e adds =
    parts_goes by part true (parts_now s) s (grown p s (parts_now s ++ part ∷ [])) (open_parts_now s e) refl refl refl refl adds

wrote_goes : (p : Settings) (s : SenderState) (by : Origin) (octets : List ℕ) → StepGoes by s (answered Enqueue (wrote p s by octets))
wrote_goes p s by octets =
    let parts = parts_now s ++ Write by octets ∷ [] in
    free_goes by (write_fault p s octets parts) s (grown p s parts) _ (λ none. (
    let first = first_none _ _ _ none in
    let second = first_none _ _ _ first.1 in
    let third = first_none _ _ _ second.1 in
    grown_goes p by (Write by octets) s third.0 (inr (refl, refl))
    ))

closed_goes : (p : Settings) (s : SenderState) (by : Origin) → StepGoes by s (answered Enqueue (closed p s))
closed_goes p s by =
    let parts = parts_now s ++ End ∷ [] in
    free_goes by (close_fault p s parts) s (grown p s parts) _ (λ none. grown_goes p by End s (first_none _ _ _ none).0 (inl refl))

-- an open stream is cut, or there is nothing to cut
pub no_parts : (e : ℕ) → unclosed e [] ≡ 0
unfolding since_cut
no_parts e = omega arith

cut_goes : (p : Settings) (by : Origin) (s : SenderState) (accepted : Bool) → Goes by s (cut p s) accepted
cut_goes p by s accepted = found (open_stream s) refl
  where
    cuts : (n : ℕ) → is_none (open_stream s) ≡ false → Goes by s (elim n [ zero ↦ s | suc n ↦ with_parts (parts_now s ++ Cut ∷ []) s ]) accepted
    cuts zero e = keeps_goes by s s accepted (keeps_all s)
    cuts (suc n) e = parts_goes by Cut accepted (parts_now s) s (with_parts (parts_now s ++ Cut ∷ []) s) (open_parts_now s e) refl refl refl refl (inl refl)

    found : (o : Option (List Part)) → open_stream s ≡ o → Goes by s (cut p s) accepted
    found None e =
        let nothing : unclosed p.e (parts_now s) ≡ 0 = ap (λ (o : Option (List Part)). unclosed p.e (unwrap_or o [])) e ∙ no_parts p.e in
        let G : ℕ → Type 0 = λ n. Goes by s (elim n [ zero ↦ s | suc n ↦ with_parts (parts_now s ++ Cut ∷ []) s ]) accepted in
        subst G (sym nothing) (keeps_goes by s s accepted (keeps_all s))
    found (Some parts) e = cuts (unclosed p.e (parts_now s)) (ap is_none e)

-- after a step that adds no origin, one that may, and begins no instance
goes_after : (by : Origin) (s between new : SenderState) (accepted : Bool) → Goes by s between false → Goes by between new accepted
    → instance_ids new ≡ instance_ids between → Goes by s new accepted
goes_after by s between new accepted h g f = record {
  origins = both h.origins g.origins;
  ids = more h.ids;
  places = λ id index test stays was. g.places id index test stays (h.places id index test stays was);
}
  where
    both : Adds by false (origins s) (origins between) → Adds by accepted (origins between) (origins new) → Adds by accepted (origins s) (origins new)
    both (inr (is, front, back, was, now)) next = absurd (cc)
    both (inl same) (inl too) = inl (too ∙ same)
    both (inl same) (inr (is, front, back, was, now)) = inr (is, front, back, sym same ∙ was, now)

    more : IdsGo s between → IdsGo s new
    more (inl same) = inl (f ∙ same)
    more (inr (id, unused, e)) = inr (id, unused, f ∙ e)

-- the state with one more watermark, before it is settled
abbrev pub with_mark : Origin → Option ℕ → Position → SenderState → SenderState
with_mark by quorum at s = record s { watermarks = s.watermarks ++ record { mark = length s.watermarks + 1; by = by; at = at; quorum = quorum; ended = None } ∷ [] }

pub marked_keeps : (by : Origin) (s : SenderState) (quorum : Option ℕ) (at : Position) → Keeps (with_mark by quorum at s) (with_watermark s by quorum at)
marked_keeps by s quorum at =
    counted_keeps s (with_mark by quorum at s) _ (settled_keeps (with_mark by quorum at s) (with_mark by quorum at s) (keeps_all (with_mark by quorum at s)))

marked_goes : (by : Origin) (s : SenderState) (quorum : Option ℕ) (at : Position) → Goes by s (with_watermark s by quorum at) true
marked_goes by s quorum at = record {
  origins = inr (
    refl,
    origins s,
    [],
    sym (append-nil (origins s)),
    (
        keeps_origins (with_mark by quorum at s) (with_watermark s by quorum at) (marked_keeps by s quorum at)
        ∙ ap (λ (xs : List Origin). origins_of_all (instances s) ++ xs) (map-append (λ (w : Watermark). w.by) s.watermarks _)
        ∙ sym (append_assoc (origins_of_all (instances s)) (bys s.watermarks) (by ∷ []))
        ),
  );
  ids = inl (keeps_ids (with_mark by quorum at s) (with_watermark s by quorum at) (marked_keeps by s quorum at));
  places = (keeps_goes by (with_mark by quorum at s) (with_watermark s by quorum at) true (marked_keeps by s quorum at)).places;
}

cut_mark_goes : (p : Settings) (by : Origin) (s : SenderState) (quorum : Option ℕ) (found : Option Position)
    → StepGoes by s (answered Mark (watermark_at (cut p s) by quorum found))
cut_mark_goes p by s quorum None = cut_goes p by s false
cut_mark_goes p by s quorum (Some at) = go (nat_le most_open (length (open_watermarks (cut p s))))
  where
    go : (many : Bool) → StepGoes by s (answered Mark (elim many [
      | true ↦ (cut p s, Err (TooMany (length (open_watermarks (cut p s)))))
      | false ↦ (with_watermark (cut p s) by quorum at, Ok (receipt.Mark (length (cut p s).watermarks + 1) at))
    ]))
    go true = cut_goes p by s false
    go false = goes_after by s (cut p s) (with_watermark (cut p s) by quorum at) true (cut_goes p by s false) (marked_goes by (cut p s) quorum at)
        (keeps_ids (with_mark by quorum at (cut p s)) (with_watermark (cut p s) by quorum at) (marked_keeps by (cut p s) quorum at))

mark_goes : (p : Settings) (by : Origin) (s : SenderState) (quorum : Option ℕ) → StepGoes by s (answered Mark (marked p s by quorum))
mark_goes p by s None = cut_mark_goes p by s None (last_source (current_shapes p (cut p s)))
mark_goes p by s (Some q) = go (is_no_quorum p q)
  where
    go : (none : Bool) → StepGoes by s (answered Mark (elim none [ true ↦ (s, Err (Quorum q)) | false ↦ cut_and_marked p s by (Some q) ]))
    go true = keeps_goes by s s false (keeps_all s)
    go false = cut_mark_goes p by s (Some q) (last_source (current_shapes p (cut p s)))

strike_goes : (by : Origin) (s : SenderState) (node : ℕ) → StepGoes by s (answered Strike (strikes s node))
strike_goes by s node = go (strike_fault s node)
  where
    go : (found : Option StrikeFault) → StepGoes by s (answered Strike (elim found [ Some fault ↦ (s, Err fault) | None ↦ (struck_off node s, Ok (receipt.Struck node)) ]))
    go (Some fault) = keeps_goes by s s false (keeps_all s)
    go None = keeps_goes by s (struck_off node s) true (struck_keeps node s)

-- a restart
anew_goes : (by : Origin) (id : ℕ) (s : SenderState) → is_used s id ≡ false → Goes by s (begun_anew id s) true
anew_goes by id s unused = record {
  origins = inl (
      ap (λ (xs : List Origin). origins_of_all (instances s ++ begun id ∷ []) ++ xs) (ended_by (λ w. true) (λ w. CutOff) s.watermarks)
      ∙ ap (λ (xs : List Origin). xs ++ bys s.watermarks) (origins_last (instances s) (begun id) ∙ append-nil (origins_of_all (instances s)))
      );
  ids = inr (id, unused, map-append (λ (i : Instance). i.id) (instances s) (begun id ∷ []));
  places = begun_kept (instances s) id;
}

restart_goes : (by : Origin) (s : SenderState) (id : ℕ) → StepGoes by s (restarted s id)
restart_goes by s id = go (is_used s id) refl
  where
    go : (used : Bool) → is_used s id ≡ used → StepGoes by s (elim used [
      | true ↦ (s, Err (IdUsed id))
      | false ↦ (begun_anew id s, Ok (receipt.Restarted id))
    ])
    go true e = keeps_goes by s s false (keeps_all s)
    go false e = anew_goes by id s e

-- Each command adds its own origin at most, and where it is accepted.
pub command_goes : (p : Settings) (s : SenderState) (by : Origin) (job : Job) → StepGoes by s (commanded p s by job)
command_goes p s by (job.Data info bytes) =
    free_goes by (object_fault p s info bytes) s (joined p by (Whole kind.Data info bytes) s) _ (λ none. joined_goes p by (Whole kind.Data info bytes) s refl)
command_goes p s by (job.File name bytes) =
    free_goes by (object_fault p s (Some name) bytes) s (joined p by (Whole kind.File (Some name) bytes) s) _
    (λ none. joined_goes p by (Whole kind.File (Some name) bytes) s refl)
command_goes p s by job.Open = free_goes by (open_fault p s) s (joined p by (Stream []) s) _ (λ none. joined_goes p by (Stream []) s refl)
command_goes p s by (job.Write bytes) = wrote_goes p s by bytes
command_goes p s by job.Close = closed_goes p s by
command_goes p s by (job.Mark quorum) = mark_goes p by s quorum
command_goes p s by (job.Restart id) = restart_goes by s id
command_goes p s by (job.Strike node) = strike_goes by s node
