-- What was heard has a bound: a message is heard only if it keeps it.
use Rattle.std.proofs.Common.{◌≡◌, ℕ, ◌+◌, ◌<◌, ◌≤◌, ◌⊎◌, inl, inr, List, [], ◌∷◌, map, length, Bool, true, false, Option, None, Some, Result, Ok, Err, refl, sym, ◌∙◌, arith}
use Rattle.std.specs.Prelude.{◌==◌, ◌&&◌, not, nat_le, max, fold, flat_map, unwrap_or, option_and_then}
use Rattle.std.proofs.lemmas.Bool.Decides.{leb_tells}
use Rattle.norm_base.specs.Settings.{Settings}
use Rattle.fec_plan.specs.Points.{position_before, same_point, point_before}
use Rattle.fec_plan.specs.declared.position.Position.{Position}
use Rattle.norm_ext.specs.Asking.{Span, Count, named, is_proper}
use Rattle.norm_ext.specs.Message.{Message, Info, Data, Flush, Eot, Squelch, RepairAdv, AckReq, Opaque, Nack, Ack, Report}
use Rattle.norm_ext.specs.ObjectIds.{index_named}
use Rattle.norm_ext.specs.Reading.{decoded}
use Rattle.norm_ext.specs.Requests.{Request}
use Rattle.norm_ext.specs.Written.{Written, writes}
use Rattle.norm_receive_rules.specs.AllNeeds.{needs, needs_nothing}
use Rattle.norm_receive_rules.specs.BackingOff.{may_back_off, backs_off, may_need}
use Rattle.norm_receive_rules.specs.BoundLaws.{IsBounded, BoundLaws}
use Rattle.norm_receive_rules.specs.Heard.{Heard, heard_nothing, joined, with_span, with_proper, with_count}
use Rattle.norm_receive_rules.specs.Leaving.{is_in, goes_to, enters}
use Rattle.norm_receive_rules.specs.Nack.{indices_of, fitting, nack_message, ack_message}
use Rattle.norm_receive_rules.specs.Needs.{Need}
use Rattle.norm_receive_rules.specs.Overhearing.{most_heard, asked_all, noted, can_hear, heard_whole, overheard, nack_counts, adv_overheard}
use Rattle.norm_receive_rules.specs.ReceiverState.{ReceiverState}
use Rattle.norm_receive_rules.specs.ReceiverStep.{ReceiverEvent, Delivered, Ticked, UpTaken, receiver_step}
use Rattle.norm_receive_rules.specs.Receiving.{info_received, data_received, flush_received, squelch_received, learns, takes_in, in_instance, message_received}
use Rattle.norm_receive_rules.specs.Ticking.{sends, holds_off, are_heard, asks, asks_where_needed, ends_back_off, ticked}

clash : false ≡ true → ⊥
clash e = cc

-- ---- one more of a kind is at most one longer

span_adds : (x : Span) (spans : List Span) → length (with_span x spans) ≤ length spans + 1
unfolding with_span
span_adds x [] = omega arith
span_adds x (y ∷ spans) = go (position_before y.last x.first) (position_before x.last y.first) (span_adds x spans) (span_adds (joined x y) spans)
  where
    go : (b c : Bool) → length (with_span x spans) ≤ length spans + 1 → length (with_span (joined x y) spans) ≤ length spans + 1
        → length (elim b as (λ _. List Span) [
          | true ↦ y ∷ with_span x spans
          | false ↦ elim c as (λ _. List Span) [ true ↦ x ∷ y ∷ spans | false ↦ with_span (joined x y) spans ]
        ]) ≤ length (y ∷ spans) + 1
    go true c own any = omega (arith, own)
    go false true own any = omega arith
    go false false own any = omega (arith, any)

proper_adds : (spans : List Span) (x : Span) → length (with_proper spans x) ≤ length spans + 1
proper_adds spans x = go (is_proper x)
  where
    go : (b : Bool) → length (elim b as (λ _. List Span) [ true ↦ with_span x spans | false ↦ spans ]) ≤ length spans + 1
    go true = span_adds x spans
    go false = omega arith

spans_add : (spans more : List Span) → length (fold with_proper spans more) ≤ length spans + length more
spans_add spans [] = omega arith
spans_add spans (x ∷ more) = let rest = spans_add (with_proper spans x) more in let one = proper_adds spans x in omega (arith, rest, one)

count_adds : (c : Count) (counts : List Count) → length (with_count c counts) ≤ length counts + 1
unfolding with_count
count_adds c [] = omega arith
count_adds c (x ∷ counts) = go (same_point c.of x.of) (point_before c.of x.of) (count_adds c counts)
  where
    go : (b d : Bool) → length (with_count c counts) ≤ length counts + 1
        → length (elim b as (λ _. List Count) [
          | true ↦ record x { lacking = max x.lacking c.lacking } ∷ counts
          | false ↦ elim d as (λ _. List Count) [ true ↦ c ∷ x ∷ counts | false ↦ x ∷ with_count c counts ]
        ]) ≤ length (x ∷ counts) + 1
    go true d rest = omega arith
    go false true rest = omega arith
    go false false rest = omega (arith, rest)

counts_add : (counts more : List Count) → length (fold (λ (held : List Count) (c : Count). with_count c held) counts more) ≤ length counts + length more
counts_add counts [] = omega arith
counts_add counts (c ∷ more) = let rest = counts_add (with_count c counts) more in let one = count_adds c counts in omega (arith, rest, one)

-- ---- a message more

le_of : (a b : ℕ) → nat_le a b ≡ true → a ≤ b
le_of a b e = go (leb_tells a b)
  where
    go : ((nat_le a b ≡ true) × (a ≤ b)) ⊎ ((nat_le a b ≡ false) × (b < a)) → a ≤ b
    go (inl h) = h.1
    go (inr h) = absurd (clash (sym h.0 ∙ e))

all_three : (a b c : Bool) → (a && b && c) ≡ true → (a ≡ true) × (b ≡ true) × (c ≡ true)
all_three true true true e = (refl, refl, refl)
all_three true true false e = absurd (clash e)
all_three true false c e = absurd (clash e)
all_three false b c e = absurd (clash e)

noted_few : (heard asked : Heard) → can_hear heard asked ≡ true → IsBounded (noted heard asked)
noted_few heard asked e =
    let all = all_three (nat_le (length heard.symbols + length asked.symbols) most_heard) (nat_le (length heard.infos + length asked.infos) most_heard)
    (nat_le (length heard.counts + length asked.counts) most_heard) e in
    let symbols = le_of (length heard.symbols + length asked.symbols) most_heard all.0 in
    let infos = le_of (length heard.infos + length asked.infos) most_heard all.1 in
    let counts = le_of (length heard.counts + length asked.counts) most_heard all.2 in
    let symbols_add = spans_add heard.symbols asked.symbols in
    let infos_add = spans_add heard.infos asked.infos in
    let more = counts_add heard.counts asked.counts in
    record { symbols = omega (arith, symbols, symbols_add); infos = omega (arith, infos, infos_add); counts = omega (arith, counts, more) }

heard_few : (heard asked : Heard) → IsBounded heard → IsBounded (heard_whole heard asked)
heard_few heard asked h = go (can_hear heard asked) refl
  where
    go : (b : Bool) → can_hear heard asked ≡ b → IsBounded (elim b as (λ _. Heard) [ true ↦ noted heard asked | false ↦ heard ])
    go true e = noted_few heard asked e
    go false e = h

nothing_few : IsBounded heard_nothing
nothing_few = record { symbols = omega arith; infos = omega arith; counts = omega arith }

-- ---- every step

abbrev Few : ReceiverState → Type 0
Few s = IsBounded s.knows.heard

-- the state of a tick
abbrev state_of : ReceiverState × Option Written → ReceiverState
state_of step = step.0

tick_few : (p : Settings) (s : ReceiverState) (now : ℕ) → Few s → Few (ticked p s now).0
tick_few p s now h = due s.knows.due
  where
    asked : (wanted : List Need) (t : ReceiverState) → Few t → (all : Bool) → Few (state_of (elim all [
      | true ↦ (record t { knows = holds_off p now t.knows }, None)
      | false ↦ sends (writes (nack_message p t wanted) (flat_map indices_of wanted)) (record t { knows = holds_off p now t.knows })
    ]))
    asked wanted t k true = k
    asked wanted t k false = k

    needed : (t : ReceiverState) → Few t → (none : Bool) → Few (state_of (elim none [
      | true ↦ (t, None)
      | false ↦ asks p now (fitting p (needs p t) None p.e) t
    ]))
    needed t k true = k
    needed t k false = asked (fitting p (needs p t) None p.e) t k (are_heard t (fitting p (needs p t) None p.e))

    ended : (t : ReceiverState) → Few t → (reached : Bool)
        → Few (state_of (elim reached [ true ↦ asks_where_needed p now t | false ↦ (s, None) ]))
    ended t k true = needed t k (needs_nothing p t)
    ended t k false = h

    backed : (backoff : Option ℕ) → Few (state_of (elim backoff [
      | Some ends ↦ elim (nat_le ends now) [
        | true ↦ asks_where_needed p now (record s { knows = record (s.knows) { backoff = None } })
        | false ↦ (s, None)
      ]
      | None ↦ (s, None)
    ]))
    backed None = h
    backed (Some ends) = ended (record s { knows = record (s.knows) { backoff = None } }) h (nat_le ends now)

    due : (at : Option Position) → Few (state_of (elim at [
      | Some at ↦ sends (writes (ack_message p s at) (at.index ∷ [])) (record s { knows = record (s.knows) { due = None } })
      | None ↦ ends_back_off p now s
    ]))
    due None = backed s.knows.backoff
    due (Some at) = h

need_few : (p : Settings) (now draw : ℕ) (s : ReceiverState) → Few s → Few (may_need p now draw s)
need_few p now draw s h = go (may_back_off now s.knows) (needs_nothing p s)
  where
    go : (b c : Bool) → Few (elim b as (λ _. ReceiverState) [ true ↦ elim c [ true ↦ s | false ↦ record s { knows = backs_off p now draw s.knows } ] | false ↦ s ])
    go true true = h
    go true false = nothing_few
    go false c = h

instance_few : (p : Settings) (now draw source id object : ℕ) (brings : ℕ → ReceiverState → ReceiverState) (s : ReceiverState)
    → ((index : ℕ) (t : ReceiverState) → Few t → Few (brings index t)) → Few s → Few (in_instance p now draw source id object brings s)
instance_few p now draw source id object brings s keeps h = go (source == p.sender) (is_in s id) (goes_to s id)
  where
    taken : (t : ReceiverState) → Few t → Few (unwrap_or (takes_in p now draw object brings t) s)
    taken t k = by (index_named p t.knows.known object)
      where
        by : (named : Option ℕ) → Few (unwrap_or (elim named as (λ _. Option ReceiverState) [
          | Some index ↦ Some (may_need p now draw (brings index (record t { knows = learns index t.knows })))
          | None ↦ None
        ]) s)
        by None = h
        by (Some index) =
            need_few p now draw (brings index (record t { knows = learns index t.knows })) (keeps index (record t { knows = learns index t.knows }) k)

    go : (own inside above : Bool) → Few (elim own as (λ _. ReceiverState) [
      | true ↦ unwrap_or (option_and_then (takes_in p now draw object brings)
          (elim inside [ true ↦ Some s | false ↦ elim above [ true ↦ Some (enters id s) | false ↦ None ] ])) s
      | false ↦ s
    ])
    go false inside above = h
    go true true above = taken s h
    go true false true = taken (enters id s) nothing_few
    go true false false = h

where_few : (b : Bool) (s t : ReceiverState) → Few s → Few t → Few (elim b as (λ _. ReceiverState) [ true ↦ t | false ↦ s ])
where_few true s t h k = k
where_few false s t h k = h

overheard_few : (p : Settings) (requests : List Request) (s : ReceiverState) → Few s → Few (overheard p requests s)
overheard_few p requests s h = go s.knows.backoff
  where
    go : (backoff : Option ℕ) → Few (record s {
      knows = elim backoff [
        | Some ends ↦ record (s.knows) { heard = heard_whole s.knows.heard (asked_all (map (named p s.knows.known) requests)) }
        | None ↦ s.knows
      ];
    })
    go (Some ends) = heard_few s.knows.heard (asked_all (map (named p s.knows.known) requests)) h
    go None = h

message_few : {E : Type 0} (p : Settings) (s : ReceiverState) (now draw : ℕ) (said : Result Message E) → Few s → Few (message_received p now draw said s)
message_few p s now draw (Ok (Info m)) h =
    instance_few p now draw m.head.source m.head.instance m.head.object (info_received p m) s (λ index t k. k) h
message_few p s now draw (Ok (Data m)) h =
    instance_few p now draw m.head.source m.head.instance m.head.object (data_received p m) s (λ index t k. k) h
message_few p s now draw (Ok (Flush m)) h =
    instance_few p now draw m.head.source m.head.instance m.object (flush_received m) s (λ index t k. k) h
message_few p s now draw (Ok (Squelch m)) h =
    instance_few p now draw m.head.source m.head.instance m.object (squelch_received p m) s (λ index t k. k) h
message_few p s now draw (Ok (RepairAdv m)) h =
    where_few (m.head.source == p.sender) s (adv_overheard p m s) h
    (where_few (is_in s m.head.instance) s (overheard p m.requests s) h (overheard_few p m.requests s h))
message_few p s now draw (Ok (Nack m)) h = where_few (nack_counts p m s) s (overheard p m.requests s) h (overheard_few p m.requests s h)
message_few p s now draw (Ok (Eot m)) h = h
message_few p s now draw (Ok (AckReq m)) h = h
message_few p s now draw (Ok (Opaque m)) h = h
message_few p s now draw (Ok (Ack m)) h = h
message_few p s now draw (Ok (Report m)) h = h
message_few p s now draw (Err refusal) h = h

steps_few : (p : Settings) (s : ReceiverState) (event : ReceiverEvent) → Few s → Few (receiver_step p s event).0
steps_few p s (Delivered datagram now draw) h = message_few p s now draw (decoded datagram) h
steps_few p s (Ticked now) h = tick_few p s now h
steps_few p s UpTaken h = h

pub bound_laws : BoundLaws
bound_laws = record { begins = λ node. nothing_few; goes_on = steps_few }
