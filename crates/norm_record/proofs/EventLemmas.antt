-- What is kept stands for the same events as it grows, and one entry more for one event more.
use Rattle.std.proofs.Common.{◌≡◌, ℕ, ◌<◌, List, [], ◌∷◌, ◌++◌, length, get_or, map, All, refl, sym, subst, ap, ◌∙◌, arith, rules}
use Rattle.std.proofs.lemmas.List.{append-nil, append_assoc, map-append, length-append, get_or_append_left}
use Rattle.std.proofs.lemmas.List.Elements.{All-head, All-tail, All-append, All-weaker, All-cons}
use Rattle.std.proofs.lemmas.List.Concat.{flat_map-append}
use Rattle.norm_journal.specs.Projections.{offer_of, offers_in}
use Rattle.norm_journal.specs.declared.event.Event.{Event}
use Rattle.norm_journal.specs.declared.event.Event.TheVariants as event
use Rattle.norm_record.specs.declared.entry.Entry.{Entry}
use Rattle.norm_record.specs.declared.entry.Entry.TheVariants as entry
use Rattle.norm_record.specs.declared.entry.Rare.TheVariants as rare
use Rattle.norm_record.specs.Events.{Stores, event_of, events_of, IsThere, IsKept, rare_event, up_event, no_hand_up, turn_event, no_turn}
use Rattle.norm_record.specs.Offered.{offered, TakesOffered}
use Rattle.norm_record.specs.Once.{UpsKept}
use Rattle.norm_record.proofs.OnceLemmas.{no_ups}

-- a list that only grew at its end
pub record Grown {X : Type 0} (old new : List X) : Type 0 where
  pub more : List X
  pub is : new ≡ old ++ more

pub same : {X : Type 0} {old new : List X} → new ≡ old → Grown old new
same {X} {old} {new} e = record { more = []; is = e ∙ sym (append-nil old) }

pub one_more : {X : Type 0} {old new : List X} (x : X) → new ≡ old ++ x ∷ [] → Grown old new
one_more x e = record { more = x ∷ []; is = e }

-- what stood at a place stands there still
pub at_place : {X : Type 0} {old new : List X} (d : X) (at : ℕ) → Grown old new → at < length old → get_or new at d ≡ get_or old at d
at_place {X} {old} {new} d at g lt = ap (λ xs. get_or xs at d) g.is ∙ get_or_append_left old g.more d at lt

pub longer : {X : Type 0} {old new : List X} (at : ℕ) → Grown old new → at < length old → at < length new
longer {X} {old} {new} at g lt = let e = ap length g.is ∙ length-append old g.more in omega (arith, e, lt)

-- each store grew
pub record Extends (s t : Stores) : Type 0 where
  pub offers : Grown s.offers t.offers
  pub apart : Grown s.apart t.apart
  pub ups : Grown s.ups t.ups
  pub rares : Grown s.rares t.rares
  pub turns : Grown s.turns t.turns

still_there : (s t : Stores) → Extends s t → (e : Entry) → IsThere s e → IsThere t e
still_there s t x (entry.Turn at) h = longer at x.turns h
still_there s t x (entry.Tick node sent) h = h
still_there s t x (entry.Offer from at) h = longer at x.offers h
still_there s t x (entry.Took to at) h = longer at x.offers h
still_there s t x (entry.Apart to at) h = longer at x.apart h
still_there s t x entry.Empty h = h
still_there s t x (entry.Up node at) h = longer at x.ups h
still_there s t x (entry.Rare at) h = longer at x.rares h

same_event : (s t : Stores) → Extends s t → (e : Entry) → IsThere s e → event_of t e ≡ event_of s e
same_event s t x (entry.Turn at) h = ap turn_event (at_place no_turn at x.turns h)
same_event s t x (entry.Tick node sent) h = refl
same_event s t x (entry.Offer from at) h = ap (event.Offer from) (at_place [] at x.offers h)
same_event s t x (entry.Took to at) h = ap (event.Took to) (at_place [] at x.offers h)
same_event s t x (entry.Apart to at) h = ap (event.Took to) (at_place [] at x.apart h)
same_event s t x entry.Empty h = refl
same_event s t x (entry.Up node at) h = ap (up_event node) (at_place no_hand_up at x.ups h)
same_event s t x (entry.Rare at) h = ap rare_event (at_place rare.Start at x.rares h)

same_events : (s t : Stores) → Extends s t → (es : List Entry) → All (IsThere s) es → events_of t es ≡ events_of s es
same_events s t x [] h = refl
same_events s t x (e ∷ es) h =
    ap (λ first. first ∷ events_of t es) (same_event s t x e (All-head (IsThere s) e es h))
    ∙ ap (λ rest. event_of s e ∷ rest) (same_events s t x es (All-tail (IsThere s) e es h))

pub all_of_none : {X : Type 0} (P : X → Type 0) → All P []
all_of_none P = search rules

-- what is kept after one more entry, for one more event
abbrev pub Kept : List Event → Stores → List Entry → Event → Type 0
Kept old t es e = IsKept t es × (events_of t es ≡ old ++ e ∷ [])

-- what the new offers, takes and hand-ups have to be
pub record Fits (old : List Event) (s t : Stores) (e : Event) : Type 0 where
  pub offers : t.offers ≡ s.offers ++ offered (e ∷ [])
  pub apart : TakesOffered (old ++ e ∷ []) → s.apart ≡ [] → t.apart ≡ []
  pub ups : UpsKept t.ups (old ++ e ∷ [])

offered-append : (es fs : List Event) → offered (es ++ fs) ≡ offered es ++ offered fs
offered-append es fs =
    ap (map (λ (offer : ℕ × List ℕ). offer.1)) (flat_map-append offer_of es fs)
    ∙ map-append (λ (offer : ℕ × List ℕ). offer.1) (offers_in es) (offers_in fs)

takes_before : (old : List Event) (e : Event) → TakesOffered (old ++ e ∷ []) → TakesOffered old
takes_before old e takes before after to octets is =
    takes before (after ++ e ∷ []) to octets
    (ap (λ xs. xs ++ e ∷ []) is ∙ append_assoc before (event.Took to octets ∷ after) (e ∷ []))

pub one_event_more : (s t : Stores) (es es' : List Entry) (entry : Entry) (e : Event) → IsKept s es → Extends s t → es' ≡ es ++ entry ∷ []
    → IsThere t entry → event_of t entry ≡ e → Fits (events_of s es) s t e → Kept (events_of s es) t es' e
one_event_more s t es es' entry e kept x is there event fits =
    subst (λ new. Kept (events_of s es) t new e) (sym is) (
      record {
        there = All-append (IsThere t) es (entry ∷ []) (All-weaker (IsThere s) (IsThere t) (still_there s t x) es kept.there)
            (All-cons (IsThere t) entry [] there (all_of_none (IsThere t)));
        offers = fits.offers ∙ ap (λ xs. xs ++ offered (e ∷ [])) kept.offers ∙ sym (offered-append (events_of s es) (e ∷ [])) ∙ ap offered (sym events);
        apart = λ takes. let now = subst TakesOffered events takes in fits.apart now (kept.apart (takes_before (events_of s es) e now));
        ups = subst (UpsKept t.ups) (sym events) fits.ups;
      },
      events,
    )
  where
    events : events_of t (es ++ entry ∷ []) ≡ events_of s es ++ e ∷ []
    events =
        map-append (event_of t) es (entry ∷ [])
        ∙ ap (λ xs. xs ++ event_of t entry ∷ []) (same_events s t x es kept.there)
        ∙ ap (λ x. events_of s es ++ x ∷ []) event

-- nothing is kept
pub nothing_kept : (s : Stores) (es : List Entry) → s.offers ≡ [] → s.apart ≡ [] → s.ups ≡ [] → es ≡ [] → IsKept s es
nothing_kept s es offers apart ups none =
    subst (IsKept s) (sym none) (record {
      there = all_of_none (IsThere s);
      offers = offers;
      apart = λ takes. apart;
      ups = subst (λ new. UpsKept new []) (sym ups) no_ups;
    })
