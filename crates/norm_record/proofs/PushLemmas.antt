-- What each kind of push leaves.
use Rattle.std.proofs.Common.{◌≡◌, ℕ, ◌<◌, List, [], ◌∷◌, ◌++◌, length, get_or, Some, refl, sym, subst, ap, ◌∙◌, arith}
use Rattle.std.specs.Prelude.{slice_get}
use Rattle.std.proofs.lemmas.List.{append-nil, length-append, get_or_at}
use Rattle.std.proofs.lemmas.Option.{slice_get_within, get_or_from_slice_get}
use Rattle.norm_journal.specs.declared.event.Event.{Event}
use Rattle.norm_journal.specs.declared.event.Event.TheVariants as event
use Rattle.norm_record.specs.declared.entry.Entry.{Entry}
use Rattle.norm_record.specs.declared.entry.Entry.TheVariants as entry
use Rattle.norm_record.specs.declared.entry.Rare.{Rare}
use Rattle.norm_record.specs.declared.entry.Turn.{Turn}
use Rattle.norm_record.specs.declared.entry.Rare.TheVariants as rare
use Rattle.norm_record.specs.declared.ups.HandUp.{HandUp}
use Rattle.norm_record.specs.Events.{Stores, event_of, events_of, IsThere, IsKept, rare_event, up_event, no_hand_up, turn_event, no_turn}
use Rattle.norm_record.specs.Latest.{IsLatest}
use Rattle.norm_record.specs.HandUps.{IsLatestUp}
use Rattle.norm_record.specs.Offered.{offered}
use Rattle.norm_record.specs.Once.{up_in, UpsKept}
use Rattle.norm_record.proofs.EventLemmas.{same, one_more, Fits, Kept, one_event_more}
use Rattle.norm_record.proofs.OnceLemmas.{other_event, same_up, new_up}

-- one more at the end stands at the place behind all
pub place_behind : {X : Type 0} (old new : List X) (x : X) (at : ℕ) → new ≡ old ++ x ∷ [] → at ≡ length old → at < length new
place_behind old new x at is e = let l = ap length is ∙ length-append old (x ∷ []) in omega (arith, e, l)

pub stands_behind : {X : Type 0} (old new : List X) (x d : X) (at : ℕ) → new ≡ old ++ x ∷ [] → at ≡ length old → get_or new at d ≡ x
stands_behind old new x d at is e = ap (λ xs. get_or xs at d) is ∙ get_or_at old x [] d at (sym e)

-- an event that is no offer
silently : {old : List Event} (s t : Stores) (e : Event) → t.offers ≡ s.offers → offered (e ∷ []) ≡ [] → (s.apart ≡ [] → t.apart ≡ [])
    → UpsKept t.ups (old ++ e ∷ []) → Fits old s t e
silently s t e same silent apart ups = record {
  offers = same ∙ sym (ap (λ xs. s.offers ++ xs) silent ∙ append-nil s.offers);
  apart = λ takes none. apart none;
  ups = ups;
}

-- an event that nothing is kept of but its entry, and that is neither an offer nor a take
plain : (s : Stores) (es es' : List Entry) (entry : Entry) (e : Event) → IsKept s es → es' ≡ es ++ entry ∷ []
    → IsThere s entry → event_of s entry ≡ e → offered (e ∷ []) ≡ [] → UpsKept s.ups (events_of s es ++ e ∷ []) → Kept (events_of s es) s es' e
plain s es es' entry e kept is there event silent ups =
    one_event_more s s es es' entry e kept
    (record { offers = same refl; apart = same refl; ups = same refl; rares = same refl; turns = same refl })
    is there event (silently s s e refl silent (λ none. none) ups)

-- the same where nothing is handed up either
pub quiet : (s : Stores) (es es' : List Entry) (entry : Entry) (e : Event) → IsKept s es → es' ≡ es ++ entry ∷ []
    → IsThere s entry → event_of s entry ≡ e → offered (e ∷ []) ≡ [] → up_in e ≡ [] → Kept (events_of s es) s es' e
quiet s es es' entry e kept is there event silent none =
    plain s es es' entry e kept is there event silent (other_event s.ups (events_of s es) e none kept.ups)

-- a rare event
pub rare_joins : (s : Stores) (es es' : List Entry) (rares : List Rare) (r : Rare) (at : ℕ) → IsKept s es → rares ≡ s.rares ++ r ∷ []
    → at ≡ length s.rares → es' ≡ es ++ entry.Rare at ∷ [] → Kept (events_of s es) (record s { rares = rares }) es' (rare_event r)
rare_joins s es es' rares r at kept is e last =
    one_event_more s (record s { rares = rares }) es es' (entry.Rare at) (rare_event r) kept
    (record { offers = same refl; apart = same refl; ups = same refl; rares = one_more r is; turns = same refl })
    last (place_behind s.rares rares r at is e) (ap rare_event (stands_behind s.rares rares r rare.Start at is e))
    (silently s (record s { rares = rares }) (rare_event r) refl (silent r) (λ none. none) (other_event s.ups (events_of s es) (rare_event r) (no_up r) kept.ups))
  where
    silent : (r : Rare) → offered (rare_event r ∷ []) ≡ []
    silent rare.Start = refl
    silent (rare.Pull by) = refl
    silent (rare.Job by job gave) = refl
    silent (rare.Length by name len fault) = refl
    silent (rare.News news) = refl
    silent rare.End = refl

    no_up : (r : Rare) → up_in (rare_event r) ≡ []
    no_up rare.Start = refl
    no_up (rare.Pull by) = refl
    no_up (rare.Job by job gave) = refl
    no_up (rare.Length by name len fault) = refl
    no_up (rare.News news) = refl
    no_up rare.End = refl

-- a turn
pub turn_joins : (s : Stores) (es es' : List Entry) (turns : List Turn) (turn : Turn) (at : ℕ) → IsKept s es → turns ≡ s.turns ++ turn ∷ []
    → at ≡ length s.turns → es' ≡ es ++ entry.Turn at ∷ [] → Kept (events_of s es) (record s { turns = turns }) es' (turn_event turn)
turn_joins s es es' turns turn at kept is e last =
    one_event_more s (record s { turns = turns }) es es' (entry.Turn at) (turn_event turn) kept
    (record { offers = same refl; apart = same refl; ups = same refl; rares = same refl; turns = one_more turn is })
    last (place_behind s.turns turns turn at is e) (ap turn_event (stands_behind s.turns turns turn no_turn at is e))
    (silently s (record s { turns = turns }) (turn_event turn) refl refl (λ none. none) (other_event s.ups (events_of s es) (turn_event turn) refl kept.ups))

-- an offer
pub offer_joins : (s : Stores) (es es' : List Entry) (offers : List (List ℕ)) (from : ℕ) (octets : List ℕ) (at : ℕ) → IsKept s es
    → offers ≡ s.offers ++ octets ∷ [] → at ≡ length s.offers → es' ≡ es ++ entry.Offer from at ∷ []
    → Kept (events_of s es) (record s { offers = offers }) es' (event.Offer from octets)
offer_joins s es es' offers from octets at kept is e last =
    one_event_more s (record s { offers = offers }) es es' (entry.Offer from at) (event.Offer from octets) kept
    (record { offers = one_more octets is; apart = same refl; ups = same refl; rares = same refl; turns = same refl })
    last (place_behind s.offers offers octets at is e) (ap (event.Offer from) (stands_behind s.offers offers octets [] at is e))
    (record { offers = is; apart = λ takes none. none; ups = other_event s.ups (events_of s es) (event.Offer from octets) refl kept.ups })

-- a take of what was offered
pub take_joins : (s : Stores) (es es' : List Entry) (to : ℕ) (octets : List ℕ) (at : ℕ) → IsKept s es → slice_get s.offers at ≡ Some octets
    → es' ≡ es ++ entry.Took to at ∷ [] → Kept (events_of s es) s es' (event.Took to octets)
take_joins s es es' to octets at kept there last =
    quiet s es es' (entry.Took to at) (event.Took to octets) kept last (slice_get_within s.offers at octets there)
    (ap (event.Took to) (get_or_from_slice_get s.offers at octets [] there)) refl refl

-- a take of what is no latest offer
pub apart_joins : (s : Stores) (es es' : List Entry) (apart : List (List ℕ)) (to : ℕ) (octets : List ℕ) (at : ℕ) → IsKept s es
    → ((place : ℕ) → IsLatest s.offers octets place → ⊥) → apart ≡ s.apart ++ octets ∷ [] → at ≡ length s.apart
    → es' ≡ es ++ entry.Apart to at ∷ [] → Kept (events_of s es) (record s { apart = apart }) es' (event.Took to octets)
apart_joins s es es' apart to octets at kept never is e last =
    one_event_more s (record s { apart = apart }) es es' (entry.Apart to at) (event.Took to octets) kept
    (record { offers = same refl; apart = one_more octets is; ups = same refl; rares = same refl; turns = same refl })
    last (place_behind s.apart apart octets at is e) (ap (event.Took to) (stands_behind s.apart apart octets [] at is e))
    (record {
      offers = sym (append-nil s.offers);
      apart = λ takes none.
          let offered_now = takes (events_of s es) [] to octets refl in
          absurd (never offered_now.place (subst (λ offers. IsLatest offers octets offered_now.place) (sym kept.offers) offered_now.latest));
      ups = other_event s.ups (events_of s es) (event.Took to octets) refl kept.ups;
    })

-- a hand-up that is kept already
pub same_up_joins : (s : Stores) (es es' : List Entry) (node : ℕ) (h : HandUp) (at : ℕ) → IsKept s es → slice_get s.ups at ≡ Some h
    → es' ≡ es ++ entry.Up node at ∷ [] → Kept (events_of s es) s es' (up_event node h)
same_up_joins s es es' node h at kept there last =
    plain s es es' (entry.Up node at) (up_event node h) kept last (slice_get_within s.ups at h there)
    (ap (up_event node) (get_or_from_slice_get s.ups at h no_hand_up there)) refl
    (same_up s.ups (events_of s es) node h at there kept.ups)

-- a hand-up that is new
pub up_joins : (s : Stores) (es es' : List Entry) (ups : List HandUp) (node : ℕ) (h : HandUp) (at : ℕ) → IsKept s es
    → ((place : ℕ) → IsLatestUp s.ups h place → ⊥) → ups ≡ s.ups ++ h ∷ []
    → at ≡ length s.ups → es' ≡ es ++ entry.Up node at ∷ [] → Kept (events_of s es) (record s { ups = ups }) es' (up_event node h)
up_joins s es es' ups node h at kept never is e last =
    one_event_more s (record s { ups = ups }) es es' (entry.Up node at) (up_event node h) kept
    (record { offers = same refl; apart = same refl; ups = one_more h is; rares = same refl; turns = same refl })
    last (place_behind s.ups ups h at is e) (ap (up_event node) (stands_behind s.ups ups h no_hand_up at is e))
    (silently s (record s { ups = ups }) (up_event node h) refl refl (λ none. none)
    (subst (λ new. UpsKept new (events_of s es ++ up_event node h ∷ [])) (sym is) (new_up s.ups (events_of s es) node h never kept.ups)))
