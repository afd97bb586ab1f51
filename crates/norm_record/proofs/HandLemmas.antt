-- What is kept of the hand-ups, as an event joins.
use Rattle.std.proofs.Common.{◌≡◌, ℕ, List, [], ◌∷◌, ◌++◌, length, get_or, map, All, Some, refl, sym, subst, ap, ◌∙◌}
use Rattle.std.specs.Prelude.{slice_get}
use Rattle.std.proofs.lemmas.List.{append-nil, map-append}
use Rattle.std.proofs.lemmas.List.Concat.{flat_map-append}
use Rattle.std.proofs.lemmas.List.Elements.{All-head, All-tail, All-append, All-weaker, All-cons}
use Rattle.std.proofs.lemmas.Option.{slice_get_within, slice_get-get_or, get_or_from_slice_get}
use Rattle.norm_order.specs.declared.up.Up.{Up}
use Rattle.norm_journal.specs.declared.event.Event.{Event}
use Rattle.norm_record.specs.declared.entry.Entry.{Entry}
use Rattle.norm_record.specs.declared.entry.Hand.{Hand}
use Rattle.norm_record.specs.declared.entry.Rare.{Rare}
use Rattle.norm_record.specs.declared.entry.Rare.TheVariants as rare
use Rattle.norm_record.specs.declared.ups.HandUp.{HandUp}
use Rattle.norm_record.specs.Events.{Stores, events_of, rare_event, up_event, no_hand_up}
use Rattle.norm_record.specs.HandedUp.{handed_by, handed_up, IsAmong, hand_of, HandsKept}
use Rattle.norm_record.proofs.EventLemmas.{Grown, same, one_more, at_place, longer, all_of_none}
use Rattle.norm_record.proofs.PushLemmas.{place_behind, stands_behind}

-- an event that hands nothing up
pub hands_stay : (ups : List HandUp) (hands : List Hand) (es es' : List Event) (e : Event) → es' ≡ es ++ e ∷ [] → handed_by e ≡ []
    → HandsKept ups hands es → HandsKept ups hands es'
hands_stay ups hands es es' e is none kept = record {
  there = kept.there;
  are = kept.are ∙ sym (ap handed_up is ∙ flat_map-append handed_by es (e ∷ []) ∙ ap (λ xs. handed_up es ++ (xs ++ [])) none ∙ append-nil (handed_up es));
}

-- a rare event hands nothing up
pub rare_hands : (r : Rare) → handed_by (rare_event r) ≡ []
rare_hands rare.Start = refl
rare_hands (rare.Pull by) = refl
rare_hands (rare.Job by job gave) = refl
rare_hands (rare.Length by name len fault) = refl
rare_hands (rare.News news) = refl
rare_hands rare.End = refl

-- what is kept reads the same as more is kept
same_hands : (ups more : List HandUp) (hands : List Hand) → Grown ups more → All (IsAmong ups) hands → map (hand_of more) hands ≡ map (hand_of ups) hands
same_hands ups more [] grown there = refl
same_hands ups more (hand ∷ hands) grown there =
    ap (λ (h : HandUp). (hand.node, h.up) ∷ map (hand_of more) hands) (at_place no_hand_up hand.at grown (All-head (IsAmong ups) hand hands there))
    ∙ ap (λ xs. hand_of ups hand ∷ xs) (same_hands ups more hands grown (All-tail (IsAmong ups) hand hands there))

-- a node hands up what stands at a place
hand_joins : (ups more : List HandUp) (hands now : List Hand) (es es' : List Event) (node at : ℕ) (h : HandUp) → Grown ups more
    → slice_get more at ≡ Some h → now ≡ hands ++ record { node = node; at = at } ∷ [] → es' ≡ es ++ up_event node h ∷ []
    → HandsKept ups hands es → HandsKept more now es'
hand_joins ups more hands now es es' node at h grown there is events kept =
    subst (λ new. HandsKept more new es') (sym is) (record {
      there = All-append (IsAmong more) hands (hand ∷ []) (All-weaker (IsAmong ups) (IsAmong more) (λ x lt. longer x.at grown lt) hands kept.there)
          (All-cons (IsAmong more) hand [] (slice_get_within more at h there) (all_of_none (IsAmong more)));
      are = map-append (hand_of more) hands (hand ∷ [])
          ∙ ap (λ xs. xs ++ hand_of more hand ∷ []) (same_hands ups more hands grown kept.there ∙ kept.are)
          ∙ ap (λ (x : HandUp). handed_up es ++ (node, x.up) ∷ []) (get_or_from_slice_get more at h no_hand_up there)
          ∙ sym (ap handed_up events ∙ flat_map-append handed_by es (up_event node h ∷ []));
    })
  where
    hand : Hand
    hand = record { node = node; at = at }

-- a hand-up that is kept already
pub known_hand : (ups : List HandUp) (hands now : List Hand) (es es' : List Event) (node at : ℕ) (h : HandUp) → slice_get ups at ≡ Some h
    → now ≡ hands ++ record { node = node; at = at } ∷ [] → es' ≡ es ++ up_event node h ∷ [] → HandsKept ups hands es → HandsKept ups now es'
known_hand ups hands now es es' node at h there is events kept = hand_joins ups ups hands now es es' node at h (same refl) there is events kept

-- a hand-up that is new
pub new_hand : (ups more : List HandUp) (hands now : List Hand) (es es' : List Event) (node at : ℕ) (h : HandUp) → more ≡ ups ++ h ∷ []
    → at ≡ length ups → now ≡ hands ++ record { node = node; at = at } ∷ [] → es' ≡ es ++ up_event node h ∷ []
    → HandsKept ups hands es → HandsKept more now es'
new_hand ups more hands now es es' node at h grown last is events kept =
    hand_joins ups more hands now es es' node at h (one_more h grown)
    (slice_get-get_or more at h (place_behind ups more h at grown last) ∙ ap Some (stands_behind ups more h h at grown last)) is events kept

-- nothing was handed up
pub no_hands : (s : Stores) (hands : List Hand) (es : List Entry) → hands ≡ [] → es ≡ [] → HandsKept s.ups hands (events_of s es)
no_hands s hands es none nothing =
    subst (λ new. HandsKept s.ups new (events_of s es)) (sym none)
    (subst (λ new. HandsKept s.ups [] (events_of s new)) (sym nothing) (record { there = all_of_none (IsAmong s.ups); are = refl }))
