-- The first event that has something to say.
use Rattle.std.proofs.Common.{◌≡◌, ◌∙◌, ℕ, ◌+◌, ◌≤◌, List, [], ◌∷◌, ◌++◌, length, take, drop, Option, None, Some, refl, sym, ap, subst}
use Rattle.std.specs.Prelude.{slice_get}
use Rattle.std.specs.Option.{option_map}
use Rattle.std.proofs.lemmas.List.{drop_more, take_all, take_more, take-append-drop}
use Rattle.std.proofs.lemmas.Option.{get_or_from_slice_get, slice_get_within}
use Rattle.norm_journal.specs.declared.event.Event.{Event}
use Rattle.norm_folder.specs.Asking.{first_by}

-- nothing was said so far
abbrev pub NoneBy : {X : Type 0} → (Event → Option X) → List Event → Type 0
NoneBy by events = first_by by events ≡ None

first_on : {X : Type 0} (by : Event → Option X) (events more : List Event) → NoneBy by events → first_by by (events ++ more) ≡ first_by by more
first_on by [] more h = refl
first_on {X} by (e ∷ events) more h = go (by e) h (first_on by events more)
  where
    go : (o : Option X) → ◌≡◌ {A = Option X} (elim o [ Some x ↦ Some x | None ↦ first_by by events ]) None
        → (NoneBy by events → first_by by (events ++ more) ≡ first_by by more)
        → ◌≡◌ {A = Option X} (elim o [ Some x ↦ Some x | None ↦ first_by by (events ++ more) ]) (first_by by more)
    go None h on = on h
    go (Some x) h on = absurd (cc)

one_by : {X : Type 0} (by : Event → Option X) (e : Event) (more : List Event) (o : Option X) → by e ≡ o
    → ◌≡◌ {A = Option X} (first_by by (e ∷ more)) (elim o [ Some x ↦ Some x | None ↦ first_by by more ])
one_by {X} by e more o is = ap (λ (p : Option X). elim p [ Some x ↦ Some x | None ↦ first_by by more ]) is

-- an event at a place
there : (events : List Event) (i : ℕ) (e : Event) → slice_get events i ≡ Some e → events ≡ take i events ++ e ∷ drop (i + 1) events
there events i e h =
    sym (take-append-drop i events)
    ∙ ap (λ l. take i events ++ l) (drop_more events i e (slice_get_within events i e h) ∙ ap (λ x. x ∷ drop (i + 1) events) (get_or_from_slice_get events i e e h))

none_more : {X : Type 0} (by : Event → Option X) (events : List Event) (i : ℕ) (e : Event) → slice_get events i ≡ Some e → NoneBy by (take i events)
    → by e ≡ None → NoneBy by (take (i + 1) events)
none_more by events i e at h none =
    let these : take (i + 1) events ≡ take i events ++ e ∷ [] =
    take_more events i e (slice_get_within events i e at) ∙ ap (λ x. take i events ++ x ∷ []) (get_or_from_slice_get events i e e at) in
    ap (first_by by) these ∙ first_on by (take i events) (e ∷ []) h ∙ one_by by e [] None none

some_here : {X : Type 0} (by : Event → Option X) (events : List Event) (i : ℕ) (e : Event) (x : X) → slice_get events i ≡ Some e → NoneBy by (take i events)
    → by e ≡ Some x → first_by by events ≡ Some x
some_here by events i e x at h some =
    ap (first_by by) (there events i e at) ∙ first_on by (take i events) (e ∷ drop (i + 1) events) h ∙ one_by by e (drop (i + 1) events) (Some x) some

pub none_all : {X : Type 0} (by : Event → Option X) (events : List Event) (i : ℕ) → length events ≤ i → NoneBy by (take i events) → first_by by events ≡ None
none_all by events i past h = subst (λ l. NoneBy by l) (take_all i events past) h

-- ---- the event at a place, by what is said of it

pub none_at : {X : Type 0} (by : Event → Option X) (events : List Event) (i : ℕ) → option_map by (slice_get events i) ≡ Some None → NoneBy by (take i events)
    → NoneBy by (take (i + 1) events)
none_at {X} by events i at h = go (slice_get events i) refl at
  where
    go : (o : Option Event) → slice_get events i ≡ o → option_map by o ≡ Some None → NoneBy by (take (i + 1) events)
    go None there said = absurd (cc)
    go (Some e) there said = none_more by events i e there h (cc)

pub some_at : {X : Type 0} (by : Event → Option X) (events : List Event) (i : ℕ) (x : X) → option_map by (slice_get events i) ≡ Some (Some x) → NoneBy by (take i events)
    → first_by by events ≡ Some x
some_at {X} by events i x at h = go (slice_get events i) refl at
  where
    go : (o : Option Event) → slice_get events i ≡ o → option_map by o ≡ Some (Some x) → first_by by events ≡ Some x
    go None there said = absurd (cc)
    go (Some e) there said = some_here by events i e x there h (cc)
