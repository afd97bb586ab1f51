-- Journals event by event: fronts, what they print, and how a run ends.
use Rattle.std.proofs.Common.{◌≡◌, List, [], ◌∷◌, ◌++◌, length, Bool, true, false, Option, None, Some, refl, sym, ap, subst, ◌∙◌, arith, append_assoc}
use Rattle.std.specs.Prelude.{◌==◌, ◌&&◌, option_and_then, IsSome, is_none, IfSome, ℕ}
use Rattle.std.specs.Option.{option_to_list}
use Rattle.std.proofs.lemmas.Option.{none-some, same_Some}
use Rattle.norm_send_rules.specs.Watermarks.{open_watermarks}
use Rattle.norm_send_rules.specs.Ticking.{is_idle}
use Rattle.norm_safety.specs.Events.{Event as WorldEvent}
use Rattle.norm_journal.specs.declared.event.Event.{Event}
use Rattle.norm_journal.specs.Accepting.{accepts, judged_from}
use Rattle.norm_journal.specs.Direct.{IsDirect, taken_with}
use Rattle.norm_journal.specs.Honest.{IsHonest}
use Rattle.norm_journal.specs.WorldEvents.{world_event, world_events, TakesHonestly, TakesDirectly, taken_after}
use Rattle.norm_journal.specs.Judged.{Judged, is_whole}
use Rattle.norm_journal.specs.Places.{Place, Giving, Again, Over}
use Rattle.norm_journal.specs.Printed.{line_of, lines_from}
use Rattle.norm_script.specs.declared.script.Verb.{Verb}
use Rattle.norm_script.specs.declared.script.Verb.TheVariants as verb
use Rattle.norm_journal.specs.Jobs.{Told, may_be_absent}
use Rattle.norm_journal.specs.SessionRun.{Ending, Whole, Spent, Absent, absent_of, ends_in}
use Rattle.norm_journal.specs.Laws.{FrontsAreAccepted, FrontsArePrinted, FrontsHappen, TakesStayHonest, TakesStayDirect, LeavesNothing, WholeIsDone}

clash : false ≡ true → ⊥
clash e = cc

both : (a b : Bool) → (a && b) ≡ true → (a ≡ true) × (b ≡ true)
both true b e = (refl, e)
both false b e = absurd (clash e)

-- what follows in two steps, in one
in_two : {X Y Z : Type 0} (o : Option X) (f : X → Option Z) (g : X → Option Y) (h : Y → Option Z)
    → ((x : X) → f x ≡ option_and_then h (g x)) → option_and_then f o ≡ option_and_then h (option_and_then g o)
in_two None f g h each = refl
in_two (Some x) f g h each = each x

pub judged_from-append : (j : Judged) (front rest : List Event)
    → judged_from j (front ++ rest) ≡ option_and_then (λ next. judged_from next rest) (judged_from j front)
unfolding judged_from
judged_from-append j [] rest = refl
judged_from-append j (e ∷ front) rest =
    in_two (accepts j e) (λ next. judged_from next (front ++ rest)) (λ next. judged_from next front) (λ next. judged_from next rest)
    (λ next. judged_from-append next front rest)

begins : {X Y : Type 0} (o : Option X) (f : X → Option Y) (p : Option Y) → p ≡ option_and_then f o → IsSome p → IsSome o
begins None f (Some y) same some = absurd (none-some y (sym same))
begins None f None same some = some
begins (Some x) f p same some = refl

pub fronts_accepted : FrontsAreAccepted
fronts_accepted j front rest some =
    begins (judged_from j front) (λ next. judged_from next rest) (judged_from j (front ++ rest)) (judged_from-append j front rest) some

-- the lines from what an event leaves, if it may come
abbrev lines_after : Option Judged → List Event → List (List ℕ)
lines_after o events = elim o [ Some next ↦ lines_from next events | None ↦ [] ]

lines_on : (o : Option Judged) (events front rest : List Event) (last : Judged) → option_and_then (λ next. judged_from next front) o ≡ Some last
    → ((next : Judged) → judged_from next front ≡ Some last → lines_from next (front ++ rest) ≡ lines_from next front ++ lines_from last rest)
    → lines_after o (front ++ rest) ≡ lines_after o front ++ lines_from last rest
lines_on None events front rest last is each = absurd (none-some last is)
lines_on (Some next) events front rest last is each = each next is

fronts_print : (j last : Judged) (front rest : List Event) → judged_from j front ≡ Some last
    → lines_from j (front ++ rest) ≡ lines_from j front ++ lines_from last rest
unfolding judged_from lines_from
fronts_print j last [] rest is = ap (λ (x : Judged). lines_from x rest) (same_Some j last is)
fronts_print j last (e ∷ front) rest is =
    ap (λ more. option_to_list (line_of j e) ++ more)
    (lines_on (accepts j e) front front rest last is (λ next so. fronts_print next last front rest so))
    ∙ sym (append_assoc (option_to_list (line_of j e)) (lines_after (accepts j e) front) (lines_from last rest))

pub fronts_printed : FrontsArePrinted
fronts_printed j next front rest is = fronts_print j next front rest is

-- the world's events from what an event leaves, if it may come
abbrev pub events_after : Option Judged → List Event → List WorldEvent
events_after o events = elim o [ Some next ↦ world_events next events | None ↦ [] ]

events_on : (o : Option Judged) (front rest : List Event)
    → ((next : Judged) → world_events next (front ++ rest) ≡ world_events next front ++ events_after (judged_from next front) rest)
    → events_after o (front ++ rest) ≡ events_after o front ++ events_after (option_and_then (λ next. judged_from next front) o) rest
events_on None front rest each = refl
events_on (Some next) front rest each = each next

pub fronts_happen : FrontsHappen
unfolding judged_from world_events
fronts_happen j [] rest = refl
fronts_happen j (e ∷ front) rest =
    ap (λ more. option_to_list (world_event j e) ++ more) (events_on (accepts j e) front rest (λ next. fronts_happen next front rest))
    ∙ sym (append_assoc (option_to_list (world_event j e)) (events_after (accepts j e) front) (events_after (judged_from j (e ∷ front)) rest))

-- whatever may come after the last event, there is nothing more to ask of it
nothing_more : (o : Option Judged) → IfSome o (λ next. TakesHonestly next [])
unfolding TakesHonestly
nothing_more None = tt
nothing_more (Some next) = tt

honest_on : (o : Option Judged) (front : List Event) (last : Judged) (e : Event) → option_and_then (λ next. judged_from next front) o ≡ Some last
    → IfSome o (λ next. TakesHonestly next front)
    → ((next : Judged) → judged_from next front ≡ Some last → TakesHonestly next front → TakesHonestly next (front ++ e ∷ []))
    → IfSome o (λ next. TakesHonestly next (front ++ e ∷ []))
honest_on None front last e is honest each = absurd (none-some last is)
honest_on (Some next) front last e is honest each = each next is honest

pub takes_stay_honest : TakesStayHonest
unfolding judged_from TakesHonestly
takes_stay_honest j last [] e is honest more = (subst (λ (x : Judged). IsHonest x e) (sym (same_Some j last is)) more, nothing_more (accepts j e))
takes_stay_honest j last (x ∷ front) e is honest more =
    (honest.0, honest_on (accepts j x) front last e is honest.1 (λ next so here. takes_stay_honest next last front e so here more))

nothing_taken : (taken : ℕ) (o : Option Judged) → IfSome o (λ next. TakesDirectly taken next [])
unfolding TakesDirectly
nothing_taken taken None = tt
nothing_taken taken (Some next) = tt

direct_on : (taken : ℕ) (o : Option Judged) (front : List Event) (last : Judged) (e : Event) → option_and_then (λ next. judged_from next front) o ≡ Some last
    → IfSome o (λ next. TakesDirectly taken next front)
    → ((next : Judged) → judged_from next front ≡ Some last → TakesDirectly taken next front → TakesDirectly taken next (front ++ e ∷ []))
    → IfSome o (λ next. TakesDirectly taken next (front ++ e ∷ []))
direct_on taken None front last e is direct each = absurd (none-some last is)
direct_on taken (Some next) front last e is direct each = each next is direct

pub takes_stay_direct : TakesStayDirect
unfolding judged_from TakesDirectly taken_after
takes_stay_direct taken j last [] e is direct more =
    (subst (λ (x : Judged). IsDirect taken x e) (sym (same_Some j last is)) more, nothing_taken (taken_with taken e) (accepts j e))
takes_stay_direct taken j last (x ∷ front) e is direct more = (
  direct.0,
  direct_on (taken_with taken x) (accepts j x) front last e is direct.1
      (λ next so here. takes_stay_direct (taken_with taken x) next last front e so here more),
)

no_items : {X : Type 0} (xs : List X) → (length xs == 0) ≡ true → xs ≡ []
no_items [] e = refl
no_items (x ∷ xs) e = absurd (grind arith)

is_no : {X : Type 0} (o : Option X) → is_none o ≡ true → o ≡ None
is_no None e = refl
is_no (Some x) e = absurd (clash e)

leaves_nothing : (j : Judged) → is_whole j ≡ true → LeavesNothing j
leaves_nothing j e =
    let last = both (length j.left == 0 && is_none j.waiting && length (open_watermarks j.world.sender) == 0) (is_idle j.profile j.world.sender) e in
    let watermarks = both (length j.left == 0 && is_none j.waiting) (length (open_watermarks j.world.sender) == 0) last.0 in
    let pulled = both (length j.left == 0) (is_none j.waiting) watermarks.0 in
    record {
      pulled = no_items j.left pulled.0;
      waiting = is_no j.waiting pulled.1;
      watermarks = no_items (open_watermarks j.world.sender) watermarks.1;
      idle = last.1;
    }

spent_or_whole : (whole : Bool) → ◌≡◌ {A = Option Ending} (elim whole [ true ↦ Some Whole | false ↦ Some Spent ]) (Some Whole) → whole ≡ true
spent_or_whole true e = refl
spent_or_whole false e = absurd (cc)

absent_or_whole : (absent : Bool) (name : List ℕ) → ◌≡◌ {A = Option Ending} (elim absent [ true ↦ Some (Absent name) | false ↦ None ]) (Some Whole) → ⊥
absent_or_whole true name e = cc
absent_or_whole false name e = cc

no_file_whole : (files : Told) (v : Verb) → absent_of files v ≡ Some Whole → ⊥
no_file_whole files (verb.File name) e = absent_or_whole (may_be_absent files name) name e
no_file_whole files _ e = none-some Whole e

whole_at : (place : Place) (j : Judged) → ends_in place j ≡ Some Whole → is_whole j ≡ true
whole_at Over j e = spent_or_whole (is_whole j) e
whole_at (Giving line) j e = absurd (no_file_whole j.files line.verb e)
whole_at (Again line) j e = absurd (no_file_whole j.files line.verb e)
whole_at _ j e = absurd (none-some Whole e)

pub whole_done : WholeIsDone
whole_done j e = leaves_nothing j (whole_at j.place j e)
