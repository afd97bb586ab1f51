-- What an event that the judge of a run that persists accepts is to the judge of journals: an own command, the beginning of a turn, the
-- summary, or what it is in a run that does not persist.
use Rattle.std.proofs.Common.{◌≡◌, ℕ, ◌+◌, Bool, true, false, Option, None, Some, Result, refl, sym, ap, subst, ◌∙◌, inl, inr}
use Rattle.std.specs.Prelude.{◌⊎◌, ◌&&◌, ◌==◌, not}
use Rattle.std.specs.Option.{option_map}
use Rattle.std.proofs.lemmas.Option.{none-some, same_Some}
use Rattle.norm_base.specs.declared.node.Origin.{Origin}
use Rattle.norm_send_rules.specs.declared.fault.SendFault.{SendFault}
use Rattle.norm_send_rules.specs.declared.job.Job.{Job}
use Rattle.norm_send_rules.specs.declared.job.Job.TheVariants as job
use Rattle.norm_send_rules.specs.declared.job.Receipt.{Receipt}
use Rattle.norm_send_rules.specs.declared.news.News.{News}
use Rattle.norm_safety.specs.Events.{Commanded, Gave}
use Rattle.norm_safety.specs.Lawful.{same_origin}
use Rattle.norm_journal.specs.declared.event.Event.{Event}
use Rattle.norm_journal.specs.declared.event.Event.TheVariants as event
use Rattle.norm_journal.specs.Accepting.{accepts, accepts_news, accepts_next}
use Rattle.norm_journal.specs.InWorld.{comes, at, answer_to, world_after}
use Rattle.norm_journal.specs.Judged.{Judged, news_due}
use Rattle.norm_journal.specs.Places.{Place, Between, Over}
use Rattle.norm_journal.specs.Same.{same_answer}
use Rattle.norm_journal.specs.Turns.{is_moment, in_turn}
use Rattle.norm_persist.specs.Accepting.{same_own, own_gave, own_made, accepts_own, turns_persisting, ends_persisting, goes_on, accepts_persisting}
use Rattle.norm_persist.specs.Persisted.{Persisted, led_to, own_due, own_name, is_over}
use Rattle.norm_journal.proofs.NameLemmas.{one_name}
use Rattle.std.proofs.lemmas.Bool.{eqb-true}
use Rattle.norm_persist.proofs.Reasons.{both}
use Rattle.norm_persist.proofs.Tests.{clash}

-- an own command: the one that is due, under the next name, with the sender's answer
pub record IsOwn (x : Persisted) (e : Event) (next : Persisted) : Type 0 where
  pub own : Job
  pub gave : Result Receipt SendFault
  pub quiet : news_due x.judged ≡ None
  pub due : own_due x ≡ Some own
  pub event_is : e ≡ event.Job (own_name x) (Some own) gave
  pub answers : same_answer (answer_to (Commanded (own_name x) own x.judged.now) x.judged) (Gave gave) ≡ true
  pub then : next ≡ own_made x e gave (own_gave gave (world_after (Commanded (own_name x) own x.judged.now) x.judged))

-- the beginning of a turn, or the summary: the world stays
pub record IsBound (x : Persisted) (e : Event) (next : Persisted) : Type 0 where
  pub quiet : news_due x.judged ≡ None
  pub after : Judged
  pub then : next ≡ led_to x e after
  pub bound : ((turn : ℕ) × (now : ℕ) × (e ≡ event.Turn turn now) × (after ≡ in_turn turn now x.judged) × (turn ≡ x.judged.turn + 1)) ⊎ ((e ≡ event.End) × (after ≡ at Over x.judged))

-- what it is in a run that does not persist
pub record IsAsEver (x : Persisted) (e : Event) (next : Persisted) : Type 0 where
  pub after : Judged
  pub accepted : accepts x.judged e ≡ Some after
  pub then : next ≡ led_to x e after

pub data Kind (x : Persisted) (e : Event) (next : Persisted) : Type 0 where
  Own : IsOwn x e next → Kind x e next
  Bound : IsBound x e next → Kind x e next
  AsEver : IsAsEver x e next → Kind x e next

mapped : {X Y : Type 0} (f : X → Y) (o : Option X) (y : Y) → option_map f o ≡ Some y → (z : X) × (o ≡ Some z) × (y ≡ f z)
mapped f None y e = absurd (none-some y e)
mapped f (Some z) y e = (z, refl, sym (same_Some (f z) y e))

tested : {X : Type 0} (b : Bool) (o : Option X) (y : X) → elim b as (λ _. Option X) [ true ↦ o | false ↦ None ] ≡ Some y → (b ≡ true) × (o ≡ Some y)
tested true o y e = (refl, e)
tested false o y e = absurd (none-some y e)

same_job : (a b : Job) → same_own a b ≡ true → a ≡ b
same_job (job.Mark None) (job.Mark None) e = refl
same_job (job.Strike node) (job.Strike other) e = ap job.Strike (eqb-true node other e)
same_job _ _ e = absurd (clash e)

-- what the judge of journals answers, by whether a change is to be told
abbrev judged_by : Option News → Judged → Event → Option Judged
judged_by due j e = elim due as (λ _. Option Judged) [ Some news ↦ accepts_news j e | None ↦ accepts_next j e ]

own_kind : (x : Persisted) (e : Event) (next : Persisted) (due : Job) → news_due x.judged ≡ None → own_due x ≡ Some due → accepts_own due x e ≡ Some next → Kind x e next
own_kind x (event.Job by (Some given) gave) next due quiet is e =
    let two = tested (same_origin (own_name x) by && same_own due given) _ next e in
    let same = both (same_origin (own_name x) by) (same_own due given) two.0 in
    let name : own_name x ≡ by = one_name (own_name x) by same.0 in
    let own : due ≡ given = same_job due given same.1 in
    let made = mapped (λ after. own_made x (event.Job by (Some given) gave) gave (own_gave gave after)) (comes (Commanded by given x.judged.now) (Gave gave) x.judged) next two.1 in
    let came = tested (same_answer (answer_to (Commanded by given x.judged.now) x.judged) (Gave gave)) (Some (world_after (Commanded by given x.judged.now) x.judged)) made.0 made.1 in
    let N : Origin → Type 0 = λ o. same_answer (answer_to (Commanded o given x.judged.now) x.judged) (Gave gave) ≡ true in
    let then = made.2 ∙ ap (λ (j : Judged). own_made x (event.Job by (Some given) gave) gave (own_gave gave j)) (sym (same_Some (world_after (Commanded by given x.judged.now) x.judged) made.0 came.1)) in
    Own (record {
      own = given;
      gave = gave;
      quiet = quiet;
      due = is ∙ ap Some own;
      event_is = ap (λ (o : Origin). event.Job o (Some given) gave) (sym name);
      answers = subst N (sym name) came.0;
      then = then ∙ ap (λ (o : Origin). own_made x (event.Job by (Some given) gave) gave (own_gave gave (world_after (Commanded o given x.judged.now) x.judged))) (sym name);
    })
own_kind x _ next due quiet is e = absurd (none-some next e)

turn_after : (place : Place) (x : Persisted) (turn now : ℕ) (after : Judged) → turns_persisting place x turn now ≡ Some after → after ≡ in_turn turn now x.judged
turn_after Between x turn now after e = let two = tested _ (Some (in_turn turn now x.judged)) after e in sym (same_Some (in_turn turn now x.judged) after two.1)
turn_after _ x turn now after e = absurd (none-some after e)

turn_number : (place : Place) (x : Persisted) (turn now : ℕ) (after : Judged) → turns_persisting place x turn now ≡ Some after → turn ≡ x.judged.turn + 1
turn_number Between x turn now after e =
    let two = tested (turn == x.judged.turn + 1 && is_moment x.judged turn now && not (is_over x)) (Some (in_turn turn now x.judged)) after e in
    let first = both (turn == x.judged.turn + 1 && is_moment x.judged turn now) (not (is_over x)) two.0 in
    eqb-true turn (x.judged.turn + 1) (both (turn == x.judged.turn + 1) (is_moment x.judged turn now) first.0).0
turn_number _ x turn now after e = absurd (none-some after e)

end_after : (place : Place) (x : Persisted) (after : Judged) → ends_persisting place x ≡ Some after → after ≡ at Over x.judged
end_after Between x after e = let two = tested _ (Some (at Over x.judged)) after e in sym (same_Some (at Over x.judged) after two.1)
end_after _ x after e = absurd (none-some after e)

as_ever : (x : Persisted) (e : Event) (after : Judged) (next : Persisted) → news_due x.judged ≡ None → accepts_next x.judged e ≡ Some after → next ≡ led_to x e after → Kind x e next
as_ever x e after next quiet is then = AsEver (record { after = after; accepted = ap (λ due. judged_by due x.judged e) quiet ∙ is; then = then })

other_kind : (x : Persisted) (e : Event) (after : Judged) (next : Persisted) → news_due x.judged ≡ None → goes_on x e ≡ Some after → next ≡ led_to x e after → Kind x e next
other_kind x (event.Turn turn now) after next quiet is then =
    Bound (record { quiet = quiet; after = after; then = then; bound = inl (turn, now, refl, turn_after x.judged.place x turn now after is, turn_number x.judged.place x turn now after is) })
other_kind x event.End after next quiet is then =
    Bound (record { quiet = quiet; after = after; then = then; bound = inr (refl, end_after x.judged.place x after is) })
other_kind x event.Start after next quiet is then = as_ever x event.Start after next quiet is then
other_kind x (event.Pull by) after next quiet is then = as_ever x (event.Pull by) after next quiet is then
other_kind x (event.Job by job gave) after next quiet is then = as_ever x (event.Job by job gave) after next quiet is then
other_kind x (event.Length by name len fault) after next quiet is then = as_ever x (event.Length by name len fault) after next quiet is then
other_kind x (event.Tick node sent) after next quiet is then = as_ever x (event.Tick node sent) after next quiet is then
other_kind x (event.Offer from octets) after next quiet is then = as_ever x (event.Offer from octets) after next quiet is then
other_kind x (event.Took to octets) after next quiet is then = as_ever x (event.Took to octets) after next quiet is then
other_kind x event.Empty after next quiet is then = as_ever x event.Empty after next quiet is then
other_kind x (event.Up node instance up) after next quiet is then = as_ever x (event.Up node instance up) after next quiet is then
other_kind x (event.News news) after next quiet is then = as_ever x (event.News news) after next quiet is then

by_own : (x : Persisted) (e : Event) (next : Persisted) (due : Option Job) → news_due x.judged ≡ None → own_due x ≡ due
    → elim due as (λ _. Option Persisted) [ Some due ↦ accepts_own due x e | None ↦ option_map (led_to x e) (goes_on x e) ] ≡ Some next → Kind x e next
by_own x e next (Some due) quiet is f = own_kind x e next due quiet is f
by_own x e next None quiet is f =
    let found = mapped (led_to x e) (goes_on x e) next f in
    other_kind x e found.0 next quiet found.1 found.2

by_news : (x : Persisted) (e : Event) (next : Persisted) (due : Option News) → news_due x.judged ≡ due
    → elim due as (λ _. Option Persisted) [
      | Some news ↦ option_map (led_to x e) (accepts_news x.judged e)
      | None ↦ elim (own_due x) as (λ _. Option Persisted) [ Some due ↦ accepts_own due x e | None ↦ option_map (led_to x e) (goes_on x e) ]
    ] ≡ Some next → Kind x e next
by_news x e next (Some news) is f =
    let found = mapped (led_to x e) (accepts_news x.judged e) next f in
    AsEver (record { after = found.0; accepted = ap (λ due. judged_by due x.judged e) is ∙ found.1; then = found.2 })
by_news x e next None is f = by_own x e next (own_due x) is refl f

pub kind_of : (x : Persisted) (e : Event) (next : Persisted) → accepts_persisting x e ≡ Some next → Kind x e next
kind_of x e next is = by_news x e next (news_due x.judged) refl is
