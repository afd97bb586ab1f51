-- Runs that persist, event by event.
use Rattle.std.proofs.Common.{◌≡◌, [], ◌∷◌, ◌++◌, false, Option, None, Some, refl, sym, ap, ◌∙◌}
use Rattle.std.specs.Prelude.{option_and_then}
use Rattle.std.specs.Option.{option_map}
use Rattle.norm_send_rules.specs.declared.job.Job.{Job}
use Rattle.norm_send_rules.specs.declared.news.News.{News}
use Rattle.norm_journal.specs.declared.event.Event.{Event}
use Rattle.norm_journal.specs.declared.event.Event.TheVariants as event
use Rattle.norm_journal.specs.Accepting.{accepts_news, accepts_next}
use Rattle.norm_journal.specs.Judged.{Judged, news_due}
use Rattle.norm_persist.specs.Accepting.{accepts_own, goes_on, accepts_persisting, persisted_from}
use Rattle.norm_persist.specs.Laws.{RunsByFronts, OthersAsEver, is_bound}
use Rattle.norm_persist.specs.Persisted.{Persisted, led_to, own_due}
use Rattle.norm_persist.proofs.Tests.{clash}

-- what follows in two steps, in one
in_two : {X Y Z : Type 0} (o : Option X) (f : X → Option Z) (g : X → Option Y) (h : Y → Option Z)
    → ((x : X) → f x ≡ option_and_then h (g x)) → option_and_then f o ≡ option_and_then h (option_and_then g o)
in_two None f g h each = refl
in_two (Some x) f g h each = each x

pub runs_by_fronts : RunsByFronts
unfolding persisted_from
runs_by_fronts x [] rest = refl
runs_by_fronts x (e ∷ front) rest =
    in_two (accepts_persisting x e) (λ next. persisted_from next (front ++ rest)) (λ next. persisted_from next front) (λ next. persisted_from next rest)
    (λ next. runs_by_fronts next front rest)

next_as_ever : (x : Persisted) (e : Event) → is_bound e ≡ false → goes_on x e ≡ accepts_next x.judged e
next_as_ever x event.Start plain = refl
next_as_ever x (event.Turn turn now) plain = absurd (clash (sym plain))
next_as_ever x (event.Pull by) plain = refl
next_as_ever x (event.Job by job gave) plain = refl
next_as_ever x (event.Length by name len fault) plain = refl
next_as_ever x (event.Tick node sent) plain = refl
next_as_ever x (event.Offer from octets) plain = refl
next_as_ever x (event.Took to octets) plain = refl
next_as_ever x event.Empty plain = refl
next_as_ever x (event.Up node instance up) plain = refl
next_as_ever x (event.News news) plain = refl
next_as_ever x event.End plain = absurd (clash (sym plain))

pub others_as_ever : OthersAsEver
others_as_ever x e none plain = by (news_due x.judged)
  where
    by : (due : Option News)
        → elim due as (λ _. Option Persisted) [
          | Some news ↦ option_map (led_to x e) (accepts_news x.judged e)
          | None ↦ elim (own_due x) as (λ _. Option Persisted) [ Some due ↦ accepts_own due x e | None ↦ option_map (led_to x e) (goes_on x e) ]
        ] ≡ option_map (led_to x e) (elim due as (λ _. Option Judged) [ Some news ↦ accepts_news x.judged e | None ↦ accepts_next x.judged e ])
    by (Some news) = refl
    by None =
        ap (λ (o : Option Job). elim o as (λ _. Option Persisted) [ Some due ↦ accepts_own due x e | None ↦ option_map (led_to x e) (goes_on x e) ]) none
        ∙ ap (option_map (led_to x e)) (next_as_ever x e plain)
