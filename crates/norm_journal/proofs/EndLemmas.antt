-- The end of a journal: its summary.
use Rattle.std.proofs.Common.{◌≡◌, Bool, true, false, Option, None, Some, refl, ap, subst, ◌∙◌}
use Rattle.std.proofs.lemmas.Option.{none-some, same_Some}
use Rattle.norm_send_rules.specs.declared.news.News.{News}
use Rattle.norm_journal.specs.declared.event.Event.{Event}
use Rattle.norm_journal.specs.declared.event.Event.TheVariants as event
use Rattle.norm_journal.specs.Accepting.{accepts, accepts_news, accepts_next}
use Rattle.norm_journal.specs.InWorld.{at}
use Rattle.norm_journal.specs.Judged.{Judged, is_done, news_due}
use Rattle.norm_journal.specs.Laws.{EndsLast}
use Rattle.norm_journal.specs.Places.{Place, Between, Over}
use Rattle.norm_journal.specs.Turns.{ends_at}

over_next : (j : Judged) (e : Event) → accepts_next (at Over j) e ≡ None
over_next j event.Start = refl
over_next j (event.Turn turn now) = refl
over_next j (event.Pull by) = refl
over_next j (event.Job by (Some job) gave) = refl
over_next j (event.Job by None gave) = refl
over_next j (event.Length by name len fault) = refl
over_next j (event.Tick node sent) = refl
over_next j (event.Offer from octets) = refl
over_next j (event.Took to octets) = refl
over_next j event.Empty = refl
over_next j (event.Up node instance up) = refl
over_next j (event.News news) = refl
over_next j event.End = refl

-- what the judge answers, by whether a change is to be told
abbrev answered : Option News → Judged → Event → Option Judged
answered due j e = elim due [ Some news ↦ accepts_news j e | None ↦ accepts_next j e ]

-- the last turn was done, and nothing comes after this state
abbrev IsLast : Judged → Judged → Type 0
IsLast j last = (is_done j ≡ true) × ((e : Event) → accepts last e ≡ None)

done_last : (b : Bool) (j last : Judged) → is_done j ≡ b → news_due j ≡ None → elim b [ true ↦ Some (at Over j) | false ↦ None ] ≡ Some last → IsLast j last
done_last true j last done none is = (
  done,
  λ e. subst (λ (x : Judged). accepts x e ≡ None) (same_Some (at Over j) last is) (ap (λ due. answered due (at Over j) e) none ∙ over_next j e),
)
done_last false j last done none is = absurd (none-some last is)

end_at : (place : Place) (j last : Judged) → news_due j ≡ None → ends_at place j ≡ Some last → IsLast j last
end_at Between j last none is = done_last (is_done j) j last refl none is
end_at _ j last none is = absurd (none-some last is)

by_news : (due : Option News) (j last : Judged) → news_due j ≡ due → answered due j event.End ≡ Some last → IsLast j last
by_news (Some news) j last due is = absurd (none-some last is)
by_news None j last due is = end_at j.place j last due is

pub ends_last : EndsLast
ends_last j last is = by_news (news_due j) j last refl is
