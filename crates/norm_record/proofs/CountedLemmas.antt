-- What is counted of a journal, as an event joins.
use Rattle.std.proofs.Common.{◌≡◌, ℕ, ◌+◌, List, [], ◌∷◌, ◌++◌, Bool, false, cond, count_by, refl, sym, subst, ap, ◌∙◌, arith}
use Rattle.std.proofs.lemmas.List.Sums.{sum_by_push}
use Rattle.norm_journal.specs.Counts.{is_expired}
use Rattle.norm_journal.specs.declared.event.Event.{Event}
use Rattle.norm_record.specs.declared.counts.Counts.{Counts}
use Rattle.norm_record.specs.declared.entry.Entry.{Entry}
use Rattle.norm_record.specs.Counted.{is_refused, with_event, AreCounts}
use Rattle.norm_record.specs.Events.{Stores, events_of}

-- one event more
one_more : (test : Event → Bool) (es es' : List Event) (e : Event) → es' ≡ es ++ e ∷ [] → count_by test es' ≡ count_by test es + cond (test e) 1 0
one_more test es es' e is = ap (count_by test) is ∙ sum_by_push (λ x. cond (test x) 1 0) es e

pub counts_join : (counts more : Counts) (es es' : List Event) (e : Event) → es' ≡ es ++ e ∷ [] → more ≡ with_event e counts
    → AreCounts counts es → AreCounts more es'
counts_join counts more es es' e is joins are = subst (λ c. AreCounts c es') (sym joins) (record {
  refused = ap (λ n. n + cond (is_refused e) 1 0) are.refused ∙ sym (one_more is_refused es es' e is);
  expired = ap (λ n. n + cond (is_expired e) 1 0) are.expired ∙ sym (one_more is_expired es es' e is);
})

-- an event that is not counted
pub counts_stay : (counts : Counts) (es es' : List Event) (e : Event) → es' ≡ es ++ e ∷ [] → is_refused e ≡ false → is_expired e ≡ false
    → AreCounts counts es → AreCounts counts es'
counts_stay counts es es' e is no_refusal no_end are = record {
  refused = are.refused ∙ still (count_by is_refused es) ∙ sym (one_more is_refused es es' e is ∙ ap (λ b. count_by is_refused es + cond b 1 0) no_refusal);
  expired = are.expired ∙ still (count_by is_expired es) ∙ sym (one_more is_expired es es' e is ∙ ap (λ b. count_by is_expired es + cond b 1 0) no_end);
}
  where
    still : (n : ℕ) → n ≡ n + 0
    still n = omega arith

-- no event was
pub nothing_counted : (s : Stores) (es : List Entry) → es ≡ [] → AreCounts (record { refused = 0; expired = 0 }) (events_of s es)
nothing_counted s es none =
    subst (λ new. AreCounts (record { refused = 0; expired = 0 }) (events_of s new)) (sym none) (record { refused = refl; expired = refl })
