-- A journal is counted.
use Rattle.std.proofs.Common.{◌≡◌, ℕ, ◌+◌, List, [], ◌∷◌, Bool, true, false, cond, Ok, refl, sym, ap, subst, ◌∙◌, arith}
use Rattle.std.specs.Prelude.{◌==◌, count_by, sum_by}
use Rattle.std.proofs.lemmas.Option.{same_Some, option_and_then_some}
use Rattle.std.proofs.lemmas.List.Sums.{sum_by-append}
use Rattle.norm_order.specs.declared.up.Up.TheVariants as up
use Rattle.norm_send_rules.specs.declared.job.Receipt.TheVariants as receipt
use Rattle.norm_send_rules.specs.declared.news.News.TheVariants as news
use Rattle.norm_send_rules.specs.declared.news.Outcome.TheVariants as outcome
use Rattle.norm_journal.specs.declared.event.Event.{Event}
use Rattle.norm_journal.specs.declared.event.Event.TheVariants as event
use Rattle.norm_journal.specs.declared.totals.Totals.{Totals}
use Rattle.norm_journal.specs.Accepting.{accepts, judged_from}
use Rattle.norm_journal.specs.Counts.{is_accepted, octets_in, is_handed, is_lost, is_satisfied, is_expired, is_cut, Counts, JournalIsCounted}
use Rattle.norm_journal.specs.Follows.{Follows}
use Rattle.norm_journal.specs.Judged.{Judged}
use Rattle.norm_journal.specs.Takes.{is_receiver}
use Rattle.norm_journal.specs.Totals.{with_gave, with_up, with_news}
use Rattle.norm_journal.proofs.FollowLemmas.{judges_what_follows}

-- the counts after an event
abbrev counted : Event → Totals → Totals
counted (event.Job by job gave) t = with_gave gave t
counted (event.Up node instance up) t = with_up up t
counted (event.News news) t = with_news news t
counted _ t = t

-- a delivery counts nothing
abbrev one_of : Bool → Bool → Judged → Judged → Judged → Judged
one_of sender receiver j a b = elim sender [ true ↦ a | false ↦ elim receiver [ true ↦ b | false ↦ j ] ]

delivered_counts : (sender receiver : Bool) (j a b : Judged) → a.totals ≡ j.totals → b.totals ≡ j.totals → (one_of sender receiver j a b).totals ≡ j.totals
delivered_counts true receiver j a b e f = e
delivered_counts false true j a b e f = f
delivered_counts false false j a b e f = refl

abbrev totals_of : Judged → Totals
totals_of j = j.totals

follows_counts : (j next : Judged) (e : Event) → Follows j e next → next.totals ≡ counted e j.totals
follows_counts j next event.Start f = ap totals_of f.1.then
follows_counts j next (event.Turn turn now) f = ap totals_of f.1.then
follows_counts j next (event.Pull by) f = ap totals_of f.1.then
follows_counts j next (event.Job by job gave) f = ap totals_of f.1.then
follows_counts j next (event.Length by name len fault) f = ap totals_of f.1.then
follows_counts j next (event.Tick node sent) f = ap totals_of f.1.then
follows_counts j next (event.Offer from octets) f = ap totals_of f.1.then
follows_counts j next (event.Took to octets) f =
    ap totals_of f.1.then ∙ delivered_counts (to == j.profile.sender) (is_receiver j to) j _ _ refl refl
follows_counts j next event.Empty f = ap totals_of f.1.then
follows_counts j next (event.Up node instance up) f = ap totals_of f.1.then
follows_counts j next (event.News news) f = ap totals_of f.then
follows_counts j next event.End f = ap totals_of f.1.then

-- what one event adds
record Adds (e : Event) (old new : Totals) : Type 0 where
  objects : new.objects ≡ old.objects + cond (is_accepted e) 1 0
  octets : new.octets ≡ old.octets + octets_in e
  handed : new.handed ≡ old.handed + cond (is_handed e) 1 0
  lost : new.lost ≡ old.lost + cond (is_lost e) 1 0
  satisfied : new.satisfied ≡ old.satisfied + cond (is_satisfied e) 1 0
  expired : new.expired ≡ old.expired + cond (is_expired e) 1 0
  cut : new.cut ≡ old.cut + cond (is_cut e) 1 0

none : (n : ℕ) → n ≡ n + 0
none n = omega arith

-- an event that has nothing to count
silent : (e : Event) (t : Totals) → is_accepted e ≡ false → octets_in e ≡ 0 → is_handed e ≡ false → is_lost e ≡ false → is_satisfied e ≡ false
    → is_expired e ≡ false → is_cut e ≡ false → Adds e t t
silent e t a b c d f g h = record {
  objects = none t.objects ∙ ap (λ x. t.objects + cond x 1 0) (sym a);
  octets = none t.octets ∙ ap (λ x. t.octets + x) (sym b);
  handed = none t.handed ∙ ap (λ x. t.handed + cond x 1 0) (sym c);
  lost = none t.lost ∙ ap (λ x. t.lost + cond x 1 0) (sym d);
  satisfied = none t.satisfied ∙ ap (λ x. t.satisfied + cond x 1 0) (sym f);
  expired = none t.expired ∙ ap (λ x. t.expired + cond x 1 0) (sym g);
  cut = none t.cut ∙ ap (λ x. t.cut + cond x 1 0) (sym h);
}

adds : (e : Event) (t : Totals) → Adds e t (counted e t)
adds (event.Job by job (Ok (receipt.Object index len))) t = record {
  objects = refl;
  octets = refl;
  handed = none t.handed;
  lost = none t.lost;
  satisfied = none t.satisfied;
  expired = none t.expired;
  cut = none t.cut;
}
adds (event.Job by job (Ok (receipt.Opened index))) t = record {
  objects = refl;
  octets = none t.octets;
  handed = none t.handed;
  lost = none t.lost;
  satisfied = none t.satisfied;
  expired = none t.expired;
  cut = none t.cut;
}
adds (event.Job by job (Ok (receipt.Wrote index offset len))) t = record {
  objects = none t.objects;
  octets = refl;
  handed = none t.handed;
  lost = none t.lost;
  satisfied = none t.satisfied;
  expired = none t.expired;
  cut = none t.cut;
}
adds (event.Up node instance (up.Object index kind info octets)) t = record {
  objects = none t.objects;
  octets = none t.octets;
  handed = refl;
  lost = none t.lost;
  satisfied = none t.satisfied;
  expired = none t.expired;
  cut = none t.cut;
}
adds (event.Up node instance (up.StreamEnd index)) t = record {
  objects = none t.objects;
  octets = none t.octets;
  handed = refl;
  lost = none t.lost;
  satisfied = none t.satisfied;
  expired = none t.expired;
  cut = none t.cut;
}
adds (event.Up node instance (up.Lost index)) t = record {
  objects = none t.objects;
  octets = none t.octets;
  handed = none t.handed;
  lost = refl;
  satisfied = none t.satisfied;
  expired = none t.expired;
  cut = none t.cut;
}
adds (event.News (news.Done number outcome.Satisfied)) t = record {
  objects = none t.objects;
  octets = none t.octets;
  handed = none t.handed;
  lost = none t.lost;
  satisfied = refl;
  expired = none t.expired;
  cut = none t.cut;
}
adds (event.News (news.Done number (outcome.Expired left))) t = record {
  objects = none t.objects;
  octets = none t.octets;
  handed = none t.handed;
  lost = none t.lost;
  satisfied = none t.satisfied;
  expired = refl;
  cut = none t.cut;
}
adds (event.News (news.Done number outcome.Cut)) t = record {
  objects = none t.objects;
  octets = none t.octets;
  handed = none t.handed;
  lost = none t.lost;
  satisfied = none t.satisfied;
  expired = none t.expired;
  cut = refl;
}
adds e t = silent e t refl refl refl refl refl refl refl

sum_cons : (f : Event → ℕ) (e : Event) (events : List Event) → sum_by f (e ∷ events) ≡ f e + sum_by f events
sum_cons f e events = let parts = sum_by-append f (e ∷ []) events in omega (arith, parts)

count_cons : (p : Event → Bool) (e : Event) (events : List Event) → count_by p (e ∷ events) ≡ cond (p e) 1 0 + count_by p events
count_cons p e events = sum_cons (λ x. cond (p x) 1 0) e events

-- what is added first, and then
added : (old between new one more all : ℕ) → between ≡ old + one → new ≡ between + more → all ≡ one + more → new ≡ old + all
added old between new one more all a b c = omega (arith, a, b, c)

then_counts : (e : Event) (events : List Event) (old between new : Totals) → Adds e old between → Counts events between new → Counts (e ∷ events) old new
then_counts e events old between new a c = record {
  objects = added old.objects between.objects new.objects (cond (is_accepted e) 1 0) (count_by is_accepted events) _ a.objects c.objects (count_cons is_accepted e events);
  octets = added old.octets between.octets new.octets (octets_in e) (sum_by octets_in events) _ a.octets c.octets (sum_cons octets_in e events);
  handed = added old.handed between.handed new.handed (cond (is_handed e) 1 0) (count_by is_handed events) _ a.handed c.handed (count_cons is_handed e events);
  lost = added old.lost between.lost new.lost (cond (is_lost e) 1 0) (count_by is_lost events) _ a.lost c.lost (count_cons is_lost e events);
  satisfied = added old.satisfied between.satisfied new.satisfied (cond (is_satisfied e) 1 0) (count_by is_satisfied events) _ a.satisfied c.satisfied (count_cons is_satisfied e events);
  expired = added old.expired between.expired new.expired (cond (is_expired e) 1 0) (count_by is_expired events) _ a.expired c.expired (count_cons is_expired e events);
  cut = added old.cut between.cut new.cut (cond (is_cut e) 1 0) (count_by is_cut events) _ a.cut c.cut (count_cons is_cut e events);
}

nothing_counts : (t : Totals) → Counts [] t t
nothing_counts t = record {
  objects = none t.objects;
  octets = none t.octets;
  handed = none t.handed;
  lost = none t.lost;
  satisfied = none t.satisfied;
  expired = none t.expired;
  cut = none t.cut;
}

pub journal_is_counted : JournalIsCounted
unfolding judged_from
journal_is_counted j last [] is = subst (λ (x : Judged). Counts [] j.totals x.totals) (same_Some j last is) (nothing_counts j.totals)
journal_is_counted j last (e ∷ events) is = option_and_then_some (λ next. judged_from next events) (accepts j e) last is (λ next comes more.
    then_counts e events j.totals next.totals last.totals
    (subst (λ t. Adds e j.totals t) (sym (follows_counts j next e ((judges_what_follows j next e).0 comes))) (adds e j.totals))
    (journal_is_counted next last events more))
