-- The judge of a run, by whether it persists: one event more.
use Rattle.std.proofs.Common.{◌≡◌, ℕ, List, [], ◌∷◌, ◌++◌, Bool, true, false, Option, None, Some, Result, refl, sym, ap, subst, ◌∙◌, append_assoc}
use Rattle.std.specs.Prelude.{◌==◌, ◌&&◌, not, filter, is_some, option_and_then}
use Rattle.std.specs.Option.{option_map, option_to_list}
use Rattle.std.proofs.lemmas.List.{append-nil}
use Rattle.std.proofs.lemmas.List.Concat.{flat_map-append}
use Rattle.std.proofs.lemmas.Option.{same_Some, none-some, option_and_then_some}
use Rattle.norm_base.specs.declared.kinds.Sent.{Sent}
use Rattle.norm_safety.specs.Events.{Event as WorldEvent}
use Rattle.norm_safety.specs.WorldStep.{run_from}
use Rattle.norm_send_rules.specs.declared.fault.SendFault.{SendFault}
use Rattle.norm_send_rules.specs.declared.job.Job.{Job}
use Rattle.norm_send_rules.specs.declared.job.Receipt.{Receipt}
use Rattle.norm_send_rules.specs.declared.news.News.{News}
use Rattle.norm_send_rules.specs.declared.news.Outcome.{Outcome}
use Rattle.norm_journal.specs.declared.event.Event.{Event}
use Rattle.norm_journal.specs.declared.event.Event.TheVariants as event
use Rattle.norm_journal.specs.Accepting.{accepts, accepts_news, accepts_next, judged_from}
use Rattle.norm_journal.specs.Judged.{Judged, news_due}
use Rattle.norm_journal.specs.Lines.{gave_line}
use Rattle.norm_journal.specs.Printed.{line_of, lines_from, instance_now}
use Rattle.norm_journal.specs.Projections.{outcome_in, outcomes_in}
use Rattle.norm_journal.specs.WorldEvents.{world_events}
use Rattle.norm_journal.proofs.FrontLemmas.{judged_from-append, fronts_printed}
use Rattle.norm_journal.proofs.WorldLemmas.{moves_world}
use Rattle.norm_persist.specs.Accepting.{accepts_own, goes_on, accepts_persisting, persisted_from}
use Rattle.norm_persist.specs.InWorld.{world_events_persisting}
use Rattle.norm_persist.specs.Judging.{IsLedTo, IsJudged, IsNoneDue, ledger_on, line_by, lines_by, outcome_by, outcomes_by}
use Rattle.norm_persist.specs.Laws.{is_bound}
use Rattle.norm_persist.specs.Ledger.{LedgerState, accounted, with_ledger}
use Rattle.norm_persist.specs.Persisted.{Persisted, accounts_after, led_to, own_due, is_sending, has_stopped}
use Rattle.norm_persist.specs.Persisting.{own_job}
use Rattle.norm_persist.specs.Printed.{told_line, told_of, outcome_of, verb_of, gathered}
use Rattle.norm_persist.proofs.Moves.{moves_the_world}
use Rattle.norm_persist.proofs.Steps.{runs_by_fronts, others_as_ever}
use Rattle.norm_persist.proofs.Tests.{clash}

-- ---- what a journal gives, one event after the other

pub gathered-append : {X : Type 0} (of : Persisted → Event → List X) (x next : Persisted) (front rest : List Event) → persisted_from x front ≡ Some next
    → gathered of x (front ++ rest) ≡ gathered of x front ++ gathered of next rest
unfolding persisted_from gathered
gathered-append of x next [] rest is = ap (λ (y : Persisted). gathered of y rest) (same_Some x next is)
gathered-append {X} of x next (e ∷ front) rest is =
    option_and_then_some (λ y. persisted_from y front) (accepts_persisting x e) next is (λ y comes more.
    ap (λ (o : Option Persisted). of x e ++ elim o as (λ _. List X) [ Some z ↦ gathered of z (front ++ rest) | None ↦ [] ]) comes
    ∙ ap (λ g. of x e ++ g) (gathered-append of y next front rest more)
    ∙ sym (append_assoc (of x e) (gathered of y front) (gathered of next rest))
    ∙ ap (λ (o : Option Persisted). (of x e ++ elim o as (λ _. List X) [ Some z ↦ gathered of z front | None ↦ [] ]) ++ gathered of next rest) (sym comes))

pub gathered_one : {X : Type 0} (of : Persisted → Event → List X) (x next : Persisted) (e : Event) → accepts_persisting x e ≡ Some next
    → gathered of x (e ∷ []) ≡ of x e
unfolding gathered
gathered_one {X} of x next e is =
    ap (λ (o : Option Persisted). of x e ++ elim o as (λ _. List X) [ Some z ↦ gathered of z [] | None ↦ [] ]) is ∙ append-nil (of x e)

persisted_one : (x next : Persisted) (e : Event) → accepts_persisting x e ≡ Some next → persisted_from x (e ∷ []) ≡ Some next
unfolding persisted_from
persisted_one x next e is = ap (λ (o : Option Persisted). option_and_then (λ n. persisted_from n []) o) is

judged_one : (j next : Judged) (e : Event) → accepts j e ≡ Some next → judged_from j (e ∷ []) ≡ Some next
unfolding judged_from
judged_one j next e is = ap (λ (o : Option Judged). option_and_then (λ n. judged_from n []) o) is

lines_one : (j next : Judged) (e : Event) → accepts j e ≡ Some next → lines_from j (e ∷ []) ≡ option_to_list (line_of j e)
unfolding lines_from
lines_one j next e is =
    ap (λ (o : Option Judged). option_to_list (line_of j e) ++ elim o as (λ _. List (List ℕ)) [ Some n ↦ lines_from n [] | None ↦ [] ]) is
    ∙ append-nil (option_to_list (line_of j e))

-- an event leads on from where the journal led
pub led_more : (start j next : Judged) (o l now : Option LedgerState) (journal : List Event) (e : Event) → IsLedTo start o journal j l → is_some l ≡ is_some o
    → IsJudged l j e next now → IsLedTo start o (journal ++ e ∷ []) next now
led_more start j next None None None journal e led same is =
    judged_from-append start journal (e ∷ []) ∙ ap (λ (p : Option Judged). option_and_then (λ n. judged_from n (e ∷ [])) p) led ∙ judged_one j next e is
led_more start j next None None (Some n) journal e led same is = absurd is
led_more start j next None (Some l) now journal e led same is = absurd (clash (sym same))
led_more start j next (Some o) None now journal e led same is = absurd (clash same)
led_more start j next (Some o) (Some l) None journal e led same is = absurd is
led_more start j next (Some o) (Some l) (Some n) journal e led same is =
    runs_by_fronts (with_ledger o start) journal (e ∷ [])
    ∙ ap (λ (p : Option Persisted). option_and_then (λ x. persisted_from x (e ∷ [])) p) led
    ∙ persisted_one (with_ledger l j) (with_ledger n next) e is

pub lines_more : (start j next : Judged) (o l now : Option LedgerState) (journal : List Event) (e : Event) → IsLedTo start o journal j l → is_some l ≡ is_some o
    → IsJudged l j e next now → lines_by o start (journal ++ e ∷ []) ≡ lines_by o start journal ++ option_to_list (line_by l j e)
lines_more start j next None None None journal e led same is =
    fronts_printed start j journal (e ∷ []) led ∙ ap (λ ls. lines_from start journal ++ ls) (lines_one j next e is)
lines_more start j next None None (Some n) journal e led same is = absurd is
lines_more start j next None (Some l) now journal e led same is = absurd (clash (sym same))
lines_more start j next (Some o) None now journal e led same is = absurd (clash same)
lines_more start j next (Some o) (Some l) None journal e led same is = absurd is
lines_more start j next (Some o) (Some l) (Some n) journal e led same is =
    gathered-append told_of (with_ledger o start) (with_ledger l j) journal (e ∷ []) led
    ∙ ap (λ ls. gathered told_of (with_ledger o start) journal ++ ls) (gathered_one told_of (with_ledger l j) (with_ledger n next) e is)

pub outcomes_more : (start j next : Judged) (o l now : Option LedgerState) (journal : List Event) (e : Event) → IsLedTo start o journal j l → is_some l ≡ is_some o
    → IsJudged l j e next now → outcomes_by o start (journal ++ e ∷ []) ≡ outcomes_by o start journal ++ outcome_by l j e
outcomes_more start j next None None None journal e led same is = flat_map-append outcome_in journal (e ∷ [])
outcomes_more start j next None None (Some n) journal e led same is = absurd is
outcomes_more start j next None (Some l) now journal e led same is = absurd (clash (sym same))
outcomes_more start j next (Some o) None now journal e led same is = absurd (clash same)
outcomes_more start j next (Some o) (Some l) None journal e led same is = absurd is
outcomes_more start j next (Some o) (Some l) (Some n) journal e led same is =
    gathered-append outcome_of (with_ledger o start) (with_ledger l j) journal (e ∷ []) led
    ∙ ap (λ os. gathered outcome_of (with_ledger o start) journal ++ os) (gathered_one outcome_of (with_ledger l j) (with_ledger n next) e is)

pub no_outcome : (l : Option LedgerState) (j : Judged) (e : Event) → outcomes_in (e ∷ []) ≡ [] → outcome_by l j e ≡ []
no_outcome None j e none = none
no_outcome (Some l) j e none = ap (filter (λ (told : ℕ × Outcome). not (told.0 == l.own_mark))) none

-- a run that is judged as it persists, goes on so
pub still_same : (l now : Option LedgerState) (j next : Judged) (e : Event) → IsJudged l j e next now → is_some now ≡ is_some l
still_same None None j next e is = refl
still_same None (Some n) j next e is = absurd is
still_same (Some l) None j next e is = absurd is
still_same (Some l) (Some n) j next e is = refl

-- ---- an event that is judged and printed as in a run that does not persist

pub record Judges (l : Option LedgerState) (j : Judged) (e : Event) (next : Judged) (now : Option LedgerState) : Type 0 where
  pub judged : IsJudged l j e next now
  pub plain : line_by l j e ≡ line_of j e

-- the ledger after such an event
on_some : (j : Judged) (e : Event) (l : LedgerState) → ledger_on j e (Some l) ≡ Some (accounted (accounts_after j e l.accounts) l)
on_some j event.Start l = refl
on_some j (event.Turn turn now) l = refl
on_some j (event.Pull by) l = refl
on_some j (event.Job by job gave) l = refl
on_some j (event.Length by name len fault) l = refl
on_some j (event.Tick node sent) l = refl
on_some j (event.Offer from octets) l = refl
on_some j (event.Took to octets) l = refl
on_some j event.Empty l = refl
on_some j (event.Up node instance up) l = refl
on_some j (event.News news) l = refl
on_some j event.End l = refl

on_none : (j : Judged) (e : Event) → ledger_on j e None ≡ None
on_none j event.Start = refl
on_none j (event.Turn turn now) = refl
on_none j (event.Pull by) = refl
on_none j (event.Job by job gave) = refl
on_none j (event.Length by name len fault) = refl
on_none j (event.Tick node sent) = refl
on_none j (event.Offer from octets) = refl
on_none j (event.Took to octets) = refl
on_none j event.Empty = refl
on_none j (event.Up node instance up) = refl
on_none j (event.News news) = refl
on_none j event.End = refl

judged_none : (j next : Judged) (e : Event) → accepts j e ≡ Some next → IsJudged None j e next (ledger_on j e None)
judged_none j next e is = subst (λ (o : Option LedgerState). IsJudged None j e next o) (sym (on_none j e)) is

judged_some : (l : LedgerState) (j next : Judged) (e : Event) → accepts_persisting (with_ledger l j) e ≡ Some (led_to (with_ledger l j) e next)
    → IsJudged (Some l) j e next (ledger_on j e (Some l))
judged_some l j next e is = subst (λ (o : Option LedgerState). IsJudged (Some l) j e next o) (sym (on_some j e l)) is

-- no own command is due away from the sender's tick
none_there : (l : LedgerState) (j : Judged) → is_sending j.place ≡ false → own_due (with_ledger l j) ≡ None
none_there l j away =
    ap (λ (b : Bool). elim (b && not (l.own_turn == j.turn)) as (λ _. Option Job) [
      | true ↦ own_job j.profile j.world.sender l.give_up (has_stopped j) l.accounts
      | false ↦ None
    ]) away

undue_judged : (l : LedgerState) (j next : Judged) (e : Event) → own_due (with_ledger l j) ≡ None → is_bound e ≡ false → accepts j e ≡ Some next
    → IsJudged (Some l) j e next (ledger_on j e (Some l))
undue_judged l j next e none plain is =
    judged_some l j next e (others_as_ever (with_ledger l j) e none plain ∙ ap (λ (o : Option Judged). option_map (led_to (with_ledger l j) e) o) is)

plain_line : (l : Option LedgerState) (j : Judged) (e : Event) → is_sending j.place ≡ false → line_by l j e ≡ line_of j e
plain_line None j e away = refl
plain_line (Some l) j event.Start away = refl
plain_line (Some l) j (event.Turn turn now) away = refl
plain_line (Some l) j (event.Pull by) away = refl
plain_line (Some l) j (event.Job by None gave) away = refl
plain_line (Some l) j (event.Job by (Some job) gave) away =
    ap (λ (b : Bool). elim b as (λ _. Option (List ℕ)) [ true ↦ gave_line by (instance_now j) (verb_of job) gave | false ↦ line_of j (event.Job by (Some job) gave) ]) away
plain_line (Some l) j (event.Length by name len fault) away = refl
plain_line (Some l) j (event.Tick node sent) away = refl
plain_line (Some l) j (event.Offer from octets) away = refl
plain_line (Some l) j (event.Took to octets) away = refl
plain_line (Some l) j event.Empty away = refl
plain_line (Some l) j (event.Up node instance up) away = refl
plain_line (Some l) j (event.News news) away = refl
plain_line (Some l) j event.End away = refl

-- away from the sender's tick
pub as_ever : (l : Option LedgerState) (j next : Judged) (e : Event) → is_sending j.place ≡ false → is_bound e ≡ false → accepts j e ≡ Some next
    → Judges l j e next (ledger_on j e l)
as_ever None j next e away plain is = record { judged = judged_none j next e is; plain = refl }
as_ever (Some l) j next e away plain is =
    record { judged = undue_judged l j next e (none_there l j away) plain is; plain = plain_line (Some l) j e away }

-- the sender's tick, where no own command is due
pub tick_judged : (l : Option LedgerState) (j next : Judged) (node : ℕ) (sent : Sent) → IsNoneDue l j
    → accepts j (event.Tick node sent) ≡ Some next → Judges l j (event.Tick node sent) next l
tick_judged None j next node sent none is = record { judged = is; plain = refl }
tick_judged (Some l) j next node sent none is = record { judged = undue_judged l j next (event.Tick node sent) none refl is; plain = refl }

-- what the judge says of a change, by the one that is due
abbrev told_by : Persisted → News → Option News → Option Judged
told_by x n o = elim o as (λ _. Option Judged) [ Some news ↦ accepts_news x.judged (event.News n) | None ↦ accepts_next x.judged (event.News n) ]

-- a change that is due, wherever the run is
news_as_ever : (x : Persisted) (n : News) (due : Option News) → news_due x.judged ≡ due → (next : Judged) → accepts x.judged (event.News n) ≡ Some next
    → accepts_persisting x (event.News n) ≡ Some (led_to x (event.News n) next)
news_as_ever x n due is next accepted = go due is (sym (ap (told_by x n) is) ∙ accepted)
  where
    go : (due : Option News) → news_due x.judged ≡ due → told_by x n due ≡ Some next → accepts_persisting x (event.News n) ≡ Some (led_to x (event.News n) next)
    go (Some news) is told =
        ap (λ (o : Option News). elim o as (λ _. Option Persisted) [
          | Some news ↦ option_map (led_to x (event.News n)) (accepts_news x.judged (event.News n))
          | None ↦ elim (own_due x) as (λ _. Option Persisted) [ Some due ↦ accepts_own due x (event.News n) | None ↦ option_map (led_to x (event.News n)) (goes_on x (event.News n)) ]
        ]) is
        ∙ ap (λ (o : Option Judged). option_map (led_to x (event.News n)) o) told
    go None is told = absurd (none-some next told)

pub news_judged : (l : Option LedgerState) (j next : Judged) (n : News) → accepts j (event.News n) ≡ Some next
    → Judges l j (event.News n) next (ledger_on j (event.News n) l)
news_judged None j next n is = record { judged = is; plain = refl }
news_judged (Some l) j next n is = record { judged = news_as_ever (with_ledger l j) n (news_due j) refl next is; plain = refl }

-- ---- the nodes

-- a journal leads the nodes as events of their world do
pub led_world : (start j : Judged) (o l : Option LedgerState) (journal : List Event) → IsLedTo start o journal j l
    → (events : List WorldEvent) × (run_from start.profile start.world events ≡ j.world)
led_world start j None l journal led = (world_events start journal, moves_world start j journal led)
led_world start j (Some o) None journal led = absurd led
led_world start j (Some o) (Some l) journal led =
    (world_events_persisting (with_ledger o start) journal, moves_the_world (with_ledger o start) (with_ledger l j) journal led)
