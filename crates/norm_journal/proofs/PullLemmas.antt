-- Pulls: an event other than a pull leaves the lines as they are.
use Rattle.std.proofs.Common.{◌≡◌, ℕ, List, [], ◌∷◌, ◌++◌, Bool, true, false, cond, Option, None, Some, Result, Err, refl, sym, ap, subst, ◌∙◌, arith, append_assoc}
use Rattle.std.specs.Prelude.{◌==◌, ◌&&◌, map, filter, option_and_then}
use Rattle.std.specs.List.{flat_map}
use Rattle.std.specs.Option.{option_map}
use Rattle.std.proofs.lemmas.Option.{none-some, same_Some, some_pair_parts, option_and_then_some}
use Rattle.std.proofs.lemmas.Bool.{eqb-true}
use Rattle.norm_base.specs.declared.node.Origin.{Origin}
use Rattle.norm_base.specs.declared.kinds.Sent.{Sent}
use Rattle.norm_order.specs.declared.up.Up.{Up}
use Rattle.norm_script.specs.declared.script.Line.{Line}
use Rattle.norm_send_rules.specs.declared.job.Job.{Job}
use Rattle.norm_send_rules.specs.declared.job.Receipt.{Receipt}
use Rattle.norm_send_rules.specs.declared.fault.SendFault.{SendFault}
use Rattle.norm_send_rules.specs.declared.news.News.{News}
use Rattle.norm_safety.specs.Lawful.{same_origin}
use Rattle.norm_safety.specs.Events.{Event as WorldEvent, Commanded, Offered, UpTaken, NewsAsked, Answer, Gave, Sent as Gives, Took, Told, Silent}
use Rattle.norm_journal.specs.declared.event.Event.{Event}
use Rattle.norm_journal.specs.declared.event.Event.TheVariants as event
use Rattle.norm_journal.specs.Accepting.{accepts, accepts_news, accepts_next, told_of, judged_from}
use Rattle.norm_journal.specs.Commands.{offered, offers, line_pulled, pulls_at, telling, repeating, gives, repeats, jobs_at, refuses, lengths_at}
use Rattle.norm_journal.specs.InWorld.{world_after, answer_to, at, comes}
use Rattle.norm_journal.specs.Jobs.{is_file_of, is_length, file_of_length}
use Rattle.norm_journal.specs.Judged.{Judged, news_due, is_done}
use Rattle.norm_journal.specs.Laws.{commands_by, pull_by, PullsInOrder}
use Rattle.norm_journal.specs.Places.{Place, Starting, Between, Pulling, Sending, Offering, Taking, Handing}
use Rattle.norm_journal.specs.Pulling.{origin_of, first_line, pulled}
use Rattle.norm_journal.specs.Same.{same_answer}
use Rattle.norm_journal.specs.Takes.{takes_at, finds_none_at, is_receiver}
use Rattle.norm_journal.specs.Ticks.{gave_datagram, tick_of, ticks_at, offers_at, handed, ups_at}
use Rattle.norm_journal.specs.Turns.{starts_at, turns_at, ends_at}

-- the lines left stay as they are
abbrev Keeps : Judged → Option Judged → Type 0
Keeps j o = (next : Judged) → o ≡ Some next → next.left ≡ j.left

no_event : (j : Judged) → Keeps j None
no_event j next e = absurd (none-some next e)

this : (j x : Judged) → x.left ≡ j.left → Keeps j (Some x)
this j x same next e = ap (λ (y : Judged). y.left) (sym (same_Some x next e)) ∙ same

when : (b : Bool) (j : Judged) (o : Option Judged) → Keeps j o → Keeps j (elim b [ true ↦ o | false ↦ None ])
when true j o keeps = keeps
when false j o keeps = no_event j

then : (f : Judged → Judged) (j : Judged) (o : Option Judged) → ((x : Judged) → (f x).left ≡ x.left) → Keeps j o → Keeps j (option_map f o)
then f j None same keeps next e = no_event j next e
then f j (Some x) same keeps next e = ap (λ (y : Judged). y.left) (sym (same_Some (f x) next e)) ∙ same x ∙ keeps x refl

comes_keeps : (e : WorldEvent) (answer : Answer) (j : Judged) → Keeps j (comes e answer j)
comes_keeps e answer j = when (same_answer (answer_to e j) answer) j (Some (world_after e j)) (this j (world_after e j) refl)

starts_keeps : (place : Place) (j : Judged) → Keeps j (starts_at place j)
starts_keeps Starting j = this j _ refl
starts_keeps _ j = no_event j

turns_keeps : (place : Place) (j : Judged) (turn now : ℕ) → Keeps j (turns_at place j turn now)
turns_keeps Between j turn now = when _ j _ (this j _ refl)
turns_keeps _ j turn now = no_event j

ends_keeps : (place : Place) (j : Judged) → Keeps j (ends_at place j)
ends_keeps Between j = when (is_done j) j _ (this j _ refl)
ends_keeps _ j = no_event j

through : {X : Type 0} (f : X → Option Judged) (j : Judged) (found : Option X) → ((x : X) → Keeps j (f x)) → Keeps j (option_and_then f found)
through f j None keeps = no_event j
through f j (Some x) keeps = keeps x

offers_keep : (line : Line) (by : Origin) (job : Job) (gave : Result Receipt SendFault) (j : Judged) → Keeps j (offers line by job gave j)
offers_keep line by job gave j = then (offered line gave) j _ (λ x. refl) (comes_keeps (Commanded by job j.now) (Gave gave) j)

jobs_keep : (place : Place) (j : Judged) (by : Origin) (job : Option Job) (gave : Result Receipt SendFault) → Keeps j (jobs_at place j by job gave)
jobs_keep place j by (Some job) gave =
    through (λ line. gives line by job gave j) j (telling place) (λ line. when _ j _ (offers_keep line by job gave j))
jobs_keep place j by None gave =
    through (λ (known : Line × Job). repeats known by gave j) j (repeating place) (λ known. when _ j _ (offers_keep known.0 by known.1 gave j))

lengths_keep : (place : Place) (j : Judged) (by : Origin) (name : List ℕ) (len : ℕ) (fault : SendFault) → Keeps j (lengths_at place j by name len fault)
lengths_keep place j by name len fault =
    through (λ line. refuses line by name len fault j) j (telling place) (λ line.
    when (same_origin (origin_of line) by && is_file_of line.verb name && is_length j.files name len) j _
    (offers_keep line by (file_of_length name len) (Err fault) j))

gave_keeps : (node : ℕ) (sent : Sent) (next : Place) (answer : Answer) (j : Judged) → Keeps j (gave_datagram node sent next answer j)
gave_keeps node sent next (Gives datagram) j = when _ j _ (this j _ refl)
gave_keeps node sent next (Gave result) j = no_event j
gave_keeps node sent next (Took up) j = no_event j
gave_keeps node sent next (Told news) j = no_event j
gave_keeps node sent next Silent j = no_event j

tick_keeps : (due : ℕ) (next : Place) (j : Judged) (node : ℕ) (sent : Sent) → Keeps j (tick_of due next j node sent)
tick_keeps due next j node sent = when _ j _ (gave_keeps node sent next _ _)

ticks_keep : (place : Place) (j : Judged) (node : ℕ) (sent : Sent) → Keeps j (ticks_at place j node sent)
ticks_keep Sending j node sent = tick_keeps _ _ j node sent
ticks_keep (Handing due nodes) j node sent = tick_keeps due _ j node sent
ticks_keep _ j node sent = no_event j

offers_at_keep : (place : Place) (j : Judged) (from : ℕ) (octets : List ℕ) → Keeps j (offers_at place j from octets)
offers_at_keep (Offering node datagram next) j from octets = when _ j _ (then (at next) j _ (λ x. refl) (comes_keeps (Offered from octets) Silent j))
offers_at_keep _ j from octets = no_event j

-- the state after a take, by whom it was for
abbrev one_of : Bool → Bool → Judged → Judged → Judged → Judged
one_of sender receiver j a b = elim sender [ true ↦ a | false ↦ elim receiver [ true ↦ b | false ↦ j ] ]

delivered_keeps : (sender receiver : Bool) (j a b : Judged) → a.left ≡ j.left → b.left ≡ j.left → (one_of sender receiver j a b).left ≡ j.left
delivered_keeps true receiver j a b e f = e
delivered_keeps false true j a b e f = f
delivered_keeps false false j a b e f = refl

takes_keep : (place : Place) (j : Judged) (node : ℕ) (octets : List ℕ) → Keeps j (takes_at place j node octets)
takes_keep (Taking taken) j node octets =
    this j _ (delivered_keeps (node == j.profile.sender) (is_receiver j node) j _ _ refl refl)
takes_keep _ j node octets = no_event j

none_keeps : (place : Place) (j : Judged) → Keeps j (finds_none_at place j)
none_keeps (Taking taken) j = this j _ refl
none_keeps _ j = no_event j

ups_keep : (place : Place) (j : Judged) (node instance : ℕ) (up : Up) → Keeps j (ups_at place j node instance up)
ups_keep (Handing due nodes) j node instance up = when _ j _ (then (handed up) j _ (λ x. refl) (comes_keeps (UpTaken node) (Took (Some up)) j))
ups_keep _ j node instance up = no_event j

-- the lines of a producer before and after an event
abbrev Pulls : ℕ → Judged → Event → Option Judged → Type 0
Pulls producer j e o = (next : Judged) → o ≡ Some next → pull_by producer e ++ commands_by producer next.left ≡ commands_by producer j.left

kept : (producer : ℕ) (j : Judged) (e : Event) (o : Option Judged) → pull_by producer e ≡ [] → Keeps j o → Pulls producer j e o
kept producer j e o none keeps next is =
    ap (λ xs. xs ++ commands_by producer next.left) none ∙ ap (commands_by producer) (keeps next is)

-- the name of a line's command, where its producer is the one that is asked for
abbrev first_by : ℕ → Line → List Origin
first_by q line = elim (line.producer == q) [ true ↦ origin_of line ∷ [] | false ↦ [] ]

cons_by : (b : Bool) (line : Line) (lines : List Line)
    → map origin_of (cond b (line ∷ lines) lines) ≡ elim b [ true ↦ origin_of line ∷ [] | false ↦ [] ] ++ map origin_of lines
cons_by true line lines = refl
cons_by false line lines = refl

commands_by-cons : (q : ℕ) (line : Line) (lines : List Line) → commands_by q (line ∷ lines) ≡ first_by q line ++ commands_by q lines
commands_by-cons q line lines = cons_by (line.producer == q) line (filter (λ (l : Line). l.producer == q) lines)

-- two lines of different producers do not both have the producer that is asked for
exchanged : (b c : Bool) (x y : Origin) (more : List Origin) → (b ≡ true → c ≡ true → ⊥)
    → elim b [ true ↦ x ∷ [] | false ↦ [] ] ++ (elim c [ true ↦ y ∷ [] | false ↦ [] ] ++ more)
    ≡ elim c [ true ↦ y ∷ [] | false ↦ [] ] ++ (elim b [ true ↦ x ∷ [] | false ↦ [] ] ++ more)
exchanged true true x y more not_both = absurd (not_both refl refl)
exchanged true false x y more not_both = refl
exchanged false true x y more not_both = refl
exchanged false false x y more not_both = refl

-- a line that is found, and the lines that are left then
record Found (producer : ℕ) (lines : List Line) (line : Line) (rest : List Line) : Type 0 where
  its : line.producer ≡ producer
  each : (q : ℕ) → first_by q line ++ commands_by q rest ≡ commands_by q lines

-- where the first line is another producer's, it stays
found_later : (producer : ℕ) (l : Line) (lines : List Line) (line : Line) (rest : List Line) → l.producer == producer ≡ false
    → Found producer lines line rest → Found producer (l ∷ lines) line (l ∷ rest)
found_later producer l lines line rest other found = record {
  its = found.its;
  each = λ q. ap (λ xs. first_by q line ++ xs) (commands_by-cons q l rest)
      ∙ exchanged (line.producer == q) (l.producer == q) (origin_of line) (origin_of l) (commands_by q rest)
      (λ a b. differ (eqb-true line.producer q a) (eqb-true l.producer q b) found.its)
      ∙ ap (λ xs. first_by q l ++ xs) (found.each q)
      ∙ sym (commands_by-cons q l lines);
} where
  differ : {q : ℕ} → line.producer ≡ q → l.producer ≡ q → line.producer ≡ producer → ⊥
  differ a b its = grind (arith, other)

-- the parts of two results that are equal
same_line : (a c : Line) (b d : List Line) → ◌≡◌ {A = Option (Line × List Line)} (Some (a, b)) (Some (c, d)) → (a ≡ c) × (b ≡ d)
same_line a c b d e = some_pair_parts a c b d e

found_first : (producer : ℕ) (lines : List Line) (line : Line) (rest : List Line)
    → ◌≡◌ {A = Option (Line × List Line)} (first_line producer lines) (Some (line, rest)) → Found producer lines line rest
unfolding first_line
found_first producer [] line rest e = absurd (none-some _ e)
found_first producer (l ∷ lines) line rest e =
    at_head (l.producer == producer) (first_line producer lines) refl (λ found more is. found_first producer lines found more is) e where
      later : (o : Option (Line × List Line))
          → ((found : Line) (more : List Line) → ◌≡◌ {A = Option (Line × List Line)} o (Some (found, more)) → Found producer lines found more)
          → l.producer == producer ≡ false
          → ◌≡◌ {A = Option (Line × List Line)} (option_map (λ (found : Line × List Line). (found.0, l ∷ found.1)) o) (Some (line, rest))
          → Found producer (l ∷ lines) line rest
      later None each other is = absurd (none-some _ is)
      later (Some found) each other is =
          let same = same_line found.0 line (l ∷ found.1) rest is in
          subst (λ x. Found producer (l ∷ lines) x rest) same.0
          (subst (λ x. Found producer (l ∷ lines) found.0 x) same.1 (found_later producer l lines found.0 found.1 other (each found.0 found.1 refl)))

      at_head : (b : Bool) (o : Option (Line × List Line)) → l.producer == producer ≡ b
          → ((found : Line) (more : List Line) → ◌≡◌ {A = Option (Line × List Line)} o (Some (found, more)) → Found producer lines found more)
          → ◌≡◌ {A = Option (Line × List Line)}
          (elim b [ true ↦ Some (l, lines) | false ↦ option_map (λ (found : Line × List Line). (found.0, l ∷ found.1)) o ]) (Some (line, rest))
          → Found producer (l ∷ lines) line rest
      at_head true o is each e =
          let same = same_line l line lines rest e in
          subst (λ x. Found producer (l ∷ lines) x rest) same.0
          (subst (λ x. Found producer (l ∷ lines) l x) same.1
          (record { its = eqb-true l.producer producer is; each = λ q. sym (commands_by-cons q l lines) }))
      at_head false o is each e = later o each is e

pub from_map : {X Y P : Type 0} (f : X → Y) (o : Option X) (y : Y) → option_map f o ≡ Some y → ((x : X) → o ≡ Some x → f x ≡ y → P) → P
from_map f None y e so = absurd (none-some y e)
from_map f (Some x) y e so = so x refl (same_Some (f x) y e)

pub numbered : (number : ℕ) (o : Option (Line × List Line)) (found : Line × List Line)
    → ◌≡◌ {A = Option (Line × List Line)}
    (elim o [ Some found ↦ elim (found.0.number == number) [ true ↦ Some found | false ↦ None ] | None ↦ None ]) (Some found)
    → (o ≡ Some found) × (found.0.number ≡ number)
numbered number None found e = absurd (none-some found e)
numbered number (Some x) found e = by_test (x.0.number == number) refl e where
  by_test : (b : Bool) → x.0.number == number ≡ b → ◌≡◌ {A = Option (Line × List Line)} (elim b [ true ↦ Some x | false ↦ None ]) (Some found)
      → (◌≡◌ {A = Option (Line × List Line)} (Some x) (Some found)) × (found.0.number ≡ number)
  by_test true is e = (e, ap (λ (y : Line × List Line). y.0.number) (sym (same_Some x found e)) ∙ eqb-true x.0.number number is)
  by_test false is e = absurd (none-some found e)

abbrev pub name_of : ℕ → ℕ → Origin
name_of producer number = record { producer = producer; number = number }

pub same_name : (a b c d : ℕ) → a ≡ c → b ≡ d → name_of a b ≡ name_of c d
same_name a b c d e f = ap (λ x. name_of x b) e ∙ ap (λ x. name_of c x) f

-- a name, where its producer is the one that is asked for
abbrev name_by : ℕ → Origin → List Origin
name_by q by = elim (by.producer == q) [ true ↦ by ∷ [] | false ↦ [] ]

-- a pull takes the first of its producer's commands, and leaves those of the others
pulls_keep : (q : ℕ) (place : Place) (j : Judged) (by : Origin) → Pulls q j (event.Pull by) (pulls_at place j by)
pulls_keep q Pulling j by next is = from_map (line_pulled j) (pulled by j.left) next is (λ found so same.
    let two = numbered by.number (first_line by.producer j.left) found so in
    let there = found_first by.producer j.left found.0 found.1 two.0 in
    ap (λ (x : Judged). name_by q by ++ commands_by q x.left) (sym same)
    ∙ ap (λ x. name_by q x ++ commands_by q found.1) (sym (same_name found.0.producer found.0.number by.producer by.number there.its two.1))
    ∙ there.each q)
pulls_keep q _ j by next is = absurd (none-some next is)

-- each event where no change is to be told
next_pulls : (q : ℕ) (j : Judged) (e : Event) → Pulls q j e (accepts_next j e)
next_pulls q j event.Start = kept q j event.Start _ refl (starts_keeps j.place j)
next_pulls q j (event.Turn turn now) = kept q j (event.Turn turn now) _ refl (turns_keeps j.place j turn now)
next_pulls q j (event.Pull by) = pulls_keep q j.place j by
next_pulls q j (event.Job by job gave) = kept q j (event.Job by job gave) _ refl (jobs_keep j.place j by job gave)
next_pulls q j (event.Length by name len fault) = kept q j (event.Length by name len fault) _ refl (lengths_keep j.place j by name len fault)
next_pulls q j (event.Tick node sent) = kept q j (event.Tick node sent) _ refl (ticks_keep j.place j node sent)
next_pulls q j (event.Offer from octets) = kept q j (event.Offer from octets) _ refl (offers_at_keep j.place j from octets)
next_pulls q j (event.Took to octets) = kept q j (event.Took to octets) _ refl (takes_keep j.place j to octets)
next_pulls q j event.Empty = kept q j event.Empty _ refl (none_keeps j.place j)
next_pulls q j (event.Up node instance up) = kept q j (event.Up node instance up) _ refl (ups_keep j.place j node instance up)
next_pulls q j (event.News news) = kept q j (event.News news) _ refl (no_event j)
next_pulls q j event.End = kept q j event.End _ refl (ends_keeps j.place j)

-- and where one is
news_pulls : (q : ℕ) (j : Judged) (e : Event) → Pulls q j e (accepts_news j e)
news_pulls q j (event.News news) next is =
    kept q j (event.News news) _ refl (then (told_of news) j _ (λ x. refl) (comes_keeps NewsAsked (Told (Some news)) j)) next is
news_pulls q j event.Start next is = absurd (none-some next is)
news_pulls q j (event.Turn turn now) next is = absurd (none-some next is)
news_pulls q j (event.Pull by) next is = absurd (none-some next is)
news_pulls q j (event.Job by job gave) next is = absurd (none-some next is)
news_pulls q j (event.Length by name len fault) next is = absurd (none-some next is)
news_pulls q j (event.Tick node sent) next is = absurd (none-some next is)
news_pulls q j (event.Offer from octets) next is = absurd (none-some next is)
news_pulls q j (event.Took to octets) next is = absurd (none-some next is)
news_pulls q j event.Empty next is = absurd (none-some next is)
news_pulls q j (event.Up node instance up) next is = absurd (none-some next is)
news_pulls q j event.End next is = absurd (none-some next is)

event_pulls : (q : ℕ) (j : Judged) (e : Event) (due : Option News) → Pulls q j e (elim due [ Some news ↦ accepts_news j e | None ↦ accepts_next j e ])
event_pulls q j e (Some news) = news_pulls q j e
event_pulls q j e None = next_pulls q j e

pub pulls_in_order : PullsInOrder
unfolding judged_from
pulls_in_order q j last [] is = ap (λ (x : Judged). commands_by q x.left) (sym (same_Some j last is))
pulls_in_order q j last (e ∷ events) is = option_and_then_some (λ next. judged_from next events) (accepts j e) last is (λ next comes more.
    append_assoc (pull_by q e) (flat_map (pull_by q) events) (commands_by q last.left)
    ∙ ap (λ xs. pull_by q e ++ xs) (pulls_in_order q next last events more)
    ∙ event_pulls q j e (news_due j) next comes)
