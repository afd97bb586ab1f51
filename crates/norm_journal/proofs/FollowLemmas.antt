-- The judge accepts exactly what follows.
use Rattle.std.proofs.Common.{◌≡◌, ℕ, ◌+◌, ◌*◌, ◌≤◌, List, [], ◌∷◌, ◌++◌, Bool, true, false, Option, None, Some, Result, Err, refl, sym, ap, subst, ◌∙◌, arith, inl, inr}
use Rattle.std.specs.Prelude.{◌==◌, ◌&&◌, ◌≢◌, ◌⊎◌, nat_le, not, All, nat_eq, length, option_and_then}
use Rattle.std.specs.Option.{option_map, option_eq}
use Rattle.std.specs.Cmp.Lexicographic.{pointwise}
use Rattle.std.proofs.lemmas.Option.{none-some, same_Some, some_pair_parts}
use Rattle.std.proofs.lemmas.Bool.{eqb-true, eq-eqb}
use Rattle.std.proofs.lemmas.List.Elements.{All-cons, All-nil, All-head, All-tail}
use Rattle.norm_base.specs.Contents.{content_of}
use Rattle.norm_base.specs.declared.kinds.Sent.{Sent}
use Rattle.norm_base.specs.declared.kinds.Sent.TheVariants as sent
use Rattle.norm_base.specs.declared.node.Origin.{Origin}
use Rattle.norm_ext.specs.Written.{Written}
use Rattle.norm_order.specs.declared.up.Up.{Up}
use Rattle.norm_receive_rules.specs.ReceiverState.{ReceiverState}
use Rattle.norm_receive_rules.specs.Leaving.{is_in}
use Rattle.norm_script.specs.declared.script.Line.{Line}
use Rattle.norm_script.specs.declared.script.Verb.{Verb}
use Rattle.norm_script.specs.declared.script.Verb.TheVariants as verb
use Rattle.norm_send_rules.specs.declared.fault.SendFault.{SendFault}
use Rattle.norm_send_rules.specs.declared.job.Job.{Job}
use Rattle.norm_send_rules.specs.declared.job.Job.TheVariants as job
use Rattle.norm_send_rules.specs.declared.job.Receipt.{Receipt}
use Rattle.norm_send_rules.specs.declared.news.News.{News}
use Rattle.norm_safety.specs.Events.{Event as WorldEvent, Commanded, Ticked, Offered, UpTaken, NewsAsked, Answer, Gave, Sent as Gives, Took, Told, Silent}
use Rattle.norm_safety.specs.Hands.{is_at}
use Rattle.norm_safety.specs.Lawful.{AllTaken, all_taken, same_origin}
use Rattle.norm_safety.specs.World.{receiver_at, same_octets}
use Rattle.norm_safety.proofs.FrontLemmas.{same_list, list_itself}
use Rattle.norm_journal.specs.declared.event.Event.{Event}
use Rattle.norm_journal.specs.declared.event.Event.TheVariants as event
use Rattle.norm_journal.specs.Accepting.{accepts_news, accepts_next, told_of}
use Rattle.norm_journal.specs.Commands.{offered, offers, line_pulled, pulls_at, telling, repeating, gives, repeats, jobs_at, refuses, lengths_at}
use Rattle.norm_journal.specs.Follows.{Follows, IsMoment, IsFirstLeft, IsContent, IsLength, IsJobOf, OfferedAndTold, OfferedAgain, SendersTick, ReceiversTick, sent_of, NetworkStarts, TurnBegins, CommandPulled, CommandOffered, FileRefused, NodeTicks, DatagramOffered, DatagramTaken, NoneReady, HandedUp, SummaryMade, IsQuiet, JudgesWhatFollows}
use Rattle.norm_journal.specs.InWorld.{world_after, answer_to, at, comes}
use Rattle.norm_journal.specs.Jobs.{Told as Files, is_content, is_length, is_job_of, is_read, is_file_of, file_of_length}
use Rattle.norm_journal.specs.Judged.{Judged, is_done, news_due}
use Rattle.norm_journal.specs.Places.{Place, Starting, Between, Pulling, Giving, Again, Sending, Offering, Taking, Handing, Over, handing, after_tick}
use Rattle.norm_journal.specs.Pulling.{origin_of, first_line, pulled}
use Rattle.norm_journal.specs.Same.{same_answer, same_sent}
use Rattle.norm_journal.specs.Takes.{delivered, after_take, receivers_due, takes_at, finds_none_at}
use Rattle.norm_journal.specs.Ticks.{gave_datagram, tick_of, ticks_at, offers_at, handed, ups_at}
use Rattle.norm_journal.specs.Turns.{starts_at, turns_at, ends_at, in_turn, is_moment}
use Rattle.norm_journal.proofs.NameLemmas.{both, both_true, one_name}
use Rattle.norm_journal.proofs.PullLemmas.{from_map, numbered, same_name}
use Rattle.norm_journal.proofs.SameLemmas.{answers_same, answer_itself, IsCompared, maybe_same, maybe_itself}

clash : false ≡ true → ⊥
clash e = cc

-- the judge answers a state exactly where it is one that follows
record Exactly (o : Option Judged) (P : Judged → Type 0) : Type 0 where
  forth : (next : Judged) → o ≡ Some next → P next
  back : (next : Judged) → P next → o ≡ Some next

nothing : {P : Judged → Type 0} → ((next : Judged) → P next → ⊥) → Exactly None P
nothing never = record { forth = λ next e. absurd (none-some next e); back = λ next p. absurd (never next p) }

this : {P : Judged → Type 0} (x : Judged) → P x → ((next : Judged) → P next → next ≡ x) → Exactly (Some x) P
this {P} x holds only = record { forth = λ next e. subst P (same_Some x next e) holds; back = λ next p. ap Some (sym (only next p)) }

-- under a test, which what follows decides
when : {P : Judged → Type 0} (b : Bool) (o : Option Judged) → ((next : Judged) → P next → b ≡ true) → (b ≡ true → Exactly o P)
    → Exactly (elim b [ true ↦ o | false ↦ None ]) P
when true o holds each = each refl
when false o holds each = nothing (λ next p. clash (holds next p))

-- an event that the world answers as it was said, and a change of what it leads to
answered : {P : Judged → Type 0} (f : Judged → Judged) (e : WorldEvent) (answer : Answer) (j : Judged) → IsCompared answer
    → (answer_to e j ≡ answer → P (f (world_after e j))) → ((next : Judged) → P next → (answer_to e j ≡ answer) × (next ≡ f (world_after e j)))
    → Exactly (option_map f (comes e answer j)) P
answered {P} f e answer j compared holds only = by_test (same_answer (answer_to e j) answer) refl where
  by_test : (b : Bool) → same_answer (answer_to e j) answer ≡ b → Exactly (option_map f (elim b [ true ↦ Some (world_after e j) | false ↦ None ])) P
  by_test true is = this (f (world_after e j)) (holds (answers_same (answer_to e j) answer is)) (λ next p. (only next p).1)
  by_test false is = nothing (λ next p. clash (sym is ∙ ap (λ a. same_answer a answer) (only next p).0 ∙ answer_itself answer compared))

-- the places, numbered
abbrev rank : Place → ℕ
rank Starting = 0
rank Between = 1
rank Pulling = 2
rank (Giving line) = 3
rank (Again line) = 4
rank Sending = 5
rank (Offering node datagram next) = 6
rank (Taking taken) = 7
rank (Handing node nodes) = 8
rank Over = 9

-- two places that have different numbers are two
apart : (here there place : Place) → (rank here == rank there) ≡ false → place ≡ here → place ≡ there → ⊥
apart here there place differ is so = clash (sym differ ∙ eq-eqb (rank here) (rank there) (ap rank (sym is ∙ so)))

starts_exactly : (place : Place) (j : Judged) → j.place ≡ place → Exactly (starts_at place j) (NetworkStarts j)
starts_exactly Starting j is = this (at Between j) (record { place = is; then = refl }) (λ next s. s.then)
starts_exactly place j is = nothing (λ next s. apart place Starting j.place refl is s.place)

moment_by : (b : Bool) (j : Judged) (turn now : ℕ) → (j.profile.step == 0) ≡ b
    → elim b [ true ↦ nat_le j.now now | false ↦ now == turn * j.profile.step ] ≡ true → IsMoment j turn now
moment_by true j turn now is e = record { stepped = λ some. absurd (some (eqb-true j.profile.step 0 is)); clocked = λ none. grind (arith, e) }
moment_by false j turn now is e = record {
  stepped = λ some. eqb-true now (turn * j.profile.step) e;
  clocked = λ none. absurd (clash (sym is ∙ eq-eqb j.profile.step 0 none));
}

some_step : (j : Judged) → (j.profile.step == 0) ≡ false → j.profile.step ≢ 0
some_step j is none = clash (sym is ∙ eq-eqb j.profile.step 0 none)

at_most : (a b : ℕ) → a ≤ b → nat_le a b ≡ true
at_most a b le = grind (arith, le)

by_moment : (b : Bool) (j : Judged) (turn now : ℕ) → (j.profile.step == 0) ≡ b → IsMoment j turn now
    → elim b [ true ↦ nat_le j.now now | false ↦ now == turn * j.profile.step ] ≡ true
by_moment true j turn now is m = at_most j.now now (m.clocked (eqb-true j.profile.step 0 is))
by_moment false j turn now is m = eq-eqb now (turn * j.profile.step) (m.stepped (some_step j is))

not_true : (b : Bool) → not b ≡ true → b ≡ false
not_true true e = absurd (clash e)
not_true false e = refl

is_not : (b : Bool) → b ≡ false → not b ≡ true
is_not true e = absurd (clash (sym e))
is_not false e = refl

turns_exactly : (place : Place) (j : Judged) (turn now : ℕ) → j.place ≡ place → Exactly (turns_at place j turn now) (TurnBegins j turn now)
turns_exactly Between j turn now is =
    when (turn == j.turn + 1 && is_moment j turn now && not (is_done j)) (Some (in_turn turn now j))
    (λ next t. both_true (turn == j.turn + 1 && is_moment j turn now) (not (is_done j))
    (both_true (turn == j.turn + 1) (is_moment j turn now) (eq-eqb turn (j.turn + 1) t.number) (by_moment (j.profile.step == 0) j turn now refl t.moment))
    (is_not (is_done j) t.more))
    (λ e.
    let two = both (turn == j.turn + 1 && is_moment j turn now) (not (is_done j)) e in
    let one = both (turn == j.turn + 1) (is_moment j turn now) two.0 in
    this (in_turn turn now j) (record {
      place = is;
      number = eqb-true turn (j.turn + 1) one.0;
      moment = moment_by (j.profile.step == 0) j turn now refl one.1;
      more = not_true (is_done j) two.1;
      then = refl;
    }) (λ next t. t.then))
turns_exactly place j turn now is = nothing (λ next t. apart place Between j.place refl is t.place)

ends_exactly : (place : Place) (j : Judged) → j.place ≡ place → Exactly (ends_at place j) (SummaryMade j)
ends_exactly Between j is =
    when (is_done j) (Some (at Over j)) (λ next s. s.done) (λ e. this (at Over j) (record { place = is; done = e; then = refl }) (λ next s. s.then))
ends_exactly place j is = nothing (λ next s. apart place Between j.place refl is s.place)

takes_exactly : (place : Place) (j : Judged) (to : ℕ) (octets : List ℕ) → j.place ≡ place → Exactly (takes_at place j to octets) (DatagramTaken j to octets)
takes_exactly (Taking taken) j to octets is =
    this (at (after_take taken j) (delivered to octets j)) (record { count = taken; place = is; then = refl })
    (λ next t. let same : Taking taken ≡ Taking t.count = sym is ∙ t.place in
    let count : t.count ≡ taken = cc in t.then ∙ ap (λ n. at (after_take n j) (delivered to octets j)) count)
takes_exactly place j to octets is = nothing (λ next t. apart place (Taking t.count) j.place refl is t.place)

none_exactly : (place : Place) (j : Judged) → j.place ≡ place → Exactly (finds_none_at place j) (NoneReady j)
none_exactly (Taking taken) j is = this (at (receivers_due j) j) (record { count = taken; place = is; then = refl }) (λ next t. t.then)
none_exactly place j is = nothing (λ next t. apart place (Taking t.count) j.place refl is t.place)

-- a line of another producer
abbrev IsOther : ℕ → Line → Type 0
IsOther producer line = line.producer ≢ producer

-- what a producer's first line is, if the lines are cut at it
record Cut (producer : ℕ) (lines : List Line) (line : Line) (rest : List Line) : Type 0 where
  its : line.producer ≡ producer
  before : List Line
  behind : List Line
  its_place : lines ≡ before ++ line ∷ behind
  rest_is : rest ≡ before ++ behind
  first : All (IsOther producer) before

-- a search that goes on behind a line, unless it is the one
abbrev head_or : Bool → Line → List Line → Option (Line × List Line) → Option (Line × List Line)
head_or b l lines o = elim b [ true ↦ Some (l, lines) | false ↦ option_map (λ (found : Line × List Line). (found.0, l ∷ found.1)) o ]

two_numbers : (a b : ℕ) → (a == b) ≡ false → a ≢ b
two_numbers a b e same = clash (sym e ∙ eq-eqb a b same)

cut_at : (producer : ℕ) (l : Line) (lines : List Line) (b : Bool) (o : Option (Line × List Line)) → (l.producer == producer) ≡ b
    → ((found : Line) (more : List Line) → ◌≡◌ {A = Option (Line × List Line)} o (Some (found, more)) → Cut producer lines found more)
    → (line : Line) (rest : List Line) → head_or b l lines o ≡ Some (line, rest) → Cut producer (l ∷ lines) line rest
cut_at producer l lines true o is each line rest e =
    let same = some_pair_parts l line lines rest e in
    subst (λ x. Cut producer (l ∷ lines) x rest) same.0
    (subst (λ x. Cut producer (l ∷ lines) l x) same.1
    (record { its = eqb-true l.producer producer is; before = []; behind = lines; its_place = refl; rest_is = refl; first = All-nil (IsOther producer) }))
cut_at producer l lines false None is each line rest e = absurd (none-some _ e)
cut_at producer l lines false (Some found) is each line rest e =
    let same = some_pair_parts found.0 line (l ∷ found.1) rest e in
    let cut = each found.0 found.1 refl in
    subst (λ x. Cut producer (l ∷ lines) x rest) same.0
    (subst (λ x. Cut producer (l ∷ lines) found.0 x) same.1
    (record {
      its = cut.its;
      before = l ∷ cut.before;
      behind = cut.behind;
      its_place = ap (λ xs. l ∷ xs) cut.its_place;
      rest_is = ap (λ xs. l ∷ xs) cut.rest_is;
      first = All-cons (IsOther producer) l cut.before (two_numbers l.producer producer is) cut.first;
    }))

cut_lines : (producer : ℕ) (lines : List Line) (line : Line) (rest : List Line)
    → ◌≡◌ {A = Option (Line × List Line)} (first_line producer lines) (Some (line, rest)) → Cut producer lines line rest
unfolding first_line
cut_lines producer [] line rest e = absurd (none-some _ e)
cut_lines producer (l ∷ lines) line rest e =
    cut_at producer l lines (l.producer == producer) (first_line producer lines) refl (λ found more is. cut_lines producer lines found more is) line rest e

differ : (a b : ℕ) → a ≢ b → (a == b) ≡ false
differ a b two = by_test (a == b) refl where
  by_test : (c : Bool) → (a == b) ≡ c → c ≡ false
  by_test true is = absurd (two (eqb-true a b is))
  by_test false is = refl

first_there : (producer : ℕ) (before behind : List Line) (line : Line) → line.producer ≡ producer
    → All (IsOther producer) before
    → ◌≡◌ {A = Option (Line × List Line)} (first_line producer (before ++ line ∷ behind)) (Some (line, before ++ behind))
unfolding first_line
first_there producer [] behind line its first =
    ap (λ b. head_or b line behind (first_line producer behind)) (eq-eqb line.producer producer its)
first_there producer (l ∷ before) behind line its first =
    ap (λ b. head_or b l (before ++ line ∷ behind) (first_line producer (before ++ line ∷ behind))) (differ l.producer producer (All-head (IsOther producer) l before first))
    ∙ ap (λ o. head_or false l (before ++ line ∷ behind) o) (first_there producer before behind line its (All-tail (IsOther producer) l before first))

-- a line that was found, where it has the number
abbrev number_or : ℕ → Option (Line × List Line) → Option (Line × List Line)
number_or number o = elim o [ Some found ↦ elim (found.0.number == number) [ true ↦ Some found | false ↦ None ] | None ↦ None ]

abbrev where_so : Bool → Line × List Line → Option (Line × List Line)
where_so b found = elim b [ true ↦ Some found | false ↦ None ]

abbrev found_with : Line → List Line → Option (Line × List Line)
found_with line rest = Some (line, rest)

pulled_there : (by : Origin) (lines : List Line) (line : Line) (rest : List Line) → IsFirstLeft by lines line rest
    → ◌≡◌ {A = Option (Line × List Line)} (pulled by lines) (Some (line, rest))
pulled_there by lines line rest f =
    ap (pulled by) f.its_place
    ∙ ap (number_or by.number) (first_there by.producer f.before f.behind line (ap (λ (o : Origin). o.producer) f.named) f.first)
    ∙ ap (λ b. where_so b (line, f.before ++ f.behind)) (eq-eqb line.number by.number (ap (λ (o : Origin). o.number) f.named))
    ∙ ap (found_with line) (sym f.rest_is)

pulls_exactly : (place : Place) (j : Judged) (by : Origin) → j.place ≡ place → Exactly (pulls_at place j by) (CommandPulled j by)
pulls_exactly Pulling j by is = record {
  forth = λ next e. from_map (line_pulled j) (pulled by j.left) next e (λ found so same.
      let two = numbered by.number (first_line by.producer j.left) found so in
      let cut = cut_lines by.producer j.left found.0 found.1 two.0 in
      subst (CommandPulled j by) same (record {
        place = is;
        line = found.0;
        rest = found.1;
        is_first = record {
          named = same_name found.0.producer found.0.number by.producer by.number cut.its two.1;
          before = cut.before;
          behind = cut.behind;
          its_place = cut.its_place;
          rest_is = cut.rest_is;
          first = cut.first;
        };
        then = refl;
      }));
  back = λ next p. ap (option_map (line_pulled j)) (pulled_there by j.left p.line p.rest p.is_first) ∙ ap Some (sym p.then);
}
pulls_exactly place j by is = nothing (λ next p. apart place Pulling j.place refl is p.place)

content_same : (files : Files) (name octets : List ℕ) → is_content files name octets ≡ true → IsContent files name octets
content_same None name octets e = tt
content_same (Some files) name octets e = maybe_same (pointwise nat_eq) same_list (content_of files name) (Some octets) e

content_there : (files : Files) (name octets : List ℕ) → IsContent files name octets → is_content files name octets ≡ true
content_there None name octets is = refl
content_there (Some files) name octets is = ap (λ o. option_eq same_octets o (Some octets)) is ∙ list_itself octets

same_there : (xs ys : List ℕ) → xs ≡ ys → same_octets xs ys ≡ true
same_there xs ys is = ap (λ zs. same_octets xs zs) (sym is) ∙ list_itself xs

info_there : (a b : Option (List ℕ)) → a ≡ b → option_eq same_octets a b ≡ true
info_there a b is = ap (λ o. option_eq same_octets a o) (sym is) ∙ maybe_itself (pointwise nat_eq) list_itself a

number_there : (a b : Option ℕ) → a ≡ b → option_eq nat_eq a b ≡ true
number_there a b is = ap (λ o. option_eq nat_eq a o) (sym is) ∙ maybe_itself nat_eq (λ x. eq-eqb x x refl) a

length_same : (files : Files) (name : List ℕ) (len : ℕ) → is_length files name len ≡ true → IsLength files name len
length_same None name len e = tt
length_same (Some files) name len e = maybe_same nat_eq (λ x y same. eqb-true x y same) (option_map length (content_of files name)) (Some len) e

length_there : (files : Files) (name : List ℕ) (len : ℕ) → IsLength files name len → is_length files name len ≡ true
length_there None name len is = refl
length_there (Some files) name len is = number_there (option_map length (content_of files name)) (Some len) is

file_same : (v : Verb) (name : List ℕ) → is_file_of v name ≡ true → v ≡ verb.File name
file_same (verb.File other) name e = ap verb.File (same_list other name e)
file_same (verb.Data info octets) name e = absurd (clash e)
file_same verb.Open name e = absurd (clash e)
file_same (verb.Write octets) name e = absurd (clash e)
file_same verb.Close name e = absurd (clash e)
file_same (verb.Mark quorum) name e = absurd (clash e)
file_same (verb.Restart instance) name e = absurd (clash e)
file_same (verb.Strike node) name e = absurd (clash e)

file_there : (v : Verb) (name : List ℕ) → v ≡ verb.File name → is_file_of v name ≡ true
file_there v name is = ap (λ x. is_file_of x name) is ∙ list_itself name

job_same : (files : Files) (v : Verb) (job : Job) → is_job_of files v job ≡ true → IsJobOf files v job
job_same files (verb.Data info octets) (job.Data other bytes) e =
    let two = both (option_eq same_octets info other) (same_octets octets bytes) e in
    (maybe_same (pointwise nat_eq) same_list info other two.0, same_list octets bytes two.1)
job_same files (verb.File name) (job.File other octets) e =
    let two = both (same_octets name other) (is_content files name octets) e in
    (same_list name other two.0, content_same files name octets two.1)
job_same files verb.Open job.Open e = tt
job_same files (verb.Write octets) (job.Write bytes) e = same_list octets bytes e
job_same files verb.Close job.Close e = tt
job_same files (verb.Mark quorum) (job.Mark other) e = maybe_same nat_eq (λ x y same. eqb-true x y same) quorum other e
job_same files (verb.Restart instance) (job.Restart other) e = eqb-true instance other e
job_same files (verb.Strike node) (job.Strike other) e = eqb-true node other e
job_same files _ _ e = clash e

job_there : (files : Files) (v : Verb) (job : Job) → IsJobOf files v job → is_job_of files v job ≡ true
job_there files (verb.Data info octets) (job.Data other bytes) is =
    both_true (option_eq same_octets info other) (same_octets octets bytes) (info_there info other is.0) (same_there octets bytes is.1)
job_there files (verb.File name) (job.File other octets) is =
    both_true (same_octets name other) (is_content files name octets) (same_there name other is.0) (content_there files name octets is.1)
job_there files verb.Open job.Open is = refl
job_there files (verb.Write octets) (job.Write bytes) is = same_there octets bytes is
job_there files verb.Close job.Close is = refl
job_there files (verb.Mark quorum) (job.Mark other) is = number_there quorum other is
job_there files (verb.Restart instance) (job.Restart other) is = eq-eqb instance other is
job_there files (verb.Strike node) (job.Strike other) is = eq-eqb node other is
job_there files _ _ is = absurd is

name_there : (a b : Origin) → a ≡ b → same_origin a b ≡ true
name_there a b is =
    both_true (a.producer == b.producer) (a.number == b.number)
    (eq-eqb a.producer b.producer (ap (λ (o : Origin). o.producer) is)) (eq-eqb a.number b.number (ap (λ (o : Origin). o.number) is))

-- behind a search, where what follows says that it finds something
through : {X : Type 0} {P : Judged → Type 0} (f : X → Option Judged) (found : Option X) → ((next : Judged) → P next → (x : X) × (found ≡ Some x))
    → ((x : X) → found ≡ Some x → Exactly (f x) P) → Exactly (option_and_then f found) P
through f None some each = nothing (λ next p. let there = some next p in none-some there.0 there.1)
through f (Some x) some each = each x refl

-- what is due where an offer tells its job
record First (j : Judged) (by : Origin) (line its : Line) (job other : Job) (gave : Result Receipt SendFault) : Type 0 where
  named : origin_of line ≡ by
  its_job : IsJobOf j.files line.verb job
  read : is_read job gave ≡ true
  one_line : its ≡ line
  one : other ≡ job

first_due : (j : Judged) (by : Origin) (line its : Line) (job other : Job) (gave : Result Receipt SendFault) → telling j.place ≡ Some line
    → origin_of its ≡ by → OfferedAndTold j its (Some job) other gave ⊎ OfferedAgain j its (Some job) other → First j by line its job other gave
first_due j by line its job other gave is named (inl f) =
    let lines = same_Some its line (sym f.place ∙ is) in
    let jobs = same_Some job other f.told_is in
    record {
      named = subst (λ (x : Line). origin_of x ≡ by) lines named;
      its_job = subst (λ (x : Line). IsJobOf j.files x.verb job) lines (subst (λ x. IsJobOf j.files its.verb x) (sym jobs) f.its_job);
      read = subst (λ x. is_read x gave ≡ true) (sym jobs) f.read;
      one_line = lines;
      one = sym jobs;
    }
first_due j by line its job other gave is named (inr a) = absurd (none-some job (sym a.told_is))

some_first : (j : Judged) (its : Line) (job other : Job) (gave : Result Receipt SendFault)
    → OfferedAndTold j its (Some job) other gave ⊎ OfferedAgain j its (Some job) other → (line : Line) × (telling j.place ≡ Some line)
some_first j its job other gave (inl f) = (its, f.place)
some_first j its job other gave (inr a) = absurd (none-some job (sym a.told_is))

-- what is due at another offer
record Another (known : Line × Job) (its : Line) (other : Job) : Type 0 where
  one_line : its ≡ known.0
  one : other ≡ known.1

again_due : (j : Judged) (known : Line × Job) (its : Line) (other : Job) (gave : Result Receipt SendFault)
    → ◌≡◌ {A = Option (Line × Job)} (repeating j.place) (Some (known.0, known.1))
    → OfferedAndTold j its None other gave ⊎ OfferedAgain j its None other → Another known its other
again_due j known its other gave is (inl f) = absurd (none-some other f.told_is)
again_due j known its other gave is (inr a) =
    let two = some_pair_parts its known.0 other known.1 (sym a.place ∙ is) in record { one_line = two.0; one = two.1 }

some_again : (j : Judged) (its : Line) (other : Job) (gave : Result Receipt SendFault)
    → OfferedAndTold j its None other gave ⊎ OfferedAgain j its None other → (known : Line × Job) × (repeating j.place ≡ Some known)
some_again j its other gave (inl f) = absurd (none-some other f.told_is)
some_again j its other gave (inr a) = ((its, other), a.place)

-- what an offer of this job gave, and leads to
gave_so : (j : Judged) (by : Origin) (line its : Line) (job other : Job) (gave : Result Receipt SendFault) (next : Judged) → its ≡ line → other ≡ job
    → answer_to (Commanded by other j.now) j ≡ Gave gave → next ≡ offered its gave (world_after (Commanded by other j.now) j)
    → (answer_to (Commanded by job j.now) j ≡ Gave gave) × (next ≡ offered line gave (world_after (Commanded by job j.now) j))
gave_so j by line its job other gave next lines one gives then = (
  subst (λ x. answer_to (Commanded by x j.now) j ≡ Gave gave) one gives,
  subst (λ x. next ≡ offered x gave (world_after (Commanded by job j.now) j)) lines
      (subst (λ x. next ≡ offered its gave (world_after (Commanded by x j.now) j)) one then),
)

told_exactly : (j : Judged) (by : Origin) (line : Line) (job : Job) (gave : Result Receipt SendFault) → telling j.place ≡ Some line
    → Exactly (gives line by job gave j) (CommandOffered j by (Some job) gave)
told_exactly j by line job gave is =
    when (same_origin (origin_of line) by && is_job_of j.files line.verb job && is_read job gave) (offers line by job gave j)
    (λ next p. let f = first_due j by line p.line job p.job gave is p.named p.due in
    both_true (same_origin (origin_of line) by && is_job_of j.files line.verb job) (is_read job gave)
    (both_true (same_origin (origin_of line) by) (is_job_of j.files line.verb job) (name_there (origin_of line) by f.named) (job_there j.files line.verb job f.its_job))
    f.read)
    (λ e. let two = both (same_origin (origin_of line) by && is_job_of j.files line.verb job) (is_read job gave) e in
    let one = both (same_origin (origin_of line) by) (is_job_of j.files line.verb job) two.0 in
    answered (offered line gave) (Commanded by job j.now) (Gave gave) j tt
    (λ gives. record {
      line = line;
      job = job;
      named = one_name (origin_of line) by one.0;
      due = inl (record { place = is; told_is = refl; its_job = job_same j.files line.verb job one.1; read = two.1 });
      gives = gives;
      then = refl;
    })
    (λ next p. let f = first_due j by line p.line job p.job gave is p.named p.due in
    gave_so j by line p.line job p.job gave next f.one_line f.one p.gives p.then))

known_exactly : (j : Judged) (by : Origin) (known : Line × Job) (gave : Result Receipt SendFault)
    → ◌≡◌ {A = Option (Line × Job)} (repeating j.place) (Some (known.0, known.1)) → Exactly (repeats known by gave j) (CommandOffered j by None gave)
known_exactly j by known gave is =
    when (same_origin (origin_of known.0) by) (offers known.0 by known.1 gave j)
    (λ next p. name_there (origin_of known.0) by
    (subst (λ (x : Line). origin_of x ≡ by) (again_due j known p.line p.job gave is p.due).one_line p.named))
    (λ e. answered (offered known.0 gave) (Commanded by known.1 j.now) (Gave gave) j tt
    (λ gives. record {
      line = known.0;
      job = known.1;
      named = one_name (origin_of known.0) by e;
      due = inr (record { place = is; told_is = refl });
      gives = gives;
      then = refl;
    })
    (λ next p. let a = again_due j known p.line p.job gave is p.due in
    gave_so j by known.0 p.line known.1 p.job gave next a.one_line a.one p.gives p.then))

jobs_exactly : (j : Judged) (by : Origin) (told : Option Job) (gave : Result Receipt SendFault) → Exactly (jobs_at j.place j by told gave) (CommandOffered j by told gave)
jobs_exactly j by (Some job) gave =
    through (λ line. gives line by job gave j) (telling j.place) (λ next p. some_first j p.line job p.job gave p.due) (λ line is. told_exactly j by line job gave is)
jobs_exactly j by None gave =
    through (λ (known : Line × Job). repeats known by gave j) (repeating j.place) (λ next p. some_again j p.line p.job gave p.due)
    (λ known is. known_exactly j by known gave is)

refusal_exactly : (j : Judged) (by : Origin) (line : Line) (name : List ℕ) (len : ℕ) (fault : SendFault) → telling j.place ≡ Some line
    → Exactly (refuses line by name len fault j) (FileRefused j by name len fault)
refusal_exactly j by line name len fault is =
    when (same_origin (origin_of line) by && is_file_of line.verb name && is_length j.files name len) (offers line by (file_of_length name len) (Err fault) j)
    (λ next p. let lines = same_Some p.line line (sym p.place ∙ is) in
    both_true (same_origin (origin_of line) by && is_file_of line.verb name) (is_length j.files name len)
    (both_true (same_origin (origin_of line) by) (is_file_of line.verb name)
    (name_there (origin_of line) by (subst (λ (x : Line). origin_of x ≡ by) lines p.named))
    (file_there line.verb name (subst (λ (x : Line). x.verb ≡ verb.File name) lines p.its_name)))
    (length_there j.files name len p.its_length))
    (λ e. let two = both (same_origin (origin_of line) by && is_file_of line.verb name) (is_length j.files name len) e in
    let one = both (same_origin (origin_of line) by) (is_file_of line.verb name) two.0 in
    answered (offered line (Err fault)) (Commanded by (file_of_length name len) j.now) (Gave (Err fault)) j tt
    (λ gives. record {
      line = line;
      place = is;
      named = one_name (origin_of line) by one.0;
      its_name = file_same line.verb name one.1;
      its_length = length_same j.files name len two.1;
      gives = gives;
      then = refl;
    })
    (λ next p. (
      p.gives,
      subst (λ x. next ≡ offered x (Err fault) (world_after (Commanded by (file_of_length name len) j.now) j))
          (same_Some p.line line (sym p.place ∙ is)) p.then,
    )))

lengths_exactly : (j : Judged) (by : Origin) (name : List ℕ) (len : ℕ) (fault : SendFault)
    → Exactly (lengths_at j.place j by name len fault) (FileRefused j by name len fault)
lengths_exactly j by name len fault =
    through (λ line. refuses line by name len fault j) (telling j.place) (λ next p. (p.line, p.place)) (λ line is. refusal_exactly j by line name len fault is)

none_left : (ups : List Up) → elim ups [ [] ↦ true | up ∷ more ↦ false ] ≡ true → ups ≡ []
none_left [] e = refl
none_left (up ∷ ups) e = absurd (clash e)

abbrev are_none : List Up → Bool
are_none ups = elim ups [ [] ↦ true | up ∷ more ↦ false ]

taken_same : (o : Option ReceiverState) → all_taken o ≡ true → AllTaken o
taken_same (Some r) e = none_left r.holding.ups e
taken_same None e = tt

taken_there : (o : Option ReceiverState) → AllTaken o → all_taken o ≡ true
taken_there (Some r) is = ap are_none is
taken_there None is = refl

said_same : (said : Sent) (datagram : Option Written) → same_sent said datagram ≡ true → said ≡ sent_of datagram
said_same sent.Nothing None e = refl
said_same sent.Datagram (Some datagram) e = refl
said_same sent.Nothing (Some datagram) e = absurd (clash e)
said_same sent.Datagram None e = absurd (clash e)

said_itself : (datagram : Option Written) → same_sent (sent_of datagram) datagram ≡ true
said_itself None = refl
said_itself (Some datagram) = refl

-- a tick's node and what is due after it
record IsDue (node due : ℕ) (after other : Place) : Type 0 where
  node_is : node ≡ due
  after_is : other ≡ after

gave_exactly : (due : ℕ) (after : Place) (j : Judged) (node : ℕ) (said : Sent) (answer : Answer) → answer_to (Ticked node j.now) j ≡ answer
    → SendersTick j node after ⊎ ReceiversTick j node after → AllTaken (receiver_at j.world node)
    → ((next : Judged) (p : NodeTicks j node said next) → IsDue node due after p.after)
    → Exactly (gave_datagram node said after answer (world_after (Ticked node j.now) j)) (NodeTicks j node said)
gave_exactly due after j node said (Gives datagram) is its taken only =
    when (same_sent said datagram) (Some (at (after_tick node datagram after) (world_after (Ticked node j.now) j)))
    (λ next p. ap (λ s. same_sent s datagram) (p.said_is ∙ ap sent_of (its_datagram p.datagram p.gives)) ∙ said_itself datagram)
    (λ e. this (at (after_tick node datagram after) (world_after (Ticked node j.now) j)) (record {
      after = after;
      due = its;
      taken = taken;
      datagram = datagram;
      gives = is;
      said_is = said_same said datagram e;
      then = refl;
    })
    (λ next p. p.then
    ∙ ap (λ d. at (after_tick node d p.after) (world_after (Ticked node j.now) j)) (its_datagram p.datagram p.gives)
    ∙ ap (λ a. at (after_tick node datagram a) (world_after (Ticked node j.now) j)) (only next p).after_is))
  where
    its_datagram : (other : Option Written) → answer_to (Ticked node j.now) j ≡ Gives other → other ≡ datagram
    its_datagram other gives = let same : Gives datagram ≡ Gives other = sym is ∙ gives in cc
gave_exactly due after j node said (Gave result) is its taken only = nothing (λ next p. let same : Gave result ≡ Gives p.datagram = sym is ∙ p.gives in cc)
gave_exactly due after j node said (Took up) is its taken only = nothing (λ next p. let same : Took up ≡ Gives p.datagram = sym is ∙ p.gives in cc)
gave_exactly due after j node said (Told news) is its taken only = nothing (λ next p. let same : Told news ≡ Gives p.datagram = sym is ∙ p.gives in cc)
gave_exactly due after j node said Silent is its taken only = nothing (λ next p. let same : Silent ≡ Gives p.datagram = sym is ∙ p.gives in cc)

tick_exactly : (due : ℕ) (after : Place) (j : Judged) (node : ℕ) (said : Sent) → (node ≡ due → SendersTick j node after ⊎ ReceiversTick j node after)
    → ((next : Judged) (p : NodeTicks j node said next) → IsDue node due after p.after)
    → Exactly (tick_of due after j node said) (NodeTicks j node said)
tick_exactly due after j node said its only =
    when (node == due && all_taken (receiver_at j.world node)) _
    (λ next p. both_true (node == due) (all_taken (receiver_at j.world node)) (eq-eqb node due (only next p).node_is) (taken_there (receiver_at j.world node) p.taken))
    (λ e. let two = both (node == due) (all_taken (receiver_at j.world node)) e in
    gave_exactly due after j node said (answer_to (Ticked node j.now) j) refl (its (eqb-true node due two.0))
    (taken_same (receiver_at j.world node) two.1) only)

sender_due : (j : Judged) (node : ℕ) (after : Place) → j.place ≡ Sending → SendersTick j node after ⊎ ReceiversTick j node after
    → IsDue node j.profile.sender (Taking 0) after
sender_due j node after is (inl s) = record { node_is = s.node_is; after_is = s.after_is }
sender_due j node after is (inr r) = absurd (apart Sending (Handing node r.nodes) j.place refl is r.place)

receiver_due : (j : Judged) (node due : ℕ) (nodes : List ℕ) (after : Place) → j.place ≡ Handing due nodes
    → SendersTick j node after ⊎ ReceiversTick j node after → IsDue node due (handing nodes) after
receiver_due j node due nodes after is (inl s) = absurd (apart (Handing due nodes) Sending j.place refl is s.place)
receiver_due j node due nodes after is (inr r) =
    let same : Handing due nodes ≡ Handing node r.nodes = sym is ∙ r.place in
    let one : node ≡ due = cc in
    let rest : r.nodes ≡ nodes = cc in
    record { node_is = one; after_is = r.after_is ∙ ap handing rest }

no_tick : (place : Place) (j : Judged) (node : ℕ) (after : Place) → (rank place == 5) ≡ false → (rank place == 8) ≡ false → j.place ≡ place
    → SendersTick j node after ⊎ ReceiversTick j node after → ⊥
no_tick place j node after five eight is (inl s) = apart place Sending j.place five is s.place
no_tick place j node after five eight is (inr r) = apart place (Handing node r.nodes) j.place eight is r.place

ticks_exactly : (place : Place) (j : Judged) (node : ℕ) (said : Sent) → j.place ≡ place → Exactly (ticks_at place j node said) (NodeTicks j node said)
ticks_exactly Sending j node said is =
    tick_exactly j.profile.sender (Taking 0) j node said (λ e. inl (record { place = is; node_is = e; after_is = refl }))
    (λ next p. sender_due j node p.after is p.due)
ticks_exactly (Handing due nodes) j node said is =
    tick_exactly due (handing nodes) j node said
    (λ e. inr (record { nodes = nodes; place = is ∙ ap (λ n. Handing n nodes) (sym e); after_is = refl }))
    (λ next p. receiver_due j node due nodes p.after is p.due)
ticks_exactly place j node said is = nothing (λ next p. no_tick place j node p.after refl refl is p.due)

-- where a datagram is to be offered, which one by whom, and what is due then
record IsOffered (node from : ℕ) (datagram octets : List ℕ) (next after : Place) : Type 0 where
  node_is : from ≡ node
  octets_are : octets ≡ datagram
  after_is : after ≡ next

offered_due : (j : Judged) (node from : ℕ) (datagram octets : List ℕ) (next after : Place) → j.place ≡ Offering node datagram next
    → j.place ≡ Offering from octets after → IsOffered node from datagram octets next after
offered_due j node from datagram octets next after is so =
    let same : Offering node datagram next ≡ Offering from octets after = sym is ∙ so in
    let one : from ≡ node = cc in
    let its : octets ≡ datagram = cc in
    let due : after ≡ next = cc in
    record { node_is = one; octets_are = its; after_is = due }

offers_exactly : (place : Place) (j : Judged) (from : ℕ) (octets : List ℕ) → j.place ≡ place
    → Exactly (offers_at place j from octets) (DatagramOffered j from octets)
offers_exactly (Offering node datagram next) j from octets is =
    when (from == node && same_octets octets datagram) _
    (λ n p. let o = offered_due j node from datagram octets next p.after is p.place in
    both_true (from == node) (same_octets octets datagram) (eq-eqb from node o.node_is) (same_there octets datagram o.octets_are))
    (λ e. let two = both (from == node) (same_octets octets datagram) e in
    answered (at next) (Offered from octets) Silent j tt
    (λ gives. record {
      after = next;
      place = is ∙ ap (λ n. Offering n datagram next) (sym (eqb-true from node two.0)) ∙ ap (λ d. Offering from d next) (sym (same_list octets datagram two.1));
      then = refl;
    })
    (λ n p. (refl, p.then ∙ ap (λ a. at a (world_after (Offered from octets) j)) (offered_due j node from datagram octets next p.after is p.place).after_is)))
offers_exactly place j from octets is = nothing (λ next p. apart place (Offering from octets p.after) j.place refl is p.place)

abbrev in_it : Option ℕ → ℕ → Bool
in_it o instance = elim o [ Some current ↦ current == instance | None ↦ false ]

in_same : (o : Option ℕ) (instance : ℕ) → in_it o instance ≡ true → o ≡ Some instance
in_same (Some current) instance e = ap Some (eqb-true current instance e)
in_same None instance e = absurd (clash e)

in_there : (o : Option ℕ) (instance : ℕ) → o ≡ Some instance → in_it o instance ≡ true
in_there o instance is = ap (λ x. in_it x instance) is ∙ eq-eqb instance instance refl

abbrev at_it : Option ReceiverState → ℕ → Bool
at_it o instance = elim o [ Some r ↦ is_in r instance | None ↦ false ]

abbrev instance_of : Option ReceiverState → Option ℕ
instance_of o = elim o [ Some r ↦ r.instance | None ↦ None ]

at_same : (o : Option ReceiverState) (instance : ℕ) → at_it o instance ≡ true → instance_of o ≡ Some instance
at_same (Some r) instance e = in_same r.instance instance e
at_same None instance e = absurd (clash e)

at_there : (o : Option ReceiverState) (instance : ℕ) → instance_of o ≡ Some instance → at_it o instance ≡ true
at_there (Some r) instance is = in_there r.instance instance is
at_there None instance is = absurd (none-some instance is)

handing_node : (j : Judged) (node due : ℕ) (nodes more : List ℕ) → j.place ≡ Handing due nodes → j.place ≡ Handing node more → node ≡ due
handing_node j node due nodes more is so = let same : Handing due nodes ≡ Handing node more = sym is ∙ so in cc

ups_exactly : (place : Place) (j : Judged) (node instance : ℕ) (up : Up) → j.place ≡ place → Exactly (ups_at place j node instance up) (HandedUp j node instance up)
ups_exactly (Handing due nodes) j node instance up is =
    when (node == due && is_at j.world node instance) _
    (λ next p. both_true (node == due) (is_at j.world node instance) (eq-eqb node due (handing_node j node due nodes p.nodes is p.place))
    (at_there (receiver_at j.world node) instance p.within))
    (λ e. let two = both (node == due) (is_at j.world node instance) e in
    answered (handed up) (UpTaken node) (Took (Some up)) j tt
    (λ gives. record {
      nodes = nodes;
      place = is ∙ ap (λ n. Handing n nodes) (sym (eqb-true node due two.0));
      within = at_same (receiver_at j.world node) instance two.1;
      gives = gives;
      then = refl;
    })
    (λ next p. (p.gives, p.then)))
ups_exactly place j node instance up is = nothing (λ next p. apart place (Handing node p.nodes) j.place refl is p.place)

-- where no change is to be told
quietly : {P : Judged → Type 0} (j : Judged) (o : Option Judged) → IsQuiet j → Exactly o P → Exactly o (λ next. IsQuiet j × P next)
quietly j o quiet exactly = record { forth = λ next e. (quiet, exactly.forth next e); back = λ next p. exactly.back next p.1 }

told_same : (a b : News) → Some a ≡ Some b → a ≡ b
told_same a b e = same_Some a b e

next_exactly : (j : Judged) (e : Event) → IsQuiet j → Exactly (accepts_next j e) (Follows j e)
next_exactly j event.Start quiet = quietly j _ quiet (starts_exactly j.place j refl)
next_exactly j (event.Turn turn now) quiet = quietly j _ quiet (turns_exactly j.place j turn now refl)
next_exactly j (event.Pull by) quiet = quietly j _ quiet (pulls_exactly j.place j by refl)
next_exactly j (event.Job by job gave) quiet = quietly j _ quiet (jobs_exactly j by job gave)
next_exactly j (event.Length by name len fault) quiet = quietly j _ quiet (lengths_exactly j by name len fault)
next_exactly j (event.Tick node said) quiet = quietly j _ quiet (ticks_exactly j.place j node said refl)
next_exactly j (event.Offer from octets) quiet = quietly j _ quiet (offers_exactly j.place j from octets refl)
next_exactly j (event.Took to octets) quiet = quietly j _ quiet (takes_exactly j.place j to octets refl)
next_exactly j event.Empty quiet = quietly j _ quiet (none_exactly j.place j refl)
next_exactly j (event.Up node instance up) quiet = quietly j _ quiet (ups_exactly j.place j node instance up refl)
next_exactly j (event.News news) quiet = nothing (λ next p. none-some news (sym quiet ∙ p.due))
next_exactly j event.End quiet = quietly j _ quiet (ends_exactly j.place j refl)

not_quiet : {P : Judged → Type 0} (j : Judged) (news : News) → news_due j ≡ Some news → Exactly None (λ next. IsQuiet j × P next)
not_quiet j news due = nothing (λ next p. none-some news (sym p.0 ∙ due))

news_exactly : (j : Judged) (e : Event) (due : News) → news_due j ≡ Some due → Exactly (accepts_news j e) (Follows j e)
news_exactly j (event.News news) due is =
    answered (told_of news) NewsAsked (Told (Some news)) j tt
    (λ gives. record { due = told_news (news_due j) gives; then = refl })
    (λ next p. (ap Told p.due, p.then))
  where
    told_news : (o : Option News) → Told o ≡ Told (Some news) → o ≡ Some news
    told_news o e = cc
news_exactly j event.Start due is = not_quiet j due is
news_exactly j (event.Turn turn now) due is = not_quiet j due is
news_exactly j (event.Pull by) due is = not_quiet j due is
news_exactly j (event.Job by job gave) due is = not_quiet j due is
news_exactly j (event.Length by name len fault) due is = not_quiet j due is
news_exactly j (event.Tick node said) due is = not_quiet j due is
news_exactly j (event.Offer from octets) due is = not_quiet j due is
news_exactly j (event.Took to octets) due is = not_quiet j due is
news_exactly j event.Empty due is = not_quiet j due is
news_exactly j (event.Up node instance up) due is = not_quiet j due is
news_exactly j event.End due is = not_quiet j due is

event_exactly : (j : Judged) (e : Event) (due : Option News) → news_due j ≡ due
    → Exactly (elim due [ Some news ↦ accepts_news j e | None ↦ accepts_next j e ]) (Follows j e)
event_exactly j e (Some news) is = news_exactly j e news is
event_exactly j e None is = next_exactly j e is

pub judges_what_follows : JudgesWhatFollows
judges_what_follows j next e = let exactly = event_exactly j e (news_due j) refl in (exactly.forth next, exactly.back next)
