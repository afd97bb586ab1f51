-- Over a direct network each take gave the next copy of what the nodes had offered, and nothing only if there was none.
use Rattle.std.proofs.Common.{◌≡◌, ℕ, ◌+◌, List, [], ◌∷◌, ◌++◌, length, Option, None, Some, refl, sym, ap, ◌∙◌, subst, arith, length-append}
use Rattle.std.specs.Prelude.{map, IsTrue, IfSome}
use Rattle.std.proofs.lemmas.List.Concat.{flat_map-append}
use Rattle.std.proofs.lemmas.List.Elements.{filter_map-append}
use Rattle.std.proofs.lemmas.Option.{option_and_then_some}
use Rattle.norm_base.specs.Copies.{members_at, next_copy}
use Rattle.norm_base.specs.Members.{members_of}
use Rattle.norm_base.specs.Network.{Network, Starts, taken_of}
use Rattle.norm_base.specs.Settings.{Settings}
use Rattle.norm_base.specs.Told.{gained}
use Rattle.norm_base.specs.declared.kinds.Local.{Local}
use Rattle.norm_base.specs.declared.kinds.Local.TheVariants.{All}
use Rattle.norm_base.proofs.CopyLemmas.{members_last}
use Rattle.norm_script.specs.Commands.{Commands}
use Rattle.norm_journal.specs.declared.event.Event.{Event}
use Rattle.norm_journal.specs.declared.event.Event.TheVariants as event
use Rattle.norm_journal.specs.Accepting.{accepts, judged_from}
use Rattle.norm_journal.specs.Direct.{IsDirect, copy_due, taken_with}
use Rattle.norm_journal.specs.Jobs.{Told}
use Rattle.norm_journal.specs.Judged.{Judged}
use Rattle.norm_journal.specs.Laws.{octets_given}
use Rattle.norm_journal.specs.Projections.{Answer, answer_in, offers_in, answers_in, network_after}
use Rattle.norm_journal.specs.WorldEvents.{TakesDirectly}
use Rattle.norm_journal.proofs.OfferedLemmas.{offers_are_the_worlds}
use Rattle.norm_journal.proofs.WorldLemmas.{event_moves}
use Rattle.norm_session.specs.Session.{OverDirect, nodes_of, session_opening}
use Rattle.norm_session.specs.SoFar.{MayAnswer, IsTakenFrom, AreTakenFrom}
use Rattle.norm_session.proofs.SafeLemmas.{judged_more, some_holds, starts_there}

-- ---- how many copies were taken

abbrev taken_in : List Event → ℕ
taken_in events = length (taken_of (answers_in events))

no_more : (n : ℕ) → n + 0 ≡ n
no_more n = omega arith

-- an event's take is one more, if it gave a copy
one_taken : (n : ℕ) (e : Event) → n + taken_in (e ∷ []) ≡ taken_with n e
one_taken n (event.Took to octets) = refl
one_taken n event.Start = no_more n
one_taken n (event.Turn turn now) = no_more n
one_taken n (event.Pull by) = no_more n
one_taken n (event.Job by job gave) = no_more n
one_taken n (event.Length by name len fault) = no_more n
one_taken n (event.Tick node sent) = no_more n
one_taken n (event.Offer from octets) = no_more n
one_taken n event.Empty = no_more n
one_taken n (event.Up node instance up) = no_more n
one_taken n (event.News news) = no_more n
one_taken n event.End = no_more n

taken_on : (past : List Event) (e : Event) → taken_in (past ++ e ∷ []) ≡ taken_with (taken_in past) e
taken_on past e =
    ap (λ answers. length (taken_of answers)) (flat_map-append answer_in past (e ∷ []))
    ∙ ap length (filter_map-append (λ (answer : Answer). answer) (answers_in past) (answers_in (e ∷ [])))
    ∙ length-append (taken_of (answers_in past)) (taken_of (answers_in (e ∷ [])))
    ∙ one_taken (taken_in past) e

-- ---- a take of a direct network

-- a direct network that was started for the members of a profile, and tells what is offered and what it answers since
record StartsDirect (n : Network) (p : Settings) : Type 0 where
  direct : IsTrue n.direct
  starts : List (Settings × Local)
  told : n.starts ≡ Some starts
  members : members_at starts ≡ members_of p
  offered : n.offered ≡ Some []
  answers : n.answers ≡ Some []

-- the next copy, by what the network tells
next_is : (p : Settings) (n : Network) (past : List Event) (answer : Answer) → StartsDirect n p → MayAnswer (network_after n past) answer
    → next_copy (members_of p) (offers_in past) (taken_in past) ≡ answer
next_is p n past answer d may =
    let by_starts = subst
    (λ (o : Option (List (Settings × Local))).
    IfSome o (λ starts.
    IfSome (gained n.offered (offers_in past)) (λ offered.
    IfSome (gained n.answers (answers_in past)) (λ answers. answer ≡ next_copy (members_at starts) offered (length (taken_of answers))))))
    d.told (may.1 d.direct) in
    let by_offers = subst
    (λ (o : Option (List (ℕ × List ℕ))).
    IfSome (gained o (offers_in past)) (λ offered.
    IfSome (gained n.answers (answers_in past)) (λ answers. answer ≡ next_copy (members_at d.starts) offered (length (taken_of answers)))))
    d.offered by_starts in
    let by_answers = subst
    (λ (o : Option (List Answer)).
    IfSome (gained o (answers_in past)) (λ answers. answer ≡ next_copy (members_at d.starts) (offers_in past) (length (taken_of answers))))
    d.answers by_offers in
    sym (by_answers ∙ ap (λ members. next_copy members (offers_in past) (taken_in past)) d.members)

-- the copy that is due to the judge is that one
due_is : (p : Settings) (j : Judged) (past : List Event) → j.profile ≡ p → map octets_given j.world.offered ≡ offers_in past
    → copy_due (taken_in past) j ≡ next_copy (members_of p) (offers_in past) (taken_in past)
due_is p j past own told =
    ap (λ (q : Settings). next_copy (members_of q) (map octets_given j.world.offered) (taken_in past)) own
    ∙ ap (λ offered. next_copy (members_of p) offered (taken_in past)) told

take_is_direct : (p : Settings) (n : Network) (j : Judged) (past : List Event) (e : Event) → StartsDirect n p → j.profile ≡ p
    → map octets_given j.world.offered ≡ offers_in past → IsTakenFrom n past e → IsDirect (taken_in past) j e
take_is_direct p n j past (event.Took to octets) d own told may = due_is p j past own told ∙ next_is p n past (Some (to, octets)) d may
take_is_direct p n j past event.Empty d own told may = due_is p j past own told ∙ next_is p n past None d may
take_is_direct p n j past event.Start d own told may = tt
take_is_direct p n j past (event.Turn turn now) d own told may = tt
take_is_direct p n j past (event.Pull by) d own told may = tt
take_is_direct p n j past (event.Job by job gave) d own told may = tt
take_is_direct p n j past (event.Length by name len fault) d own told may = tt
take_is_direct p n j past (event.Tick node sent) d own told may = tt
take_is_direct p n j past (event.Offer from octets) d own told may = tt
take_is_direct p n j past (event.Up node instance up) d own told may = tt
take_is_direct p n j past (event.News news) d own told may = tt
take_is_direct p n j past event.End d own told may = tt

-- ---- the takes of a session

take_directly : (script : Commands) (files : Told) (n : Network) (past events : List Event) (j last : Judged) → StartsDirect n script.profile
    → j.profile ≡ script.profile → judged_from (session_opening script files) past ≡ Some j → judged_from j events ≡ Some last
    → AreTakenFrom n past events → TakesDirectly (taken_in past) j events
unfolding judged_from AreTakenFrom TakesDirectly
take_directly script files n past [] j last d own so is taken = tt
take_directly script files n past (e ∷ events) j last d own so is taken =
    option_and_then_some (λ next. judged_from next events) (accepts j e) last is (λ next comes more. (
      take_is_direct script.profile n j past e d own (offers_are_the_worlds script files (nodes_of script) past j so) taken.0,
      some_holds (accepts j e) (λ next. TakesDirectly (taken_with (taken_in past) e) next events) next comes
          (subst (λ many. TakesDirectly many next events) (taken_on past e)
          (take_directly script files n (past ++ e ∷ []) events next last d (sym (event_moves j e next comes).0 ∙ own)
          (judged_more (session_opening script files) j next past e so comes) more taken.1)),
    ))

-- ---- over a direct network

-- a network that tells its starts, and nothing yet of what is offered and answered, or nothing of one of these at all
over_direct : (before started : Network) (p : Settings) (Promise : Type 0) → Starts before started p All → (StartsDirect started p → Promise)
    → OverDirect before started Promise
over_direct before started p Promise s holds direct =
    by_told before.starts started.starts started.offered started.answers refl refl refl s.started s.offered s.answers where
      by_told : (earlier starts : Option (List (Settings × Local))) (offered : Option (List (ℕ × List ℕ))) (answers : Option (List Answer))
          → started.starts ≡ starts → started.offered ≡ offered → started.answers ≡ answers
          → IfSome earlier (λ past. IfSome starts (λ now. now ≡ past ++ (p, All) ∷ [])) → IfSome offered (λ now. now ≡ []) → IfSome answers (λ now. now ≡ [])
          → IfSome earlier (λ past. IfSome starts (λ now. IfSome offered (λ given. IfSome answers (λ got. Promise))))
      by_told None starts offered answers is_starts is_offered is_answers one none nothing = tt
      by_told (Some past) None offered answers is_starts is_offered is_answers one none nothing = tt
      by_told (Some past) (Some now) None answers is_starts is_offered is_answers one none nothing = tt
      by_told (Some past) (Some now) (Some given) None is_starts is_offered is_answers one none nothing = tt
      by_told (Some past) (Some now) (Some given) (Some got) is_starts is_offered is_answers one none nothing = holds (record {
        direct = direct;
        starts = now;
        told = is_starts;
        members = ap members_at one ∙ members_last past (p, All);
        offered = is_offered ∙ ap Some none;
        answers = is_answers ∙ ap Some nothing;
      })

pub direct_over : (script : Commands) (files : Told) (before started : Network) (journal : List Event) (last : Judged)
    → Starts before started script.profile All → judged_from (session_opening script files) journal ≡ Some last → AreTakenFrom started [] journal
    → OverDirect before started (TakesDirectly 0 (session_opening script files) journal)
direct_over script files before started journal last starts is taken =
    let start = session_opening script files in
    over_direct before started script.profile (TakesDirectly 0 start journal) starts
    (λ d. take_directly script files started [] journal start last d refl (starts_there start) is taken)
