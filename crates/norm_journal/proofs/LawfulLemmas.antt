-- The world's events of a journal are an honest run, where its takes are honest, of no more accepted commands than the script has.
use Rattle.std.proofs.Common.{◌≡◌, ℕ, ◌+◌, ◌≤◌, List, [], ◌∷◌, ◌++◌, length, Bool, true, false, cond, Option, None, Some, Result, Err, refl, sym, ap, subst, ◌∙◌, arith, inl, inr}
use Rattle.std.specs.Prelude.{◌==◌, ◌&&◌, map, find, Contains, IsSome, IfSome, option_and_then, ◌⊎◌, ⊤}
use Rattle.std.specs.Option.{option_map, option_to_list}
use Rattle.std.proofs.lemmas.Option.{none-some, same_Some, option_and_then_some}
use Rattle.std.proofs.lemmas.Bool.{eqb-true}
use Rattle.std.proofs.lemmas.List.{length-map}
use Rattle.std.proofs.lemmas.List.Elements.{Contains-push}
use Rattle.std.specs.Cmp.Lexicographic.{bytes_decides}
use Rattle.norm_base.specs.Settings.{Settings}
use Rattle.norm_base.specs.declared.node.Origin.{Origin}
use Rattle.norm_base.specs.declared.kinds.Sent.{Sent}
use Rattle.norm_ext.specs.Written.{Written}
use Rattle.norm_order.specs.declared.up.Up.{Up}
use Rattle.norm_receive_rules.specs.ReceiverState.{ReceiverState}
use Rattle.norm_script.specs.declared.script.Line.{Line}
use Rattle.norm_send_rules.specs.declared.job.Job.{Job}
use Rattle.norm_send_rules.specs.declared.job.Receipt.{Receipt}
use Rattle.norm_send_rules.specs.declared.fault.SendFault.{SendFault}
use Rattle.norm_send_rules.specs.declared.news.News.{News}
use Rattle.norm_send_rules.specs.Commanding.{commanded}
use Rattle.norm_safety.specs.Events.{Event as WorldEvent, Commanded, Delivered, Ticked, Offered, UpTaken, NewsAsked, Answer, Gave, Sent as Gives, Took, Told, Silent}
use Rattle.norm_safety.specs.InTime.{MayComeLate, HonestFrom, accepted_from}
use Rattle.norm_safety.specs.Lawful.{same_origin, accepted_with, AllTaken, all_taken, WasGiven}
use Rattle.norm_safety.specs.World.{World, receiver_at, with_given, given_others, same_octets}
use Rattle.norm_safety.specs.WorldStep.{OfSender, OfReceiver, node_move, receiver_move, answered, moved, run_from}
use Rattle.norm_send_rules.specs.SenderStep as sender
use Rattle.norm_receive_rules.specs.ReceiverStep as receiver
use Rattle.norm_journal.specs.declared.event.Event.{Event}
use Rattle.norm_journal.specs.declared.event.Event.TheVariants as event
use Rattle.norm_journal.specs.Accepting.{accepts, accepts_news, accepts_next, told_of, judged_from}
use Rattle.norm_journal.specs.Commands.{offered, offers, line_pulled, pulls_at, telling, repeating, gives, repeats, jobs_at, refuses, lengths_at}
use Rattle.norm_journal.specs.Draws.{next_draw, draws_after}
use Rattle.norm_journal.specs.Honest.{IsHonest}
use Rattle.norm_journal.specs.InWorld.{world_after, answer_to, at, comes}
use Rattle.norm_journal.specs.Jobs.{job_of, file_of_length}
use Rattle.norm_journal.specs.Judged.{Judged, judged_opening, news_due}
use Rattle.norm_journal.specs.Laws.{BeginsHonestly}
use Rattle.norm_journal.specs.Places.{Place, Starting, Between, Pulling, Giving, Again, Sending, Offering, Taking, Handing, Over, handing, after_tick, command_due}
use Rattle.norm_journal.specs.Pulling.{origin_of, first_line, pulled}
use Rattle.norm_journal.specs.Same.{same_answer}
use Rattle.norm_journal.specs.Takes.{takes_at, finds_none_at, is_receiver, receivers_due, after_take}
use Rattle.norm_journal.specs.Ticks.{gave_datagram, tick_of, ticks_at, offers_at, handed, ups_at}
use Rattle.norm_journal.specs.Turns.{starts_at, turns_at, ends_at, in_turn}
use Rattle.norm_journal.specs.SessionRun.{judged}
use Rattle.norm_journal.specs.WorldEvents.{job_at, delivery, world_event, world_events, TakesHonestly}
use Rattle.norm_journal.proofs.PullLemmas.{from_map, numbered}
use Rattle.norm_journal.proofs.NameLemmas.{both, one_name, count, count_all, count_itself, counted_at, count_found, names_waiting, given_once}
use Rattle.norm_journal.proofs.OfferLemmas.{told_at, repeated_at}
use Rattle.norm_journal.proofs.WorldLemmas.{event_moves}

-- the name of the command that a place has
abbrev names_in : Place → List Origin
names_in (Giving line) = origin_of line ∷ []
names_in _ = []

-- a place that needs nothing of the state
abbrev IsCalm : Place → Type 0
IsCalm (Giving line) = ⊥
IsCalm (Again line) = ⊥
IsCalm (Offering node datagram next) = ⊥
IsCalm _ = ⊤

-- a datagram that is to be offered is the node's last tick's, and a command that is to be offered again is the one that waits
abbrev IsReady : Place → Judged → Type 0
IsReady (Offering node octets next) j = WasGiven j.world node octets × IsCalm next
IsReady (Again line) j = j.waiting ≡ Some line
IsReady _ j = ⊤

-- what a tick gave stands in the world as given
given_there : (node : ℕ) (o : Option Written) (w : World) (datagram : Written) → (answered node (Gives o) w).1 ≡ Gives (Some datagram)
    → Contains (answered node (Gives o) w).0.given (node, datagram)
given_there node None w datagram e = absurd (cc)
given_there node (Some other) w datagram e =
    subst (λ d. Contains (with_given node (Some other) w).given (node, d)) (same_datagram other datagram e) (Contains-push (given_others node w) (node, other)) where
      same_datagram : (a b : Written) → ◌≡◌ {A = Answer} (Gives (Some a)) (Gives (Some b)) → a ≡ b
      same_datagram a b e = cc

found_node : (node : ℕ) (rs : List ReceiverState) (r : ReceiverState) → find (λ (r : ReceiverState). r.node == node) rs ≡ Some r → r.node ≡ node
found_node node [] r e = absurd (none-some r e)
found_node node (x ∷ rs) r e = at_head (x.node == node) refl e (λ later. found_node node rs r later) where
  at_head : (b : Bool) → x.node == node ≡ b → cond b (Some x) (find (λ (r : ReceiverState). r.node == node) rs) ≡ Some r
      → (find (λ (r : ReceiverState). r.node == node) rs ≡ Some r → r.node ≡ node) → r.node ≡ node
  at_head true is e later = ap (λ (y : ReceiverState). y.node) (sym (same_Some x r e)) ∙ eqb-true x.node node is
  at_head false is e later = later e

receiver_gives : (p : Settings) (w : World) (node now : ℕ) (o : Option ReceiverState) → receiver_at w node ≡ o → (datagram : Written)
    → (moved p w (receiver_move o (receiver.Ticked now))).1 ≡ Gives (Some datagram)
    → Contains (moved p w (receiver_move o (receiver.Ticked now))).0.given (node, datagram)
receiver_gives p w node now None is datagram e = absurd (cc)
receiver_gives p w node now (Some r) is datagram e =
    subst (λ n. Contains (moved p w (OfReceiver r (receiver.Ticked now))).0.given (n, datagram)) (found_node node w.receivers r is) (given_there r.node _ _ datagram e)

tick_gives_by : (b : Bool) (p : Settings) (w : World) (node now : ℕ) → node == p.sender ≡ b → (datagram : Written)
    → (moved p w (node_move b (receiver_at w node) (sender.Ticked now) (receiver.Ticked now))).1 ≡ Gives (Some datagram)
    → Contains (moved p w (node_move b (receiver_at w node) (sender.Ticked now) (receiver.Ticked now))).0.given (node, datagram)
tick_gives_by true p w node now is datagram e =
    subst (λ n. Contains (moved p w (OfSender (sender.Ticked now))).0.given (n, datagram)) (sym (eqb-true node p.sender is)) (given_there p.sender _ _ datagram e)
tick_gives_by false p w node now is datagram e = receiver_gives p w node now (receiver_at w node) refl datagram e

pub tick_gives : (j : Judged) (node : ℕ) (datagram : Written) → answer_to (Ticked node j.now) j ≡ Gives (Some datagram)
    → Contains (world_after (Ticked node j.now) j).world.given (node, datagram)
tick_gives j node datagram e = tick_gives_by (node == j.profile.sender) j.profile j.world node j.now refl datagram e

-- The names of the script's commands, each of which stands once.
module _ (names : List Origin) (alone : (by : Origin) → count (same_origin by) names ≤ 1) where
  -- of the names that pass a test no more were accepted or are to come than the script has
  abbrev Once : List Origin → Place → Judged → Type 0
  Once accepted place j = (q : Origin → Bool)
      → count q accepted + (count q (names_in place) + count q (names_waiting j.waiting) + count q (map origin_of j.left)) ≤ count q names

  record Sound (accepted : List Origin) (place : Place) (j : Judged) : Type 0 where
    once : Once accepted place j
    ready : IsReady place j

  -- the event may come in the world, if it is one there
  abbrev MayBe : List Origin → Judged → Option WorldEvent → Type 0
  MayBe accepted j None = ⊤
  MayBe accepted j (Some e) = MayComeLate j.profile j.world accepted e

  abbrev accepted_after : List Origin → Judged → Option WorldEvent → List Origin
  accepted_after accepted j None = accepted
  accepted_after accepted j (Some e) = accepted_with accepted e (answer_to e j)

  record Leads (accepted : List Origin) (j : Judged) (o : Option WorldEvent) (next : Judged) : Type 0 where
    may : MayBe accepted j o
    sound : Sound (accepted_after accepted j o) next.place next

  abbrev Leading : List Origin → Judged → Option WorldEvent → Option Judged → Type 0
  Leading accepted j o after = (next : Judged) → after ≡ Some next → Leads accepted j o next

  no_event : (accepted : List Origin) (j : Judged) (o : Option WorldEvent) → Leading accepted j o None
  no_event accepted j o next e = absurd (none-some next e)

  this : (accepted : List Origin) (j x : Judged) (o : Option WorldEvent) → Leads accepted j o x → Leading accepted j o (Some x)
  this accepted j x o is next e = subst (λ y. Leads accepted j o y) (same_Some x next e) is

  when : (b : Bool) (accepted : List Origin) (j : Judged) (o : Option WorldEvent) (after : Option Judged) → (b ≡ true → Leading accepted j o after)
      → Leading accepted j o (elim b [ true ↦ after | false ↦ None ])
  when true accepted j o after leads = leads refl
  when false accepted j o after leads = no_event accepted j o

  calm_names : (place : Place) (q : Origin → Bool) → IsCalm place → count q (names_in place) ≡ 0
  calm_names (Giving line) q calm = absurd calm
  calm_names (Again line) q calm = absurd calm
  calm_names (Offering node datagram next) q calm = absurd calm
  calm_names _ q calm = refl

  calm_ready : (place : Place) (j : Judged) → IsCalm place → IsReady place j
  calm_ready (Giving line) j calm = absurd calm
  calm_ready (Again line) j calm = absurd calm
  calm_ready (Offering node datagram next) j calm = absurd calm
  calm_ready _ j calm = tt

  fewer : (top a w l n m : ℕ) → m ≡ 0 → a + (n + w + l) ≤ top → a + (m + w + l) ≤ top
  fewer top a w l n m none most = omega (arith, none, most)

  -- a calm place with the same lines and the same waiting command
  calm_sound : (accepted : List Origin) (old place : Place) (j x : Judged) → IsCalm place → x.waiting ≡ j.waiting → x.left ≡ j.left
      → Once accepted old j → Sound accepted place x
  calm_sound accepted old place j x calm waiting left once = record {
    once = λ q. fewer (count q names) (count q accepted) (count q (names_waiting x.waiting)) (count q (map origin_of x.left)) (count q (names_in old)) (count q (names_in place))
        (calm_names place q calm)
        (subst (λ w. count q accepted + (count q (names_in old) + count q (names_waiting w) + count q (map origin_of x.left)) ≤ count q names) (sym waiting)
        (subst (λ l. count q accepted + (count q (names_in old) + count q (names_waiting j.waiting) + count q (map origin_of l)) ≤ count q names) (sym left) (once q)));
    ready = calm_ready place x calm;
  }

  starts_lead : (accepted : List Origin) (place : Place) (j : Judged) → Sound accepted place j → Leading accepted j None (starts_at place j)
  starts_lead accepted Starting j s = this accepted j _ None (record { may = tt; sound = record { once = s.once; ready = tt } })
  starts_lead accepted _ j s = no_event accepted j None

  due_names : (q : Origin → Bool) (w : Option Line) (lines : List Line) → count q (names_in (command_due w lines)) ≡ 0
  due_names q None [] = refl
  due_names q None (line ∷ lines) = refl
  due_names q (Some line) lines = refl

  due_ready : (w : Option Line) (lines : List Line) (x : Judged) → x.waiting ≡ w → IsReady (command_due w lines) x
  due_ready None [] x is = tt
  due_ready None (line ∷ lines) x is = tt
  due_ready (Some line) lines x is = is

  turns_lead : (accepted : List Origin) (place : Place) (j : Judged) (turn now : ℕ) → Sound accepted place j
      → Leading accepted j None (turns_at place j turn now)
  turns_lead accepted Between j turn now s = when _ accepted j None _ (λ _. this accepted j (in_turn turn now j) None (record {
    may = tt;
    sound = record {
      once = λ q. fewer (count q names) (count q accepted) (count q (names_waiting j.waiting)) (count q (map origin_of j.left)) 0 _ (due_names q j.waiting j.left) (s.once q);
      ready = due_ready j.waiting j.left (in_turn turn now j) refl;
    };
  }))
  turns_lead accepted _ j turn now s = no_event accepted j None

  ends_lead : (accepted : List Origin) (place : Place) (j : Judged) → Sound accepted place j → Leading accepted j None (ends_at place j)
  ends_lead accepted Between j s =
      when _ accepted j None _ (λ _. this accepted j (at Over j) None (record { may = tt; sound = record { once = s.once; ready = tt } }))
  ends_lead accepted _ j s = no_event accepted j None

  one_more : (top a w l all one : ℕ) → all ≡ one + l → a + (0 + w + all) ≤ top → a + (one + w + l) ≤ top
  one_more top a w l all one is most = omega (arith, is, most)

  pulls_lead : (accepted : List Origin) (place : Place) (j : Judged) (by : Origin) → Sound accepted place j → Leading accepted j None (pulls_at place j by)
  pulls_lead accepted Pulling j by s next is = from_map (line_pulled j) (pulled by j.left) next is (λ found so same.
      let first = (numbered by.number (first_line by.producer j.left) found so).0 in
      subst (λ y. Leads accepted j None y) same (record {
        may = tt;
        sound = record {
          once = λ q. one_more (count q names) (count q accepted) (count q (names_waiting j.waiting)) (count q (map origin_of found.1)) (count q (map origin_of j.left))
              (count q (origin_of found.0 ∷ [])) (count_found q by.producer j.left found.0 found.1 first) (s.once q);
          ready = tt;
        };
      }))
  pulls_lead accepted _ j by s next is = no_event accepted j None next is

  elim_some : {X : Type 0} (b : Bool) (x y : X) → elim b [ true ↦ Some x | false ↦ None ] ≡ Some y → (b ≡ true) × (x ≡ y)
  elim_some true x y e = (refl, same_Some x y e)
  elim_some false x y e = absurd (none-some y e)

  came : (e : WorldEvent) (answer : Answer) (j x : Judged) → comes e answer j ≡ Some x → (same_answer (answer_to e j) answer ≡ true) × (world_after e j ≡ x)
  came e answer j x is = elim_some (same_answer (answer_to e j) answer) (world_after e j) x is

  given_fits : (top accepted w a b l : ℕ) → accepted + w ≤ a + b → a + (b + l) ≤ top → accepted + (0 + w + l) ≤ top
  given_fits top accepted w a b l given most = omega (arith, given, most)

  not_yet : (top a b l : ℕ) → top ≤ 1 → 1 ≤ a → b ≡ 1 → a + (b + l) ≤ top → ⊥
  not_yet top a b l least some one most = omega (arith, least, some, one, most)

  -- an offer of a command whose name stands once
  offers_lead : (accepted : List Origin) (j : Judged) (line : Line) (by : Origin) (job : Job) (gave : Result Receipt SendFault) → origin_of line ≡ by
      → ((q : Origin → Bool) → count q accepted + (count q (by ∷ []) + count q (map origin_of j.left)) ≤ count q names)
      → Leading accepted j (Some (Commanded by job j.now)) (offers line by job gave j)
  offers_lead accepted j line by job gave named once next is =
      let e = Commanded by job j.now in
      from_map (offered line gave) (comes e (Gave gave) j) next is (λ x comes_so same.
      let two = came e (Gave gave) j x comes_so in
      subst (λ y. Leads accepted j (Some e) y) (ap (offered line gave) two.1 ∙ same) (record {
        may = λ there. not_yet (count (same_origin by) names) (count (same_origin by) accepted) (count (same_origin by) (by ∷ []))
            (count (same_origin by) (map origin_of j.left)) (alone by) (counted_at accepted by there.0 there.1 there.2) (count_itself by) (once (same_origin by));
        sound = record {
          once = λ q. given_fits (count q names) _ _ (count q accepted) (count q (by ∷ [])) (count q (map origin_of j.left))
              (given_once q by line job j.now accepted (commanded j.profile j.world.sender by job).1 gave named two.0) (once q);
          ready = tt;
        };
      }))

  -- what an offer of a command is in the world
  abbrev command : Place → Judged → Origin → Option Job → Option WorldEvent
  command place j by job = option_map (λ (job : Job). Commanded by job j.now) (job_at place job)

  without_waiting : (top a n w l : ℕ) → a + (n + w + l) ≤ top → a + (n + l) ≤ top
  without_waiting top a n w l most = omega (arith, most)

  as_waiting : (top a w n l : ℕ) → w ≡ n → a + (0 + w + l) ≤ top → a + (n + l) ≤ top
  as_waiting top a w n l same most = omega (arith, same, most)

  once_given : (accepted : List Origin) (line : Line) (by : Origin) (j : Judged) → origin_of line ≡ by → Sound accepted (Giving line) j
      → (q : Origin → Bool) → count q accepted + (count q (by ∷ []) + count q (map origin_of j.left)) ≤ count q names
  once_given accepted line by j same s q =
      subst (λ x. count q accepted + (count q (x ∷ []) + count q (map origin_of j.left)) ≤ count q names) same
      (without_waiting (count q names) (count q accepted) (count q (origin_of line ∷ [])) (count q (names_waiting j.waiting)) (count q (map origin_of j.left)) (s.once q))

  once_again : (accepted : List Origin) (line : Line) (by : Origin) (j : Judged) → origin_of line ≡ by → Sound accepted (Again line) j
      → (q : Origin → Bool) → count q accepted + (count q (by ∷ []) + count q (map origin_of j.left)) ≤ count q names
  once_again accepted line by j same s q =
      subst (λ x. count q accepted + (count q (x ∷ []) + count q (map origin_of j.left)) ≤ count q names) same
      (as_waiting (count q names) (count q accepted) (count q (names_waiting j.waiting)) (count q (origin_of line ∷ [])) (count q (map origin_of j.left))
      (ap (λ w. count q (names_waiting w)) s.ready) (s.once q))

  once_told : (accepted : List Origin) (place : Place) (line : Line) (by : Origin) (j : Judged) → origin_of line ≡ by → Sound accepted place j
      → (place ≡ Giving line) ⊎ ((place ≡ Again line) × (job_of line.verb ≡ None))
      → (q : Origin → Bool) → count q accepted + (count q (by ∷ []) + count q (map origin_of j.left)) ≤ count q names
  once_told accepted place line by j same s (inl is) = once_given accepted line by j same (subst (λ p. Sound accepted p j) is s)
  once_told accepted place line by j same s (inr is) = once_again accepted line by j same (subst (λ p. Sound accepted p j) is.0 s)

  through : {X : Type 0} (f : X → Option Judged) (accepted : List Origin) (j : Judged) (o : Option WorldEvent) (found : Option X)
      → ((x : X) → found ≡ Some x → Leading accepted j o (f x)) → Leading accepted j o (option_and_then f found)
  through f accepted j o None leads = no_event accepted j o
  through f accepted j o (Some x) leads = leads x refl

  -- what another offer of a known command is in the world
  abbrev known_command : Judged → Origin → Option (Line × Job) → Option WorldEvent
  known_command j by found = option_map (λ (job : Job). Commanded by job j.now) (option_map (λ (known : Line × Job). known.1) found)

  jobs_lead : (accepted : List Origin) (place : Place) (j : Judged) (by : Origin) (job : Option Job) (gave : Result Receipt SendFault)
      → Sound accepted place j → Leading accepted j (command place j by job) (jobs_at place j by job gave)
  jobs_lead accepted place j by (Some job) gave s =
      through (λ line. gives line by job gave j) accepted j (Some (Commanded by job j.now)) (telling place) (λ line is.
      when _ accepted j (Some (Commanded by job j.now)) _ (λ test.
      let named = one_name (origin_of line) by (both _ _ (both _ _ test).0).0 in
      offers_lead accepted j line by job gave named (once_told accepted place line by j named s (told_at place line is))))
  jobs_lead accepted place j by None gave s =
      through (λ (known : Line × Job). repeats known by gave j) accepted j (known_command j by (repeating place)) (repeating place) (λ known is.
      subst (λ found. Leading accepted j (known_command j by found) (repeats known by gave j)) (sym is)
      (when _ accepted j (Some (Commanded by known.1 j.now)) _ (λ test.
      let named = one_name (origin_of known.0) by test in
      offers_lead accepted j known.0 by known.1 gave named
      (once_again accepted known.0 by j named (subst (λ p. Sound accepted p j) (repeated_at place known.0 known.1 is).0 s)))))

  lengths_lead : (accepted : List Origin) (place : Place) (j : Judged) (by : Origin) (name : List ℕ) (len : ℕ) (fault : SendFault) → Sound accepted place j
      → Leading accepted j (Some (Commanded by (file_of_length name len) j.now)) (lengths_at place j by name len fault)
  lengths_lead accepted place j by name len fault s =
      through (λ line. refuses line by name len fault j) accepted j (Some (Commanded by (file_of_length name len) j.now)) (telling place) (λ line is.
      when _ accepted j (Some (Commanded by (file_of_length name len) j.now)) _ (λ test.
      let named = one_name (origin_of line) by (both _ _ (both _ _ test).0).0 in
      offers_lead accepted j line by (file_of_length name len) (Err fault) named (once_told accepted place line by j named s (told_at place line is))))

  all_were_taken : (o : Option ReceiverState) → all_taken o ≡ true → AllTaken o
  all_were_taken None e = tt
  all_were_taken (Some r) e = none_left r.holding.ups e where
    none_left : (ups : List Up) → elim ups [ [] ↦ true | up ∷ more ↦ false ] ≡ true → ups ≡ []
    none_left [] e = refl
    none_left (up ∷ ups) e = absurd (cc)

  -- a tick that gave this
  ticked_sound : (accepted : List Origin) (old next : Place) (j : Judged) (node : ℕ) (o : Option Written) → IsCalm next → Once accepted old j
      → answer_to (Ticked node j.now) j ≡ Gives o
      → Sound accepted (after_tick node o next) (at (after_tick node o next) (world_after (Ticked node j.now) j))
  ticked_sound accepted old next j node None calm once is = calm_sound accepted old next j _ calm refl refl once
  ticked_sound accepted old next j node (Some datagram) calm once is = record {
    once = λ q. fewer (count q names) (count q accepted) (count q (names_waiting j.waiting)) (count q (map origin_of j.left)) (count q (names_in old)) 0 refl (once q);
    ready = ((datagram, tick_gives j node datagram is, refl), calm);
  }

  gave_leads : (accepted : List Origin) (old next : Place) (j : Judged) (node : ℕ) (sent : Sent) (answer : Answer) → IsCalm next → Once accepted old j
      → AllTaken (receiver_at j.world node) → answer_to (Ticked node j.now) j ≡ answer
      → Leading accepted j (Some (Ticked node j.now)) (gave_datagram node sent next answer (world_after (Ticked node j.now) j))
  gave_leads accepted old next j node sent (Gives o) calm once taken is = when _ accepted j (Some (Ticked node j.now)) _ (λ _.
      this accepted j _ (Some (Ticked node j.now)) (record { may = taken; sound = ticked_sound accepted old next j node o calm once is }))
  gave_leads accepted old next j node sent (Gave result) calm once taken is = no_event accepted j _
  gave_leads accepted old next j node sent (Took up) calm once taken is = no_event accepted j _
  gave_leads accepted old next j node sent (Told news) calm once taken is = no_event accepted j _
  gave_leads accepted old next j node sent Silent calm once taken is = no_event accepted j _

  tick_leads : (accepted : List Origin) (old next : Place) (due : ℕ) (j : Judged) (node : ℕ) (sent : Sent) → IsCalm next → Once accepted old j
      → Leading accepted j (Some (Ticked node j.now)) (tick_of due next j node sent)
  tick_leads accepted old next due j node sent calm once = when _ accepted j (Some (Ticked node j.now)) _ (λ test.
      gave_leads accepted old next j node sent _ calm once (all_were_taken (receiver_at j.world node) (both _ _ test).1) refl)

  handing_calm : (nodes : List ℕ) → IsCalm (handing nodes)
  handing_calm [] = tt
  handing_calm (node ∷ nodes) = tt

  ticks_lead : (accepted : List Origin) (place : Place) (j : Judged) (node : ℕ) (sent : Sent) → Sound accepted place j
      → Leading accepted j (Some (Ticked node j.now)) (ticks_at place j node sent)
  ticks_lead accepted Sending j node sent s = tick_leads accepted Sending (Taking 0) j.profile.sender j node sent tt s.once
  ticks_lead accepted (Handing due nodes) j node sent s =
      tick_leads accepted (Handing due nodes) (handing nodes) due j node sent (handing_calm nodes) s.once
  ticks_lead accepted _ j node sent s = no_event accepted j (Some (Ticked node j.now))

  offers_at_lead : (accepted : List Origin) (place : Place) (j : Judged) (from : ℕ) (octets : List ℕ) → Sound accepted place j
      → Leading accepted j (Some (Offered from octets)) (offers_at place j from octets)
  offers_at_lead accepted (Offering node datagram next) j from octets s =
      when (from == node && same_octets octets datagram) accepted j (Some (Offered from octets)) _ (λ test last is.
      let two = both (from == node) (same_octets octets datagram) test in
      from_map (at next) (comes (Offered from octets) Silent j) last is (λ x comes_so same.
      let came_so = came (Offered from octets) Silent j x comes_so in
      subst (λ y. Leads accepted j (Some (Offered from octets)) y) (ap (at next) came_so.1 ∙ same) (record {
        may = subst (λ n. WasGiven j.world n octets) (sym (eqb-true from node two.0))
            (subst (λ d. WasGiven j.world node d) (sym ((bytes_decides octets datagram).0 two.1)) s.ready.0);
        sound = calm_sound accepted (Offering node datagram next) next j _ s.ready.1 refl refl s.once;
      })))
  offers_at_lead accepted _ j from octets s = no_event accepted j (Some (Offered from octets))

  -- who a taken datagram is for decides what comes in the world, and what the judge has then
  abbrev either : {X : Type 0} → Bool → Bool → X → X → X → X
  either sender receiver a b c = elim sender [ true ↦ a | false ↦ elim receiver [ true ↦ b | false ↦ c ] ]

  taken_by : (sender receiver : Bool) (accepted : List Origin) (old place : Place) (j a b : Judged) (node : ℕ) (octets : List ℕ) (now draw other : ℕ)
      → IsCalm place → Once accepted old j → MayComeLate j.profile j.world accepted (Delivered node octets now draw)
      → a.waiting ≡ j.waiting → a.left ≡ j.left → b.waiting ≡ j.waiting → b.left ≡ j.left
      → Leads accepted j (either sender receiver (Some (Delivered node octets now draw)) (Some (Delivered node octets now other)) None)
      (at place (either sender receiver a b j))
  taken_by true receiver accepted old place j a b node octets now draw other calm once may aw al bw bl =
      record { may = may; sound = calm_sound accepted old place j (at place a) calm aw al once }
  taken_by false true accepted old place j a b node octets now draw other calm once may aw al bw bl =
      record { may = may; sound = calm_sound accepted old place j (at place b) calm bw bl once }
  taken_by false false accepted old place j a b node octets now draw other calm once may aw al bw bl =
      record { may = tt; sound = calm_sound accepted old place j (at place j) calm refl refl once }

  after_take_calm : (b : Bool) (taken : ℕ) (nodes : List ℕ) → IsCalm (elim b [ true ↦ handing nodes | false ↦ Taking (taken + 1) ])
  after_take_calm true taken nodes = handing_calm nodes
  after_take_calm false taken nodes = tt

  takes_lead : (accepted : List Origin) (place : Place) (j : Judged) (node : ℕ) (octets : List ℕ) → Sound accepted place j
      → IsHonest j (event.Took node octets) → Leading accepted j (delivery j node octets) (takes_at place j node octets)
  takes_lead accepted (Taking taken) j node octets s honest = this accepted j _ (delivery j node octets)
      (taken_by (node == j.profile.sender) (is_receiver j node) accepted (Taking taken) (after_take taken j) j
      (world_after (Delivered node octets j.now 0) j)
      (record (world_after (Delivered node octets j.now (next_draw j.draws)) j) { draws = draws_after j.draws })
      node octets j.now 0 (next_draw j.draws) (after_take_calm _ taken _) s.once honest refl refl refl refl)
  takes_lead accepted _ j node octets s honest = no_event accepted j (delivery j node octets)

  none_leads : (accepted : List Origin) (place : Place) (j : Judged) → Sound accepted place j → Leading accepted j None (finds_none_at place j)
  none_leads accepted (Taking taken) j s = this accepted j _ None (record {
    may = tt;
    sound = calm_sound accepted (Taking taken) (receivers_due j) j _ (handing_calm _) refl refl s.once;
  })
  none_leads accepted _ j s = no_event accepted j None

  ready_stays : (place : Place) (j x : Judged) → x.world.given ≡ j.world.given → x.waiting ≡ j.waiting → IsReady place j → IsReady place x
  ready_stays (Offering node datagram next) j x given waiting ready =
      ((ready.0.0, subst (λ g. Contains g (node, ready.0.0)) (sym given) ready.0.1, ready.0.2), ready.1)
  ready_stays (Again line) j x given waiting ready = waiting ∙ ready
  ready_stays Starting j x given waiting ready = tt
  ready_stays Between j x given waiting ready = tt
  ready_stays Pulling j x given waiting ready = tt
  ready_stays (Giving line) j x given waiting ready = tt
  ready_stays Sending j x given waiting ready = tt
  ready_stays (Taking taken) j x given waiting ready = tt
  ready_stays (Handing node nodes) j x given waiting ready = tt
  ready_stays Over j x given waiting ready = tt

  ups_lead : (accepted : List Origin) (place : Place) (j : Judged) (node instance : ℕ) (up : Up) → j.place ≡ place → Sound accepted place j
      → Leading accepted j (Some (UpTaken node)) (ups_at place j node instance up)
  ups_lead accepted (Handing due nodes) j node instance up here s =
      when _ accepted j (Some (UpTaken node)) _ (λ _ last is.
      from_map (handed up) (comes (UpTaken node) (Took (Some up)) j) last is (λ x comes_so same.
      let came_so = came (UpTaken node) (Took (Some up)) j x comes_so in
      subst (λ y. Leads accepted j (Some (UpTaken node)) y) (ap (handed up) came_so.1 ∙ same) (record {
        may = tt;
        sound = subst (λ p. Sound accepted p (handed up (world_after (UpTaken node) j))) (sym here) (record { once = s.once; ready = tt });
      })))
  ups_lead accepted _ j node instance up here s = no_event accepted j (Some (UpTaken node))

  next_leads : (accepted : List Origin) (j : Judged) (e : Event) → Sound accepted j.place j → IsHonest j e
      → Leading accepted j (world_event j e) (accepts_next j e)
  next_leads accepted j event.Start s honest = starts_lead accepted j.place j s
  next_leads accepted j (event.Turn turn now) s honest = turns_lead accepted j.place j turn now s
  next_leads accepted j (event.Pull by) s honest = pulls_lead accepted j.place j by s
  next_leads accepted j (event.Job by job gave) s honest = jobs_lead accepted j.place j by job gave s
  next_leads accepted j (event.Length by name len fault) s honest = lengths_lead accepted j.place j by name len fault s
  next_leads accepted j (event.Tick node sent) s honest = ticks_lead accepted j.place j node sent s
  next_leads accepted j (event.Offer from octets) s honest = offers_at_lead accepted j.place j from octets s
  next_leads accepted j (event.Took to octets) s honest = takes_lead accepted j.place j to octets s honest
  next_leads accepted j event.Empty s honest = none_leads accepted j.place j s
  next_leads accepted j (event.Up node instance up) s honest = ups_lead accepted j.place j node instance up refl s
  next_leads accepted j (event.News news) s honest = no_event accepted j (Some NewsAsked)
  next_leads accepted j event.End s honest = ends_lead accepted j.place j s

  news_lead : (accepted : List Origin) (j : Judged) (e : Event) → Sound accepted j.place j → Leading accepted j (world_event j e) (accepts_news j e)
  news_lead accepted j (event.News news) s last is =
      from_map (told_of news) (comes NewsAsked (Told (Some news)) j) last is (λ x comes_so same.
      let came_so = came NewsAsked (Told (Some news)) j x comes_so in
      subst (λ y. Leads accepted j (Some NewsAsked) y) (ap (told_of news) came_so.1 ∙ same) (record {
        may = tt;
        sound = record { once = s.once; ready = ready_stays j.place j (told_of news (world_after NewsAsked j)) refl refl s.ready };
      }))
  news_lead accepted j event.Start s next is = no_event accepted j (world_event j event.Start) next is
  news_lead accepted j (event.Turn turn now) s next is = no_event accepted j None next is
  news_lead accepted j (event.Pull by) s next is = no_event accepted j None next is
  news_lead accepted j (event.Job by job gave) s next is = no_event accepted j (world_event j (event.Job by job gave)) next is
  news_lead accepted j (event.Length by name len fault) s next is = no_event accepted j (world_event j (event.Length by name len fault)) next is
  news_lead accepted j (event.Tick node sent) s next is = no_event accepted j (world_event j (event.Tick node sent)) next is
  news_lead accepted j (event.Offer from octets) s next is = no_event accepted j (world_event j (event.Offer from octets)) next is
  news_lead accepted j (event.Took to octets) s next is = no_event accepted j (world_event j (event.Took to octets)) next is
  news_lead accepted j event.Empty s next is = no_event accepted j None next is
  news_lead accepted j (event.Up node instance up) s next is = no_event accepted j (world_event j (event.Up node instance up)) next is
  news_lead accepted j event.End s next is = no_event accepted j None next is

  event_leads : (accepted : List Origin) (j : Judged) (e : Event) (due : Option News) → Sound accepted j.place j → IsHonest j e
      → Leading accepted j (world_event j e) (elim due [ Some news ↦ accepts_news j e | None ↦ accepts_next j e ])
  event_leads accepted j e (Some news) s honest = news_lead accepted j e s
  event_leads accepted j e None s honest = next_leads accepted j e s honest

  -- events are an honest run, in which no more commands are accepted than the script has
  record Runs (p : Settings) (w : World) (accepted : List Origin) (events : List WorldEvent) : Type 0 where
    honest : HonestFrom p w accepted events
    few : length (accepted_from p w accepted events) ≤ length names

  -- an event's part of the world, and what follows it
  joins : (o : Option WorldEvent) (accepted : List Origin) (j next : Judged) (rest : List WorldEvent) → MayBe accepted j o
      → j.profile ≡ next.profile → run_from j.profile j.world (option_to_list o) ≡ next.world
      → Runs next.profile next.world (accepted_after accepted j o) rest → Runs j.profile j.world accepted (option_to_list o ++ rest)
  joins None accepted j next rest may profile world runs =
      subst (λ p. Runs p j.world accepted rest) (sym profile) (subst (λ w. Runs next.profile w accepted rest) (sym world) runs)
  joins (Some e) accepted j next rest may profile world runs =
      let behind = subst (λ p. Runs p (world_after e j).world (accepted_with accepted e (answer_to e j)) rest) (sym profile)
      (subst (λ w. Runs next.profile w (accepted_with accepted e (answer_to e j)) rest) (sym world) runs) in
      record { honest = (may, behind.honest); few = behind.few }

  if_some : {X : Type 0} (o : Option X) (P : X → Type 0) (x : X) → o ≡ Some x → IfSome o P → P x
  if_some o P x is holds = subst (λ o. IfSome o P) is holds

  -- the events after one that was accepted
  abbrev after_that : Option Judged → List Event → List WorldEvent
  after_that o events = elim o [ Some next ↦ world_events next events | None ↦ [] ]

  all_few : (accepted : List Origin) (place : Place) (j : Judged) → Sound accepted place j → length accepted ≤ length names
  all_few accepted place j s =
      let most = s.once (λ x. true) in
      let own = count_all accepted in
      let all = count_all names in
      omega (arith, most, own, all)

  runs_from : (events : List Event) (accepted : List Origin) (j last : Judged) → Sound accepted j.place j → judged_from j events ≡ Some last
      → TakesHonestly j events → Runs j.profile j.world accepted (world_events j events)
  unfolding judged_from world_events TakesHonestly
  runs_from [] accepted j last s is honest = record { honest = tt; few = all_few accepted j.place j s }
  runs_from (e ∷ events) accepted j last s is honest =
      option_and_then_some (λ next. judged_from next events) (accepts j e) last is (λ next comes_so more.
      let leads = event_leads accepted j e (news_due j) s honest.0 next comes_so in
      let moves = event_moves j e next comes_so in
      let rest = if_some (accepts j e) (λ next. TakesHonestly next events) next comes_so honest.1 in
      subst (λ o. Runs j.profile j.world accepted (option_to_list (world_event j e) ++ after_that o events)) (sym comes_so)
      (joins (world_event j e) accepted j next (world_events next events) leads.may moves.0 moves.1
      (runs_from events (accepted_after accepted j (world_event j e)) next last leads.sound more rest)))

some_of : {X : Type 0} (o : Option X) → IsSome o → (x : X) × (o ≡ Some x)
some_of None e = absurd (cc)
some_of (Some x) e = (x, refl)

pub begins_honestly : BeginsHonestly
begins_honestly script files nodes events once begun honest =
    let last = some_of (judged script files nodes events) begun in
    let names : List Origin = map origin_of script.lines in
    let runs = runs_from names once events [] (judged_opening script files nodes) last.0 (record {
      once = λ q. omega arith;
      ready = tt;
    }) last.1 honest in
    let same = length-map script.lines origin_of in
    let few = runs.few in
    record { honest = runs.honest; few = omega (arith, same, few) }
