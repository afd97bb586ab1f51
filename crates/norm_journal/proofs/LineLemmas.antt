-- What a state keeps of the script's lines: what holds of each line of a script holds of those that are left, of the one that waits, and of
-- those that a place has. And so each command comes to the world as its line says.
use Rattle.std.proofs.Common.{◌≡◌, ℕ, List, [], ◌∷◌, ◌++◌, Bool, true, false, Option, None, Some, Result, Ok, Err, refl, sym, subst, inl, inr}
use Rattle.std.specs.Prelude.{◌==◌, ◌⊎◌, IfSome, IsSome, ⊤}
use Rattle.std.specs.List.{AllByRecursion}
use Rattle.std.specs.Option.{option_map, option_to_list}
use Rattle.std.proofs.lemmas.Option.{option_and_then_some}
use Rattle.norm_base.specs.declared.node.Origin.{Origin}
use Rattle.norm_ext.specs.Written.{Written}
use Rattle.norm_script.specs.Commands.{Commands}
use Rattle.norm_script.specs.declared.script.Line.{Line}
use Rattle.norm_send_rules.specs.declared.fault.SendFault.{SendFault}
use Rattle.norm_send_rules.specs.declared.job.Job.{Job}
use Rattle.norm_send_rules.specs.declared.job.Receipt.{Receipt}
use Rattle.norm_send_rules.specs.Waiting.{may_wait}
use Rattle.norm_safety.specs.Events.{Event as WorldEvent, Commanded, Delivered, Ticked, Offered, UpTaken, NewsAsked}
use Rattle.norm_journal.specs.declared.event.Event.{Event}
use Rattle.norm_journal.specs.declared.event.Event.TheVariants as event
use Rattle.norm_journal.specs.Accepting.{accepts, judged_from}
use Rattle.norm_journal.specs.Commands.{telling, waiting_after}
use Rattle.norm_journal.specs.Follows.{Follows, IsJobOf, OfferedAndTold, OfferedAgain, SendersTick, ReceiversTick}
use Rattle.norm_journal.specs.Jobs.{Told as Files, job_of, file_of_length}
use Rattle.norm_journal.specs.Judged.{Judged, judged_opening}
use Rattle.norm_journal.specs.Places.{Place, Between, Giving, Again, Offering, Taking, Over, handing, after_tick, command_due}
use Rattle.norm_journal.specs.SessionRun.{judged, Begun}
use Rattle.norm_journal.specs.Takes.{after_take, is_receiver}
use Rattle.norm_journal.specs.WorldEvents.{world_event, world_events}
use Rattle.norm_journal.proofs.FollowLemmas.{judges_what_follows}
use Rattle.norm_journal.proofs.OfferLemmas.{told_at, repeated_at}

-- the lines that a place has
abbrev pub OfPlace : (Line → Type 0) → Place → Type 0
OfPlace P (Giving line) = P line
OfPlace P (Again line) = P line
OfPlace P (Offering node datagram next) = OfPlace P next
OfPlace P _ = ⊤

-- it holds of each line of the script that a state still has
pub record OfLines (P : Line → Type 0) (j : Judged) : Type 0 where
  pub left : AllByRecursion P j.left
  pub waiting : IfSome j.waiting P
  pub place : OfPlace P j.place

some_of : {X : Type 0} (o : Option X) → IsSome o → (x : X) × (o ≡ Some x)
some_of None e = absurd (cc)
some_of (Some x) e = (x, refl)

-- the events after one that was accepted
abbrev after_that : Option Judged → List Event → List WorldEvent
after_that o events = elim o [ Some next ↦ world_events next events | None ↦ [] ]

module _ (P : Line → Type 0) where
  all_behind : (before : List Line) (line : Line) (behind : List Line) → AllByRecursion P (before ++ line ∷ behind)
      → P line × AllByRecursion P (before ++ behind)
  all_behind [] line behind all = all
  all_behind (l ∷ before) line behind all = let more = all_behind before line behind all.1 in (more.0, (all.0, more.1))

  handing_place : (nodes : List ℕ) → OfPlace P (handing nodes)
  handing_place [] = tt
  handing_place (node ∷ nodes) = tt

  tick_place : (node : ℕ) (datagram : Option Written) (next : Place) → OfPlace P next → OfPlace P (after_tick node datagram next)
  tick_place node None next is = is
  tick_place node (Some datagram) next is = is

  due_place : (w : Option Line) (lines : List Line) → IfSome w P → OfPlace P (command_due w lines)
  due_place None [] is = tt
  due_place None (line ∷ lines) is = tt
  due_place (Some line) lines is = is

  if_waits : (b : Bool) (line : Line) → P line → IfSome (elim b [ true ↦ Some line | false ↦ None ]) P
  if_waits true line is = is
  if_waits false line is = tt

  after_waiting : (gave : Result Receipt SendFault) (line : Line) → P line → IfSome (waiting_after line gave) P
  after_waiting (Ok receipt) line is = tt
  after_waiting (Err fault) line is = if_waits (may_wait fault) line is

  told_line : (place : Place) (line : Line) → OfPlace P place → telling place ≡ Some line → P line
  told_line place line is at = by_place (told_at place line at) where
    by_place : (place ≡ Giving line) ⊎ ((place ≡ Again line) × (job_of line.verb ≡ None)) → P line
    by_place (inl giving) = subst (OfPlace P) giving is
    by_place (inr again) = subst (OfPlace P) again.0 is

  offer_line : (j : Judged) (line : Line) (told : Option Job) (job : Job) (gave : Result Receipt SendFault) → OfLines P j
      → OfferedAndTold j line told job gave ⊎ OfferedAgain j line told job → P line
  offer_line j line told job gave s (inl f) = told_line j.place line s.place f.place
  offer_line j line told job gave s (inr a) = subst (OfPlace P) (repeated_at j.place line job a.place).0 s.place

  -- a state with the lines that another has
  moves_on : (j x : Judged) (place : Place) → x.left ≡ j.left → x.waiting ≡ j.waiting → x.place ≡ place → OfPlace P place → OfLines P j → OfLines P x
  moves_on j x place left waiting here is s = record {
    left = subst (AllByRecursion P) (sym left) s.left;
    waiting = subst (λ w. IfSome w P) (sym waiting) s.waiting;
    place = subst (OfPlace P) (sym here) is;
  }

  by_then : (next x : Judged) → next ≡ x → OfLines P x → OfLines P next
  by_then next x is s = subst (OfLines P) (sym is) s

  -- a delivery leaves the lines
  abbrev one_of : Bool → Bool → Judged → Judged → Judged → Judged
  one_of sender receiver j a b = elim sender [ true ↦ a | false ↦ elim receiver [ true ↦ b | false ↦ j ] ]

  delivered_keeps : (sender receiver : Bool) (j a b : Judged) (place : Place) → OfPlace P place → OfLines P j → a.left ≡ j.left → a.waiting ≡ j.waiting
      → b.left ≡ j.left → b.waiting ≡ j.waiting → OfLines P (record (one_of sender receiver j a b) { place = place })
  delivered_keeps true receiver j a b place is s al aw bl bw = moves_on j (record a { place = place }) place al aw refl is s
  delivered_keeps false true j a b place is s al aw bl bw = moves_on j (record b { place = place }) place bl bw refl is s
  delivered_keeps false false j a b place is s al aw bl bw = moves_on j (record j { place = place }) place refl refl refl is s

  after_take_place : (b : Bool) (taken : ℕ) (nodes : List ℕ) → OfPlace P (elim b [ true ↦ handing nodes | false ↦ Taking taken ])
  after_take_place true taken nodes = handing_place nodes
  after_take_place false taken nodes = tt

  -- what an event leaves
  follows_lines : (j next : Judged) (e : Event) → Follows j e next → OfLines P j → OfLines P next
  follows_lines j next event.Start f s = by_then next _ f.1.then (moves_on j _ Between refl refl refl tt s)
  follows_lines j next (event.Turn turn now) f s =
      by_then next _ f.1.then (moves_on j _ (command_due j.waiting j.left) refl refl refl (due_place j.waiting j.left s.waiting) s)
  follows_lines j next (event.Pull by) f s =
      let its = f.1.is_first in
      let all = all_behind its.before f.1.line its.behind (subst (AllByRecursion P) its.its_place s.left) in
      by_then next _ f.1.then (record { left = subst (AllByRecursion P) (sym its.rest_is) all.1; waiting = s.waiting; place = all.0 })
  follows_lines j next (event.Job by told gave) f s = by_then next _ f.1.then (record {
    left = s.left;
    waiting = after_waiting gave f.1.line (offer_line j f.1.line told f.1.job gave s f.1.due);
    place = tt;
  })
  follows_lines j next (event.Length by name len fault) f s = by_then next _ f.1.then (record {
    left = s.left;
    waiting = after_waiting (Err fault) f.1.line (told_line j.place f.1.line s.place f.1.place);
    place = tt;
  })
  follows_lines j next (event.Tick node said) f s =
      by_then next _ f.1.then (moves_on j _ (after_tick node f.1.datagram f.1.after) refl refl refl (tick_place node f.1.datagram f.1.after (after_is f.1.due)) s)
    where
      after_is : SendersTick j node f.1.after ⊎ ReceiversTick j node f.1.after → OfPlace P f.1.after
      after_is (inl t) = subst (OfPlace P) (sym t.after_is) tt
      after_is (inr t) = subst (OfPlace P) (sym t.after_is) (handing_place t.nodes)
  follows_lines j next (event.Offer from octets) f s =
      by_then next _ f.1.then (moves_on j _ f.1.after refl refl refl (subst (OfPlace P) f.1.place s.place) s)
  follows_lines j next (event.Took to octets) f s =
      by_then next _ f.1.then
      (delivered_keeps (to == j.profile.sender) (is_receiver j to) j _ _ (after_take f.1.count j) (after_take_place _ _ j.nodes) s refl refl refl refl)
  follows_lines j next event.Empty f s = by_then next _ f.1.then (moves_on j _ (handing j.nodes) refl refl refl (handing_place j.nodes) s)
  follows_lines j next (event.Up node instance up) f s = by_then next _ f.1.then (record { left = s.left; waiting = s.waiting; place = s.place })
  follows_lines j next (event.News news) f s = by_then next _ f.then (record { left = s.left; waiting = s.waiting; place = s.place })
  follows_lines j next event.End f s = by_then next _ f.1.then (moves_on j _ Over refl refl refl tt s)

-- What an event of the world has to be, by the lines that a run has: a command by its line, and by what its event has; all else is it.
pub record Makes (P : Line → Type 0) (Has : Event → Type 0) (Q : WorldEvent → Type 0) : Type 0 where
  pub told : (files : Files) (line : Line) (by : Origin) (given : Job) (gave : Result Receipt SendFault) (now : ℕ) → P line
      → IsJobOf files line.verb given → Has (event.Job by (Some given) gave) → Q (Commanded by given now)
  pub known : (line : Line) (by : Origin) (given : Job) (now : ℕ) → P line → job_of line.verb ≡ Some given → Q (Commanded by given now)
  pub length : (by : Origin) (name : List ℕ) (len now : ℕ) → Q (Commanded by (file_of_length name len) now)
  pub delivered : (node : ℕ) (octets : List ℕ) (now draw : ℕ) → Q (Delivered node octets now draw)
  pub ticked : (node now : ℕ) → Q (Ticked node now)
  pub offered : (node : ℕ) (octets : List ℕ) → Q (Offered node octets)
  pub taken : (node : ℕ) → Q (UpTaken node)
  pub news : Q NewsAsked

module _ (P : Line → Type 0) (Has : Event → Type 0) (Q : WorldEvent → Type 0) (m : Makes P Has Q) where
  delivery_makes : (sender receiver : Bool) (a b : WorldEvent) → Q a → Q b
      → IfSome (elim sender [ true ↦ Some a | false ↦ elim receiver [ true ↦ Some b | false ↦ None ] ]) Q
  delivery_makes true receiver a b x y = x
  delivery_makes false true a b x y = y
  delivery_makes false false a b x y = tt

  offer_makes : (j : Judged) (by : Origin) (line : Line) (told : Option Job) (job : Job) (gave : Result Receipt SendFault) → OfLines P j
      → OfferedAndTold j line told job gave ⊎ OfferedAgain j line told job → Has (event.Job by told gave) → IfSome (world_event j (event.Job by told gave)) Q
  offer_makes j by line told job gave s (inl f) has =
      subst (λ t. IfSome (world_event j (event.Job by t gave)) Q) (sym f.told_is)
      (m.told j.files line by job gave j.now (told_line P j.place line s.place f.place) f.its_job
      (subst (λ t. Has (event.Job by t gave)) f.told_is has))
  offer_makes j by line told job gave s (inr a) has =
      let known = repeated_at j.place line job a.place in
      subst (λ t. IfSome (world_event j (event.Job by t gave)) Q) (sym a.told_is)
      (subst (λ found. IfSome (option_map (λ (x : Job). Commanded by x j.now) (option_map (λ (k : Line × Job). k.1) found)) Q) (sym a.place)
      (m.known line by job j.now (subst (OfPlace P) known.0 s.place) known.1))

  event_makes : (j next : Judged) (e : Event) → Follows j e next → OfLines P j → Has e → IfSome (world_event j e) Q
  event_makes j next event.Start f s has = tt
  event_makes j next (event.Turn turn now) f s has = tt
  event_makes j next (event.Pull by) f s has = tt
  event_makes j next (event.Job by told gave) f s has = offer_makes j by f.1.line told f.1.job gave s f.1.due has
  event_makes j next (event.Length by name len fault) f s has = m.length by name len j.now
  event_makes j next (event.Tick node said) f s has = m.ticked node j.now
  event_makes j next (event.Offer from octets) f s has = m.offered from octets
  event_makes j next (event.Took to octets) f s has =
      delivery_makes (to == j.profile.sender) (is_receiver j to) _ _ (m.delivered to octets j.now _) (m.delivered to octets j.now _)
  event_makes j next event.Empty f s has = tt
  event_makes j next (event.Up node instance up) f s has = m.taken node
  event_makes j next (event.News news) f s has = m.news
  event_makes j next event.End f s has = tt

  -- an event that may be none, and what follows it
  joined : (o : Option WorldEvent) (rest : List WorldEvent) → IfSome o Q → AllByRecursion Q rest → AllByRecursion Q (option_to_list o ++ rest)
  joined None rest is more = more
  joined (Some e) rest is more = (is, more)

  all_events : (events : List Event) (j last : Judged) → OfLines P j → judged_from j events ≡ Some last → AllByRecursion Has events
      → AllByRecursion Q (world_events j events)
  unfolding judged_from world_events
  all_events [] j last s is has = tt
  all_events (e ∷ events) j last s is has =
      option_and_then_some (λ next. judged_from next events) (accepts j e) last is (λ next comes more.
      let follows = (judges_what_follows j next e).0 comes in
      subst (λ o. AllByRecursion Q (option_to_list (world_event j e) ++ after_that o events)) (sym comes)
      (joined (world_event j e) (world_events next events) (event_makes j next e follows s has.0)
      (all_events events next last (follows_lines P j next e follows s) more has.1)))

  -- of the beginning of a run of a script
  pub begun_events : (script : Commands) (files : Files) (nodes : List ℕ) (events : List Event) → AllByRecursion P script.lines
      → Begun script files nodes events → AllByRecursion Has events → AllByRecursion Q (world_events (judged_opening script files nodes) events)
  begun_events script files nodes events lines begun has =
      let last = some_of (judged script files nodes events) begun in
      all_events events (judged_opening script files nodes) last.0 (record { left = lines; waiting = tt; place = tt }) last.1 has
