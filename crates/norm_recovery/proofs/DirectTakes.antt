-- Over a direct network each turn takes all: what waits is counted, place by place.
use Rattle.std.proofs.Common.{◌≡◌, ℕ, zero, suc, ◌+◌, ◌*◌, ◌<◌, ◌≤◌, List, [], ◌∷◌, ◌++◌, length, map, Bool, true, false, cond, Option, None, Some, refl, sym, ap, subst, ◌∙◌, arith, inl, inr}
use Rattle.std.specs.Prelude.{◌==◌, ◌&&◌, ◌||◌, ◌⊎◌, not, find, filter, slice_get, IfSome, Result, ⊤}
use Rattle.std.specs.List.{list_any, AllByRecursion}
use Rattle.std.proofs.lemmas.Bool.{eqb-true, eq-eqb}
use Rattle.std.proofs.lemmas.List.{length-append, length-map, map-append}
use Rattle.std.proofs.lemmas.Option.{none-some, same_Some, option_and_then_some}
use Rattle.norm_base.specs.Copies.{copies_for, copies_in}
use Rattle.norm_base.specs.Members.{members_of, receivers_of}
use Rattle.norm_base.specs.Settings.{Settings}
use Rattle.norm_ext.specs.Written.{Written}
use Rattle.norm_send_rules.specs.declared.fault.SendFault.{SendFault}
use Rattle.norm_send_rules.specs.declared.job.Job.{Job}
use Rattle.norm_send_rules.specs.declared.job.Receipt.{Receipt}
use Rattle.norm_safety.specs.Events.{Commanded, Delivered, Ticked, Offered, UpTaken, NewsAsked}
use Rattle.norm_safety.specs.World.{World, is_of, offers}
use Rattle.norm_safety.specs.WorldStep.{world_step}
use Rattle.norm_safety.proofs.WorldLemmas.{world_laws}
use Rattle.norm_script.specs.Commands.{Commands}
use Rattle.norm_script.specs.declared.script.Line.{Line}
use Rattle.norm_journal.specs.declared.event.Event.{Event}
use Rattle.norm_journal.specs.declared.event.Event.TheVariants as event
use Rattle.norm_journal.specs.Accepting.{accepts, judged_from}
use Rattle.norm_journal.specs.Direct.{copy_due, IsDirect, taken_with}
use Rattle.norm_journal.specs.Draws.{next_draw}
use Rattle.norm_journal.specs.Follows.{Follows, OfferedAndTold, OfferedAgain, SendersTick, ReceiversTick}
use Rattle.norm_journal.specs.Commands.{telling}
use Rattle.norm_journal.specs.Jobs.{Told, job_of, file_of_length}
use Rattle.norm_journal.specs.Judged.{Judged, judged_opening}
use Rattle.norm_journal.specs.Laws.{octets_given}
use Rattle.norm_journal.specs.Places.{Place, Starting, Between, Pulling, Giving, Again, Offering, Taking, Handing, handing, after_tick, command_due}
use Rattle.norm_journal.specs.Takes.{is_receiver, after_take, delivered}
use Rattle.norm_journal.specs.WorldEvents.{TakesDirectly, taken_after}
use Rattle.norm_journal.proofs.FollowLemmas.{judges_what_follows}
use Rattle.norm_journal.proofs.OfferLemmas.{told_at, repeated_at}
use Rattle.norm_recovery.specs.SteadyTakes.{most_waiting, DirectTakesAll}

-- ---- what is kept along a journal whose takes are direct

pub next_direct : (taken : ℕ) (o : Option Judged) (next : Judged) (events : List Event) → o ≡ Some next → IfSome o (λ x. TakesDirectly taken x events) → TakesDirectly taken next events
next_direct taken None next events e direct = absurd (none-some next e)
next_direct taken (Some x) next events e direct = subst (λ (y : Judged). TakesDirectly taken y events) (same_Some x next e) direct

pub walks_directly : (Kept : ℕ → Judged → Type 0)
    → ((taken : ℕ) (j next : Judged) (e : Event) → accepts j e ≡ Some next → IsDirect taken j e → Kept taken j → Kept (taken_with taken e) next)
    → (events : List Event) (taken : ℕ) (j last : Judged) → judged_from j events ≡ Some last → TakesDirectly taken j events → Kept taken j
    → Kept (taken_after taken events) last
unfolding judged_from TakesDirectly taken_after
walks_directly Kept step [] taken j last is direct kept = subst (λ (x : Judged). Kept taken x) (same_Some j last is) kept
walks_directly Kept step (e ∷ events) taken j last is direct kept =
    option_and_then_some (λ next. judged_from next events) (accepts j e) last is (λ next comes more.
    walks_directly Kept step events (taken_with taken e) next last more (next_direct (taken_with taken e) (accepts j e) next events comes direct.1)
    (step taken j next e comes direct.0 kept))

-- ---- copies

clash : false ≡ true → ⊥
clash e = cc

-- what was offered, as the network has it
abbrev pub offers_of : World → List (ℕ × List ℕ)
offers_of w = map octets_given w.offered

abbrev pub copies : Settings → World → List (ℕ × List ℕ)
copies p w = copies_in (members_of p) (offers_of w)

-- a node is one of these
abbrev pub is_one : ℕ → List ℕ → Bool
is_one node nodes = list_any (λ other. other == node) nodes

few_others : (node : ℕ) (nodes : List ℕ) → length (filter (λ m. not (m == node)) nodes) ≤ length nodes
few_others node [] = omega arith
few_others node (n ∷ nodes) = go (n == node) (few_others node nodes)
  where
    go : (b : Bool) → length (filter (λ m. not (m == node)) nodes) ≤ length nodes
        → length (cond (not b) (n ∷ filter (λ m. not (m == node)) nodes) (filter (λ m. not (m == node)) nodes)) ≤ suc (length nodes)
    go true le = omega (arith, le)
    go false le = omega (arith, le)

-- the others are fewer, where the node is one of them
others_fewer : (node : ℕ) (nodes : List ℕ) → is_one node nodes ≡ true → length (filter (λ m. not (m == node)) nodes) < length nodes
others_fewer node [] e = absurd (clash e)
others_fewer node (n ∷ nodes) e = go (n == node) refl e (λ more. others_fewer node nodes more)
  where
    go : (b : Bool) → (n == node) ≡ b → (b || is_one node nodes) ≡ true
        → (is_one node nodes ≡ true → length (filter (λ m. not (m == node)) nodes) < length nodes)
        → length (cond (not b) (n ∷ filter (λ m. not (m == node)) nodes) (filter (λ m. not (m == node)) nodes)) < suc (length nodes)
    go true is e more = let le = few_others node nodes in omega (arith, le)
    go false is e more = let lt = more e in omega (arith, lt)

pub copies_more : (members : List ℕ) (offered : List (ℕ × List ℕ)) (offer : ℕ × List ℕ)
    → length (copies_in members (offered ++ offer ∷ [])) ≡ length (copies_in members offered) + length (copies_for members offer)
copies_more members [] offer = length-append (copies_for members offer) [] ∙ (omega arith)
copies_more members (o ∷ offered) offer =
    let more = copies_more members offered offer in
    let one = length-append (copies_for members o) (copies_in members (offered ++ offer ∷ [])) in
    let two = length-append (copies_for members o) (copies_in members offered) in
    omega (arith, more, one, two)

receivers_many : (p : Settings) (n : ℕ) → length (receivers_of p n) ≡ n
receivers_many p zero = refl
receivers_many p (suc n) = let so = receivers_many p n in let one = length-append (receivers_of p n) ((p.sender + 1 + n) ∷ []) in omega (arith, so, one)

-- an offer of a member makes no more copies than there are receivers
copies_few : (p : Settings) (offer : ℕ × List ℕ) → is_one offer.0 (members_of p) ≡ true → length (copies_for (members_of p) offer) ≤ p.receivers
copies_few p offer is =
    let same = length-map {B = ℕ × List ℕ} (filter (λ m. not (m == offer.0)) (members_of p)) (λ (to : ℕ). (to, offer.1)) in
    let lt = others_fewer offer.0 (members_of p) is in
    let many = receivers_many p p.receivers in
    omega (arith, same, lt, many)

-- what is found is what was looked for
pub is_found : (node : ℕ) (octets : List ℕ) (d : ℕ × Written) (given : List (ℕ × Written)) → find (is_of node octets) given ≡ Some d → is_of node octets d ≡ true
is_found node octets d [] e = absurd (none-some d e)
is_found node octets d (g ∷ given) e = go (is_of node octets g) refl e (λ more. is_found node octets d given more)
  where
    go : (b : Bool) → is_of node octets g ≡ b → cond b (Some g) (find (is_of node octets) given) ≡ Some d
        → (find (is_of node octets) given ≡ Some d → is_of node octets d ≡ true) → is_of node octets d ≡ true
    go true test e more = subst (λ (x : ℕ × Written). is_of node octets x ≡ true) (same_Some g d e) test
    go false test e more = more e

-- with what a node offers there are at most so many more
offer_copies : (p : Settings) (w : World) (node : ℕ) (octets : List ℕ) (found : Option (ℕ × Written)) → find (is_of node octets) w.given ≡ found
    → is_one node (members_of p) ≡ true → (length (copies p w) ≤ length (copies p (offers found node w))) × (length (copies p (offers found node w)) ≤ length (copies p w) + p.receivers)
offer_copies p w node octets None e is = (omega arith, omega arith)
offer_copies p w node octets (Some d) e is =
    let own : (d.0 ≡ node) = its_node (d.0 == node) refl (is_found node octets d w.given e) in
    let few = copies_few p (d.0, d.1.octets) (subst (λ (n : ℕ). is_one n (members_of p) ≡ true) (sym own) is) in
    let all = ap (λ (os : List (ℕ × List ℕ)). length (copies_in (members_of p) os)) (map-append octets_given w.offered (d ∷ [])) in
    let more = copies_more (members_of p) (offers_of w) (d.0, d.1.octets) in
    (omega (arith, all, more), omega (arith, few, all, more))
  where
    both : (b c : Bool) → (b && c) ≡ true → b ≡ true
    both true c e = refl
    both false c e = absurd (clash e)

    its_node : (b : Bool) → (d.0 == node) ≡ b → is_of node octets d ≡ true → d.0 ≡ node
    its_node b is-b test = eqb-true d.0 node (both (d.0 == node) _ test)

-- ---- what waits, place by place

-- how much less than the most may wait at a place: so many copies of the receivers' offers, and of the sender's one offer, are to come or were taken
abbrev pub spent : ℕ → Place → ℕ
spent n (Taking taken) = taken
spent n (Handing node nodes) = n + n * suc (length nodes)
spent n (Offering node datagram next) = n + spent n next
spent n _ = n

-- the nodes that are to offer are members
abbrev pub OfMembers : List ℕ → Place → Type 0
OfMembers members (Handing node nodes) = AllByRecursion (λ n. is_one n members ≡ true) (node ∷ nodes)
OfMembers members (Offering node datagram next) = (is_one node members ≡ true) × OfMembers members next
OfMembers members _ = ⊤

-- What waits in a session's run: the place leaves room for it.
pub record Waits (p : Settings) (taken : ℕ) (j : Judged) : Type 0 where
  pub profile : j.profile ≡ p
  pub nodes : j.nodes ≡ receivers_of p p.receivers
  pub some : taken ≤ length (copies p j.world)
  pub room : length (copies p j.world) + spent p.receivers j.place ≤ taken + (p.receivers * p.receivers + p.receivers)
  pub members : OfMembers (members_of p) j.place

-- the world changed, but not what was offered
same_copies : (p : Settings) (v w : World) → v.offered ≡ w.offered → length (copies p v) ≡ length (copies p w)
same_copies p v w same = ap (λ (o : List (ℕ × Written)). length (copies_in (members_of p) (map octets_given o))) same

room_less : (p : Settings) (n taken was now : ℕ) → now ≤ was → n + was ≤ taken + (p.receivers * p.receivers + p.receivers)
    → n + now ≤ taken + (p.receivers * p.receivers + p.receivers)
room_less p n taken was now le room = omega (arith, le, room)

-- an event after which no more copies are there, and whose place has as much room
settles : (p : Settings) (taken : ℕ) (j x next : Judged) → next ≡ x → x.profile ≡ j.profile → x.nodes ≡ j.nodes → x.world.offered ≡ j.world.offered
    → spent p.receivers x.place ≤ spent p.receivers j.place → OfMembers (members_of p) x.place → Waits p taken j → Waits p taken next
settles p taken j x next then profile nodes same less members h =
    let many = same_copies p x.world j.world same in
    subst (λ (y : Judged). Waits p taken y) (sym then) (record {
      profile = profile ∙ h.profile;
      nodes = nodes ∙ h.nodes;
      some = (let some = h.some in omega (arith, some, many));
      room = (let room = h.room in let le = less in omega (arith, room, many, le));
      members = members;
    })

spent_handing : (n : ℕ) (nodes : List ℕ) → spent n (handing nodes) ≤ n + n * length nodes
spent_handing n [] = omega arith
spent_handing n (node ∷ nodes) = omega arith

spent_due : (n : ℕ) (w : Option Line) (lines : List Line) → spent n (command_due w lines) ≡ n
spent_due n (Some line) lines = refl
spent_due n None [] = refl
spent_due n None (line ∷ lines) = refl

members_due : (members : List ℕ) (w : Option Line) (lines : List Line) → OfMembers members (command_due w lines)
members_due members (Some line) lines = tt
members_due members None [] = tt
members_due members None (line ∷ lines) = tt

members_handing : (members nodes : List ℕ) → AllByRecursion (λ n. is_one n members ≡ true) nodes → OfMembers members (handing nodes)
members_handing members [] all = tt
members_handing members (node ∷ nodes) all = all

-- after a tick
tick_spent : (n node : ℕ) (o : Option Written) (nodes : List ℕ) → spent n (after_tick node o (handing nodes)) ≤ n + n * suc (length nodes)
tick_spent n node None [] = omega arith
tick_spent n node None (other ∷ nodes) = omega arith
tick_spent n node (Some d) [] = omega arith
tick_spent n node (Some d) (other ∷ nodes) = omega arith

sender_spent : (n node : ℕ) (o : Option Written) → spent n (after_tick node o (Taking 0)) ≤ n
sender_spent n node None = omega arith
sender_spent n node (Some d) = omega arith

tick_members : (members : List ℕ) (node : ℕ) (o : Option Written) (after : Place) → is_one node members ≡ true → OfMembers members after
    → OfMembers members (after_tick node o after)
tick_members members node None after own rest = rest
tick_members members node (Some d) after own rest = (own, rest)

pub is_first : (members : List ℕ) (node : ℕ) → is_one node (node ∷ members) ≡ true
is_first members node = go (node == node) (eq-eqb node node refl)
  where
    go : (b : Bool) → b ≡ true → (b || is_one node members) ≡ true
    go true e = refl
    go false e = absurd (clash e)

-- every receiver is a member
pub in_more : (node n : ℕ) (nodes : List ℕ) → is_one node nodes ≡ true → is_one node (n ∷ nodes) ≡ true
in_more node n nodes e = go (n == node)
  where
    go : (b : Bool) → (b || is_one node nodes) ≡ true
    go true = refl
    go false = e

all_in_more : (n : ℕ) (members nodes : List ℕ) → AllByRecursion (λ x. is_one x members ≡ true) nodes → AllByRecursion (λ x. is_one x (n ∷ members) ≡ true) nodes
all_in_more n members [] all = tt
all_in_more n members (x ∷ nodes) all = (in_more x n members all.0, all_in_more n members nodes all.1)

pub all_in : (nodes : List ℕ) → AllByRecursion (λ x. is_one x nodes ≡ true) nodes
all_in [] = tt
all_in (n ∷ nodes) = (is_first nodes n, all_in_more n nodes nodes (all_in nodes))

pub receivers_in : (p : Settings) → AllByRecursion (λ x. is_one x (members_of p) ≡ true) (receivers_of p p.receivers)
receivers_in p = all_in_more p.sender (receivers_of p p.receivers) (receivers_of p p.receivers) (all_in (receivers_of p p.receivers))

-- a copy that is due is one more than were taken
pub due_more : (copies : List (ℕ × List ℕ)) (taken : ℕ) (copy : ℕ × List ℕ) → slice_get copies taken ≡ Some copy → taken < length copies
due_more [] taken copy e = absurd (none-some copy e)
due_more (c ∷ copies) zero copy e = omega arith
due_more (c ∷ copies) (suc taken) copy e = let lt = due_more copies taken copy e in omega (arith, lt)

pub none_due : (copies : List (ℕ × List ℕ)) (taken : ℕ) → slice_get copies taken ≡ None → length copies ≤ taken
none_due [] taken e = omega arith
none_due (c ∷ copies) zero e = absurd (none-some c (sym e))
none_due (c ∷ copies) (suc taken) e = let le = none_due copies taken e in omega (arith, le)

pub most_members : (n : ℕ) → n ≤ 16 → n * n + n ≤ 272
most_members n le = omega (arith, square n le, le)
  where
    square : (n : ℕ) → n ≤ 16 → n * n ≤ 16 * 16
    square n le = grind arith

-- with so few taken, another take follows
pub another_take : (taken : ℕ) (j : Judged) → taken ≤ most_waiting → after_take taken j ≡ Taking (taken + 1)
another_take taken j le = go (taken + 1 == 512) refl
  where
    go : (b : Bool) → (taken + 1 == 512) ≡ b → (elim b as (λ _. Place) [ true ↦ handing j.nodes | false ↦ Taking (taken + 1) ]) ≡ Taking (taken + 1)
    go true e = absurd (let same = eqb-true (taken + 1) 512 e in omega (arith, same, le))
    go false e = refl

-- ---- each event

-- the offer that was due is made
offer_waits : (p : Settings) (taken : ℕ) (j next : Judged) (node : ℕ) (octets : List ℕ) (after : Place) → j.place ≡ Offering node octets after
    → next ≡ record j { world = (world_step j.profile j.world (Offered node octets)).0; place = after } → Waits p taken j → Waits p taken next
offer_waits p taken j next node octets after place then h =
    let members = subst (OfMembers (members_of p)) place h.members in
    let more = offer_copies p j.world node octets (find (is_of node octets) j.world.given) refl members.0 in
    let spends = ap (spent p.receivers) place in
    subst (λ (y : Judged). Waits p taken y) (sym then) (record {
      profile = h.profile;
      nodes = h.nodes;
      some = (let some = h.some in let le = more.0 in omega (arith, some, le));
      room = (let room = h.room in let le = more.1 in omega (arith, room, le, spends));
      members = members.1;
    })

-- a copy was taken
take_waits : (p : Settings) (taken count : ℕ) (j x next : Judged) → p.receivers ≤ 16 → j.place ≡ Taking count → next ≡ x → x.profile ≡ j.profile → x.nodes ≡ j.nodes
    → x.world.offered ≡ j.world.offered → x.place ≡ after_take count j → taken < length (copies p j.world) → Waits p taken j → Waits p (taken + 1) next
take_waits p taken count j x next few place then profile nodes same after lt h =
    let many = same_copies p x.world j.world same in
    let spends = ap (spent p.receivers) place in
    let most = most_members p.receivers few in
    let room = h.room in
    let goes = after ∙ another_take count j (omega (arith, room, spends, most, lt)) in
    let spends_on = ap (spent p.receivers) goes in
    subst (λ (y : Judged). Waits p (taken + 1) y) (sym then) (record {
      profile = profile ∙ h.profile;
      nodes = nodes ∙ h.nodes;
      some = omega (arith, lt, many);
      room = omega (arith, room, many, spends, spends_on);
      members = subst (OfMembers (members_of p)) (sym goes) tt;
    })

-- none was there
none_waits : (p : Settings) (taken count : ℕ) (j next : Judged) → j.place ≡ Taking count → next ≡ record j { place = handing j.nodes }
    → length (copies p j.world) ≤ taken → Waits p taken j → Waits p taken next
none_waits p taken count j next place then le h =
    let spends = spent_handing p.receivers j.nodes in
    let many = ap (λ (ns : List ℕ). length ns) h.nodes ∙ receivers_many p p.receivers in
    let square = ap (λ (n : ℕ). p.receivers * n) many in
    subst (λ (y : Judged). Waits p taken y) (sym then) (record {
      profile = h.profile;
      nodes = h.nodes;
      some = h.some;
      room = omega (arith, le, spends, square);
      members = subst (λ (ns : List ℕ). OfMembers (members_of p) (handing ns)) (sym h.nodes) (members_handing (members_of p) (receivers_of p p.receivers) (receivers_in p));
    })

-- the copies that the judge counts
judged_copies : (p : Settings) (taken : ℕ) (j : Judged) (due : Option (ℕ × List ℕ)) → j.profile ≡ p → copy_due taken j ≡ due → slice_get (copies p j.world) taken ≡ due
judged_copies p taken j due profile e = ap (λ (q : Settings). slice_get (copies q j.world) taken) (sym profile) ∙ e

is_member_own : (p : Settings) (j : Judged) (node : ℕ) → j.profile ≡ p → node ≡ j.profile.sender → is_one node (members_of p) ≡ true
is_member_own p j node profile own =
    subst (λ (n : ℕ). is_one n (members_of p) ≡ true) (sym (own ∙ ap (λ (q : Settings). q.sender) profile)) (is_first (receivers_of p p.receivers) p.sender)

tick_waits : (p : Settings) (taken : ℕ) (j next : Judged) (node : ℕ) (after : Place) (o : Option Written) → SendersTick j node after ⊎ ReceiversTick j node after
    → next ≡ record j { world = (world_step j.profile j.world (Ticked node j.now)).0; place = after_tick node o after } → Waits p taken j → Waits p taken next
tick_waits p taken j next node after o (inl due) then h =
    settles p taken j _ next then refl refl (world_laws.offered j.profile j.world (Ticked node j.now) refl)
    (let spends = ap (spent p.receivers) due.place in
    let less = sender_spent p.receivers node o in
    let here = ap (λ (a : Place). spent p.receivers (after_tick node o a)) due.after_is in
    omega (arith, spends, less, here))
    (tick_members (members_of p) node o after (is_member_own p j node h.profile due.node_is) (subst (OfMembers (members_of p)) (sym due.after_is) tt)) h
tick_waits p taken j next node after o (inr due) then h =
    let members = subst (OfMembers (members_of p)) due.place h.members in
    settles p taken j _ next then refl refl (world_laws.offered j.profile j.world (Ticked node j.now) refl)
    (let spends = ap (spent p.receivers) due.place in
    let less = tick_spent p.receivers node o due.nodes in
    let here = ap (λ (a : Place). spent p.receivers (after_tick node o a)) due.after_is in
    omega (arith, spends, less, here))
    (tick_members (members_of p) node o after members.0 (subst (OfMembers (members_of p)) (sym due.after_is) (members_handing (members_of p) due.nodes members.1))) h

-- who a taken datagram is for
abbrev one_of : Bool → Bool → Judged → Judged → Judged → Judged
one_of sender receiver j a b = elim sender [ true ↦ a | false ↦ elim receiver [ true ↦ b | false ↦ j ] ]

-- what a delivery leaves of the judge's state
record Leaves (j x : Judged) : Type 0 where
  profile : x.profile ≡ j.profile
  nodes : x.nodes ≡ j.nodes
  offered : x.world.offered ≡ j.world.offered

delivered_leaves : (sender receiver : Bool) (j a b : Judged) → Leaves j a → Leaves j b → Leaves j (one_of sender receiver j a b)
delivered_leaves true receiver j a b x y = x
delivered_leaves false true j a b x y = y
delivered_leaves false false j a b x y = record { profile = refl; nodes = refl; offered = refl }

delivery_leaves : (j : Judged) (to : ℕ) (octets : List ℕ) → Leaves j (delivered to octets j)
delivery_leaves j to octets =
    delivered_leaves (to == j.profile.sender) (is_receiver j to) j _ _
    (record { profile = refl; nodes = refl; offered = world_laws.offered j.profile j.world (Delivered to octets j.now 0) refl })
    (record { profile = refl; nodes = refl; offered = world_laws.offered j.profile j.world (Delivered to octets j.now (next_draw j.draws)) refl })

-- another place, which is reached with as much room
moves_on : (p : Settings) (taken : ℕ) (j x next : Judged) (was : Place) → next ≡ x → x.profile ≡ j.profile → x.nodes ≡ j.nodes → x.world.offered ≡ j.world.offered
    → j.place ≡ was → spent p.receivers x.place ≤ spent p.receivers was → OfMembers (members_of p) x.place → Waits p taken j → Waits p taken next
moves_on p taken j x next was then profile nodes same place less members h =
    settles p taken j x next then profile nodes same (let here = ap (spent p.receivers) place in omega (arith, less, here)) members h

told_spent : (n : ℕ) (place : Place) (line : Line) → telling place ≡ Some line → n ≤ spent n place
told_spent n place line e = go (told_at place line e)
  where
    go : (place ≡ Giving line) ⊎ ((place ≡ Again line) × (job_of line.verb ≡ None)) → n ≤ spent n place
    go (inl is) = let same = ap (spent n) is in omega (arith, same)
    go (inr is) = let same = ap (spent n) is.0 in omega (arith, same)

job_spent : (n : ℕ) (j : Judged) (line : Line) (told : Option Job) (job : Job) (gave : Result Receipt SendFault)
    → OfferedAndTold j line told job gave ⊎ OfferedAgain j line told job → n ≤ spent n j.place
job_spent n j line told job gave (inl due) = told_spent n j.place line due.place
job_spent n j line told job gave (inr due) =
    let same = ap (spent n) (repeated_at j.place line job due.place).0 in omega (arith, same)

pub follows_waits : (p : Settings) → p.receivers ≤ 16 → (taken : ℕ) (j next : Judged) (e : Event) → Follows j e next → IsDirect taken j e → Waits p taken j → Waits p (taken_with taken e) next
follows_waits p few taken j next event.Start f direct h = moves_on p taken j _ next Starting f.1.then refl refl refl f.1.place (omega arith) tt h
follows_waits p few taken j next (event.Turn turn now) f direct h =
    moves_on p taken j _ next Between f.1.then refl refl refl f.1.place (let same = spent_due p.receivers j.waiting j.left in omega (arith, same))
    (members_due (members_of p) j.waiting j.left) h
follows_waits p few taken j next (event.Pull by) f direct h = moves_on p taken j _ next Pulling f.1.then refl refl refl f.1.place (omega arith) tt h
follows_waits p few taken j next (event.Job by told gave) f direct h =
    settles p taken j _ next f.1.then refl refl (world_laws.offered j.profile j.world (Commanded by f.1.job j.now) refl)
    (job_spent p.receivers j f.1.line told f.1.job gave f.1.due) tt h
follows_waits p few taken j next (event.Length by name len fault) f direct h =
    settles p taken j _ next f.1.then refl refl (world_laws.offered j.profile j.world (Commanded by (file_of_length name len) j.now) refl)
    (told_spent p.receivers j.place f.1.line f.1.place) tt h
follows_waits p few taken j next (event.Tick node said) f direct h = tick_waits p taken j next node f.1.after f.1.datagram f.1.due f.1.then h
follows_waits p few taken j next (event.Offer from octets) f direct h = offer_waits p taken j next from octets f.1.after f.1.place f.1.then h
follows_waits p few taken j next (event.Took to octets) f direct h =
    let leaves = delivery_leaves j to octets in
    take_waits p taken f.1.count j _ next few f.1.place f.1.then leaves.profile leaves.nodes leaves.offered refl
    (due_more (copies p j.world) taken (to, octets) (judged_copies p taken j (Some (to, octets)) h.profile direct)) h
follows_waits p few taken j next event.Empty f direct h =
    none_waits p taken f.1.count j next f.1.place f.1.then (none_due (copies p j.world) taken (judged_copies p taken j None h.profile direct)) h
follows_waits p few taken j next (event.Up node instance up) f direct h =
    settles p taken j _ next f.1.then refl refl (world_laws.offered j.profile j.world (UpTaken node) refl) (omega arith) h.members h
follows_waits p few taken j next (event.News news) f direct h =
    settles p taken j _ next f.then refl refl (world_laws.offered j.profile j.world NewsAsked refl) (omega arith) h.members h
follows_waits p few taken j next event.End f direct h = moves_on p taken j _ next Between f.1.then refl refl refl f.1.place (omega arith) tt h

-- ---- the law

pub begins_waiting : (script : Commands) (files : Told) → Waits script.profile 0 (judged_opening script files (receivers_of script.profile script.profile.receivers))
begins_waiting script files = record {
  profile = refl;
  nodes = refl;
  some = omega arith;
  room = omega arith;
  members = tt;
}

pub takes_all : DirectTakesAll
takes_all script range files events last is direct =
    let p : Settings = script.profile in
    let few : p.receivers ≤ 16 = range.receivers.1 in
    let waits = walks_directly (Waits p) (λ taken j next e comes due kept. follows_waits p few taken j next e ((judges_what_follows j next e).0 comes) due kept)
    events 0 (judged_opening script files (receivers_of p p.receivers)) last is direct (begins_waiting script files) in
    let most = most_members p.receivers few in
    let room = waits.room in
    let some = waits.some in
    let count : (n : ℕ) → last.place ≡ Taking n → n ≤ most_waiting = λ n place. (let spends = ap (spent p.receivers) place in omega (arith, room, spends, some, most)) in
    record {
      few = (let own = ap (λ (q : Settings). length (copies q last.world)) waits.profile in omega (arith, own, room, most));
      in_turn = count;
      goes_on = λ n place. another_take n last (count n place);
    }
