-- A datagram is passed on, and receivers are served.
use Rattle.std.proofs.Common.{◌≡◌, ℕ, zero, suc, ◌+◌, ◌<◌, ◌≤◌, List, [], ◌∷◌, drop, cond, Bool, true, false, Option, None, Some, refl, sym, ap, ◌∙◌, subst, arith}
use Rattle.std.specs.Prelude.{◌==◌, ◌||◌, not, filter, fold}
use Rattle.std.specs.Option.{option_map}
use Rattle.std.proofs.lemmas.Bool.Decides.{Decides-eqb}
use Rattle.std.proofs.lemmas.List.{drop_all, drop_more}
use Rattle.rand_pcg.specs.Lcg.{Lcg}
use Rattle.norm_base.proofs.MemberLemmas.{member_laws}
use Rattle.norm_base.specs.Datagrams.{datagram_of}
use Rattle.norm_base.specs.Members.{is_receiver, is_node, members_of, receivers_of}
use Rattle.norm_base.specs.Settings.{Settings}
use Rattle.norm_base.specs.declared.kinds.Sent.{Sent as Said}
use Rattle.norm_base.specs.declared.kinds.Sent.TheVariants as said
use Rattle.norm_ext.specs.Written.{Written}
use Rattle.norm_journal.specs.Draws.{next_draw, draws_after}
use Rattle.norm_safety.specs.Events.{Delivered, Offered}
use Rattle.std.specs.Fn.{iterate}
use Rattle.norm_tail.specs.SoFar.{Context, At, Stopped, HasGiven, copy_unless}
use Rattle.norm_tail.specs.Steps.{words_of}
use Rattle.norm_safety.specs.Tail.{Course, comes, tells, copy_comes, others_than, given_by, passes_on, serves}
use Rattle.norm_tail.specs.declared.step.TailStep.{TailStep}
use Rattle.norm_tail.proofs.ExtendLemmas.{stopped_later, copies_extend, all_extend}
use Rattle.norm_world.proofs.ReceiverEvents.{no_sender}
use Rattle.norm_world.specs.WorldKept.{WorldKept}

-- ---- members in order

-- a receiver in its place
pub receiver_place : (p : Settings) (i node : ℕ) → i < p.receivers → node ≡ p.sender + 1 + i
    → drop i (receivers_of p p.receivers) ≡ node ∷ drop (i + 1) (receivers_of p p.receivers)
receiver_place p i node lt is =
    drop_more (receivers_of p p.receivers) i 0 (omega (arith, member_laws.count p p.receivers, lt))
    ∙ ap (λ n. n ∷ drop (i + 1) (receivers_of p p.receivers)) (member_laws.each p p.receivers i 0 lt ∙ sym is)

-- and as a member, behind the sender
pub member_place : (p : Settings) (i j node : ℕ) → i ≡ suc j → drop j (receivers_of p p.receivers) ≡ node ∷ drop (j + 1) (receivers_of p p.receivers)
    → drop i (members_of p) ≡ node ∷ drop (i + 1) (members_of p)
member_place p i j node is there =
    let next : j + 1 ≡ suc j = omega arith in
    let after : suc (suc j) ≡ i + 1 = omega (arith, is) in
    ap (λ n. drop n (members_of p)) is ∙ there ∙ ap (λ n. node ∷ drop n (receivers_of p p.receivers)) next ∙ ap (λ n. node ∷ drop n (members_of p)) after

-- the sender in its place
pub first_place : (p : Settings) (i node : ℕ) → i ≡ 0 → node ≡ p.sender → drop i (members_of p) ≡ node ∷ drop (i + 1) (members_of p)
first_place p i node zero_is is =
    ap (λ n. drop n (members_of p)) zero_is ∙ ap (λ n. n ∷ receivers_of p p.receivers) (sym is)
    ∙ ap (λ n. node ∷ drop (n + 1) (members_of p)) (sym zero_is)

pub is_member : (p : Settings) (node : ℕ) → is_receiver p node ≡ true → is_node p node ≡ true
is_member p node e = go (node == p.sender) (is_receiver p node) e
  where
    go : (a b : Bool) → b ≡ true → (a || b) ≡ true
    go true b e = refl
    go false b e = e

pub sender_is_node : (p : Settings) (node : ℕ) → node ≡ p.sender → is_node p node ≡ true
sender_is_node p node is = go (node == p.sender) (is_receiver p node) ((Decides-eqb node p.sender).1 is)
  where
    go : (a b : Bool) → a ≡ true → (a || b) ≡ true
    go true b e = refl
    go false b e = absurd (cc)

-- ---- a copy

-- it comes to the sender
pub copy_to_sender : (p : Settings) (draws : ℕ → ℕ) (now : ℕ) (octets : List ℕ) (c : Course) (node : ℕ) → node ≡ p.sender
    → tells p (comes p (Delivered node octets now 0) c) ≡ copy_comes p draws now octets c node
copy_to_sender p draws now octets c node is = sym (ap (λ (b : Bool). elim b as (λ _. Course) [
  | true ↦ tells p (comes p (Delivered node octets now 0) c)
  | false ↦ comes p (Delivered node octets now (draws c.used)) (record c { used = c.used + 1 })
]) ((Decides-eqb node p.sender).1 is))

-- it comes to a receiver
pub copy_to_receiver : (p : Settings) (draws : ℕ → ℕ) (now : ℕ) (octets : List ℕ) (c : Course) (node : ℕ) → is_receiver p node ≡ true
    → comes p (Delivered node octets now (draws c.used)) (record c { used = c.used + 1 }) ≡ copy_comes p draws now octets c node
copy_to_receiver p draws now octets c node is = sym (ap (λ (b : Bool). elim b as (λ _. Course) [
  | true ↦ tells p (comes p (Delivered node octets now 0) c)
  | false ↦ comes p (Delivered node octets now (draws c.used)) (record c { used = c.used + 1 })
]) (no_sender p node is))

generator_on : (g : Lcg) (n : ℕ) → draws_after (iterate draws_after n g) ≡ iterate draws_after (n + 1) g
generator_on g n = go n g ∙ ap (λ m. iterate draws_after m g) one
  where
    one : suc n ≡ n + 1
    one = omega arith

    go : (n : ℕ) (g : Lcg) → draws_after (iterate draws_after n g) ≡ iterate draws_after (suc n) g
    go zero g = refl
    go (suc n) g = go n (draws_after g)

-- a draw was used
pub drew : (x : Context) (c : Course) (k : WorldKept) (steps : List TailStep) (g h : Lcg) → h ≡ draws_after g → At x c k steps g
    → At x (record c { used = c.used + 1 }) k steps h
drew x c k steps g h is here = record {
  profile = here.profile;
  led = here.led;
  stands = here.stands;
  answered = here.answered;
  drawn = is ∙ ap draws_after here.drawn ∙ generator_on x.draws c.used;
}

-- the draw is the next word
pub drawn_word : (x : Context) (c : Course) (k : WorldKept) (steps : List TailStep) (g : Lcg) (draw : ℕ) → draw ≡ next_draw g → At x c k steps g
    → draw ≡ words_of x.draws c.used
drawn_word x c k steps g draw is here = is ∙ ap next_draw here.drawn

-- to another member, or to the node itself
pub unless_self : (p : Settings) (draws : ℕ → ℕ) (now : ℕ) (octets : List ℕ) (from : ℕ) (c : Course) (node : ℕ) → (node == from) ≡ true
    → c ≡ copy_unless p draws now octets from c node
unless_self p draws now octets from c node is =
    sym (ap (λ (b : Bool). elim (not b) as (λ _. Course) [ true ↦ copy_comes p draws now octets c node | false ↦ c ]) is)

pub unless_other : (p : Settings) (draws : ℕ → ℕ) (now : ℕ) (octets : List ℕ) (from : ℕ) (c : Course) (node : ℕ) → (node == from) ≡ false
    → copy_comes p draws now octets c node ≡ copy_unless p draws now octets from c node
unless_other p draws now octets from c node is =
    sym (ap (λ (b : Bool). elim (not b) as (λ _. Course) [ true ↦ copy_comes p draws now octets c node | false ↦ c ]) is)

-- ---- copies to all others

abbrev others_in : ℕ → List ℕ → List ℕ
others_in from nodes = filter (λ other. not (other == from)) nodes

-- a tail on its way to a course, by copies to the members from a place on
pub record Copying (x : Context) (now : ℕ) (octets : List ℕ) (from place : ℕ) (whole : Course) (k : WorldKept) (steps : List TailStep) (g : Lcg) : Type 0 where
  pub course : Course
  pub here : At x course k steps g
  pub whole_is : fold (copy_comes x.p (words_of x.draws) now octets) course (filter (λ other. not (other == from)) (drop place (members_of x.p))) ≡ whole

one_copy : (p : Settings) (draws : ℕ → ℕ) (now : ℕ) (octets : List ℕ) (from : ℕ) (c : Course) (node : ℕ) (nodes : List ℕ)
    → fold (copy_comes p draws now octets) c (others_in from (node ∷ nodes))
    ≡ fold (copy_comes p draws now octets) (copy_unless p draws now octets from c node) (others_in from nodes)
one_copy p draws now octets from c node nodes = go (not (node == from))
  where
    go : (b : Bool) → fold (copy_comes p draws now octets) c (cond b (node ∷ others_in from nodes) (others_in from nodes))
        ≡ fold (copy_comes p draws now octets) (elim b as (λ _. Course) [ true ↦ copy_comes p draws now octets c node | false ↦ c ]) (others_in from nodes)
    go true = refl
    go false = refl

-- the next member's copy
next_copy : (x : Context) (p : Settings) (now : ℕ) (octets : List ℕ) (from place node : ℕ) (c : Course) → p ≡ x.p
    → drop place (members_of p) ≡ node ∷ drop (place + 1) (members_of p)
    → fold (copy_comes x.p (words_of x.draws) now octets) (copy_unless x.p (words_of x.draws) now octets from c node) (others_in from (drop (place + 1) (members_of x.p)))
    ≡ fold (copy_comes x.p (words_of x.draws) now octets) c (others_in from (drop place (members_of x.p)))
next_copy x p now octets from place node c same there =
    sym (one_copy x.p (words_of x.draws) now octets from c node (drop (place + 1) (members_of x.p)))
    ∙ ap (λ nodes. fold (copy_comes x.p (words_of x.draws) now octets) c (others_in from nodes))
    (sym (subst (λ (q : Settings). drop place (members_of q) ≡ node ∷ drop (place + 1) (members_of q)) same there))

pub copied_on : (x : Context) (p : Settings) (now : ℕ) (octets : List ℕ) (from place node : ℕ) (whole : Course) (old new : WorldKept)
    (before after : List TailStep) (g h : Lcg) → p ≡ old.p → drop place (members_of p) ≡ node ∷ drop (place + 1) (members_of p)
    → ((c : Course) → At x c old before g → At x (copy_unless x.p (words_of x.draws) now octets from c node) new after h)
    → Copying x now octets from place whole old before g → Copying x now octets from (place + 1) whole new after h
copied_on x p now octets from place node whole old new before after g h same there step t = record {
  course = copy_unless x.p (words_of x.draws) now octets from t.course node;
  here = step t.course t.here;
  whole_is = next_copy x p now octets from place node t.course (same ∙ t.here.profile) there ∙ t.whole_is;
}

pub copied_stops : (x : Context) (p : Settings) (now : ℕ) (octets : List ℕ) (from place node : ℕ) (whole : Course) (old new : WorldKept)
    (before : List TailStep) (g : Lcg) → p ≡ old.p → drop place (members_of p) ≡ node ∷ drop (place + 1) (members_of p)
    → ((c : Course) → At x c old before g → Stopped x (copy_unless x.p (words_of x.draws) now octets from c node) new)
    → Copying x now octets from place whole old before g → Stopped x whole new
copied_stops x p now octets from place node whole old new before g same there stops t =
    let next : Course = copy_unless x.p (words_of x.draws) now octets from t.course node in
    let rest = others_in from (drop (place + 1) (members_of x.p)) in
    subst (λ (c : Course). Stopped x c new) (next_copy x p now octets from place node t.course (same ∙ t.here.profile) there ∙ t.whole_is)
    (stopped_later x next (fold (copy_comes x.p (words_of x.draws) now octets) next rest) new (stops t.course t.here)
    (copies_extend x.p (words_of x.draws) now octets rest next))

pub copied_all : (x : Context) (p : Settings) (now : ℕ) (octets : List ℕ) (from place : ℕ) (whole : Course) (k : WorldKept) (steps : List TailStep) (g : Lcg)
    → p ≡ k.p → p.receivers + 1 ≤ place → Copying x now octets from place whole k steps g → At x whole k steps g
copied_all x p now octets from place whole k steps g same past t =
    let under = same ∙ t.here.profile in
    let many = ap (λ (q : Settings). q.receivers) under in
    let count = member_laws.count x.p x.p.receivers in
    let none : drop place (members_of x.p) ≡ [] = drop_all place (members_of x.p) (omega (arith, many, count, past)) in
    subst (λ (c : Course). At x c k steps g)
    (sym (ap (λ nodes. fold (copy_comes x.p (words_of x.draws) now octets) t.course (others_in from nodes)) none) ∙ t.whole_is) t.here

-- ---- what a tick gave

nothing_given : (p : Settings) (draws : ℕ → ℕ) (now : ℕ) (c : Course) (node : ℕ) (given : Option Written) → given_by c.world node ≡ given
    → None ≡ option_map (λ (d : Written). d.octets) given → c ≡ passes_on p draws now c node
nothing_given p draws now c node None is none = sym (ap (λ (o : Option Written). elim o as (λ _. Course) [
  | Some d ↦ fold (copy_comes p draws now d.octets) (comes p (Offered node d.octets) c) (others_than p node)
  | None ↦ c
]) is)
nothing_given p draws now c node (Some d) is none = absurd (clash none)
  where
    clash : None ≡ Some d.octets → ⊥
    clash e = cc

pub passes_nothing : (p : Settings) (draws : ℕ → ℕ) (now : ℕ) (c : Course) (node : ℕ) (sent : Said) (out : List ℕ) → sent ≡ said.Nothing
    → HasGiven c.world node sent out → c ≡ passes_on p draws now c node
passes_nothing p draws now c node sent out is given =
    nothing_given p draws now c node (given_by c.world node) refl (ap (λ s. datagram_of s out) (sym is) ∙ given)

some_given : (p : Settings) (draws : ℕ → ℕ) (now : ℕ) (c : Course) (node : ℕ) (out : List ℕ) (given : Option Written) → given_by c.world node ≡ given
    → Some out ≡ option_map (λ (d : Written). d.octets) given
    → fold (copy_comes p draws now out) (comes p (Offered node out) c) (others_than p node) ≡ passes_on p draws now c node
some_given p draws now c node out None is some = absurd (clash some)
  where
    clash : Some out ≡ None → ⊥
    clash e = cc
some_given p draws now c node out (Some d) is some =
    ap (λ octets. fold (copy_comes p draws now octets) (comes p (Offered node octets) c) (others_than p node)) (same some)
    ∙ sym (ap (λ (o : Option Written). elim o as (λ _. Course) [
      | Some d ↦ fold (copy_comes p draws now d.octets) (comes p (Offered node d.octets) c) (others_than p node)
      | None ↦ c
    ]) is)
  where
    same : Some out ≡ Some d.octets → out ≡ d.octets
    same e = cc

pub passes_one : (p : Settings) (draws : ℕ → ℕ) (now : ℕ) (c : Course) (node : ℕ) (sent : Said) (out octets : List ℕ) → sent ≡ said.Datagram → octets ≡ out
    → HasGiven c.world node sent out
    → fold (copy_comes p draws now octets) (comes p (Offered node octets) c) (others_than p node) ≡ passes_on p draws now c node
passes_one p draws now c node sent out octets is same given =
    some_given p draws now c node octets (given_by c.world node) refl (ap Some same ∙ ap (λ s. datagram_of s out) (sym is) ∙ given)

-- ---- receivers are served

pub record Serving (x : Context) (now place : ℕ) (whole : Course) (k : WorldKept) (steps : List TailStep) (g : Lcg) : Type 0 where
  pub course : Course
  pub here : At x course k steps g
  pub whole_is : fold (serves x.p (words_of x.draws) now) course (drop place (receivers_of x.p x.p.receivers)) ≡ whole

next_served : (x : Context) (p : Settings) (now place node : ℕ) (c : Course) → p ≡ x.p
    → drop place (receivers_of p p.receivers) ≡ node ∷ drop (place + 1) (receivers_of p p.receivers)
    → fold (serves x.p (words_of x.draws) now) (serves x.p (words_of x.draws) now c node) (drop (place + 1) (receivers_of x.p x.p.receivers))
    ≡ fold (serves x.p (words_of x.draws) now) c (drop place (receivers_of x.p x.p.receivers))
next_served x p now place node c same there =
    ap (fold (serves x.p (words_of x.draws) now) c)
    (sym (subst (λ (q : Settings). drop place (receivers_of q q.receivers) ≡ node ∷ drop (place + 1) (receivers_of q q.receivers)) same there))

pub served_on : (x : Context) (p : Settings) (now place node : ℕ) (whole : Course) (old new : WorldKept) (before after : List TailStep) (g h : Lcg) → p ≡ old.p
    → drop place (receivers_of p p.receivers) ≡ node ∷ drop (place + 1) (receivers_of p p.receivers)
    → ((c : Course) → At x c old before g → At x (serves x.p (words_of x.draws) now c node) new after h)
    → Serving x now place whole old before g → Serving x now (place + 1) whole new after h
served_on x p now place node whole old new before after g h same there step t = record {
  course = serves x.p (words_of x.draws) now t.course node;
  here = step t.course t.here;
  whole_is = next_served x p now place node t.course (same ∙ t.here.profile) there ∙ t.whole_is;
}

pub served_stops : (x : Context) (p : Settings) (now place node : ℕ) (whole : Course) (old new : WorldKept) (before : List TailStep) (g : Lcg) → p ≡ old.p
    → drop place (receivers_of p p.receivers) ≡ node ∷ drop (place + 1) (receivers_of p p.receivers)
    → ((c : Course) → At x c old before g → Stopped x (serves x.p (words_of x.draws) now c node) new)
    → Serving x now place whole old before g → Stopped x whole new
served_stops x p now place node whole old new before g same there stops t =
    let next : Course = serves x.p (words_of x.draws) now t.course node in
    let rest = drop (place + 1) (receivers_of x.p x.p.receivers) in
    subst (λ (c : Course). Stopped x c new) (next_served x p now place node t.course (same ∙ t.here.profile) there ∙ t.whole_is)
    (stopped_later x next (fold (serves x.p (words_of x.draws) now) next rest) new (stops t.course t.here) (all_extend x.p (words_of x.draws) now rest next))

pub served_all : (x : Context) (p : Settings) (now place : ℕ) (whole : Course) (k : WorldKept) (steps : List TailStep) (g : Lcg) → p ≡ k.p
    → p.receivers ≤ place → Serving x now place whole k steps g → At x whole k steps g
served_all x p now place whole k steps g same past t =
    let many = ap (λ (q : Settings). q.receivers) (same ∙ t.here.profile) in
    let count = member_laws.count x.p x.p.receivers in
    let none : drop place (receivers_of x.p x.p.receivers) ≡ [] = drop_all place (receivers_of x.p x.p.receivers) (omega (arith, many, count, past)) in
    subst (λ (c : Course). At x c k steps g) (sym (ap (fold (serves x.p (words_of x.draws) now) t.course) none) ∙ t.whole_is) t.here
