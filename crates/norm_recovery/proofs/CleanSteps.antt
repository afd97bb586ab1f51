-- A receiver that is clean stays so: whatever it does but to overhear, and whatever the sender does but to close a round that asks for what it lacks.
use Rattle.std.proofs.Common.{◌≡◌, ℕ, List, [], ◌∷◌, Bool, true, false, Option, None, Some, refl, sym, ap, ◌∙◌, subst, arith, ◌⊎◌, inl, inr}
use Rattle.std.specs.Prelude.{◌==◌, ◌&&◌, ◌||◌, not, nat_lt, nat_le, is_some}
use Rattle.std.specs.List.{AllByRecursion, list_all}
use Rattle.std.proofs.lemmas.Bool.Decides.{Decides-ltb}
use Rattle.norm_base.specs.Settings.{Settings, InRange}
use Rattle.norm_receive_rules.specs.Heard.{Heard, heard_nothing}
use Rattle.norm_receive_rules.specs.Leaving.{is_in}
use Rattle.norm_receive_rules.specs.ReceiverState.{ReceiverState}
use Rattle.norm_send_rules.specs.Closing.{round_closed}
use Rattle.norm_send_rules.specs.InWindow.{current_shapes}
use Rattle.norm_send_rules.specs.SenderState.{SenderState, Instance, Round}
use Rattle.norm_send_rules.specs.Ticking.{closed_where_due, ticked}
use Rattle.norm_send_rules.specs.Watermarks.{has_member}
use Rattle.norm_send_rules.specs.declared.want.Want.{Want}
use Rattle.norm_send_rules.specs.declared.want.Want.TheVariants.{Info, Symbol}
use Rattle.norm_safety.specs.Events.{Event}
use Rattle.norm_safety.specs.Jobs.{AreEvents}
use Rattle.norm_safety.specs.Lawful.{Lawful}
use Rattle.norm_safety.specs.World.{World, receiver_at}
use Rattle.norm_safety.specs.WorldStep.{run}
use Rattle.norm_safety.proofs.EntryLemmas.{clash}
use Rattle.norm_safety.proofs.OrderRun.{found_holds}
use Rattle.norm_safety.proofs.WorldLemmas.{world_laws}
use Rattle.norm_recovery.specs.Asking.{asks, all_have, have_wanted, with_closed}
use Rattle.norm_recovery.specs.Clean.{heard_asks, hears_of, is_clean, is_clean_from, ClosesInVain}
use Rattle.norm_recovery.specs.Left.{has, in_window, left}
use Rattle.norm_recovery.specs.RoundAsks.{asks_open, is_info_or_source}
use Rattle.norm_recovery.proofs.AsksOn.{AsksOn, tick_on}
use Rattle.norm_recovery.proofs.ClosingHelps.{closings_help}
use Rattle.norm_recovery.proofs.ClosingLists.{In}
use Rattle.norm_recovery.proofs.HeardSteps.{Keeps, Next, Goes, Anew}
use Rattle.norm_recovery.proofs.NeedLacks.{contained}

-- ---- lists and tests

and_is : (a b : Bool) → a ≡ true → b ≡ true → (a && b) ≡ true
and_is true b e f = f
and_is false b e f = absurd (clash e)

pub both : (a b : Bool) → (a && b) ≡ true → (a ≡ true) × (b ≡ true)
both true b e = (refl, e)
both false b e = absurd (clash e)

or_on : (a b c : Bool) → (b ≡ true → c ≡ true) → (a || b) ≡ true → (a || c) ≡ true
or_on true b c f e = refl
or_on false b c f e = f e

all_more : {X : Type 0} (test other : X → Bool) (xs : List X) → ((x : X) → In x xs → test x ≡ true → other x ≡ true) → list_all test xs ≡ true → list_all other xs ≡ true
all_more test other [] implies e = refl
all_more {X} test other (x ∷ xs) implies e = go (test x) refl e (λ f. all_more test other xs (λ y h. implies y (inr h)) f)
  where
    go : (b : Bool) → test x ≡ b → (b && list_all test xs) ≡ true → (list_all test xs ≡ true → list_all other xs ≡ true)
        → (other x && list_all other xs) ≡ true
    go true is f more = and_is (other x) (list_all other xs) (implies x (inl refl) is) (more f)
    go false is f more = absurd (clash f)

-- ---- clean, by what is asked for

-- each that a receiver lacks and heard asked for is asked for
abbrev pub clean_by : Settings → SenderState → (Want → Bool) → ReceiverState → Bool
clean_by p s asked r = is_in r s.current.id && list_all (λ y. not (hears_of p s r y) || asked y) (in_window p s)

-- what is asked for more
asked_on : (p : Settings) (s : SenderState) (asked more : Want → Bool) (r : ReceiverState)
    → ((y : Want) → In y (in_window p s) → hears_of p s r y ≡ true → asked y ≡ true → more y ≡ true) → clean_by p s asked r ≡ true → clean_by p s more r ≡ true
asked_on p s asked more r implies e =
    let parts = both (is_in r s.current.id) (list_all (λ y. not (hears_of p s r y) || asked y) (in_window p s)) e in
    and_is (is_in r s.current.id) (list_all (λ y. not (hears_of p s r y) || more y) (in_window p s)) parts.0
    (all_more (λ y. not (hears_of p s r y) || asked y) (λ y. not (hears_of p s r y) || more y) (in_window p s)
    (λ y there. one y (hears_of p s r y) refl there) parts.1)
  where
    one : (y : Want) (b : Bool) → hears_of p s r y ≡ b → In y (in_window p s) → (not b || asked y) ≡ true → (not b || more y) ≡ true
    one y true is there f = implies y there is f
    one y false is there f = refl

-- of a back-off that ends later, or of one that does not
abbrev by_backoff : ℕ → Bool → Option ℕ → Bool
by_backoff late clean found = elim found [ Some ends ↦ nat_lt ends late || clean | None ↦ true ]

backoff_on : (late : ℕ) (clean more : Bool) (found : Option ℕ) → (clean ≡ true → more ≡ true) → by_backoff late clean found ≡ true → by_backoff late more found ≡ true
backoff_on late clean more None f e = refl
backoff_on late clean more (Some ends) f e = or_on (nat_lt ends late) clean more f e

-- ---- the sender

pub sender_clean : (p : Settings) (late : ℕ) (s t : SenderState) (r : ReceiverState) → AsksOn p s t → is_clean_from late p s r ≡ true → is_clean_from late p t r ≡ true
sender_clean p late s t r on e = backoff_on late (is_clean p s r) (is_clean p t r) r.knows.backoff clean e
  where
    clean : is_clean p s r ≡ true → is_clean p t r ≡ true
    clean f = ap (λ (i : Instance). clean_by p (record s { current = i }) (asks_open p t) r) on.current
        ∙ asked_on p s (asks_open p s) (asks_open p t) r (λ y there is asked. on.asks y asked) f

-- ---- the receiver

fewer : (c d a : Bool) → (d ≡ true → c ≡ true) → (not c || a) ≡ true → (not d || a) ≡ true
fewer c false a f e = refl
fewer true true a f e = e
fewer false true a f e = absurd (clash (f refl))

-- it has more, and heard the same
pub keeps_clean : (p : Settings) (late : ℕ) (s : SenderState) (r t : ReceiverState) → Keeps r t → ((y : Want) → has p s r y ≡ true → has p s t y ≡ true)
    → is_clean_from late p s r ≡ true → is_clean_from late p s t ≡ true
keeps_clean p late s r t k more e = go k.backoff
  where
    heard_on : (y : Want) → hears_of p s t y ≡ true → hears_of p s r y ≡ true
    heard_on y f =
        let parts = both (is_info_or_source (current_shapes p s) y && not (has p s t y)) (heard_asks t.knows.heard y) f in
        let own = both (is_info_or_source (current_shapes p s) y) (not (has p s t y)) parts.0 in
        and_is (is_info_or_source (current_shapes p s) y && not (has p s r y)) (heard_asks r.knows.heard y)
        (and_is (is_info_or_source (current_shapes p s) y) (not (has p s r y)) own.0 (lacks (has p s r y) (has p s t y) (more y) own.1))
        (ap (λ heard. heard_asks heard y) (sym k.heard) ∙ parts.1)
      where
        lacks : (a b : Bool) → (a ≡ true → b ≡ true) → not b ≡ true → not a ≡ true
        lacks false b g h = refl
        lacks true true g h = h
        lacks true false g h = absurd (clash (g refl))

    clean : is_clean p s r ≡ true → is_clean p s t ≡ true
    clean f =
        let parts = both (is_in r s.current.id) (list_all (λ y. not (hears_of p s r y) || asks_open p s y) (in_window p s)) f in
        and_is (is_in t s.current.id) (list_all (λ y. not (hears_of p s t y) || asks_open p s y) (in_window p s))
        (ap (λ (o : Option ℕ). elim o as (λ _. Bool) [ Some current ↦ current == s.current.id | None ↦ false ]) k.instance ∙ parts.0)
        (all_more (λ y. not (hears_of p s r y) || asks_open p s y) (λ y. not (hears_of p s t y) || asks_open p s y) (in_window p s)
        (λ y there g. fewer (hears_of p s r y) (hears_of p s t y) (asks_open p s y) (heard_on y) g) parts.1)

    go : (t.knows.backoff ≡ r.knows.backoff) ⊎ (t.knows.backoff ≡ None) → is_clean_from late p s t ≡ true
    go (inl same) =
        ap (by_backoff late (is_clean p s t)) same ∙ backoff_on late (is_clean p s r) (is_clean p s t) r.knows.backoff clean e
    go (inr none) = ap (by_backoff late (is_clean p s t)) none

-- it heard nothing
pub anew_clean : (p : Settings) (s : SenderState) (t : ReceiverState) → t.knows.heard ≡ heard_nothing → is_in t s.current.id ≡ true → is_clean p s t ≡ true
anew_clean p s t none inside =
    and_is (is_in t s.current.id) (list_all (λ y. not (hears_of p s t y) || asks_open p s y) (in_window p s)) inside (all (in_window p s))
  where
    nothing : (y : Want) → heard_asks heard_nothing y ≡ false
    nothing (Info index) = refl
    nothing (Symbol at) = refl

    one : (a b c : Bool) → b ≡ false → (not (a && b) || c) ≡ true
    one true true c e = absurd (clash (sym e))
    one true false c e = refl
    one false b c e = refl

    all : (ys : List Want) → list_all (λ y. not (hears_of p s t y) || asks_open p s y) ys ≡ true
    all [] = refl
    all (y ∷ ys) =
        and_is (not (hears_of p s t y) || asks_open p s y) (list_all (λ y. not (hears_of p s t y) || asks_open p s y) ys)
        (one (is_info_or_source (current_shapes p s) y && not (has p s t y)) (heard_asks t.knows.heard y) (asks_open p s y)
        (ap (λ heard. heard_asks heard y) none ∙ nothing y)) (all ys)

pub clean_so : (p : Settings) (late : ℕ) (s : SenderState) (t : ReceiverState) → is_clean p s t ≡ true → is_clean_from late p s t ≡ true
clean_so p late s t e = go t.knows.backoff
  where
    or_so : (a b : Bool) → b ≡ true → (a || b) ≡ true
    or_so true b f = refl
    or_so false b f = f

    go : (found : Option ℕ) → by_backoff late (is_clean p s t) found ≡ true
    go None = refl
    go (Some ends) = or_so (nat_lt ends late) (is_clean p s t) e

-- if it backs off and its back-off is not said to end before 0, it is clean
pub clean_if_runs : (p : Settings) (s : SenderState) (r : ReceiverState) → is_some r.knows.backoff ≡ true → is_clean_from 0 p s r ≡ true → is_clean p s r ≡ true
clean_if_runs p s r runs e = go r.knows.backoff runs e
  where
    by : (ends : ℕ) (b : Bool) → nat_lt ends 0 ≡ b → (b || is_clean p s r) ≡ true → is_clean p s r ≡ true
    by ends true is f = absurd (let lt = (Decides-ltb ends 0).0 is in omega (arith, lt))
    by ends false is f = f

    go : (found : Option ℕ) → is_some found ≡ true → by_backoff 0 (is_clean p s r) found ≡ true → is_clean p s r ≡ true
    go None f g = absurd (clash f)
    go (Some ends) f g = by ends (nat_lt ends 0) refl g

pub next_clean : (p : Settings) (late : ℕ) (s : SenderState) (r t : ReceiverState) → Next r t → ((y : Want) → has p s r y ≡ true → has p s t y ≡ true)
    → is_in t s.current.id ≡ true → is_clean_from late p s r ≡ true → is_clean_from late p s t ≡ true
next_clean p late s r t (Goes k) more inside e = keeps_clean p late s r t k more e
next_clean p late s r t (Anew none) more inside e = clean_so p late s t (anew_clean p s t none inside)

-- what it hears more the open round asks for
pub overheard_clean : (p : Settings) (late : ℕ) (s : SenderState) (r : ReceiverState) (heard : Heard)
    → ((y : Want) → In y (in_window p s) → is_info_or_source (current_shapes p s) y ≡ true → heard_asks heard y ≡ true
    → (heard_asks r.knows.heard y ≡ true) ⊎ (asks_open p s y ≡ true)) → is_clean_from late p s r ≡ true
    → is_clean_from late p s (record r { knows = record (r.knows) { heard = heard } }) ≡ true
overheard_clean p late s r heard asked e = backoff_on late (is_clean p s r) (is_clean p s t) r.knows.backoff clean e
  where
    t : ReceiverState
    t = record r { knows = record (r.knows) { heard = heard } }

    one : (y : Want) → In y (in_window p s) → (not (hears_of p s r y) || asks_open p s y) ≡ true → (not (hears_of p s t y) || asks_open p s y) ≡ true
    one y there f = go (hears_of p s t y) refl
      where
        so : (a b : Bool) → a ≡ true → (not a || b) ≡ true → b ≡ true
        so true b g h = h
        so false b g h = absurd (clash g)

        go : (b : Bool) → hears_of p s t y ≡ b → (not b || asks_open p s y) ≡ true
        go false is = refl
        go true is =
            let parts = both (is_info_or_source (current_shapes p s) y && not (has p s r y)) (heard_asks heard y) is in
            let own = both (is_info_or_source (current_shapes p s) y) (not (has p s r y)) parts.0 in
            by parts.0 (asked y there own.0 parts.1)
          where
            by : (is_info_or_source (current_shapes p s) y && not (has p s r y)) ≡ true → (heard_asks r.knows.heard y ≡ true) ⊎ (asks_open p s y ≡ true) → asks_open p s y ≡ true
            by lacks (inl was) = so (hears_of p s r y) (asks_open p s y) (and_is (is_info_or_source (current_shapes p s) y && not (has p s r y)) (heard_asks r.knows.heard y) lacks was) f
            by lacks (inr now) = now

    clean : is_clean p s r ≡ true → is_clean p s t ≡ true
    clean f =
        let parts = both (is_in r s.current.id) (list_all (λ y. not (hears_of p s r y) || asks_open p s y) (in_window p s)) f in
        and_is (is_in r s.current.id) (list_all (λ y. not (hears_of p s t y) || asks_open p s y) (in_window p s)) parts.0
        (all_more (λ y. not (hears_of p s r y) || asks_open p s y) (λ y. not (hears_of p s t y) || asks_open p s y) (in_window p s) one parts.1)

-- outside of the current instance it is not clean, whatever it heard
pub outside_clean : (p : Settings) (late : ℕ) (s : SenderState) (r : ReceiverState) (heard : Heard) → is_in r s.current.id ≡ false
    → is_clean_from late p s r ≡ true → is_clean_from late p s (record r { knows = record (r.knows) { heard = heard } }) ≡ true
outside_clean p late s r heard out e =
    backoff_on late (is_clean p s r) (is_clean p s (record r { knows = record (r.knows) { heard = heard } })) r.knows.backoff
    (λ f. absurd (clash (sym out ∙ (both (is_in r s.current.id) (list_all (λ y. not (hears_of p s r y) || asks_open p s y) (in_window p s)) f).0))) e

-- ---- a closing

-- what every member has, a member has
pub member_has : (p : Settings) (w : World) (y : Want) → all_have p w y ≡ true → (node : ℕ) (r : ReceiverState) → receiver_at w node ≡ Some r
    → has_member node w.sender ≡ true → has p w.sender r y ≡ true
member_has p w y e node r found member =
    own (has_member r.node w.sender) (has p w.sender r y) (ap (λ (n : ℕ). has_member n w.sender) (world_laws.found w node r found) ∙ member)
    (found_holds (λ (x : ReceiverState). (not (has_member x.node w.sender) || has p w.sender x y) ≡ true) (λ (x : ReceiverState). x.node == node) w.receivers r
    (all_true w.receivers e) found)
  where
    test : ReceiverState → Bool
    test x = not (has_member x.node w.sender) || has p w.sender x y

    all_true : (rs : List ReceiverState) → list_all test rs ≡ true → AllByRecursion (λ (x : ReceiverState). test x ≡ true) rs
    all_true [] f = tt
    all_true (x ∷ rs) f = let parts = both (test x) (list_all test rs) f in (parts.0, all_true rs parts.1)

    own : (a b : Bool) → a ≡ true → (not a || b) ≡ true → b ≡ true
    own true b is f = f
    own false b is f = absurd (clash is)

-- If every member has everything that is wanted, a closing that leaves no less asks for nothing that a member lacks.
pub closing_clean : (p : Settings) → InRange p → (events : List Event) → Lawful p events → AreEvents events → (round : Round) → (run p events).sender.round ≡ Some round
    → have_wanted p (run p events) ≡ true → left p (with_closed p round (run p events)) ≡ left p (run p events) → (node : ℕ) (r : ReceiverState)
    → receiver_at (run p events) node ≡ Some r → has_member node (run p events).sender ≡ true → (late : ℕ)
    → is_clean_from late p (run p events).sender r ≡ true → is_clean_from late p (round_closed p round (run p events).sender) r ≡ true
closing_clean p range events lawful are round is_open have same node r found member late e =
    backoff_on late (is_clean p s r) (is_clean p (round_closed p round s) r) r.knows.backoff clean e
  where
    s : SenderState
    s = (run p events).sender

    asked_had : (y : Want) → In y (in_window p s) → asks p s round y ≡ true → all_have p (run p events) y ≡ true
    asked_had y there asked = go (all_have p (run p events) y) refl
      where
        go : (b : Bool) → all_have p (run p events) y ≡ b → b ≡ true
        go true is = refl
        go false is =
            let less = (closings_help.helps p range events lawful are have round y (contained y (in_window p s) there) is asked).less in
            absurd (omega (arith, less, same))

    none : (y : Want) → In y (in_window p s) → hears_of p s r y ≡ true → asks_open p s y ≡ true → false ≡ true
    none y there hears asked =
        let in_round : asks p s round y ≡ true = sym (ap (λ (found : Option Round). elim found as (λ _. Bool) [ Some x ↦ asks p s x y | None ↦ false ]) is_open) ∙ asked in
        let parts = both (is_info_or_source (current_shapes p s) y && not (has p s r y)) (heard_asks r.knows.heard y) hears in
        let own = both (is_info_or_source (current_shapes p s) y) (not (has p s r y)) parts.0 in
        sym (ap not (member_has p (run p events) y (asked_had y there in_round) node r found member)) ∙ own.1

    clean : is_clean p s r ≡ true → is_clean p (round_closed p round s) r ≡ true
    clean f = asked_on p s (asks_open p s) (λ y. false) r none f

-- a tick that closes no round, or one in vain
pub tick_clean : (p : Settings) → InRange p → (events : List Event) → Lawful p events → AreEvents events → (now : ℕ) → ClosesInVain p now (run p events)
    → (node : ℕ) (r : ReceiverState) → receiver_at (run p events) node ≡ Some r → has_member node (run p events).sender ≡ true → (late : ℕ)
    → is_clean_from late p (run p events).sender r ≡ true → is_clean_from late p (ticked p (run p events).sender now).0 r ≡ true
tick_clean p range events lawful are now vain node r found member late e =
    sender_clean p late (closed_where_due p now s) (ticked p s now).0 r (tick_on p s now) (go vain)
  where
    s : SenderState
    s = (run p events).sender

    C : SenderState → Type 0
    C t = is_clean_from late p t r ≡ true

    L : SenderState → Type 0
    L t = left p (record (run p events) { sender = t }) ≡ left p (run p events)

    closes : have_wanted p (run p events) ≡ true → (open_round : Option Round) → s.round ≡ open_round
        → L (elim open_round [ Some x ↦ elim (nat_le x.closes now) [ true ↦ round_closed p x s | false ↦ s ] | None ↦ s ])
        → C (elim open_round [ Some x ↦ elim (nat_le x.closes now) [ true ↦ round_closed p x s | false ↦ s ] | None ↦ s ])
    closes have None is same = e
    closes have (Some x) is same = by (nat_le x.closes now) same
      where
        by : (b : Bool) → L (elim b [ true ↦ round_closed p x s | false ↦ s ]) → C (elim b [ true ↦ round_closed p x s | false ↦ s ])
        by true f = closing_clean p range events lawful are x is have f node r found member late e
        by false f = e

    go : ClosesInVain p now (run p events) → C (closed_where_due p now s)
    go (inl none) = subst C (sym none) e
    go (inr both) = closes both.0 s.round refl both.1
