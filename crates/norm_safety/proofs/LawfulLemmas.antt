-- The test of lawful runs says what it tests.
use Rattle.std.proofs.Common.{◌≡◌, ℕ, zero, suc, ◌<◌, List, [], ◌∷◌, length, Bool, true, false, not, Option, None, Some, refl, sym, ap, subst, ◌∙◌, arith}
use Rattle.std.specs.Prelude.{◌==◌, ◌&&◌, ◌||◌, Contains}
use Rattle.std.specs.Bool.{Decides}
use Rattle.std.specs.List.{list_any}
use Rattle.std.proofs.lemmas.Bool.Decides.{Decides-eqb, Decides-not}
use Rattle.norm_base.specs.Settings.{Settings}
use Rattle.norm_base.specs.declared.node.Origin.{Origin}
use Rattle.norm_ext.specs.Written.{Written}
use Rattle.norm_order.specs.declared.up.Up.{Up}
use Rattle.norm_receive_rules.specs.ReceiverState.{ReceiverState}
use Rattle.norm_safety.specs.Events.{Event, Commanded, Delivered, Ticked, Offered, UpTaken, NewsAsked}
use Rattle.norm_safety.specs.Lawful.{comes_in_time, accepted_with, AllTaken, LawfulDelivery, WasGiven, MayCome, LawfulFrom, Lawful, same_origin, all_taken, is_lawful_delivery, may_come, is_lawful_from, is_lawful}
use Rattle.norm_safety.specs.World.{World, world_opening, receiver_at, same_octets, is_of}
use Rattle.norm_safety.specs.WorldStep.{world_step}
use Rattle.norm_safety.proofs.FrontLemmas.{both, of_both, same_list, list_itself}

clash : false ≡ true → ⊥
clash e = cc

-- An element that passes a test.

any_has : {X : Type 0} (test : X → Bool) (xs : List X) → list_any test xs ≡ true → (x : X) × (test x ≡ true) × Contains xs x
any_has test [] e = absurd (clash e)
any_has {X} test (x ∷ xs) e = go (test x) refl e (λ f. any_has test xs f)
  where
    go : (b : Bool) → test x ≡ b → (b || list_any test xs) ≡ true
        → (list_any test xs ≡ true → (y : X) × (test y ≡ true) × Contains xs y) → (y : X) × (test y ≡ true) × Contains (x ∷ xs) y
    go true is f later = (x, is, (0, (let h : 0 < suc (length xs) = omega arith in h), refl))
    go false is f later = let more = later f in (more.0, more.1, (suc more.2.0, (let lt = more.2.1 in let h : suc more.2.0 < suc (length xs) = omega arith in h), more.2.2))

has_any : {X : Type 0} (test : X → Bool) (x : X) (xs : List X) → Contains xs x → test x ≡ true → list_any test xs ≡ true
has_any test x [] (k, lt, e) is = absurd (none k lt)
  where
    none : (n : ℕ) → n < 0 → ⊥
    none n h = omega arith
has_any test x (y ∷ xs) (zero, lt, e) is = ap (λ b. b || list_any test xs) (ap test e ∙ is)
has_any test x (y ∷ xs) (suc k, lt, e) is = go (test y) (has_any test x xs (k, (let h : k < length xs = omega arith in h), e) is)
  where
    go : (b : Bool) → list_any test xs ≡ true → (b || list_any test xs) ≡ true
    go true more = refl
    go false more = more

-- Origins and datagrams.

origins_same : (a b : Origin) → same_origin a b ≡ true → a ≡ b
origins_same a b e =
    let two = both (a.producer == b.producer) (a.number == b.number) e in
    ap (λ producer. origin producer a.number) ((Decides-eqb a.producer b.producer).0 two.0)
    ∙ ap (λ number. origin b.producer number) ((Decides-eqb a.number b.number).0 two.1)
  where
    origin : ℕ → ℕ → Origin
    origin producer number = record { producer = producer; number = number }

origin_itself : (a : Origin) → same_origin a a ≡ true
origin_itself a = of_both (a.producer == a.producer) (a.number == a.number) ((Decides-eqb a.producer a.producer).1 refl) ((Decides-eqb a.number a.number).1 refl)

accepted_decides : (by : Origin) (accepted : List Origin) → Decides (list_any (same_origin by) accepted) (Contains accepted by)
accepted_decides by accepted = (
  λ e. let found = any_has (same_origin by) accepted e in subst (Contains accepted) (sym (origins_same by found.0 found.1)) found.2,
  λ has. has_any (same_origin by) by accepted has (origin_itself by),
)

not_same : (a b : ℕ) → not (a == b) ≡ true → a ≡ b → ⊥
not_same a b e is = (Decides-not _ (Decides-eqb a b)).0 e is

offered_decides : (p : Settings) (w : World) (node : ℕ) (octets : List ℕ) → Decides (is_lawful_delivery p w node octets) (LawfulDelivery p w node octets)
offered_decides p w node octets = (
  λ e.
      let found = any_has test w.offered e in
      let all = both (not (found.0.0 == node) && same_octets found.0.1.octets octets) (comes_in_time p w node found.0.1) found.1 in
      let two = both (not (found.0.0 == node)) (same_octets found.0.1.octets octets) all.0 in
      record {
        from = found.0.0;
        datagram = found.0.1;
        other = not_same found.0.0 node two.0;
        offered = found.2;
        same = same_list found.0.1.octets octets two.1;
        near = all.1;
      },
  λ was. has_any test (was.from, was.datagram) w.offered was.offered
      (of_both (not (was.from == node) && same_octets was.datagram.octets octets) (comes_in_time p w node was.datagram)
      (of_both (not (was.from == node)) (same_octets was.datagram.octets octets) ((Decides-not _ (Decides-eqb was.from node)).1 was.other)
      (ap (same_octets was.datagram.octets) (sym was.same) ∙ list_itself was.datagram.octets)) was.near),
)
  where
    test : ℕ × Written → Bool
    test o = not (o.0 == node) && same_octets o.1.octets octets && comes_in_time p w node o.1

given_decides : (w : World) (node : ℕ) (octets : List ℕ) → Decides (list_any (is_of node octets) w.given) (WasGiven w node octets)
given_decides w node octets = (
  λ e.
      let found = any_has (is_of node octets) w.given e in
      let two = both (found.0.0 == node) (same_octets found.0.1.octets octets) found.1 in (
        found.0.1,
        subst (λ (g : ℕ × Written). Contains w.given g) (ap (λ n. gift n found.0.1) ((Decides-eqb found.0.0 node).0 two.0)) found.2,
        same_list found.0.1.octets octets two.1,
      ),
  λ has. has_any (is_of node octets) (node, has.0) w.given has.1
      (of_both (node == node) (same_octets has.0.octets octets) ((Decides-eqb node node).1 refl)
      (ap (same_octets has.0.octets) (sym has.2) ∙ list_itself has.0.octets)),
)
  where
    gift : ℕ → Written → ℕ × Written
    gift n datagram = (n, datagram)

taken_decides : (found : Option ReceiverState) → Decides (all_taken found) (AllTaken found)
taken_decides None = (λ e. tt, λ h. refl)
taken_decides (Some r) = go r.holding.ups
  where
    never : (up : Up) (ups : List Up) → up ∷ ups ≡ [] → ⊥
    never up ups e = cc

    go : (ups : List Up) → Decides (elim ups [ [] ↦ true | up ∷ more ↦ false ]) (ups ≡ [])
    go [] = (λ e. refl, λ e. refl)
    go (up ∷ more) = (λ e. absurd (clash e), λ e. absurd (never up more e))

may_come_decides : (p : Settings) (w : World) (accepted : List Origin) (e : Event) → Decides (may_come p w accepted e) (MayCome p w accepted e)
may_come_decides p w accepted (Commanded by job now) = Decides-not _ (accepted_decides by accepted)
may_come_decides p w accepted (Delivered node datagram now draw) = offered_decides p w node datagram
may_come_decides p w accepted (Ticked node now) = taken_decides (receiver_at w node)
may_come_decides p w accepted (Offered node datagram) = given_decides w node datagram
may_come_decides p w accepted (UpTaken node) = (λ e. tt, λ h. refl)
may_come_decides p w accepted NewsAsked = (λ e. tt, λ h. refl)

lawful_from : (p : Settings) (w : World) (accepted : List Origin) (events : List Event)
    → Decides (is_lawful_from p w accepted events) (LawfulFrom p w accepted events)
unfolding is_lawful_from
lawful_from p w accepted [] = (λ e. tt, λ h. refl)
lawful_from p w accepted (e ∷ events) =
    go (may_come p w accepted e) refl (may_come_decides p w accepted e)
    (lawful_from p (world_step p w e).0 (accepted_with accepted e (world_step p w e).1) events)
  where
    rest : Bool
    rest = is_lawful_from p (world_step p w e).0 (accepted_with accepted e (world_step p w e).1) events

    Rest : Type 0
    Rest = LawfulFrom p (world_step p w e).0 (accepted_with accepted e (world_step p w e).1) events

    go : (b : Bool) → may_come p w accepted e ≡ b → Decides (may_come p w accepted e) (MayCome p w accepted e) → Decides rest Rest
        → Decides (elim b [ true ↦ rest | false ↦ false ]) (MayCome p w accepted e × Rest)
    go true is d c = (λ f. (d.0 is, c.0 f), λ both. c.1 both.1)
    go false is d c = (λ f. absurd (clash f), λ both. absurd (clash (sym is ∙ d.1 both.0)))

pub lawful_decides : (p : Settings) (events : List Event) → Decides (is_lawful p events) (Lawful p events)
lawful_decides p events = lawful_from p (world_opening p) [] events
