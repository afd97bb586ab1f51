-- What each event of a tail keeps, the whole tail keeps.
use Rattle.std.proofs.Common.{◌≡◌, ℕ, zero, suc, ◌+◌, ◌<◌, cond, List, [], ◌∷◌, ◌++◌, length, map, filter, Bool, true, false, not, Option, None, Some, refl, sym, ap, ◌∙◌, subst, arith}
use Rattle.std.specs.Prelude.{Contains, find, fold, ◌==◌, ◌≢◌, ◌&&◌}
use Rattle.std.specs.Fn.{iterate}
use Rattle.std.specs.List.{AllByRecursion}
use Rattle.std.specs.Option.{option_map, option_map_or}
use Rattle.std.proofs.lemmas.Bool.Decides.{Decides-eqb}
use Rattle.std.proofs.lemmas.List.Elements.{Contains-push}
use Rattle.norm_base.specs.Members.{receivers_of, members_of}
use Rattle.norm_base.specs.Settings.{Settings}
use Rattle.norm_ext.specs.Written.{Written}
use Rattle.norm_order.specs.declared.up.Up.{Up}
use Rattle.norm_receive_rules.specs.Holding.{Holding}
use Rattle.norm_receive_rules.specs.ReceiverState.{ReceiverState}
use Rattle.norm_receive_rules.specs.ReceiverStep as receiver
use Rattle.norm_receive_rules.specs.Taking.{took}
use Rattle.norm_safety.specs.Events.{Event, Delivered, Ticked, Offered, UpTaken, NewsAsked}
use Rattle.norm_safety.specs.InTime.{WasOffered}
use Rattle.norm_safety.specs.Lawful.{AllTaken, WasGiven}
use Rattle.norm_safety.specs.Tail.{Course, comes, untold, tells, untaken, takes, copy_comes, others_than, given_by, passes_on, sender_ticks, receiver_ticks, serves, goes_round, tail_turn, tail_turns, is_open_mark, cut_turn, Tail, turn_more, tail_until}
use Rattle.norm_safety.specs.World.{World, receiver_at, same_octets, is_of, offers}
use Rattle.norm_safety.specs.WorldLaws.{nodes_of}
use Rattle.norm_safety.specs.WorldStep.{world_step}
use Rattle.norm_safety.proofs.EntryLemmas.{clash}
use Rattle.norm_safety.proofs.FrontLemmas.{of_both, list_itself}
use Rattle.norm_safety.proofs.WorldLemmas.{world_laws}
use Rattle.norm_recovery.specs.TailOf.{ComesInTail}

none_some : {X : Type 0} (x : X) → None ≡ Some x → ⊥
none_some x e = cc

same_some : {X : Type 0} (x y : X) → Some x ≡ Some y → x ≡ y
same_some x y e = cc

-- ---- hand-ups are taken

-- how many hand-ups a receiver has left
abbrev ups_left : Option ReceiverState → ℕ
ups_left found = option_map_or (λ (r : ReceiverState). length r.holding.ups) found 0

-- the hand-ups that a take leaves
abbrev ups_of : Holding × Option Up → List Up
ups_of step = step.0.ups

-- a take leaves one fewer
take_one : (r : ReceiverState) (n : ℕ) → length r.holding.ups ≡ suc n → length (took r).0.holding.ups ≡ n
take_one r n long = go r.holding.ups long
  where
    go : (ups : List Up) → length ups ≡ suc n
        → length (ups_of (elim ups [ up ∷ more ↦ (record (r.holding) { ups = more }, Some up) | [] ↦ (r.holding, None) ])) ≡ n
    go [] e = absurd (omega arith)
    go (up ∷ more) e = omega arith

none_left : (found : Option ReceiverState) → ups_left found ≡ 0 → AllTaken found
none_left None e = tt
none_left (Some r) e = go r.holding.ups e
  where
    go : (ups : List Up) → length ups ≡ 0 → ups ≡ []
    go [] e = refl
    go (up ∷ more) e = absurd (omega arith)

-- after as many takes as hand-ups are left, none is
pub all_are_taken : (p : Settings) (node n : ℕ) (c : Course) → untaken c.world node ≡ n → AllTaken (receiver_at (iterate (comes p (UpTaken node)) n c).world node)
all_are_taken p node zero c e = none_left (receiver_at c.world node) e
all_are_taken p node (suc n) c e = all_are_taken p node n (comes p (UpTaken node) c) (go (receiver_at c.world node) refl e)
  where
    go : (found : Option ReceiverState) → receiver_at c.world node ≡ found → ups_left found ≡ suc n → untaken (comes p (UpTaken node) c).world node ≡ n
    go None at e = absurd (omega arith)
    go (Some r) at e = ap ups_left (world_laws.moves p c.world (UpTaken node) node receiver.UpTaken r refl refl at) ∙ take_one r n e

-- ---- no receiver is the sender

not_sender : (p : Settings) (n : ℕ) → find (λ (node : ℕ). node == p.sender) (receivers_of p n) ≡ None
not_sender p zero = refl
not_sender p (suc n) = behind (receivers_of p n) (not_sender p n)
  where
    last : (b : Bool) → ((p.sender + 1 + n) == p.sender) ≡ b → cond b (Some (p.sender + 1 + n)) None ≡ None
    last true e = (let same = (Decides-eqb (p.sender + 1 + n) p.sender).0 e in absurd (omega (arith, same)))
    last false e = refl

    behind : (nodes : List ℕ) → find (λ (node : ℕ). node == p.sender) nodes ≡ None
        → find (λ (node : ℕ). node == p.sender) (nodes ++ (p.sender + 1 + n) ∷ []) ≡ None
    behind [] e = last ((p.sender + 1 + n) == p.sender) refl
    behind (x ∷ nodes) e = go (x == p.sender) e (behind nodes)
      where
        go : (b : Bool) → cond b (Some x) (find (λ (node : ℕ). node == p.sender) nodes) ≡ None
            → (find (λ (node : ℕ). node == p.sender) nodes ≡ None → find (λ (node : ℕ). node == p.sender) (nodes ++ (p.sender + 1 + n) ∷ []) ≡ None)
            → cond b (Some x) (find (λ (node : ℕ). node == p.sender) (nodes ++ (p.sender + 1 + n) ∷ [])) ≡ None
        go true e more = absurd (none_some x (sym e))
        go false e more = more e

-- a node that is none of the receivers' has no receiver
pub no_receiver : (node : ℕ) (rs : List ReceiverState) → find (λ (n : ℕ). n == node) (map (λ (r : ReceiverState). r.node) rs) ≡ None
    → find (λ (r : ReceiverState). r.node == node) rs ≡ None
no_receiver node [] e = refl
no_receiver node (r ∷ rs) e = go (r.node == node) e (no_receiver node rs)
  where
    go : (b : Bool) → cond b (Some r.node) (find (λ (n : ℕ). n == node) (map (λ (x : ReceiverState). x.node) rs)) ≡ None
        → (find (λ (n : ℕ). n == node) (map (λ (x : ReceiverState). x.node) rs) ≡ None → find (λ (x : ReceiverState). x.node == node) rs ≡ None)
        → cond b (Some r) (find (λ (x : ReceiverState). x.node == node) rs) ≡ None
    go true e more = absurd (none_some r.node (sym e))
    go false e more = more e

pub sender_takes_none : (p : Settings) (w : World) → nodes_of w ≡ receivers_of p p.receivers → AllTaken (receiver_at w p.sender)
sender_takes_none p w nodes =
    let none : receiver_at w p.sender ≡ None =
    no_receiver p.sender w.receivers (ap (find (λ (n : ℕ). n == p.sender)) nodes ∙ not_sender p p.receivers) in
    subst AllTaken (sym none) tt

-- ---- what was given is offered

-- a datagram of a node stands among these
abbrev pub Gift : ℕ → List ℕ → List (ℕ × Written) → Type 0
Gift node octets gifts = (d : Written) × Contains gifts (node, d) × (d.octets ≡ octets)

-- a node offered a datagram of these octets
abbrev pub HasOffered : ℕ → List ℕ → World → Type 0
HasOffered node octets w = Gift node octets w.offered

first_here : {X : Type 0} (x : X) (xs : List X) → Contains (x ∷ xs) x
first_here x xs = (0, (let h : 0 < suc (length xs) = omega arith in h), refl)

later_here : {X : Type 0} (x y : X) (xs : List X) → Contains xs y → Contains (x ∷ xs) y
later_here x y xs (k, lt, e) = (suc k, (let h : suc k < suc (length xs) = omega arith in h), e)

-- a node's gift is named by its node
gift_of : (node : ℕ) (g : ℕ × Written) (gifts : List (ℕ × Written)) → g.0 ≡ node → Contains gifts g → Contains gifts (node, g.1)
gift_of node (n, d) gifts e has = subst (λ (m : ℕ). Contains gifts (m, d)) e has

-- what a node gave first is among what was given, and so is what an offer of its octets finds
given_is_found : (node : ℕ) (gifts : List (ℕ × Written)) (d : Written)
    → option_map (λ (g : ℕ × Written). g.1) (find (λ (g : ℕ × Written). g.0 == node) gifts) ≡ Some d
    → Gift node d.octets gifts × ((h : ℕ × Written) × (find (is_of node d.octets) gifts ≡ Some h) × (h.0 ≡ node) × (h.1 ≡ d))
given_is_found node [] d e = absurd (none_some d e)
given_is_found node (g ∷ gifts) d e = go (g.0 == node) refl e (given_is_found node gifts d)
  where
    FirstOf : List (ℕ × Written) → Type 0
    FirstOf xs = option_map (λ (x : ℕ × Written). x.1) (find (λ (x : ℕ × Written). x.0 == node) xs) ≡ Some d

    FoundIn : List (ℕ × Written) → Type 0
    FoundIn xs = Gift node d.octets xs × ((h : ℕ × Written) × (find (is_of node d.octets) xs ≡ Some h) × (h.0 ≡ node) × (h.1 ≡ d))

    finds : (b : Bool) → is_of node d.octets g ≡ b → find (is_of node d.octets) (g ∷ gifts) ≡ cond b (Some g) (find (is_of node d.octets) gifts)
    finds b is = ap (λ (c : Bool). cond c (Some g) (find (is_of node d.octets) gifts)) is

    go : (b : Bool) → (g.0 == node) ≡ b
        → option_map (λ (x : ℕ × Written). x.1) (cond b (Some g) (find (λ (x : ℕ × Written). x.0 == node) gifts)) ≡ Some d → (FirstOf gifts → FoundIn gifts)
        → FoundIn (g ∷ gifts)
    go true own e found =
        let is : g.1 ≡ d = same_some g.1 d e in
        let node_is : g.0 ≡ node = (Decides-eqb g.0 node).0 own in
        let octets_are : g.1.octets ≡ d.octets = ap (λ (x : Written). x.octets) is in
        let test : is_of node d.octets g ≡ true =
        of_both (g.0 == node) (same_octets g.1.octets d.octets) own (ap (same_octets g.1.octets) (sym octets_are) ∙ list_itself g.1.octets) in
        ((g.1, gift_of node g (g ∷ gifts) node_is (first_here g gifts), octets_are), (g, finds true test, node_is, is))
    go false other e found =
        let more = found e in
        let test : is_of node d.octets g ≡ false = ap (λ (b : Bool). b && same_octets g.1.octets d.octets) other in (
          (more.0.0, later_here g (node, more.0.0) gifts more.0.1, more.0.2),
          (more.1.0, finds false test ∙ more.1.1, more.1.2, more.1.3),
        )

-- an offer of what a node gave: it was given, and then it is offered
pub given_may_come : (w : World) (node : ℕ) (d : Written) → given_by w node ≡ Some d → WasGiven w node d.octets
given_may_come w node d e = (given_is_found node w.given d e).0

pub given_itself : (p : Settings) (w : World) (node : ℕ) (d : Written) → given_by w node ≡ Some d
    → Contains (world_step p w (Offered node d.octets)).0.offered (node, d)
given_itself p w node d e =
    let found = (given_is_found node w.given d e).1 in
    let O : Option (ℕ × Written) → Type 0 = λ o. Contains (offers o node w).offered (node, d) in
    let C : Written → Type 0 = λ x. Contains (w.offered ++ found.0 ∷ []) (node, x) in
    subst O (sym found.1) (subst C found.3 (gift_of node found.0 (w.offered ++ found.0 ∷ []) found.2 (Contains-push w.offered found.0)))

pub given_offered : (p : Settings) (w : World) (node : ℕ) (d : Written) → given_by w node ≡ Some d
    → HasOffered node d.octets (world_step p w (Offered node d.octets)).0
given_offered p w node d e = (d, given_itself p w node d e, refl)

-- what was offered may be delivered to another node
pub offered_may_come : (w : World) (from node : ℕ) (octets : List ℕ) → from ≢ node → HasOffered from octets w → WasOffered w node octets
offered_may_come w from node octets other has = record { from = from; datagram = has.0; other = other; offered = has.1; same = has.2 }

-- others are not the node
pub others_differ : (node : ℕ) (nodes : List ℕ) → AllByRecursion (λ (other : ℕ). node ≢ other) (filter (λ other. not (other == node)) nodes)
others_differ node [] = tt
others_differ node (x ∷ nodes) = go (x == node) refl (others_differ node nodes)
  where
    differs : (x == node) ≡ false → node ≡ x → ⊥
    differs e same = clash (sym e ∙ (Decides-eqb x node).1 (sym same))

    go : (b : Bool) → (x == node) ≡ b → AllByRecursion (λ (other : ℕ). node ≢ other) (filter (λ other. not (other == node)) nodes)
        → AllByRecursion (λ (other : ℕ). node ≢ other) (cond (not b) (x ∷ filter (λ other. not (other == node)) nodes) (filter (λ other. not (other == node)) nodes))
    go true e more = more
    go false e more = (differs e, more)

-- ---- a tail

-- what was offered stays so through news and a delivery
times_offered : (p : Settings) (n : ℕ) (c : Course) → (iterate (comes p NewsAsked) n c).world.offered ≡ c.world.offered
times_offered p zero c = refl
times_offered p (suc n) c = times_offered p n (comes p NewsAsked c) ∙ world_laws.offered p c.world NewsAsked refl

pub copy_offered : (p : Settings) (draws : ℕ → ℕ) (now : ℕ) (octets : List ℕ) (c : Course) (node : ℕ)
    → (copy_comes p draws now octets c node).world.offered ≡ c.world.offered
copy_offered p draws now octets c node = go (node == p.sender)
  where
    go : (b : Bool) → (elim b as (λ _. Course) [
      | true ↦ tells p (comes p (Delivered node octets now 0) c)
      | false ↦ comes p (Delivered node octets now (draws c.used)) (record c { used = c.used + 1 })
    ]).world.offered ≡ c.world.offered
    go true =
        let d : Course = comes p (Delivered node octets now 0) c in
        times_offered p (untold d.world.sender) d ∙ world_laws.offered p c.world (Delivered node octets now 0) refl
    go false = world_laws.offered p c.world (Delivered node octets now (draws c.used)) refl

-- What is kept by each event that comes as in a tail, and by a draw, where the nodes are those of the profile, is kept by a tail.
module _ (p : Settings) (draws : ℕ → ℕ) (Kept : Course → Type 0) (nodes : (c : Course) → Kept c → nodes_of c.world ≡ receivers_of p p.receivers)
    (each : (e : Event) (c : Course) → ComesInTail c.world e → Kept c → Kept (comes p e c))
    (drawn : (c : Course) (n : ℕ) → Kept c → Kept (record c { used = n })) where
  news_keep : (n : ℕ) (c : Course) → Kept c → Kept (iterate (comes p NewsAsked) n c)
  news_keep zero c h = h
  news_keep (suc n) c h = news_keep n (comes p NewsAsked c) (each NewsAsked c tt h)

  takes_keep : (node n : ℕ) (c : Course) → Kept c → Kept (iterate (comes p (UpTaken node)) n c)
  takes_keep node zero c h = h
  takes_keep node (suc n) c h = takes_keep node n (comes p (UpTaken node) c) (each (UpTaken node) c tt h)

  pub tells_keep : (c : Course) → Kept c → Kept (tells p c)
  tells_keep c h = news_keep (untold c.world.sender) c h

  copy_keeps : (now from : ℕ) (octets : List ℕ) (c : Course) (node : ℕ) → from ≢ node → HasOffered from octets c.world → Kept c
      → Kept (copy_comes p draws now octets c node)
  copy_keeps now from octets c node other has h = go (node == p.sender)
    where
      go : (b : Bool) → Kept (elim b as (λ _. Course) [
        | true ↦ tells p (comes p (Delivered node octets now 0) c)
        | false ↦ comes p (Delivered node octets now (draws c.used)) (record c { used = c.used + 1 })
      ])
      go true =
          tells_keep (comes p (Delivered node octets now 0) c)
          (each (Delivered node octets now 0) c (offered_may_come c.world from node octets other has) h)
      go false =
          each (Delivered node octets now (draws c.used)) (record c { used = c.used + 1 }) (offered_may_come c.world from node octets other has)
          (drawn c (c.used + 1) h)

  pub copies_keep : (now from : ℕ) (octets : List ℕ) (others : List ℕ) → AllByRecursion (λ (node : ℕ). from ≢ node) others → (c : Course)
      → HasOffered from octets c.world → Kept c → Kept (fold (copy_comes p draws now octets) c others)
  copies_keep now from octets [] differ c has h = h
  copies_keep now from octets (node ∷ others) differ c has h =
      let next : Course = copy_comes p draws now octets c node in
      copies_keep now from octets others differ.1 next
      (subst (Gift from octets) (sym (copy_offered p draws now octets c node)) has)
      (copy_keeps now from octets c node differ.0 has h)

  pub passes_keep : (now : ℕ) (c : Course) (node : ℕ) → Kept c → Kept (passes_on p draws now c node)
  passes_keep now c node h = go (given_by c.world node) refl
    where
      go : (given : Option Written) → given_by c.world node ≡ given → Kept (elim given as (λ _. Course) [
        | Some d ↦ fold (copy_comes p draws now d.octets) (comes p (Offered node d.octets) c) (others_than p node)
        | None ↦ c
      ])
      go None e = h
      go (Some d) e =
          copies_keep now node d.octets (others_than p node) (others_differ node (members_of p)) (comes p (Offered node d.octets) c)
          (given_offered p c.world node d e) (each (Offered node d.octets) c (given_may_come c.world node d e) h)

  pub receiver_ticks_keep : (now : ℕ) (c : Course) (node : ℕ) → Kept c → Kept (receiver_ticks p now c node)
  receiver_ticks_keep now c node h =
      each (Ticked node now) (takes p node c) (all_are_taken p node (untaken c.world node) c refl) (takes_keep node (untaken c.world node) c h)

  pub serves_keeps : (now : ℕ) (c : Course) (node : ℕ) → Kept c → Kept (serves p draws now c node)
  serves_keeps now c node h = passes_keep now (receiver_ticks p now c node) node (receiver_ticks_keep now c node h)

  pub all_served : (now : ℕ) (served : List ℕ) (c : Course) → Kept c → Kept (fold (serves p draws now) c served)
  all_served now [] c h = h
  all_served now (node ∷ served) c h = all_served now served (serves p draws now c node) (serves_keeps now c node h)

  pub round_keeps : (now : ℕ) (c : Course) → Kept c → Kept (goes_round p draws now c)
  round_keeps now c h = all_served now (receivers_of p p.receivers) (passes_on p draws now c p.sender) (passes_keep now c p.sender h)

  pub own_tick_keeps : (now : ℕ) (c : Course) → Kept c → Kept (sender_ticks p now c)
  own_tick_keeps now c h =
      tells_keep (comes p (Ticked p.sender now) c) (each (Ticked p.sender now) c (sender_takes_none p c.world (nodes c h)) h)

  pub turn_keeps : (now : ℕ) (c : Course) → Kept c → Kept (tail_turn p draws now c)
  turn_keeps now c h = round_keeps now (sender_ticks p now c) (own_tick_keeps now c h)

  pub cut_keeps : (mark now : ℕ) (c : Course) → Kept c → Kept (cut_turn p draws mark now c)
  cut_keeps mark now c h = go (is_open_mark (sender_ticks p now c).world mark)
    where
      go : (b : Bool) → Kept (elim b as (λ _. Course) [ true ↦ goes_round p draws now (sender_ticks p now c) | false ↦ sender_ticks p now c ])
      go true = turn_keeps now c h
      go false = own_tick_keeps now c h

  pub turns_keep : (n last : ℕ) (c : Course) → Kept c → Kept (tail_turns n p draws last c)
  unfolding tail_turns
  turns_keep zero last c h = h
  turns_keep (suc n) last c h = turns_keep n (last + p.step) (tail_turn p draws (last + p.step) c) (turn_keeps (last + p.step) c h)

  pub until_keeps : (n mark : ℕ) (t : Tail) → Kept t.course → Kept (tail_until n p draws mark t).course
  unfolding tail_until
  until_keeps zero mark t h = h
  until_keeps (suc n) mark t h = go (is_open_mark t.course.world mark) (until_keeps n mark (turn_more p draws mark t) (cut_keeps mark (t.last + p.step) t.course h))
    where
      go : (b : Bool) → Kept (tail_until n p draws mark (turn_more p draws mark t)).course
          → Kept (elim b as (λ _. Tail) [ true ↦ tail_until n p draws mark (turn_more p draws mark t) | false ↦ t ]).course
      go true more = more
      go false more = h
