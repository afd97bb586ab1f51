-- A relay as it begins.
use Rattle.std.proofs.Common.{◌≡◌, ℕ, zero, suc, ◌+◌, ◌-◌, ◌<◌, ◌≤◌, ◌⊎◌, inl, inr, List, [], ◌∷◌, ◌++◌, map, Bool, true, false, Option, None, Some, refl, sym, ap, ◌∙◌, subst, arith, cond}
use Rattle.std.specs.Prelude.{◌==◌, ◌&&◌, ◌||◌, not, nat_lt, nat_le, find}
use Rattle.std.specs.List.{list_any}
use Rattle.std.specs.Option.{option_or}
use Rattle.std.proofs.lemmas.Bool.{cases_lt}
use Rattle.std.proofs.lemmas.Bool.Decides.{Decides-eqb, Decides-ltb, leb_tells}
use Rattle.std.proofs.lemmas.List.{map-append}
use Rattle.std.proofs.lemmas.List.Folds.{find-append}
use Rattle.norm_base.specs.Members.{is_node, is_receiver, receivers_of}
use Rattle.norm_base.specs.Settings.{Settings}
use Rattle.norm_receive_rules.specs.ReceiverState.{ReceiverState, receiver_opening}
use Rattle.norm_receiver.specs.ReceiverKept.{ReceiverKept}
use Rattle.norm_receiver.specs.ReceiverSound.{StandsFor as ReceiverStands}
use Rattle.norm_safety.specs.World.{receiver_at, world_opening}
use Rattle.norm_send_rules.specs.SenderState.{sender_opening}
use Rattle.norm_sender.specs.SenderKept.{SenderKept, Stands}
use Rattle.norm_relay.specs.Holding.{nothing_held}
use Rattle.norm_relay.specs.RelayKept.{StandsFor, IsReceiver}
use Rattle.norm_relay.specs.RelayState.{relay_opening, can_relay, same_sizes, is_hold, share_nobody}
use Rattle.norm_relay.specs.declared.ticking.Held.{Held}
use Rattle.norm_relay.proofs.CallLemmas.{kept}
use Rattle.norm_relay.proofs.LowerLemmas.{lower_of}

-- ---- the rules' receivers of a profile as they begin

abbrev openings : Settings → ℕ → List ReceiverState
openings p n = map receiver_opening (receivers_of p n)

abbrev at_node : ℕ → List ReceiverState → Option ReceiverState
at_node node rs = find (λ (r : ReceiverState). r.node == node) rs

abbrev id_of : Settings → ℕ → ℕ
id_of p place = p.sender + 1 + place

not_same : (a b : ℕ) → (a ≡ b → ⊥) → (a == b) ≡ false
not_same a b h = go (a == b) refl
  where
    go : (t : Bool) → (a == b) ≡ t → t ≡ false
    go true e = absurd (h ((Decides-eqb a b).0 e))
    go false e = refl

last_or : (p : Settings) (n node : ℕ) → at_node node (openings p (suc n))
    ≡ option_or (at_node node (openings p n)) (cond (id_of p n == node) (Some (receiver_opening (id_of p n))) None)
last_or p n node =
    ap (at_node node) (map-append receiver_opening (receivers_of p n) (id_of p n ∷ []))
    ∙ find-append (λ (r : ReceiverState). r.node == node) (openings p n) (receiver_opening (id_of p n) ∷ [])

no_opening : (p : Settings) (n place : ℕ) → n ≤ place → at_node (id_of p place) (openings p n) ≡ None
no_opening p zero place le = refl
no_opening p (suc n) place le =
    last_or p n (id_of p place)
    ∙ ap (λ found. option_or found (cond (id_of p n == id_of p place) (Some (receiver_opening (id_of p n))) None)) (no_opening p n place (omega (arith, le)))
    ∙ ap (λ b. cond b (Some (receiver_opening (id_of p n))) None) (not_same (id_of p n) (id_of p place) (λ same. omega (arith, le, same)))

opening_at : (p : Settings) (n place : ℕ) → place < n → at_node (id_of p place) (openings p n) ≡ Some (receiver_opening (id_of p place))
opening_at p zero place lt = absurd (omega (arith, lt))
opening_at p (suc n) place lt = last_or p n (id_of p place) ∙ go (cases_lt place n) (opening_at p n place)
  where
    own : Option ReceiverState
    own = cond (id_of p n == id_of p place) (Some (receiver_opening (id_of p n))) None

    go : (place < n) ⊎ (n ≤ place) → (place < n → at_node (id_of p place) (openings p n) ≡ Some (receiver_opening (id_of p place)))
        → option_or (at_node (id_of p place) (openings p n)) (cond (id_of p n == id_of p place) (Some (receiver_opening (id_of p n))) None)
        ≡ Some (receiver_opening (id_of p place))
    go (inl less) front = ap (λ found. option_or found own) (front less)
    go (inr more) front =
        let is : n ≡ place = omega (arith, lt, more) in
        ap (λ found. option_or found own) (no_opening p n place more)
        ∙ ap (λ i. cond (id_of p i == id_of p place) (Some (receiver_opening (id_of p i))) None) is
        ∙ ap (λ b. cond b (Some (receiver_opening (id_of p place))) None) ((Decides-eqb (id_of p place) (id_of p place)).1 refl)

both_of : (a b : Bool) → (a && b) ≡ true → (a ≡ true) × (b ≡ true)
both_of true b e = (refl, e)
both_of false b e = absurd (cc)

within : (a b : ℕ) → nat_le a b ≡ true → a ≤ b
within a b e = go (leb_tells a b)
  where
    go : ((nat_le a b ≡ true) × (a ≤ b)) ⊎ ((nat_le a b ≡ false) × (b < a)) → a ≤ b
    go (inl h) = h.1
    go (inr h) = absurd (no (sym e ∙ h.0))
      where
        no : true ≡ false → ⊥
        no e = cc

-- a receiver of a profile as it begins
pub begins_at : (p : Settings) (node : ℕ) → is_receiver p node ≡ true → receiver_at (world_opening p) node ≡ Some (receiver_opening node)
begins_at p node e =
    let both = both_of (nat_lt p.sender node) (nat_le node (p.sender + p.receivers)) e in
    let low : p.sender < node = (Decides-ltb p.sender node).0 both.0 in
    let high : node ≤ p.sender + p.receivers = within node (p.sender + p.receivers) both.1 in
    let place : ℕ = node - (p.sender + 1) in
    let same : id_of p place ≡ node = omega (arith, low) in
    let lt : place < p.receivers = omega (arith, low, high) in
    subst (λ n. receiver_at (world_opening p) n ≡ Some (receiver_opening n)) same (opening_at p p.receivers place lt)

pub relay_begins : (up down : Settings) (node : ℕ) (receiver : ReceiverKept) (sender : SenderKept) (held : Held) → is_receiver up node ≡ true
    → receiver.p ≡ up → ReceiverStands receiver (receiver_opening node) → sender.p ≡ down → Stands sender (sender_opening down down.instance)
    → held ≡ nothing_held
    → StandsFor (kept receiver (lower_of sender false 0) [] held) (relay_opening up node down)
relay_begins up down node receiver sender held member profile stands under below nothing = record {
  agrees = record {
    upper = record {
      profile = profile;
      member = member;
      receiver = subst (IsReceiver receiver) (sym (begins_at up node member)) (stands, refl);
    };
    lower = record { profile = under; sender = below; opened = refl; jobs = refl };
    held = nothing;
  };
  waiting = refl;
}

-- ---- ids

any_more : (test : ℕ → Bool) (xs : List ℕ) (x : ℕ) → list_any test xs ≡ false → test x ≡ false → list_any test (xs ++ x ∷ []) ≡ false
any_more test [] x none isnt = go (test x) isnt
  where
    go : (b : Bool) → b ≡ false → (b || false) ≡ false
    go true e = absurd (cc)
    go false e = refl
any_more test (y ∷ xs) x none isnt = go (test y) none (any_more test xs x)
  where
    go : (b : Bool) → (b || list_any test xs) ≡ false → (list_any test xs ≡ false → test x ≡ false → list_any test (xs ++ x ∷ []) ≡ false)
        → (b || list_any test (xs ++ x ∷ [])) ≡ false
    go true e more = absurd (cc)
    go false e more = more e isnt

-- one receiver more is no node of the other session
pub none_more : (up down : Settings) (i id : ℕ) → list_any (is_node down) (receivers_of up i) ≡ false → id ≡ up.sender + 1 + i → is_node down id ≡ false
    → list_any (is_node down) (receivers_of up (i + 1)) ≡ false
none_more up down i id none is isnt =
    let more : i + 1 ≡ suc i = omega arith in
    ap (λ n. list_any (is_node down) (receivers_of up n)) more
    ∙ any_more (is_node down) (receivers_of up i) (up.sender + 1 + i) none (ap (is_node down) (sym is) ∙ isnt)

either : (b : Bool) → (b || true) ≡ true
either true = refl
either false = refl

any_front : (test : ℕ → Bool) (xs : List ℕ) (x : ℕ) → list_any test xs ≡ true → list_any test (xs ++ x ∷ []) ≡ true
any_front test [] x e = absurd (cc)
any_front test (y ∷ xs) x e = go (test y) e (any_front test xs x)
  where
    go : (b : Bool) → (b || list_any test xs) ≡ true → (list_any test xs ≡ true → list_any test (xs ++ x ∷ []) ≡ true)
        → (b || list_any test (xs ++ x ∷ [])) ≡ true
    go true e more = refl
    go false e more = more e

any_end : (test : ℕ → Bool) (xs : List ℕ) (x : ℕ) → test x ≡ true → list_any test (xs ++ x ∷ []) ≡ true
any_end test [] x e = ap (λ b. b || false) e
any_end test (y ∷ xs) x e = ap (λ b. test y || b) (any_end test xs x e) ∙ either (test y)

any_at : (test : ℕ → Bool) (p : Settings) (n i : ℕ) → i < n → test (p.sender + 1 + i) ≡ true → list_any test (receivers_of p n) ≡ true
any_at test p zero i lt e = absurd (omega (arith, lt))
any_at test p (suc n) i lt e = go (cases_lt i n) (λ less. any_at test p n i less e)
  where
    go : (i < n) ⊎ (n ≤ i) → (i < n → list_any test (receivers_of p n) ≡ true) → list_any test (receivers_of p (suc n)) ≡ true
    go (inl less) front = any_front test (receivers_of p n) (p.sender + 1 + n) (front less)
    go (inr more) front =
        let is : n ≡ i = omega (arith, lt, more) in
        any_end test (receivers_of p n) (p.sender + 1 + n) (ap (λ k. test (p.sender + 1 + k)) is ∙ e)

-- whether two sessions share nobody
pub shares_first : (up down : Settings) → is_node down up.sender ≡ true → false ≡ share_nobody up down
shares_first up down e = sym (ap (λ b. not (b || list_any (is_node down) (receivers_of up up.receivers))) e)

pub shares_one : (up down : Settings) (i id : ℕ) → i < up.receivers → id ≡ up.sender + 1 + i → is_node down id ≡ true → false ≡ share_nobody up down
shares_one up down i id lt is e =
    sym (ap (λ b. not (is_node down up.sender || b)) (any_at (is_node down) up up.receivers i lt (ap (is_node down) (sym is) ∙ e)) ∙ ap not (either (is_node down up.sender)))

pub shares_none : (up down : Settings) (i : ℕ) → is_node down up.sender ≡ false → list_any (is_node down) (receivers_of up i) ≡ false → i ≡ up.receivers
    → true ≡ share_nobody up down
shares_none up down i first rest all =
    sym (ap (λ b. not (b || list_any (is_node down) (receivers_of up up.receivers))) first
    ∙ ap (λ b. not (false || b)) (ap (λ n. list_any (is_node down) (receivers_of up n)) (sym all) ∙ rest))

-- the node of a relay is a receiver above
pub relays_member : (up : Settings) (node : ℕ) (down : Settings) → can_relay up node down ≡ true → is_receiver up node ≡ true
relays_member up node down e =
    let front = both_of (same_sizes up down && is_hold down.mode && is_receiver up node) (share_nobody up down) e in
    (both_of (same_sizes up down && is_hold down.mode) (is_receiver up node) front.0).1
