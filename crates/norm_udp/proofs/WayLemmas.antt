-- The members that sockets lead to, and how many get what one offers.
use Rattle.std.proofs.Common.{◌≡◌, ℕ, zero, suc, ◌+◌, ◌-◌, ◌<◌, ◌≤◌, Bool, true, false, cond, List, [], ◌∷◌, ◌++◌, map, length, take, get_or, refl, sym, ap, ◌∙◌, arith}
use Rattle.std.specs.Prelude.{◌==◌, ◌&&◌, ◌||◌, not, nat_lt, nat_le}
use Rattle.std.proofs.lemmas.Bool.Decides.{nat_tests}
use Rattle.std.proofs.lemmas.List.{map-append, take_more}
use Rattle.std.proofs.lemmas.List.Sums.{sum_by-cons, sum_by_push}
use Rattle.norm_base.specs.Members.{receivers_of, members_of, is_node}
use Rattle.norm_base.specs.Settings.{Settings}
use Rattle.udp_rules.specs.Addresses.{gets_copy}
use Rattle.udp_rules.specs.Listening.{gets_own_copy, hears_broadcast, BroadcastLaws}
use Rattle.udp_rules.proofs.ListeningLemmas.{broadcast_laws}
use Rattle.norm_udp.specs.Ways.{nodes_of, copies, own_copies, hearing, WayLaws}
use Rattle.norm_udp.specs.declared.member.Member.{Member}

-- a socket more
pub nodes_more : (members : List Member) (m : Member) → nodes_of (members ++ m ∷ []) ≡ nodes_of members ++ m.located.node ∷ []
nodes_more members m = map-append (λ (n : Member). n.located.node) members (m ∷ [])

-- the sender, the receivers so far, and the next one
pub members_more : (p : Settings) (place : ℕ) (members : List Member) (m : Member) → nodes_of members ≡ p.sender ∷ receivers_of p place
    → m.located.node ≡ p.sender + 1 + place → nodes_of (members ++ m ∷ []) ≡ p.sender ∷ receivers_of p (place + 1)
members_more p place members m before is =
    nodes_more members m
    ∙ ap (λ (ns : List ℕ). ns ++ m.located.node ∷ []) before
    ∙ ap (λ (n : ℕ). p.sender ∷ (receivers_of p place ++ n ∷ [])) is
    ∙ ap (λ (k : ℕ). p.sender ∷ receivers_of p k) one_more
  where
    one_more : suc place ≡ place + 1
    one_more = omega arith

-- the receivers so far, and the next one
pub receivers_more : (p : Settings) (place : ℕ) (each : List Member) (m : Member) → nodes_of each ≡ receivers_of p place
    → m.located.node ≡ p.sender + 1 + place → nodes_of (each ++ m ∷ []) ≡ receivers_of p (place + 1)
receivers_more p place each m before is =
    nodes_more each m
    ∙ ap (λ (ns : List ℕ). ns ++ m.located.node ∷ []) before
    ∙ ap (λ (n : ℕ). receivers_of p place ++ n ∷ []) is
    ∙ ap (receivers_of p) one_more
  where
    one_more : suc place ≡ place + 1
    one_more = omega arith

-- the copies of the first so many members, and of the next one
copies_more : (p : Settings) (from : ℕ) (members : List Member) (i : ℕ) (m : Member) → i < length members → m ≡ get_or members i m
    → copies p from (nodes_of (take (i + 1) members)) ≡ copies p from (nodes_of (take i members)) + cond (gets_copy p from m.located.node) 1 0
copies_more p from members i m lt is =
    ap (λ (ms : List Member). copies p from (nodes_of ms)) (take_more members i m lt ∙ ap (λ (n : Member). take i members ++ n ∷ []) (sym is))
    ∙ ap (copies p from) (nodes_more (take i members) m)
    ∙ sum_by_push (λ to. cond (gets_copy p from to) 1 0) (nodes_of (take i members)) m.located.node

pub copies_yes : (p : Settings) (from : ℕ) (members : List Member) (i : ℕ) (m : Member) → i < length members → m ≡ get_or members i m
    → gets_copy p from m.located.node ≡ true → copies p from (nodes_of (take (i + 1) members)) ≡ copies p from (nodes_of (take i members)) + 1
copies_yes p from members i m lt is gets =
    copies_more p from members i m lt is ∙ ap (λ (b : Bool). copies p from (nodes_of (take i members)) + cond b 1 0) gets

pub copies_no : (p : Settings) (from : ℕ) (members : List Member) (i : ℕ) (m : Member) → i < length members → m ≡ get_or members i m
    → gets_copy p from m.located.node ≡ false → copies p from (nodes_of (take (i + 1) members)) ≡ copies p from (nodes_of (take i members))
copies_no p from members i m lt is gets =
    let more = copies_more p from members i m lt is ∙ ap (λ (b : Bool). copies p from (nodes_of (take i members)) + cond b 1 0) gets in omega (arith, more)

-- the same of those that get a copy of their own
own_more : (p : Settings) (ls : List Bool) (from : ℕ) (members : List Member) (i : ℕ) (m : Member) → i < length members → m ≡ get_or members i m
    → own_copies p ls from (nodes_of (take (i + 1) members))
    ≡ own_copies p ls from (nodes_of (take i members)) + cond (gets_own_copy p ls from m.located.node) 1 0
own_more p ls from members i m lt is =
    ap (λ (ms : List Member). own_copies p ls from (nodes_of ms)) (take_more members i m lt ∙ ap (λ (n : Member). take i members ++ n ∷ []) (sym is))
    ∙ ap (own_copies p ls from) (nodes_more (take i members) m)
    ∙ sum_by_push (λ to. cond (gets_own_copy p ls from to) 1 0) (nodes_of (take i members)) m.located.node

pub own_yes : (p : Settings) (ls : List Bool) (from : ℕ) (members : List Member) (i : ℕ) (m : Member) → i < length members → m ≡ get_or members i m
    → gets_own_copy p ls from m.located.node ≡ true
    → own_copies p ls from (nodes_of (take (i + 1) members)) ≡ own_copies p ls from (nodes_of (take i members)) + 1
own_yes p ls from members i m lt is gets =
    own_more p ls from members i m lt is ∙ ap (λ (b : Bool). own_copies p ls from (nodes_of (take i members)) + cond b 1 0) gets

pub own_no : (p : Settings) (ls : List Bool) (from : ℕ) (members : List Member) (i : ℕ) (m : Member) → i < length members → m ≡ get_or members i m
    → gets_own_copy p ls from m.located.node ≡ false
    → own_copies p ls from (nodes_of (take (i + 1) members)) ≡ own_copies p ls from (nodes_of (take i members))
own_no p ls from members i m lt is gets =
    let more = own_more p ls from members i m lt is ∙ ap (λ (b : Bool). own_copies p ls from (nodes_of (take i members)) + cond b 1 0) gets in omega (arith, more)

-- among members, every other one gets a copy
gets : (p : Settings) (from to : ℕ) → is_node p from ≡ true → is_node p to ≡ true → gets_copy p from to ≡ not (to == from)
gets p from to one other =
    ap (λ (b : Bool). b && is_node p to && not (to == from)) one ∙ ap (λ (b : Bool). b && not (to == from)) other

is_receiver_node : (p : Settings) (place : ℕ) → place < p.receivers → is_node p (p.sender + 1 + place) ≡ true
is_receiver_node p place lt = grind (arith, nat_tests)

-- how many of the first so many receivers offer: one or none
abbrev offering : ℕ → ℕ → ℕ → ℕ
offering sender from many = cond (nat_lt sender from && nat_le from (sender + many)) 1 0

first_copies : (sender from : ℕ) → 0 + offering sender from 0 ≡ 0
first_copies sender from = grind (arith, nat_tests)

next_copies : (sender from many sent : ℕ) → sent + offering sender from many ≡ many
    → sent + cond (not (sender + 1 + many == from)) 1 0 + offering sender from (suc many) ≡ suc many
next_copies sender from many sent is = grind (arith, nat_tests)

all_copies : (sender from many sent : ℕ) → (from == sender || (nat_lt sender from && nat_le from (sender + many))) ≡ true
    → sent + offering sender from many ≡ many → cond (not (sender == from)) 1 0 + sent ≡ many
all_copies sender from many sent is all = grind (arith, nat_tests)

receivers_copies : (p : Settings) (from : ℕ) → is_node p from ≡ true → (many : ℕ) → many ≤ p.receivers
    → copies p from (receivers_of p many) + offering p.sender from many ≡ many
receivers_copies p from is zero le = first_copies p.sender from
receivers_copies p from is (suc many) le =
    let one = gets p from (p.sender + 1 + many) is (is_receiver_node p many (omega arith)) in
    let more = sum_by_push (λ to. cond (gets_copy p from to) 1 0) (receivers_of p many) (p.sender + 1 + many)
    ∙ ap (λ (b : Bool). copies p from (receivers_of p many) + cond b 1 0) one in
    ap (λ (n : ℕ). n + offering p.sender from (suc many)) more
    ∙ next_copies p.sender from many (copies p from (receivers_of p many)) (receivers_copies p from is many (omega arith))

sender_node : (p : Settings) → is_node p p.sender ≡ true
sender_node p = grind (arith, nat_tests)

-- of all members all but the one that offers get a copy
all_others : (p : Settings) (from : ℕ) → is_node p from ≡ true → copies p from (p.sender ∷ receivers_of p p.receivers) ≡ p.receivers
all_others p from is =
    sum_by-cons (λ to. cond (gets_copy p from to) 1 0) p.sender (receivers_of p p.receivers)
    ∙ ap (λ (b : Bool). cond b 1 0 + copies p from (receivers_of p p.receivers)) (gets p from p.sender is (sender_node p))
    ∙ all_copies p.sender from p.receivers (copies p from (receivers_of p p.receivers)) is (receivers_copies p from is p.receivers (omega arith))

-- one of two, and not both
one_of_two : (own heard all : Bool) → (own || heard) ≡ all → (own && heard) ≡ false → cond own 1 0 + cond heard 1 0 ≡ cond all 1 0
one_of_two true true all is not_both = absurd (clash not_both)
  where
    clash : true ≡ false → ⊥
    clash e = cc
one_of_two true false all is not_both = ap (λ (b : Bool). cond b 1 0) is
one_of_two false true all is not_both = ap (λ (b : Bool). cond b 1 0) is
one_of_two false false all is not_both = ap (λ (b : Bool). cond b 1 0) is

add_both : (a b c own heard all : ℕ) → own + heard ≡ all → a + b ≡ c → own + a + (heard + b) ≡ all + c
add_both a b c own heard all one rest = omega (arith, one, rest)

-- whoever gets it gets a copy of its own or hears it
in_two_ways : (p : Settings) (ls : List Bool) (from : ℕ) (nodes : List ℕ) → own_copies p ls from nodes + hearing p ls from nodes ≡ copies p from nodes
in_two_ways p ls from [] = refl
in_two_ways p ls from (n ∷ ns) =
    ap (λ (k : ℕ). k + hearing p ls from (n ∷ ns)) (sum_by-cons (λ to. cond (gets_own_copy p ls from to) 1 0) n ns)
    ∙ ap (λ (k : ℕ). cond (gets_own_copy p ls from n) 1 0 + own_copies p ls from ns + k) (sum_by-cons (λ to. cond (hears_broadcast p ls from to) 1 0) n ns)
    ∙ add_both (own_copies p ls from ns) (hearing p ls from ns) (copies p from ns) (cond (gets_own_copy p ls from n) 1 0)
    (cond (hears_broadcast p ls from n) 1 0) (cond (gets_copy p from n) 1 0)
    (one_of_two (gets_own_copy p ls from n) (hears_broadcast p ls from n) (gets_copy p from n) (broadcast_laws.reaches p ls from n) (broadcast_laws.once p ls from n))
    (in_two_ways p ls from ns)
    ∙ sym (sum_by-cons (λ to. cond (gets_copy p from to) 1 0) n ns)

turned : (sender receivers many alone : ℕ) → alone ≡ sender + 0 → sender + receivers ≡ many → receivers + alone ≡ many
turned sender receivers many alone one all = omega (arith, one, all)

others : (p : Settings) (listeners : List Bool) (from : ℕ) → is_node p from ≡ true
    → own_copies p listeners from (receivers_of p p.receivers) + hearing p listeners from (receivers_of p p.receivers) + copies p from (p.sender ∷ [])
    ≡ p.receivers
others p ls from is =
    ap (λ (k : ℕ). k + copies p from (p.sender ∷ [])) (in_two_ways p ls from (receivers_of p p.receivers))
    ∙ turned (cond (gets_copy p from p.sender) 1 0) (copies p from (receivers_of p p.receivers)) p.receivers (copies p from (p.sender ∷ []))
    (sum_by-cons (λ to. cond (gets_copy p from to) 1 0) p.sender [])
    (sym (sum_by-cons (λ to. cond (gets_copy p from to) 1 0) p.sender (receivers_of p p.receivers)) ∙ all_others p from is)

pub way_laws : WayLaws
way_laws = record { others = others }
