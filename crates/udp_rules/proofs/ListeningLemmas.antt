-- Each other member gets what a member offers, by a copy of its own or by the broadcast, and nobody else gets it.
use Rattle.std.proofs.Common.{◌≡◌, ℕ, zero, suc, ◌+◌, ◌-◌, Bool, true, false, cond, List, [], ◌∷◌, refl, sym, ap, ◌∙◌, arith}
use Rattle.std.specs.Prelude.{◌==◌, ◌&&◌, ◌||◌, not, slice_index_or}
use Rattle.std.specs.List.{list_any}
use Rattle.std.proofs.lemmas.Bool.Decides.{nat_tests}
use Rattle.norm_base.specs.Members.{is_receiver}
use Rattle.norm_base.specs.Settings.{Settings}
use Rattle.udp_rules.specs.Addresses.{gets_copy}
use Rattle.udp_rules.specs.Listening.{goes_to_all, listens, some_listen, is_broadcast, gets_own_copy, hears_broadcast, BroadcastLaws}

all : (p : Settings) (from to : ℕ) → goes_to_all p from ≡ true → gets_copy p from to ≡ is_receiver p to
all p from to is = grind (arith, nat_tests)

back : (p : Settings) (from : ℕ) → is_receiver p from ≡ true → (goes_to_all p from ≡ false) × (gets_copy p from p.sender ≡ true)
back p from is = (grind (arith, nat_tests), grind (arith, nat_tests))

-- an element that is true makes one of them true
one_of : (ones : List Bool) (i : ℕ) → slice_index_or ones i false ≡ true → list_any (λ one. one) ones ≡ true
one_of [] i is = absurd (clash is)
  where
    clash : false ≡ true → ⊥
    clash e = cc
one_of (true ∷ ones) i is = refl
one_of (false ∷ ones) zero is = absurd (clash is)
  where
    clash : false ≡ true → ⊥
    clash e = cc
one_of (false ∷ ones) (suc i) is = one_of ones i is

left : (a b : Bool) → (a && b) ≡ true → a ≡ true
left true b is = refl
left false b is = is

right : (a b : Bool) → (a && b) ≡ true → b ≡ true
right true b is = is
right false b is = absurd (clash is)
  where
    clash : false ≡ true → ⊥
    clash e = cc

-- who listens is one of some
some : (p : Settings) (listeners : List Bool) (to : ℕ) → listens p listeners to ≡ true → some_listen listeners ≡ true
some p listeners to is =
    one_of listeners (to - (p.sender + 1)) (right (is_receiver p to) (slice_index_or listeners (to - (p.sender + 1)) false) is)

one_way : (gets goes others listening : Bool) → (goes ≡ true → listening ≡ true → gets ≡ true) → (listening ≡ true → others ≡ true)
    → ((gets && not (goes && listening)) || ((goes && others) && listening)) ≡ gets
one_way true false others listening own heard = refl
one_way false false others listening own heard = refl
one_way true true others false own heard = refl
one_way false true true false own heard = refl
one_way false true false false own heard = refl
one_way gets true others true own heard =
    ap (λ (b : Bool). (b && false) || ((true && others) && true)) (own refl refl) ∙ ap (λ (b : Bool). (true && b) && true) (heard refl) ∙ sym (own refl refl)

reaches : (p : Settings) (listeners : List Bool) (from to : ℕ)
    → (gets_own_copy p listeners from to || hears_broadcast p listeners from to) ≡ gets_copy p from to
reaches p listeners from to =
    one_way (gets_copy p from to) (goes_to_all p from) (some_listen listeners) (listens p listeners to)
    (λ goes is. all p from to goes ∙ left (is_receiver p to) (slice_index_or listeners (to - (p.sender + 1)) false) is)
    (some p listeners to)

not_both : (gets goes others listening : Bool) → ((gets && not (goes && listening)) && ((goes && others) && listening)) ≡ false
not_both false goes others listening = refl
not_both true false others listening = refl
not_both true true others true = refl
not_both true true true false = refl
not_both true true false false = refl

once : (p : Settings) (listeners : List Bool) (from to : ℕ)
    → (gets_own_copy p listeners from to && hears_broadcast p listeners from to) ≡ false
once p listeners from to = not_both (gets_copy p from to) (goes_to_all p from) (some_listen listeners) (listens p listeners to)

as_copies : (gets goes listening : Bool) → listening ≡ false → (gets && not (goes && listening)) ≡ gets
as_copies false goes listening is = refl
as_copies true false listening is = refl
as_copies true true listening is = ap not is

silent : (p : Settings) (listeners : List Bool) (from to : ℕ) → listens p listeners to ≡ false → gets_own_copy p listeners from to ≡ gets_copy p from to
silent p listeners from to is = as_copies (gets_copy p from to) (goes_to_all p from) (listens p listeners to) is

pub broadcast_laws : BroadcastLaws
broadcast_laws = record { all = all; back = back; reaches = reaches; once = once; silent = silent }
