-- The ports of a group: who hears whom.
use Rattle.std.proofs.Common.{◌≡◌, ◌∙◌, ℕ, ◌+◌, Bool, true, false, cond, List, [], ◌∷◌, refl, arith}
use Rattle.std.specs.Prelude.{◌==◌, ◌&&◌, ◌||◌, not}
use Rattle.std.specs.List.{list_any}
use Rattle.std.proofs.lemmas.Bool.Decides.{nat_tests}
use Rattle.norm_base.specs.Members.{is_node}
use Rattle.norm_base.specs.Settings.{Settings}
use Rattle.udp_rules.specs.Addresses.{gets_copy}
use Rattle.udp_rules.specs.Groups.{speaks_to, hears, GroupLaws}

any_of : (b : Bool) (test : ℕ → Bool) (xs ys : List ℕ) → list_any test (cond b xs ys) ≡ cond b (list_any test xs) (list_any test ys)
any_of true test xs ys = refl
any_of false test xs ys = refl

-- two that are not the same are not both the sender, and so the one speaks where the other hears
meet : (known other : Bool) (sender port from to : ℕ) → (known && other && not (to == from)) ≡ true
    → cond (to == sender) ((port + 1 == cond (from == sender) port (port + 1)) || false)
    ((port == cond (from == sender) port (port + 1)) || ((port + 1 == cond (from == sender) port (port + 1)) || false)) ≡ true
meet known other sender port from to is = grind (arith, nat_tests)

others : (p : Settings) (port from to : ℕ) → gets_copy p from to ≡ true → hears p port to (speaks_to p port from) ≡ true
others p port from to is =
    any_of (to == p.sender) (λ own. own == speaks_to p port from) ((port + 1) ∷ []) (port ∷ (port + 1) ∷ [])
    ∙ meet (is_node p from) (is_node p to) p.sender port from to is

apart : (sender port : ℕ)
    → cond (sender == sender) ((port + 1 == cond (sender == sender) port (port + 1)) || false)
    ((port == cond (sender == sender) port (port + 1)) || ((port + 1 == cond (sender == sender) port (port + 1)) || false)) ≡ false
apart sender port = grind (arith, nat_tests)

alone : (p : Settings) (port : ℕ) → hears p port p.sender (speaks_to p port p.sender) ≡ false
alone p port =
    any_of (p.sender == p.sender) (λ own. own == speaks_to p port p.sender) ((port + 1) ∷ []) (port ∷ (port + 1) ∷ [])
    ∙ apart p.sender port

pub group_laws : GroupLaws
group_laws = record { others = others; sender = alone }
