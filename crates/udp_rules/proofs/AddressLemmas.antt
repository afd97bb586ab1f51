-- Each member has a port of its own, and a port names the member that has it.
use Rattle.std.proofs.Common.{◌≡◌, ◌==◌, ℕ, ◌<◌, true, cond, List, None, Some, ap, ◌∙◌, arith}
use Rattle.std.specs.Cmp.Lexicographic.{pointwise}
use Rattle.std.specs.declared.net.socket_addr.SocketAddr.{SocketAddr}
use Rattle.std.specs.declared.net.socket_addr.SocketAddr.TheVariants.{V4, V6}
use Rattle.std.specs.Net.Socket.{v4_port}
use Rattle.std.proofs.lemmas.Grind.{common_steps}
use Rattle.norm_base.specs.Members.{is_node}
use Rattle.norm_base.specs.Settings.{Settings}
use Rattle.udp_rules.specs.Addresses.{here, port_of, member_with, member_from, IsAt, AddressLaws}

found : (p : Settings) → (node : ℕ) → is_node p node ≡ true → member_with p (port_of p node) ≡ Some node
found p node is = grind (arith, common_steps)

only : (p : Settings) (port node : ℕ) → member_with p port ≡ Some node → (is_node p node ≡ true) × (port_of p node ≡ port)
only p port node is = grind (arith, common_steps)

behind : (p : Settings) (node : ℕ) → p.port < port_of p node
behind p node = omega arith

pub known : (p : Settings) (at : SocketAddr) (node : ℕ) → is_node p node ≡ true → IsAt at (port_of p node) → member_from p at ≡ Some node
known p (V4 a) node is at =
    ap (λ (octets : List ℕ). cond (pointwise ◌==◌ octets here) (member_with p (v4_port a)) None) at.0
    ∙ ap (member_with p) at.1
    ∙ found p node is
known p (V6 a) node is at = absurd at

pub address_laws : AddressLaws
address_laws = record { found = found; only = only; behind = behind; known = known }
