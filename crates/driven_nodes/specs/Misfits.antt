-- Why two sessions are not relayed, and how long both may take.
use Rattle.std.specs.Prelude.{ℕ, ◌+◌, ◌*◌, ◌/◌, ◌==◌, find, Option, None, Some, if◌then◌else◌}
use Rattle.norm_base.specs.Members.{is_node, is_receiver, members_of}
use Rattle.norm_base.specs.Settings.{Settings}
use Rattle.norm_base.specs.declared.key.Key.TheVariants as key
use Rattle.norm_relay.specs.RelayState.{is_hold}
use Rattle.relay_words.specs.declared.ends.NoRelay.{NoRelay}
use Rattle.relay_words.specs.declared.ends.NoRelay.TheVariants as no
use Rattle.relay_words.specs.declared.ends.Patience.{Patience}

-- The first of these that applies: a size differs; the mode below is not hold; the node is none above; an id is in both.
abbrev pub shared_of : ℕ → Option ℕ → NoRelay
shared_of sender (Some id) = no.Shared id
shared_of sender None = no.Shared sender

abbrev pub shared : Settings → Settings → NoRelay
shared p q = shared_of p.sender (find (is_node q) (members_of p))

abbrev pub misfit : Settings → ℕ → Settings → NoRelay
misfit p node q =
    if is_hold q.mode then (if is_receiver p node then shared p q else no.Node node (p.sender + 1) (p.sender + p.receivers)) else no.Mode

abbrev pub no_relay : Settings → ℕ → Settings → NoRelay
no_relay p node q =
    if p.e == q.e then
    (if p.b == q.b then
    (if p.blocks == q.blocks then (if p.octets == q.octets then misfit p node q else no.Size key.Octets p.octets q.octets) else no.Size key.Blocks p.blocks q.blocks)
    else no.Size key.B p.b q.b)
    else no.Size key.E p.e q.e

-- How long the sender above waits for a watermark: 40 of its round trips. How long the most octets that the sender below keeps take as symbols,
-- a gap for each.
abbrev pub patience_of : Settings → Settings → Patience
patience_of p q = record { above = 40 * p.grtt; below = q.octets / q.e * q.gap }
