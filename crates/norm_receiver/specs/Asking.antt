-- What a receiver has to ask for as its back-off ends.
use Rattle.std.specs.Prelude.{ℕ, ◌≡◌, List, true, false, None}
use Rattle.norm_base.specs.Settings.{Settings}
use Rattle.norm_ext.specs.Octets.{octets_of}
use Rattle.norm_receive_rules.specs.AllNeeds.{needs, needs_nothing}
use Rattle.norm_receive_rules.specs.Nack.{fitting, nack_message}
use Rattle.norm_receive_rules.specs.Needs.{Need}
use Rattle.norm_receive_rules.specs.ReceiverState.{ReceiverState}
use Rattle.norm_receive_rules.specs.Ticking.{are_heard}
use Rattle.norm_receiver.specs.declared.nacking.Asks.{Asks}
use Rattle.norm_receiver.specs.declared.nacking.Asks.TheVariants as asks

-- what a NACK asks for: the longest prefix of what is needed whose requests fit e octets
abbrev pub wanted : Settings → ReceiverState → List Need
wanted p s = fitting p (needs p s) None p.e

-- Nothing is needed; or others asked for all that a NACK would ask for; or the NACK is written.
abbrev pub IsAsking : Settings → ReceiverState → List ℕ → Asks → Type 0
IsAsking p s out asks.Nothing = needs_nothing p s ≡ true
IsAsking p s out asks.Heard = (needs_nothing p s ≡ false) × (are_heard s (wanted p s) ≡ true)
IsAsking p s out asks.Written = (needs_nothing p s ≡ false) × (are_heard s (wanted p s) ≡ false) × (out ≡ octets_of (nack_message p s (wanted p s)))
