-- The draws of a session: words of PCG32, one for each delivery to a receiver.
use Rattle.std.specs.Prelude.{ℕ, ◌+◌}
use Rattle.rand_core.specs.Pcg32Seed.{pcg32_seed}
use Rattle.rand_pcg.specs.Lcg.{Lcg}
use Rattle.rand_pcg.specs.Pcg.{pcg32, pcg32_of_seed}
use Rattle.norm_base.specs.Settings.{Settings}

-- the generator of a session: its seed is the one after the network's
unfoldable pub first_draws : Settings → Lcg
first_draws p = pcg32_of_seed (pcg32_seed 16 (p.chance + 1))

-- the next draw
unfoldable pub next_draw : Lcg → ℕ
next_draw g = (pcg32 g).0

-- the generator after it
unfoldable pub draws_after : Lcg → Lcg
draws_after g = (pcg32 g).1
