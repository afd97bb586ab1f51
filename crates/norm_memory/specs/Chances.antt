use Rattle.std.specs.Prelude.{ℕ, ◌+◌, ◌/◌, ◌%◌, ◌==◌, nat_lt, List, [], ◌∷◌, if◌then◌else◌}
use Rattle.rand_core.specs.Pcg32Seed.{pcg32_seed}
use Rattle.rand_pcg.specs.Lcg.{Lcg}
use Rattle.rand_pcg.specs.Pcg.{pcg32, pcg32_of_seed}
use Rattle.norm_base.specs.Settings.{Settings, defaults}
use Rattle.norm_base.specs.declared.kinds.Local.{Local}
use Rattle.norm_memory.specs.declared.fate.Fate.{Fate}
use Rattle.norm_memory.specs.Fates.{lost}
use Rattle.norm_memory.specs.Networks.{NetworkState, unstarted, started, after_offer, after_take}

-- A network in memory by chance: one word of PCG32 is drawn for each offer and each other member.

-- the generator of a seed
unfoldable pub seeded : ℕ → Lcg
seeded chance = pcg32_of_seed (pcg32_seed 16 chance)

-- the next word, and the generator after it
unfoldable pub draw : Lcg → ℕ × Lcg
draw g = pcg32 g

-- what becomes of a copy by the word that was drawn for it
abbrev pub fate_by_word : Settings → ℕ → Fate
fate_by_word p word = if nat_lt (word % 1000) p.loss then lost else record {
  copies = if nat_lt (word / 1000 % 1000) p.repeat then 2 else 1;
  after = word / 1000000 % (p.late + 1);
}

-- what becomes of an offer: a word for each other member, in the order of the members
abbrev pub chance_plan : Settings → ℕ → List ℕ → Lcg → List (ℕ × Fate)
chance_plan p from [] g = []
chance_plan p from (m ∷ members) g =
    if m == from then chance_plan p from members g else (m, fate_by_word p (draw g).0) ∷ chance_plan p from members (draw g).1

-- the generator after those words
abbrev pub drawn : ℕ → List ℕ → Lcg → Lcg
drawn from [] g = g
drawn from (m ∷ members) g = if m == from then drawn from members g else drawn from members (draw g).1

-- the network, the profile of the last start, and the generator
pub record ChanceState : Type 0 where
  pub network : NetworkState
  pub profile : Settings
  pub draws : Lcg

-- as it was made
abbrev pub chance_unstarted : ChanceState
chance_unstarted = record { network = unstarted; profile = defaults; draws = seeded 0 }

-- a start: the words begin anew from the profile's seed
abbrev pub chance_started : ChanceState → Settings → Local → ChanceState
chance_started s profile local =
    record { network = started s.network profile local; profile = profile; draws = seeded profile.chance }

-- an offer
abbrev pub chance_offer : ChanceState → ℕ → List ℕ → ChanceState
chance_offer s from bytes = record {
  network = after_offer s.network from bytes (chance_plan s.profile from s.network.members s.draws);
  profile = s.profile;
  draws = drawn from s.network.members s.draws;
}

-- a take
abbrev pub chance_take : ChanceState → ChanceState
chance_take s = record { network = after_take s.network; profile = s.profile; draws = s.draws }
