use Rattle.std.specs.Prelude.{ℕ, zero, suc, ◌*◌, ◌≤◌}
use Rattle.norm_base.specs.Keys.{row_of, IsValue}
use Rattle.norm_base.specs.declared.key.Key.{Key}
use Rattle.norm_base.specs.declared.key.Key.TheVariants as key
use Rattle.norm_base.specs.declared.kinds.Mode.{Mode}
use Rattle.norm_base.specs.declared.kinds.Mode.TheVariants.{Hold, Drop}
use Rattle.norm_base.specs.declared.kinds.FabricKind.{FabricKind}
use Rattle.norm_base.specs.declared.kinds.FabricKind.TheVariants.{Direct, Chance, Udp}

-- what a profile says: one value for each key
pub record Settings : Type 0 where
  pub instance : ℕ
  pub first : ℕ
  pub sender : ℕ
  pub receivers : ℕ
  pub producers : ℕ
  pub e : ℕ
  pub b : ℕ
  pub max_n : ℕ
  pub auto : ℕ
  pub window : ℕ
  pub octets : ℕ
  pub blocks : ℕ
  pub mode : Mode
  pub gap : ℕ
  pub grtt : ℕ
  pub grtt_code : ℕ
  pub gsize_code : ℕ
  pub k : ℕ
  pub step : ℕ
  pub turns : ℕ
  pub fabric : FabricKind
  pub chance : ℕ
  pub loss : ℕ
  pub repeat : ℕ
  pub late : ℕ
  pub port : ℕ

-- each value is one of its key's, and the two rules across keys hold
pub record InRange (s : Settings) : Type 0 where
  pub instance : IsValue key.Instance s.instance
  pub first : IsValue key.First s.first
  pub sender : IsValue key.Sender s.sender
  pub receivers : IsValue key.Receivers s.receivers
  pub producers : IsValue key.Producers s.producers
  pub e : IsValue key.E s.e
  pub b : IsValue key.B s.b
  pub max_n : IsValue key.MaxN s.max_n
  pub auto : IsValue key.Auto s.auto
  pub window : IsValue key.Window s.window
  pub octets : IsValue key.Octets s.octets
  pub blocks : IsValue key.Blocks s.blocks
  pub gap : IsValue key.Gap s.gap
  pub grtt : IsValue key.Grtt s.grtt
  pub grtt_code : IsValue key.GrttCode s.grtt_code
  pub gsize_code : IsValue key.GsizeCode s.gsize_code
  pub k : IsValue key.K s.k
  pub step : IsValue key.Step s.step
  pub turns : IsValue key.Turns s.turns
  pub chance : IsValue key.Chance s.chance
  pub loss : IsValue key.Loss s.loss
  pub repeat : IsValue key.Repeat s.repeat
  pub late : IsValue key.Late s.late
  pub port : IsValue key.Port s.port
  -- the greatest number of encoding symbols is no less than a block's source symbols
  pub longest : s.b ≤ s.max_n
  -- a stream's buffer is at most 16 MiB
  pub buffer : s.blocks * s.b * s.e ≤ 16777216

-- what the value of `mode` stands for, the place of its word
abbrev pub mode_at : ℕ → Mode
mode_at zero = Hold
mode_at (suc n) = Drop

-- what the value of `fabric` stands for, the place of its word
abbrev pub fabric_at : ℕ → FabricKind
fabric_at zero = Direct
fabric_at (suc zero) = Chance
fabric_at (suc (suc n)) = Udp

-- the profile with these values
abbrev pub settings_with : (Key → ℕ) → Settings
settings_with value = record {
  instance = value key.Instance;
  first = value key.First;
  sender = value key.Sender;
  receivers = value key.Receivers;
  producers = value key.Producers;
  e = value key.E;
  b = value key.B;
  max_n = value key.MaxN;
  auto = value key.Auto;
  window = value key.Window;
  octets = value key.Octets;
  blocks = value key.Blocks;
  mode = mode_at (value key.Mode);
  gap = value key.Gap;
  grtt = value key.Grtt;
  grtt_code = value key.GrttCode;
  gsize_code = value key.GsizeCode;
  k = value key.K;
  step = value key.Step;
  turns = value key.Turns;
  fabric = fabric_at (value key.Fabric);
  chance = value key.Chance;
  loss = value key.Loss;
  repeat = value key.Repeat;
  late = value key.Late;
  port = value key.Port;
}

-- each key at its default
abbrev pub defaults : Settings
defaults = settings_with (λ key. (row_of key).default)
