use Rattle.norm_base.specs.Settings.{Settings}
use Rattle.norm_base.specs.declared.profile.Profile.TheInside.{Inside}

abbrev pub settings_of : Inside → Settings
settings_of p = record { instance = p.instance; first = p.first; sender = p.sender; receivers = p.receivers; producers = p.producers; e = p.e; b = p.b; max_n = p.max_n; auto = p.auto; window = p.window; octets = p.octets; blocks = p.blocks; mode = p.mode; gap = p.gap; grtt = p.grtt; grtt_code = p.grtt_code; gsize_code = p.gsize_code; k = p.k; step = p.step; turns = p.turns; fabric = p.fabric; chance = p.chance; loss = p.loss; repeat = p.repeat; late = p.late; port = p.port }

abbrev pub profile_of : Settings → Inside
profile_of p = record { instance = p.instance; first = p.first; sender = p.sender; receivers = p.receivers; producers = p.producers; e = p.e; b = p.b; max_n = p.max_n; auto = p.auto; window = p.window; octets = p.octets; blocks = p.blocks; mode = p.mode; gap = p.gap; grtt = p.grtt; grtt_code = p.grtt_code; gsize_code = p.gsize_code; k = p.k; step = p.step; turns = p.turns; fabric = p.fabric; chance = p.chance; loss = p.loss; repeat = p.repeat; late = p.late; port = p.port }
