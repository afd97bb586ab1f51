-- What a network of sockets tells: nothing. What a socket gives and takes is known to nobody.
use Rattle.std.specs.Prelude.{None, false}
use Rattle.norm_base.specs.Network.{Network}

abbrev pub untold : Network
untold = record { starts = None; offered = None; answers = None; honest = false; direct = false }
