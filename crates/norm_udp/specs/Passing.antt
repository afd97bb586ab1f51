-- What a network of sockets tells of the datagrams that it passed over since its last start.
use Rattle.std.specs.Prelude.{ℕ, Option}
use Rattle.norm_udp.specs.declared.fabric.UdpFabric.{UdpFabric}
use Rattle.udp_rules.specs.declared.misfit.Misfit.{Misfit}

-- how many there were
abbrev pub passed_by : {R : Type 0} → UdpFabric R → ℕ
passed_by f = f.sieve.count

-- the first of them whose sender has another profile
abbrev pub misfit_by : {R : Type 0} → UdpFabric R → Option Misfit
misfit_by f = f.sieve.misfit
