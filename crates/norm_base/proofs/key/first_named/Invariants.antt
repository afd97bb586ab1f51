use Rattle.std.proofs.Common.{◌≡◌, drop}
use Rattle.norm_base.specs.Keys.{key_named}
use Rattle.norm_base.proofs.key.first_named.Given as goal

-- no key so far has the name
abbrev pub invariant-loop-key : goal.invariant-loop-key
invariant-loop-key l = key_named l.fn.name l.keys ≡ key_named l.fn.name (drop l.key-index l.keys)
