use Rattle.std.specs.Prelude.{ℕ, ◌<◌}

-- the ids 0 and 2^32 - 1 name no member of a session (RFC 5740 section 4.1)
abbrev pub IsMember : ℕ → Type 0
IsMember n = (0 < n) × (n < 4294967295)
