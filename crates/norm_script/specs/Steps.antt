use Rattle.std.specs.Prelude.{Option, None, Some, Result, Ok, Err}

-- A chain of steps, each of which may refuse.

infixl 10 ◌>>=◌
abbrev pub ◌>>=◌ : {X Y E : Type 0} → Result X E → (X → Result Y E) → Result Y E
Ok x >>= f = f x
Err e >>= f = Err e

-- the value, unless there is a reason against it
abbrev pub unless : {X E : Type 0} → Option E → X → Result X E
unless None x = Ok x
unless (Some e) x = Err e
