-- Steps of a reading: each gives its value, or the first refusal.
use Rattle.std.specs.Prelude.{Result, Ok, Err, Bool, true, false, Option, Some, None}
use Rattle.norm_ext.specs.declared.refusal.Refusal.{Refusal}

infixl 10 ◌>>=◌
-- what comes after a step, where the step refuses nothing
abbrev pub ◌>>=◌ : {A B : Type 0} → Result A Refusal → (A → Result B Refusal) → Result B Refusal
(Ok x) >>= next = next x
(Err refusal) >>= next = Err refusal

-- a refusal where a test holds
abbrev pub refused_if : Bool → Refusal → Result (Unit {0}) Refusal
refused_if true refusal = Err refusal
refused_if false refusal = Ok tt

-- a value, or the refusal where there is none
abbrev pub some_or : {A : Type 0} → Option A → Refusal → Result A Refusal
some_or (Some x) refusal = Ok x
some_or None refusal = Err refusal
