use Rattle.std.specs.Prelude.{ℕ, ◌==◌, List, Bool}
use Rattle.std.specs.List.{list_any}
use Rattle.norm_base.specs.Faults.{one_more, counted}

-- the calls of an object in memory: the numbers (from 1) of those that fail, how many were made, how many failed
pub record Calls : Type 0 where
  pub failing : List ℕ
  pub made : ℕ
  pub faults : ℕ

-- whether the next call is one of those that fail
abbrev pub next_fails : Calls → Bool
next_fails c = list_any (λ number. number == one_more c.made) c.failing

-- after one more call that failed, or did not
abbrev pub after_call : Calls → Bool → Calls
after_call c failed = record {
  failing = c.failing;
  made = one_more c.made;
  faults = counted c.faults failed;
}

-- the calls are counted anew; which of them fail, and how many failed, stay
abbrev pub restarted : Calls → Calls
restarted c = record { failing = c.failing; made = 0; faults = c.faults }
