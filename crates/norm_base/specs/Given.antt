use Rattle.std.specs.Prelude.{ℕ, ◌+◌, ◌*◌, ◌/◌, ◌&&◌, min, map, nat_le, unwrap_or, Bool, List, Option, None, Some, if◌then◌else◌, slice_index_or, slice_set}
use Rattle.std.specs.List.{list_all}
use Rattle.norm_base.specs.Keys.{row_of, keys, is_value}
use Rattle.norm_base.specs.Settings.{Settings, settings_with}
use Rattle.norm_base.specs.declared.key.Key.{Key}
use Rattle.norm_base.specs.declared.key.Key.TheVariants as key

-- The values that are given to keys: a list with a place for each key, in the order of the table, None where none is given.

abbrev pub nothing_given : List (Option ℕ)
nothing_given = map (λ key. None) keys

-- a key's value, if one is given
abbrev pub given_at : List (Option ℕ) → Key → Option ℕ
given_at given key = slice_index_or given (row_of key).place None

-- with this value of a key
abbrev pub give : List (Option ℕ) → Key → ℕ → List (Option ℕ)
give given key value = slice_set given (row_of key).place (Some value)

-- a key's value where none is given: its default; and of `max_n`, which follows `b`, b and its half, up to 255
abbrev pub default_beside : (b : ℕ) → Key → ℕ
default_beside b key.MaxN = min 255 (b + b / 2)
default_beside b k = (row_of k).default

-- a key's value
abbrev pub value_in : List (Option ℕ) → Key → ℕ
value_in given k =
    unwrap_or (given_at given k) (default_beside (unwrap_or (given_at given key.B) (row_of key.B).default) k)

-- the values of these keys are of theirs
abbrev pub are_values : (Key → ℕ) → List Key → Bool
are_values value keys = list_all (λ k. is_value k (value k)) keys

-- the two rules across keys
abbrev pub meets_rules : (Key → ℕ) → Bool
meets_rules value =
    nat_le (value key.B) (value key.MaxN) && nat_le (value key.Blocks * value key.B * value key.E) 16777216

-- each value is one of its key's, and the two rules hold
abbrev pub are_in_range : (Key → ℕ) → Bool
are_in_range value = are_values value keys && meets_rules value

-- the profile with the given values, and all others at their defaults
abbrev pub profile_given : List (Option ℕ) → Option Settings
profile_given given = if are_in_range (value_in given) then Some (settings_with (value_in given)) else None
