-- Which instance a send takes: one above each that an earlier send of its user took (RFC 5740 section 4.2.1), and where it is kept.
use Rattle.std.specs.Prelude.{ℕ, ◌+◌, ◌/◌, ◌%◌, ◌==◌, ◌&&◌, nat_le, Bool, List, ◌++◌, length, slice_index, codes, Option, None, Some, if◌then◌else◌}
use Rattle.std.specs.Fmt.{decimal}
use Rattle.norm_base.specs.Sizes.{id_count}
use Rattle.norm_ext.specs.InstanceIds.{is_above}

-- the minute since 1970, going round as instance ids do
abbrev pub minute_at : (nanoseconds : ℕ) → ℕ
minute_at nanoseconds = nanoseconds / 1000000000 / 60 % id_count

-- the id after another
abbrev pub id_after : ℕ → ℕ
id_after id = (id + 1) % id_count

-- The instance that a send takes in this minute, after the last one that was taken, if one was: the minute, so that a number that was lost is passed
-- too; or the id after the last one, if the minute does not lie above that.
abbrev pub next_instance : (last : Option ℕ) → (minute : ℕ) → ℕ
next_instance None minute = minute
next_instance (Some last) minute = if is_above last minute then minute else id_after last

-- the last one that was taken, if an instance that is given does not lie above it: receivers pass that over
abbrev pub passed_by : (last : Option ℕ) → (instance : ℕ) → Option ℕ
passed_by None instance = None
passed_by (Some last) instance = if is_above last instance then None else Some last

-- the line that keeps a number
abbrev pub number_line : ℕ → List ℕ
number_line number = decimal number ++ codes "\n"

-- the path of what keeps the number of a sender, of all that use the hub at this port
abbrev pub number_path : (folder : List ℕ) → (port sender : ℕ) → List ℕ
number_path folder port sender = folder ++ (codes "/" ++ (decimal port ++ (codes "-" ++ decimal sender)))

-- a path that begins at the root
abbrev pub is_absolute : List ℕ → Bool
is_absolute path = nat_le 1 (length path) && (slice_index path 0 == 47)

-- what lies below a path that begins at the root; nothing lies below another
abbrev pub below : Option (List ℕ) → List ℕ → Option (List ℕ)
below None name = None
below (Some path) name = if is_absolute path then Some (path ++ name) else None

-- The user's folder for what is kept from run to run, as the XDG Base Directory Specification has it: below $XDG_STATE_HOME, or else below $HOME.
abbrev pub state_folder : (state home : Option (List ℕ)) → Option (List ℕ)
state_folder state home = elim (below state (codes "/normd")) [
  | Some folder ↦ Some folder
  | None ↦ below home (codes "/.local/state/normd")
]
