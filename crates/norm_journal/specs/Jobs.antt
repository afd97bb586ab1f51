-- The job of a command. A file's octets do not stand in its command: they are those of the file with its name.
use Rattle.std.specs.Prelude.{ℕ, ◌≡◌, ◌==◌, ◌&&◌, List, length, replicate, nat_eq, Bool, true, false, Option, None, Some, Result, Ok, Err, is_none}
use Rattle.std.specs.Option.{option_eq, option_map}
use Rattle.norm_base.specs.Contents.{content_of}
use Rattle.norm_script.specs.declared.script.Line.{Line}
use Rattle.norm_script.specs.declared.script.Verb.{Verb}
use Rattle.norm_script.specs.declared.script.Verb.TheVariants as verb
use Rattle.norm_send_rules.specs.declared.fault.SendFault.{SendFault}
use Rattle.norm_send_rules.specs.declared.job.Job.{Job}
use Rattle.norm_send_rules.specs.declared.job.Job.TheVariants as job
use Rattle.norm_send_rules.specs.declared.job.Receipt.{Receipt}
use Rattle.norm_safety.specs.World.{same_octets}

-- the files that are there, by name, where they are told
abbrev pub Told : Type 0
Told = Option (List (List ℕ × List ℕ))

-- the file of a name has these octets, or nothing is told of it
abbrev pub is_content : Told → List ℕ → List ℕ → Bool
is_content None name octets = true
is_content (Some files) name octets = option_eq same_octets (content_of files name) (Some octets)

-- the file of a name has so many octets, or nothing is told of it
abbrev pub is_length : Told → List ℕ → ℕ → Bool
is_length None name len = true
is_length (Some files) name len = option_eq nat_eq (option_map length (content_of files name)) (Some len)

-- the file of a name is not there, or nothing is told of it
abbrev pub may_be_absent : Told → List ℕ → Bool
may_be_absent None name = true
may_be_absent (Some files) name = is_none (content_of files name)

-- the job of a command that has its octets with it
abbrev pub job_of : Verb → Option Job
job_of (verb.Data info octets) = Some (job.Data info octets)
job_of (verb.File name) = None
job_of verb.Open = Some job.Open
job_of (verb.Write octets) = Some (job.Write octets)
job_of verb.Close = Some job.Close
job_of (verb.Mark quorum) = Some (job.Mark quorum)
job_of (verb.Restart instance) = Some (job.Restart instance)
job_of (verb.Strike node) = Some (job.Strike node)

-- a command that has nothing to do with a stream
abbrev pub opens_no_stream : Verb → Bool
opens_no_stream verb.Open = false
opens_no_stream (verb.Write octets) = false
opens_no_stream verb.Close = false
opens_no_stream _ = true

-- the same of a line
abbrev pub IsOfObjects : Line → Type 0
IsOfObjects line = opens_no_stream line.verb ≡ true

-- the job is that of the command
abbrev pub is_job_of : Told → Verb → Job → Bool
is_job_of files (verb.Data info octets) (job.Data other bytes) = option_eq same_octets info other && same_octets octets bytes
is_job_of files (verb.File name) (job.File other octets) = same_octets name other && is_content files name octets
is_job_of files verb.Open job.Open = true
is_job_of files (verb.Write octets) (job.Write bytes) = same_octets octets bytes
is_job_of files verb.Close job.Close = true
is_job_of files (verb.Mark quorum) (job.Mark other) = option_eq nat_eq quorum other
is_job_of files (verb.Restart instance) (job.Restart other) = instance == other
is_job_of files (verb.Strike node) (job.Strike other) = node == other
is_job_of files _ _ = false

-- A file's octets are told by the offer that accepts it. A job that has its octets with it is told whatever it gives.
abbrev pub is_read : Job → Result Receipt SendFault → Bool
is_read (job.File name octets) (Ok receipt) = true
is_read (job.File name octets) (Err fault) = false
is_read job gave = true

-- the command is that of the file with this name
abbrev pub is_file_of : Verb → List ℕ → Bool
is_file_of (verb.File name) other = same_octets name other
is_file_of verb other = false

-- A file that is refused is refused by its name and its length: this one stands for each of that length.
abbrev pub file_of_length : List ℕ → ℕ → Job
file_of_length name len = job.File name (replicate len 0)
