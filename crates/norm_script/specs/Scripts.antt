use Rattle.std.specs.Prelude.{◌≡◌, ℕ, ◌+◌, ◌<◌, ◌≤◌, ◌==◌, true, List, [], ◌∷◌, ◌++◌, length, count_by, None, Some}
use Rattle.std.specs.List.{AllByRecursion}
use Rattle.norm_base.specs.Octets.{AreOctets}
use Rattle.norm_base.specs.Settings.{InRange}
use Rattle.norm_base.specs.Sizes.{id_count}
use Rattle.norm_script.specs.Commands.{Commands, most_commands}
use Rattle.norm_script.specs.Words.{is_name}
use Rattle.norm_script.specs.declared.meaning.Meaning.{Meaning}
use Rattle.norm_script.specs.declared.meaning.Meaning.TheVariants.{Command}
use Rattle.norm_script.specs.declared.script.Line.{Line}
use Rattle.norm_script.specs.declared.script.Verb.{Verb}
use Rattle.norm_script.specs.declared.script.Verb.TheVariants as verb

-- What can be a script: exactly this is read, and exactly this can be written out.

-- contents are 1 to 8,192 octets
pub record IsContents (bytes : List ℕ) : Type 0 where
  pub some : 1 ≤ length bytes
  pub most : length bytes ≤ 8192
  pub octets : AreOctets bytes

-- contents and an info stand on one line
pub record IsObject (bytes info : List ℕ) : Type 0 where
  pub object : IsContents bytes
  pub info_is : IsContents info
  pub fits : length bytes + length info ≤ 8246

abbrev pub IsVerb : Verb → Type 0
IsVerb (verb.Data None bytes) = IsContents bytes
IsVerb (verb.Data (Some info) bytes) = IsObject bytes info
IsVerb (verb.File name) = is_name name ≡ true
IsVerb (verb.Write bytes) = IsContents bytes
IsVerb (verb.Mark (Some quorum)) = (1 ≤ quorum) × (quorum ≤ 16)
IsVerb (verb.Restart instance) = instance < id_count
IsVerb (verb.Strike node) = (1 ≤ node) × (node ≤ 4294967294)
IsVerb verb = Unit {0}

-- what a line by itself may mean
abbrev pub IsMeaning : Meaning → Type 0
IsMeaning (Command producer verb) = (1 ≤ producer) × IsVerb verb
IsMeaning meaning = Unit {0}

-- a command of one of so many producers
pub record IsLine (producers : ℕ) (line : Line) : Type 0 where
  pub first : 1 ≤ line.producer
  pub last : line.producer ≤ producers
  pub verb : IsVerb line.verb

-- behind the commands before, each producer's are numbered on
abbrev pub AreNumbered : List Line → List Line → Type 0
AreNumbered before [] = Unit {0}
AreNumbered before (line ∷ lines) =
    (line.number ≡ count_by (λ l. l.producer == line.producer) before + 1) × AreNumbered (before ++ line ∷ []) lines

-- a profile within its ranges, and at most 4,096 commands of its producers, each of which numbers its own from 1 on
pub record IsScript (script : Commands) : Type 0 where
  pub range : InRange script.profile
  pub few : length script.lines ≤ most_commands
  pub each : AllByRecursion (IsLine script.profile.producers) script.lines
  pub numbered : AreNumbered [] script.lines

-- What a session needs of a verb that is offered: contents and infos, of any length, are octets, and an instance has 16 bits.
abbrev pub CanOffer : Verb → Type 0
CanOffer (verb.Data None bytes) = AreOctets bytes
CanOffer (verb.Data (Some info) bytes) = AreOctets bytes × AreOctets info
CanOffer (verb.Write bytes) = AreOctets bytes
CanOffer (verb.Restart instance) = instance < id_count
CanOffer verb = Unit {0}

-- such a command, of one of so many producers
pub record CanSubmit (producers : ℕ) (line : Line) : Type 0 where
  pub first : 1 ≤ line.producer
  pub last : line.producer ≤ producers
  pub verb : CanOffer line.verb

-- What a session can run, whoever made it: as `IsScript`, but with contents of any length, and any names and quorums. A struck node has an id
-- of a node by its type.
pub record CanRun (script : Commands) : Type 0 where
  pub range : InRange script.profile
  pub few : length script.lines ≤ most_commands
  pub each : AllByRecursion (CanSubmit script.profile.producers) script.lines
  pub numbered : AreNumbered [] script.lines
