-- What is to be run of the input: the script of a session, with what the words put in place of its keys, that of a sender whose profile is
-- given, or that of the folder which the input names.
use Rattle.std.specs.Prelude.{◌≡◌, ℕ, List, Bool, true, false, Option, Result, Ok, Err, unwrap_or}
use Rattle.std.specs.Result.{result_map_both}
use Rattle.norm_base.specs.Settings.{Settings}
use Rattle.norm_script.specs.Commands.{Commands}
use Rattle.norm_script.specs.Folder.{folder_of}
use Rattle.norm_script.specs.Reading.{script_of, commands_of}
use Rattle.norm_script.specs.declared.refusal.Refusal.{Refusal}
use Rattle.norm_args.specs.declared.tasks.Options.{Options}
use Rattle.norm_folder.specs.Sending.{IsFolderScript}
use Rattle.norm_journal.specs.Jobs.{Told}

-- a profile with what the options give in place of its own
abbrev pub profile_with : Options → Settings → Settings
profile_with options p = record p { chance = unwrap_or options.chance p.chance; turns = unwrap_or options.turns p.turns }

-- the profile of a sender, with the instance that is given in place of its own
abbrev pub with_instance : Option ℕ → Settings → Settings
with_instance instance p = record p { instance = unwrap_or instance p.instance }

abbrev pub script_with : Options → Commands → Commands
script_with options script = record script { profile = profile_with options script.profile }

-- what a session with these options is to run of a text: the script that it is, or the first line without meaning
abbrev pub script_asked : Options → List ℕ → Result Commands Refusal
script_asked options text = result_map_both (script_with options) (λ refusal. refusal) (script_of text)

-- What is to be run: a session of all members with these options, the sender of this profile alone, or a session of all members that sends a
-- folder, whose files are told so.
pub data Asked : Type 0 where
  Members : (options : Options) → Asked
  Sender : (p : Settings) → Asked
  Mirror : (files : Told) → Asked

-- the sender is alone
abbrev pub is_alone : Asked → Bool
is_alone (Members options) = false
is_alone (Sender p) = true
is_alone (Mirror files) = false

-- this script is to be run of a text
abbrev pub IsAsked : Asked → List ℕ → Commands → Type 0
IsAsked (Members options) text script = script_asked options text ≡ Ok script
IsAsked (Sender p) text script = commands_of p text ≡ Ok script
IsAsked (Mirror files) text script = IsFolderScript files text script

-- a text has this line that is not run
abbrev pub IsRefusedLine : Asked → List ℕ → Refusal → Type 0
IsRefusedLine (Members options) text refusal = script_of text ≡ Err refusal
IsRefusedLine (Sender p) text refusal = commands_of p text ≡ Err refusal
IsRefusedLine (Mirror files) text refusal = folder_of text ≡ Err refusal
