-- What a call of the program finds and leaves of the outside, and what a last line says.
use Rattle.std.specs.Prelude.{◌≡◌, ℕ, List, [], ◌∷◌, ◌++◌, ◌⊎◌, codes, Option, IfSome}
use Rattle.std.specs.Fmt.{decimal}
use Rattle.norm_base.specs.Faults.{one_more}
use Rattle.norm_base.specs.Network.{Network}
use Rattle.norm_base.specs.Told.{Pieces, gained, GainsFront}
use Rattle.norm_journal.specs.Jobs.{Told}

unfoldable pub refused_line : ℕ → List ℕ
refused_line n = codes "refused line " ++ (decimal n ++ codes "\n")

unfoldable pub absent_line : List ℕ → List ℕ
absent_line name = codes "absent " ++ (name ++ codes "\n")

-- The whole line was written, as one piece; or that one write failed, as the count of the output's faults shows, and left
-- a front of it.
abbrev pub Says : (unwritten written : Pieces) (before now : ℕ) → List ℕ → Type 0
Says unwritten written before now line =
    ((written ≡ gained unwritten (line ∷ [])) × (now ≡ before)) ⊎ (GainsFront unwritten written line × (now ≡ one_more before))

-- what only nodes call: the network, the files with their contents, and the clock with the moments that it gave; and how often
-- the first two had failed
pub record Called : Type 0 where
  pub network : Network
  pub files : Told
  pub moments : Option (List ℕ)
  pub network_faults : ℕ
  pub file_faults : ℕ

-- what a call of the program found or left: the input's octets and the output's pieces, how often each had failed, and the others
pub record Outside : Type 0 where
  pub input : Option (List ℕ)
  pub written : Pieces
  pub read_faults : ℕ
  pub write_faults : ℕ
  pub called : Called

-- the counts of failed reads, and of failed calls of the network and of the files, are as they were
pub record Undisturbed (before after : Outside) : Type 0 where
  pub reads : after.read_faults ≡ before.read_faults
  pub calls : after.called.network_faults ≡ before.called.network_faults
  pub files : after.called.file_faults ≡ before.called.file_faults

-- where the input tells its octets, they were this text, and none are left
pub record IsInput (text : List ℕ) (before after : Option (List ℕ)) : Type 0 where
  pub octets : IfSome before (λ octets. octets ≡ text)
  pub end : IfSome after (λ rest. rest ≡ [])

-- One read failed.
pub record FailedRead (before after : Outside) : Type 0 where
  pub cause : after.read_faults ≡ one_more before.read_faults
  pub called : after.called ≡ before.called
  pub output : Says before.written after.written before.write_faults after.write_faults (codes "fault read\n")

-- nothing was called or written
pub record Untouched (before after : Outside) : Type 0 where
  pub called : after.called ≡ before.called
  pub output : after.written ≡ before.written

abbrev pub called_as : (network : Network) (files : Told) (moments : Option (List ℕ)) (network_faults file_faults : ℕ) → Called
called_as network files moments network_faults file_faults = record {
  network = network;
  files = files;
  moments = moments;
  network_faults = network_faults;
  file_faults = file_faults;
}

abbrev pub outside : (input : Option (List ℕ)) (written : Pieces) (read_faults write_faults : ℕ) → Called → Outside
outside input written read_faults write_faults called =
    record { input = input; written = written; read_faults = read_faults; write_faults = write_faults; called = called }
