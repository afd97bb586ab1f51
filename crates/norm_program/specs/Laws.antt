-- What is promised of the statuses of failed calls.
use Rattle.std.specs.Prelude.{◌≡◌, ◌<◌, ℕ, List, [], ◌∷◌}
use Rattle.norm_base.specs.Told.{Pieces, gained}
use Rattle.norm_endings.specs.Outside.{Outside, absent_line}
use Rattle.norm_program.specs.Commands.{EndsWith}

-- None of the calls failed whose failures this counts. A count that has come to its end stays there, so it could not tell.
pub record NoneFailed (before after : ℕ) : Type 0 where
  pub same : after ≡ before
  pub below : before < 18446744073709551615

-- The last piece that was written is the line of a file that is not there.
pub record NamesAbsent (after : Outside) : Type 0 where
  pub name : List ℕ
  pub unsaid : Pieces
  pub output : after.written ≡ gained unsaid (absent_line name ∷ [])

-- If no read failed, the status is not 4.
abbrev pub FourIsOfReads : Type 0
FourIsOfReads =
    (status : ℕ) (words : List (List ℕ)) (before after : Outside) → EndsWith status words before after
    → NoneFailed before.read_faults after.read_faults → status ≡ 4 → ⊥

-- If no write failed, the status is not 5.
abbrev pub FiveIsOfWrites : Type 0
FiveIsOfWrites =
    (status : ℕ) (words : List (List ℕ)) (before after : Outside) → EndsWith status words before after
    → NoneFailed before.write_faults after.write_faults → status ≡ 5 → ⊥

-- If no call of the network failed, the status is not 6.
abbrev pub SixIsOfTheNetwork : Type 0
SixIsOfTheNetwork =
    (status : ℕ) (words : List (List ℕ)) (before after : Outside) → EndsWith status words before after
    → NoneFailed before.called.network_faults after.called.network_faults → status ≡ 6 → ⊥

-- If no call of the files failed and no write, the last line at status 7 is `absent NAME`.
abbrev pub SevenIsOfFiles : Type 0
SevenIsOfFiles =
    (status : ℕ) (words : List (List ℕ)) (before after : Outside) → EndsWith status words before after
    → NoneFailed before.called.file_faults after.called.file_faults → NoneFailed before.write_faults after.write_faults
    → status ≡ 7 → NamesAbsent after
