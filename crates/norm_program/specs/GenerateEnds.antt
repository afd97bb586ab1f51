-- How `generate` ends, and what each ending says.
use Rattle.std.specs.Prelude.{◌≡◌, ℕ, Ok}
use Rattle.norm_base.specs.Faults.{one_more}
use Rattle.norm_base.specs.Told.{gained, written_of}
use Rattle.norm_script.specs.Generated.{generated_pieces, generate_text, generated_script, StopsWithin}
use Rattle.norm_script.specs.Reading.{script_of}
use Rattle.norm_endings.specs.Outside.{Outside, Undisturbed}
use Rattle.norm_endings.specs.declared.status.Ending.{Ending}
use Rattle.norm_endings.specs.declared.status.Ending.TheVariants.{Done, Write}

-- nothing was read, and no network, no files and no clock were called
pub record Untold (before after : Outside) : Type 0 where
  pub input : after.input ≡ before.input
  pub called : after.called ≡ before.called
  pub undisturbed : Undisturbed before after

-- The script of this number was written, each line one piece, and it is one that has a meaning.
pub record WroteScript (n : ℕ) (before after : Outside) : Type 0 where
  pub output : after.written ≡ gained before.written (generated_pieces n)
  pub text : written_of after.written ≡ gained (written_of before.written) (generate_text n)
  pub meaning : script_of (generate_text n) ≡ Ok (generated_script n)
  pub untold : Untold before after
  pub writes : after.write_faults ≡ before.write_faults

-- One write failed: some lines of the script were written, and a front of the next.
pub record WroteLess (n : ℕ) (before after : Outside) : Type 0 where
  pub cause : after.write_faults ≡ one_more before.write_faults
  pub output : StopsWithin (generated_pieces n) before.written after.written
  pub untold : Untold before after

abbrev pub GenerateEnds : ℕ → Ending → Outside → Outside → Type 0
GenerateEnds n Done before after = WroteScript n before after
GenerateEnds n Write before after = WroteLess n before after
GenerateEnds n _ before after = ⊥
