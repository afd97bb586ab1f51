-- How far a text was shown, where it comes in pieces.
use Rattle.std.specs.Prelude.{◌≡◌, ℕ, Bool, false, List, [], ◌∷◌, ◌++◌, Option, None, Some, IfSome}
use Rattle.norm_base.specs.Told.{Pieces, gained, GainsFront, before_taking}
use Rattle.norm_script.specs.Text.{text_lines, split_at_first}
use Rattle.norm_show.specs.Showing.{Showing, lines_shown, line_shown, shown, beside}
use Rattle.norm_show.specs.declared.fault.ShowFault.{ShowFault}
use Rattle.norm_show.specs.declared.fault.ShowFault.TheVariants as fault

-- what came of the next line, its number, and whether a datagram was refused before it
pub record Progress : Type 0 where
  pub rest : List ℕ
  pub number : ℕ
  pub refused : Bool

-- nothing came yet
abbrev pub progress_opening : Progress
progress_opening = record { rest = []; number = 1; refused = false }

-- what is shown from here on, where this comes next
abbrev pub shown_from : Progress → List ℕ → Showing
shown_from p text = beside [] p.refused (lines_shown p.number (text_lines (p.rest ++ text)))

-- From one progress to another, the whole piece but for what is left of it was taken in, and its lines were written:
-- whatever comes behind it.
pub record Shows (old : Progress) (whole : List ℕ) (new : Progress) (left : List ℕ) (unwritten written : Pieces) : Type 0 where
  pub lines : List (List ℕ)
  pub goes_on : (more : List ℕ) → shown_from old (whole ++ more) ≡ beside lines false (shown_from new (left ++ more))
  pub output : written ≡ gained unwritten lines

-- line n was shown
pub record ShowsLine (n : ℕ) (line : List ℕ) (refused : Bool) (unwritten written : Pieces) : Type 0 where
  pub lines : List (List ℕ)
  pub is : (s : Showing) → line_shown n line s ≡ beside lines refused s
  pub output : written ≡ gained unwritten lines

-- the last line was shown
pub record ShowsEnd (p : Progress) (refused : Bool) (unwritten written : Pieces) : Type 0 where
  pub whole : (shown_from p []).stop ≡ None
  pub is_refused : refused ≡ (shown_from p []).refused
  pub output : written ≡ gained unwritten (shown_from p []).lines

-- What a fault leaves of what is to be shown. A line that spells no datagram: all before it was written. A failed write:
-- all before a line, and a front of that. Want of memory: all before some line.
abbrev pub Leaves : ShowFault → (unwritten written : Pieces) → Showing → Type 0
Leaves (fault.Line n why) unwritten written s = (s.stop ≡ Some (n, why)) × (written ≡ gained unwritten s.lines)
Leaves fault.Write unwritten written s =
    (done : List (List ℕ)) × (line : List ℕ) × (others : List (List ℕ)) × (s.lines ≡ done ++ line ∷ others) × GainsFront (gained unwritten done) written line
Leaves fault.Memory unwritten written s =
    (done : List (List ℕ)) × (others : List (List ℕ)) × (s.lines ≡ done ++ others) × (written ≡ gained unwritten done)
Leaves fault.Read unwritten written s = ⊥

-- All of the input was shown.
pub record ShowsAll (refused : Bool) (before after : Option (List ℕ)) (unwritten written : Pieces) : Type 0 where
  pub read : List ℕ
  pub taken : before ≡ before_taking read after
  pub ended : IfSome after (λ rest. rest ≡ [])
  pub whole : (shown read).stop ≡ None
  pub is_refused : refused ≡ (shown read).refused
  pub output : written ≡ gained unwritten (shown read).lines

-- A read failed: the whole lines of what was read before it were shown.
pub record ShowsSoFar (before after : Option (List ℕ)) (unwritten written : Pieces) : Type 0 where
  pub read : List ℕ
  pub taken : before ≡ before_taking read after
  pub progress : Progress
  pub unended : split_at_first 10 progress.rest ≡ None
  pub shows : Shows progress_opening read progress [] unwritten written

-- Another fault broke it off: with what follows what was read, where the input tells it, this is what the fault leaves.
pub record ShowsUpTo (why : ShowFault) (before after : Option (List ℕ)) (unwritten written : Pieces) : Type 0 where
  pub read : List ℕ
  pub taken : before ≡ before_taking read after
  pub more : List ℕ
  pub follows : IfSome after (λ rest. rest ≡ more)
  pub leaves : Leaves why unwritten written (shown (read ++ more))

abbrev pub ShowsLess : ShowFault → (before after : Option (List ℕ)) → (unwritten written : Pieces) → Type 0
ShowsLess fault.Read before after unwritten written = ShowsSoFar before after unwritten written
ShowsLess why before after unwritten written = ShowsUpTo why before after unwritten written
