-- What the check finds of each receiver's hand-ups.
use Rattle.std.specs.Prelude.{ℕ, ⊤, Bool, false, List, [], ◌∷◌, Option, None, Some, if◌then◌else◌}
use Rattle.std.specs.Option.{option_map}
use Rattle.norm_order.specs.declared.up.Up.{Up}
use Rattle.norm_mirror.specs.Checking.{Checked, checked, is_done, file_at, IsDigestOf}
use Rattle.norm_mirror.specs.declared.entry.Entry.{Entry}
use Rattle.norm_record.specs.declared.ups.HandUp.{HandUp}
use Rattle.norm_arrival.specs.HandedBy.{ups_of}
use Rattle.norm_mirror.specs.declared.outcome.Unlike.{Unlike}

-- what is wrong with a receiver's hand-ups: the first that was refused, or nothing if some are missing; and the name of the file that was due
abbrev pub unlike : ℕ → Checked → Unlike
unlike node s = record { node = node; fault = s.refused; name = option_map (λ (e : Entry). e.name) (file_at s s.files) }

-- nothing was refused, and the manifest and all its files were taken
abbrev pub is_like : Checked → Bool
is_like s = elim s.refused [ Some why ↦ false | None ↦ is_done s ]

-- the first of these receivers whose hand-ups are no folder
abbrev pub first_unlike : List (ℕ × Up) → List ℕ → Option Unlike
first_unlike handed [] = None
first_unlike handed (node ∷ nodes) =
    if is_like (checked (ups_of node handed)) then first_unlike handed nodes else Some (unlike node (checked (ups_of node handed)))

-- the digests of these hand-ups, in the same order
abbrev pub AreDigests : List HandUp → List (List ℕ) → Type 0
AreDigests [] [] = ⊤
AreDigests (h ∷ ups) (digest ∷ digests) = IsDigestOf h.up digest × AreDigests ups digests
AreDigests _ _ = ⊥
