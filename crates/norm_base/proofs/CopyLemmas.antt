-- The members of the last start.
use Rattle.std.proofs.Common.{◌≡◌, refl, List, [], ◌∷◌, ◌++◌}
use Rattle.norm_base.specs.Copies.{members_at}
use Rattle.norm_base.specs.Members.{members_of}
use Rattle.norm_base.specs.Settings.{Settings}
use Rattle.norm_base.specs.declared.kinds.Local.{Local}

pub members_last : (starts : List (Settings × Local)) (last : Settings × Local) → members_at (starts ++ last ∷ []) ≡ members_of last.0
members_last [] last = refl
members_last (start ∷ []) last = refl
members_last (start ∷ next ∷ starts) last = members_last (next ∷ starts) last
