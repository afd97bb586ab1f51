-- What is promised of the relation between books and states.
use Rattle.norm_base.specs.Settings.{Settings}
use Rattle.norm_send_rules.specs.SenderState.{SenderState}
use Rattle.mark_book.specs.BookState.{BookState, Stands}

-- each book stands for some state, at some profile
abbrev pub EachBookStands : Type 0
EachBookStands = (b : BookState) → (p : Settings) × (s : SenderState) × Stands p b s
