use Rattle.std.proofs.Common.{◌≡◌, drop}
use Rattle.norm_base.specs.Settings.{Settings}
use Rattle.norm_send_rules.specs.SenderState.{SenderState}
use Rattle.mark_book.specs.BookState.{Stands}
use Rattle.norm_persist.specs.Persisting.{first_silent}
use Rattle.norm_persist.proofs.accounts.first_silent.Given as goal

abbrev pub invariant-loop-account : goal.invariant-loop-account
invariant-loop-account l =
    (p : Settings) (s : SenderState) → Stands p l.book s → first_silent l.give_up s l.accounts ≡ first_silent l.give_up s (drop l.account-index l.accounts)
