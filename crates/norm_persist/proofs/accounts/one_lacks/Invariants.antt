use Rattle.std.proofs.Common.{◌≡◌, drop}
use Rattle.norm_base.specs.Settings.{Settings}
use Rattle.norm_send_rules.specs.SenderState.{SenderState}
use Rattle.mark_book.specs.BookState.{Stands}
use Rattle.norm_persist.specs.Accounts.{last_position}
use Rattle.norm_persist.specs.Persisting.{one_lacks}
use Rattle.norm_persist.proofs.accounts.one_lacks.Given as goal

abbrev pub invariant-loop-account : goal.invariant-loop-account
invariant-loop-account l =
    (p : Settings) (s : SenderState) → Stands p l.book s → l.last ≡ last_position p s
    → one_lacks p s l.accounts ≡ one_lacks p s (drop l.account-index l.accounts)
