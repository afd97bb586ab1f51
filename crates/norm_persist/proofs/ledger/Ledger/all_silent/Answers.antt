use Rattle.std.proofs.Common.{◌≡◌, subst, sym}
use Rattle.norm_persist.specs.Ledger.{LedgerState}
use Rattle.norm_persist.specs.Persisting.{all_silent}
use Rattle.norm_persist.proofs.ledger.Ledger.all_silent.Goals as goal

pub returns : goal.returns
returns c = λ p s stands. subst (λ (l : LedgerState). c.all_silent.result ≡ all_silent l.give_up s l.accounts) c.self.view_is (c.all_silent.ensures p s stands)
