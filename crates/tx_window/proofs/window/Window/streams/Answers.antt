use Rattle.std.proofs.Common.{sym, subst}
use Rattle.norm_send_rules.specs.Room.{window}
use Rattle.tx_window.specs.WindowState.{WindowState, Stands}
use Rattle.tx_window.specs.WindowSound.{window_view}
use Rattle.tx_window.proofs.KeptLemmas.{are_entries}
use Rattle.tx_window.proofs.window.Window.streams.Goals as goal

pub returns : goal.returns
returns c = λ s stands.
    let w = c.self.inside in
    c.count_streams.ensures w.ring w.profile w.dropped s (window s) (are_entries (window_view w) s (subst (λ (v : WindowState). Stands v s) (sym c.self.view_is) stands))
