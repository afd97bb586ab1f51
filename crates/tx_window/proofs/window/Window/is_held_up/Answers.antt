use Rattle.std.proofs.Common.{◌≡◌, refl, sym, subst, ◌∙◌, take, Bool, false, true}
use Rattle.std.specs.Prelude.{not}
use Rattle.norm_send_rules.specs.Room.{window, may_all_go}
use Rattle.tx_window.specs.WindowState.{WindowState, Stands}
use Rattle.tx_window.specs.WindowSound.{window_view}
use Rattle.tx_window.proofs.KeptLemmas.{are_entries}
use Rattle.tx_window.proofs.window.Window.is_held_up.Goals as goal

pub returns : goal.returns
returns c = λ s stands held.
    let w = c.self.inside in
    let here = subst (λ (v : WindowState). Stands v s) (sym c.self.view_is) stands in
    subst (λ (v : WindowState). may_all_go v.p s v.dropped (take 1 (window s)) ≡ false) c.self.view_is
    (sym (c.may_all_go.ensures w.ring s (window s) (are_entries (window_view w) s here) here.past) ∙ flipped _ held)
  where
    flipped : (b : Bool) → not b ≡ true → b ≡ false
    flipped true e = absurd (cc)
    flipped false e = refl
