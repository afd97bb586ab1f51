use Rattle.std.proofs.Common.{ap, sym, subst, ◌∙◌}
use Rattle.std.specs.Prelude.{option_copied}
use Rattle.tx_window.specs.WindowState.{reads, WindowState, Stands, entry_reads}
use Rattle.tx_window.proofs.ListLemmas.{found_at}
use Rattle.tx_window.specs.EntryPlaces.{held_info}
use Rattle.tx_window.specs.WindowSound.{window_view}
use Rattle.tx_window.proofs.KeptLemmas.{found, not_kept, info_some, info_none, short_info, info_short}
use Rattle.tx_window.proofs.ObjectsLemmas.{placed_there}
use Rattle.tx_window.proofs.window.Window.info.Goals as goal

pub returns-clause-exact : goal.returns-clause-exact
returns-clause-exact c = λ s stands.
    let w = window_view c.self.inside in
    let here = subst (λ (v : WindowState). Stands v s) (sym c.self.view_is) stands in
    let f = found w s c.args.index c.in-Some.entry.now here c.in-Some.ensures in
    c.info.ensures.exact (entry_reads w (reads s) c.args.index f.entry.object) f.stands ∙ sym (info_some s c.args.index f.entry.object f.kept)

pub returns-clause-short : goal.returns-clause-short
returns-clause-short c =
    let w = c.self.inside in
    let e = c.in-Some.entry.now in
    short_info (option_copied c.info.result) (held_info e) w.profile.e c.args.self.now.p.e c.info.ensures.held (ap (λ (v : WindowState). v.p.e) c.self.view_is)
    (info_short w.ring w.profile w.held.items (placed_there w.ring w.profile w.held.items c.self.invariant.placed) _ e (found_at w.dropped c.args.index w.held.items e c.in-Some.ensures))

pub returns-in_default-clause-exact : goal.returns-in_default-clause-exact
returns-in_default-clause-exact c = λ s stands.
    let w = window_view c.self.inside in
    let here = subst (λ (v : WindowState). Stands v s) (sym c.self.view_is) stands in
    sym (info_none s c.args.index (not_kept w s c.args.index here c.in_default.ensures))
