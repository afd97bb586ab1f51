use Rattle.std.proofs.Common.{ℕ, ap, sym, subst, ◌∙◌, refl, Some}
use Rattle.std.specs.Prelude.{option_map}
use Rattle.norm_ext.specs.declared.fti.Fti.{Fti}
use Rattle.norm_send_rules.specs.Messages.{fti_of_object}
use Rattle.tx_window.specs.WindowState.{reads, WindowState, Stands, entry_reads}
use Rattle.tx_window.specs.Asked.{kept_at, about_of}
use Rattle.tx_window.specs.declared.window.About.{About}
use Rattle.tx_window.specs.WindowSound.{window_view}
use Rattle.tx_window.proofs.KeptLemmas.{found, not_kept, of_kept, none_of}
use Rattle.tx_window.proofs.window.Window.about.Goals as goal

pub returns-clause-exact : goal.returns-clause-exact
returns-clause-exact c = λ s stands.
    let w = window_view c.self.inside in
    let here = subst (λ (v : WindowState). Stands v s) (sym c.self.view_is) stands in
    let f = found w s c.args.index c.in-Some.entry.now here c.in-Some.ensures in
    let r = entry_reads w (reads s) c.args.index f.entry.object in
    let fti = c.fti-fti.ensures.exact r f.stands refl in
    let flags = c.flags-flags.ensures r f.stands in
    ap (λ (x : Fti). Some (let a : About = record { fti = x; flags = c.flags-flags.result } in a)) fti
    ∙ ap (λ (n : ℕ). Some (let a : About = record { fti = fti_of_object w.p f.entry.object; flags = n } in a)) flags
    ∙ sym (of_kept (about_of w.p) s c.args.index f.entry.object f.kept)
    ∙ ap (λ (v : WindowState). option_map (about_of v.p) (kept_at s c.args.index)) c.self.view_is

pub returns-in_default-clause-exact : goal.returns-in_default-clause-exact
returns-in_default-clause-exact c = λ s stands.
    let w = window_view c.self.inside in
    let here = subst (λ (v : WindowState). Stands v s) (sym c.self.view_is) stands in
    sym (none_of (about_of c.args.self.now.p) s c.args.index (not_kept w s c.args.index here c.in_default.ensures))
