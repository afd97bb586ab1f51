use Rattle.std.proofs.Common.{◌≡◌, ◌+◌, ◌-◌, ◌<◌, ◌≤◌, List, Option, sym, ap, ◌∙◌, subst, arith, length, None}
use Rattle.norm_base.specs.Settings.{Settings}
use Rattle.norm_receive_rules.specs.Fitting.{fit_of, with_plan}
use Rattle.norm_receive_rules.specs.Holding.{new_plan}
use Rattle.norm_receive_rules.specs.declared.words.Fit.TheVariants as fit
use Rattle.rx_hold.specs.EntryState.{entry_of}
use Rattle.rx_hold.specs.EntryHold.{EntryHold, StandsFor, at_place}
use Rattle.rx_hold.specs.Fits.{empty_entry}
use Rattle.rx_hold.specs.declared.ring.Seat.{Seat}
use Rattle.rx_hold.proofs.TakeLemmas.{taken_stands}
use Rattle.rx_hold.proofs.UntakeLemmas.{taken_unused}
use Rattle.rx_hold.proofs.front.Front.take_up.Goals as goal

pub returns-clause-state : goal.returns-clause-state
returns-clause-state c = λ s stands word.
    let f = c.args.self.now in
    let g = c.reserve.new.self in
    let may = c.requires.may in
    let held = c.in_ok-reserve.ensures in
    let i = c.args.index - g.point in
    let at : g.point + i ≡ c.args.index = omega (arith, held.point, may.reached) in
    let lt : i < length g.ring.items = omega (arith, held.point, may.reached, may.near, held.sound.places) in
    let none : at_place g.ring.items i ≡ None =
    ap (λ (r : List (Option Seat)). at_place r i) held.ring ∙ ap (λ n. at_place f.ring.items (c.args.index - n)) held.point ∙ may.new in
    subst (λ (h : EntryHold). StandsFor h (with_plan c.args.index c.args.fti.now c.args.flags s)) (sym c.seat.ensures.view)
    (taken_stands g s c.args.index i c.args.fti.now c.args.flags (entry_of c.in_ok-entry.entry) held.sound (subst (λ (h : EntryHold). StandsFor h s) (sym held.view) stands) at lt none
    (c.in_ok-entry.ensures.state ∙ ap (λ (p : Settings). empty_entry (new_plan c.args.index c.args.fti.now c.args.flags) p.blocks) (c.profile.view_is ∙ sym held.profile))
    (subst (λ (p : Settings). fit_of p s c.args.index c.args.fti.now c.args.flags ≡ fit.Taken) (sym held.profile) word))

pub returns-clause-unused : goal.returns-clause-unused
returns-clause-unused c =
    let g = c.reserve.new.self in
    let may = c.requires.may in
    let held = c.in_ok-reserve.ensures in
    let h = c.seat.new.self in
    let reached : h.point ≤ c.args.index = omega (arith, c.seat.ensures.point, held.point, may.reached) in
    taken_unused h c.args.index _ (new_plan c.args.index c.args.fti.now c.args.flags) _ c.seat.ensures.sound reached
    (ap (λ n. at_place h.ring.items (c.args.index - n)) c.seat.ensures.point ∙ c.seat.ensures.there) c.in_ok-entry.ensures.state
