use Rattle.std.proofs.Common.{◌≡◌, ◌-◌, ap, sym, subst, ◌∙◌, arith}
use Rattle.std.specs.Prelude.{Some, slice_get, slice_set, nat_lt, option_to_list}
use Rattle.std.proofs.lemmas.List.{length-set}
use Rattle.fec_plan.specs.Points.{Position, position}
use Rattle.norm_order.specs.Shapes.{Shape, encoded_in}
use Rattle.norm_send_rules.specs.Sending.{noted}
use Rattle.norm_send_rules.specs.declared.want.Want.TheVariants.{Symbol}
use Rattle.tx_window.proofs.EntryFronts.{one_stays}
use Rattle.tx_object.proofs.ListLemmas.{get_there}
use Rattle.tx_window.specs.WindowState.{WindowState, Stands}
use Rattle.tx_window.specs.WindowSound.{window_view, objects_in}
use Rattle.tx_window.specs.Asked.{IsEncodedIn}
use Rattle.tx_window.proofs.ObjectsLemmas.{alike, sizes_stay, placed_stay, row_stays}
use Rattle.tx_window.proofs.StandingLemmas.{stands_sent}
use Rattle.tx_window.proofs.KeptLemmas.{shape_is}
use Rattle.tx_window.proofs.window.Window.note_sent.Goals as goal

pub note_sent-requires : goal.note_sent-requires
note_sent-requires c =
    let w = c.self.inside in
    let all = subst (λ (v : WindowState). IsEncodedIn v (position c.at.inside.index c.at.inside.block c.at.inside.symbol)) (sym c.self.view_is)
    (subst (λ (x : Position). IsEncodedIn c.args.self.now x) (sym c.at.view_is) c.requires) in
    let here = all.window in
    all.kept c.index_mut.result.now (get_there w.held.items (c.at.inside.index - w.dropped) c.index_mut.result.now (omega (arith, here.behind, here.before)) c.index_mut.ensures.value)

pub invariant_of-self : goal.invariant_of-self
invariant_of-self c =
    let w = c.self.inside in
    let old = c.self.invariant in
    let all = subst (λ (v : WindowState). IsEncodedIn v (position c.at.inside.index c.at.inside.block c.at.inside.symbol)) (sym c.self.view_is)
    (subst (λ (x : Position). IsEncodedIn c.args.self.now x) (sym c.at.view_is) c.requires) in
    let here = all.window in
    let there : slice_get w.held.items (c.at.inside.index - w.dropped) ≡ Some c.index_mut.result.now = get_there w.held.items (c.at.inside.index - w.dropped) c.index_mut.result.now (omega (arith, here.behind, here.before)) c.index_mut.ensures.value in
    let i = c.at.inside.index - w.dropped in
    let stay = one_stays w.held.items i c.index_mut.result.now c.note_sent.new.self there c.note_sent.ensures.stays in
    let same = alike w.held.items (slice_set w.held.items i c.note_sent.new.self) stay in
    record {
      ring_long = old.ring_long;
      octets = omega (arith, old.octets, sizes_stay w.profile w.held.items (slice_set w.held.items i c.note_sent.new.self) stay);
      fit = old.fit;
      few = omega (arith, old.few, length-set w.held.items i c.note_sent.new.self);
      row = row_stays w.ring w.profile (objects_in w.held.items) (objects_in (slice_set w.held.items i c.note_sent.new.self)) (option_to_list w.begun) w.free same old.row;
      placed = placed_stay w.ring w.profile (objects_in w.held.items) (objects_in (slice_set w.held.items i c.note_sent.new.self)) same old.placed;
      filling = old.filling;
      room = λ h e. omega (arith, length-set w.held.items i c.note_sent.new.self, old.room h e);
      counted = omega (arith, old.counted, length-set w.held.items i c.note_sent.new.self);
      sized = old.sized;
      numbered = omega (arith, old.numbered, length-set w.held.items i c.note_sent.new.self);
    }

pub returns-clause-stands : goal.returns-clause-stands
returns-clause-stands c = λ s stands.
    let w = c.self.inside in
    let i = c.at.inside.index - w.dropped in
    let at = position c.at.inside.index c.at.inside.block c.at.inside.symbol in
    let e = c.index_mut.result.now in
    let all = subst (λ (v : WindowState). IsEncodedIn v (position c.at.inside.index c.at.inside.block c.at.inside.symbol)) (sym c.self.view_is)
    (subst (λ (x : Position). IsEncodedIn c.args.self.now x) (sym c.at.view_is) c.requires) in
    let here = all.window in
    let there : slice_get w.held.items (c.at.inside.index - w.dropped) ≡ Some c.index_mut.result.now = get_there w.held.items (c.at.inside.index - w.dropped) c.index_mut.result.now (omega (arith, here.behind, here.before)) c.index_mut.ensures.value in
    let low = here.behind in
    subst (λ (x : Position). Stands (record (window_view w) { entries = slice_set w.held.items i c.note_sent.new.self }) (noted (Symbol x) s)) c.at.view_is
    (stands_sent (window_view w) s i e c.note_sent.new.self at there c.note_sent.ensures.first (omega (arith, low))
    (λ r stood. c.note_sent.ensures.noted r stood (ap (λ (x : Shape). nat_lt at.symbol (encoded_in x at.block)) (shape_is r e stood) ∙ all.symbol e there))
    (subst (λ (v : WindowState). Stands v s) (sym c.self.view_is) stands))
