use Rattle.std.proofs.Common.{◌+◌, ◌<◌, ◌≤◌, ◌⊎◌, inl, inr, ap, sym, subst, ◌∙◌, take, arith, length, map}
use Rattle.std.specs.Bool.{MatchBool}
use Rattle.std.proofs.lemmas.List.{length-map}
use Rattle.norm_send_rules.specs.Room.{window, may_all_go, has_to_go}
use Rattle.tx_window.specs.EntryPlaces.{held_size}
use Rattle.tx_window.specs.WindowState.{WindowState, Stands}
use Rattle.tx_window.specs.WindowSound.{window_view, all_sizes}
use Rattle.tx_window.proofs.KeptLemmas.{are_entries, dropped_is}
use Rattle.tx_window.proofs.RoomLemmas.{sizes_are, stops, may_none, front_stays, octets_held, some_entries}
use Rattle.tx_window.proofs.window.Window.can_make_room.Goals as goal

pub returns : goal.returns
returns c = λ s stands.
    let w = c.self.inside in
    let here = subst (λ (v : WindowState). Stands v s) (sym c.self.view_is) stands in
    let are = are_entries (window_view w) s here in
    let count = c.room_for-count.ensures.exact (window s) (sizes_are w.ring w.profile w.dropped (window s) s w.held.items are) in
    c.may_all_go.ensures w.ring s (window s) are here.past
    ∙ ap (λ n. may_all_go w.profile s w.dropped (take n (window s))) count
    ∙ ap (λ d. may_all_go w.profile s d (take (has_to_go w.profile c.args.len (window s)) (window s))) (sym (dropped_is (window_view w) s here))
    ∙ ap (λ (v : WindowState). may_all_go v.p s s.current.drop.index (take (has_to_go v.p c.args.len (window s)) (window s))) c.self.view_is

pub returns-then-has_room : goal.returns-then-has_room
returns-then-has_room c = λ s stands.
    let w = c.self.inside in
    let p = w.profile in
    let here = subst (λ (v : WindowState). Stands v s) (sym c.self.view_is) stands in
    let sizes = sizes_are w.ring w.profile w.dropped (window s) s w.held.items (are_entries (window_view w) s here) in
    let octets = octets_held w.ring w.filled w.profile w.held.items w.begun w.octets c.self.invariant.octets (ap (λ (v : WindowState). v.filling) c.self.view_is ∙ c.requires.begun) in
    let room = subst (λ b. MatchBool b ((c.len.result < c.self.inside.profile.window) × (c.self.inside.octets + c.args.len ≤ c.self.inside.profile.octets)) ((c.self.inside.profile.window ≤ c.len.result) ⊎ (c.self.inside.profile.octets < c.self.inside.octets + c.args.len))) c.if-has_room.true c.has_room.ensures in
    let none = stops w.profile c.args.len (window s) (map (held_size w.profile) w.held.items) sizes (omega (arith, room, c.len.ensures, length-map w.held.items (held_size w.profile))) (omega (arith, room, octets)) in
    sym (may_none c.args.self.now.p s s.current.drop.index)
    ∙ ap (λ n. may_all_go c.args.self.now.p s s.current.drop.index (take n (window s))) (sym none ∙ ap (λ (v : WindowState). has_to_go v.p c.args.len (window s)) c.self.view_is)

pub returns-then-is_held_up : goal.returns-then-is_held_up
returns-then-is_held_up c = λ s stands.
    let w = c.self.inside in
    let here = subst (λ (v : WindowState). Stands v s) (sym c.self.view_is) stands in
    let are = are_entries (window_view w) s here in
    let sizes = sizes_are w.ring w.profile w.dropped (window s) s w.held.items are in
    let octets = octets_held w.ring w.filled w.profile w.held.items w.begun w.octets c.self.invariant.octets (ap (λ (v : WindowState). v.filling) c.self.view_is ∙ c.requires.begun) in
    let full = subst (λ b. MatchBool b ((c.len.result < c.self.inside.profile.window) × (c.self.inside.octets + c.args.len ≤ c.self.inside.profile.octets)) ((c.self.inside.profile.window ≤ c.len.result) ⊎ (c.self.inside.profile.octets < c.self.inside.octets + c.args.len))) c.if-has_room.false c.has_room.ensures in
    let more : (w.profile.window ≤ length (map (held_size w.profile) w.held.items)) ⊎ (w.profile.octets < all_sizes w.profile w.held.items + c.args.len) = elim full [
      | inl many ↦ inl (omega (arith, many, c.len.ensures, length-map w.held.items (held_size w.profile)))
      | inr much ↦ inr (omega (arith, much, octets))
    ] in
    let held = c.is_held_up.ensures s stands c.if-is_held_up.true in
    let first = ap (λ (v : WindowState). v.dropped) c.self.view_is in
    sym (ap (λ (v : WindowState). may_all_go v.p s s.current.drop.index (take (has_to_go v.p c.args.len (window s)) (window s))) (sym c.self.view_is)
    ∙ front_stays w.profile s s.current.drop.index c.args.len (window s) (map (held_size w.profile) w.held.items) sizes more
    (some_entries w.profile s s.current.drop.index (window s) (ap (λ d. may_all_go w.profile s d (take 1 (window s))) (dropped_is (window_view w) s here) ∙ ap (λ (v : WindowState). may_all_go v.p s v.dropped (take 1 (window s))) c.self.view_is ∙ held))
    (ap (λ d. may_all_go w.profile s d (take 1 (window s))) (dropped_is (window_view w) s here) ∙ ap (λ (v : WindowState). may_all_go v.p s v.dropped (take 1 (window s))) c.self.view_is ∙ held))
