use Rattle.std.proofs.Common.{◌≡◌, ◌+◌, ◌<◌, ◌≤◌, ◌⊎◌, inl, inr, ap, ◌∙◌, arith, suc, length, drop, map}
use Rattle.std.specs.Prelude.{slice_get, Some}
use Rattle.std.proofs.lemmas.List.{length-drop, length-map, drop_all}
use Rattle.tx_window.specs.EntryPlaces.{held_size}
use Rattle.norm_base.specs.Settings.{Settings}
use Rattle.norm_send_rules.specs.Room.{has_to_go}
use Rattle.tx_window.specs.WindowSound.{all_sizes}
use Rattle.tx_object.proofs.ListLemmas.{get_there}
use Rattle.tx_window.proofs.RoomLemmas.{stops, nothing, goes_on, sizes_behind, sizes_long, left_behind}
use Rattle.tx_window.proofs.room.room_for.Goals.{else-few-via-then-few+else-left-len, else-few-via-else-few}
use Rattle.tx_window.proofs.room.room_for.Goals as goal

pub loop-place-init : goal.loop-place-init
loop-place-init c = record { most = omega arith; left = c.requires.octets; exact = λ entries are. omega arith }

pub overflow_add-left : goal.overflow_add-left
overflow_add-left c = grind (arith, c.loop-place.invariant.most, c.requires.most, c.requires.len, ap (λ (p : Settings). p.octets) c.profile.view_is, c.profile.invariant.octets.1)

pub returns-then-left-len-clause-left : goal.returns-then-left-len-clause-left
returns-then-left-len-clause-left c = c.loop-place.invariant.left

pub returns-then-left-len-clause-exact : goal.returns-then-left-len-clause-exact
returns-then-left-len-clause-exact c = λ entries are.
    let hs = c.args.held.now.items in
    let same = c.profile.view_is in
    let none = stops c.args.profile.now c.args.len (drop c.loop-place.place entries) (map (held_size c.args.profile.now) (drop c.loop-place.place hs)) (sizes_behind c.args.profile.now c.loop-place.place entries hs are)
    (omega (arith, length-map (drop c.loop-place.place hs) (held_size c.args.profile.now), length-drop c.loop-place.place hs, ap (λ (p : Settings). p.window) same, c.if-few.true, c.from.ensures, c.len.ensures))
    (omega (arith, c.loop-place.invariant.left, ap (λ (p : Settings). p.octets) same, c.if-left-len.true)) in
    omega (arith, none, c.loop-place.invariant.exact entries are)

-- the object at the place is the one that was looked at
pub overflow_sub-left : goal.overflow_sub-left
overflow_sub-left c =
    let hs = c.args.held.now.items in
    let h = c.index.result.now in
    let found : slice_get hs c.loop-place.place ≡ Some h = get_there hs c.loop-place.place h (omega (arith, c.loop-place-test.true, c.len-place-end.ensures)) c.index.ensures in
    omega (arith, left_behind c.args.profile.now c.loop-place.place hs h found, c.loop-place.invariant.left, c.size.ensures.held)

pub loop-place-preserved : goal.loop-place-preserved
loop-place-preserved c =
    let p = c.args.profile.now in
    let hs = c.args.held.now.items in
    let n = c.loop-place.place in
    let h = c.index.result.now in
    let lt : n < length hs = omega (arith, c.loop-place-test.true, c.len-place-end.ensures) in
    let found : slice_get hs n ≡ Some h = get_there hs n h lt c.index.ensures in
    let left = left_behind p n hs h found in
    let same = c.profile.view_is in
    let at = ap (λ k. all_sizes c.args.profile.now (drop k hs)) (let e : suc n ≡ n + 1 = omega arith in e) in
    let full : (p.window ≤ length (drop n hs)) ⊎ (p.octets < all_sizes c.args.profile.now (drop n hs) + c.args.len) = elim c.else-few.branch [
      | else-few-via-then-few+else-left-len w ↦ inr (omega (arith, w.if-left-len.false, ap (λ (q : Settings). q.octets) same, c.loop-place.invariant.left))
      | else-few-via-else-few w ↦ inl (omega (arith, w.if-few.false, ap (λ (q : Settings). q.window) same, c.from.ensures, c.len.ensures, length-drop n hs))
    ] in
    record {
      most = omega (arith, c.loop-place.invariant.most);
      left = omega (arith, left, at, c.loop-place.invariant.left, c.size.ensures.held);
      exact = λ entries are.
          let one = goes_on p c.args.len n entries hs are lt full in
          let behind = ap (λ k. has_to_go p c.args.len (drop k entries)) (let e : suc n ≡ n + 1 = omega arith in e) in
          omega (arith, one, behind, c.loop-place.invariant.exact entries are);
    }

pub returns-clause-left : goal.returns-clause-left
returns-clause-left c =
    c.loop-place.invariant.left ∙ ap (λ n. all_sizes c.args.profile.now (drop n c.args.held.now.items)) (let e : c.loop-place.place ≡ c.len-2.result = omega (arith, c.loop-place-test.false, c.len-place-end.ensures, c.len-2.ensures) in e)

pub returns-clause-fit : goal.returns-clause-fit
returns-clause-fit c =
    let hs = c.args.held.now.items in
    let none = ap (all_sizes c.args.profile.now) (drop_all c.loop-place.place hs (omega (arith, c.loop-place-test.false, c.len-place-end.ensures))) in
    omega (arith, none, c.loop-place.invariant.left, c.requires.len)

pub returns-clause-exact : goal.returns-clause-exact
returns-clause-exact c = λ entries are.
    let hs = c.args.held.now.items in
    let past : length hs ≤ c.loop-place.place = omega (arith, c.loop-place-test.false, c.len-place-end.ensures) in
    let none = ap (has_to_go c.args.profile.now c.args.len) (drop_all c.loop-place.place entries (omega (arith, past, sizes_long c.args.profile.now entries (map (held_size c.args.profile.now) hs) are, length-map hs (held_size c.args.profile.now)))) in
    omega (arith, none, nothing c.args.profile.now c.args.len, c.loop-place.invariant.exact entries are, c.loop-place-test.false, c.len-place-end.ensures, c.len-2.ensures)
