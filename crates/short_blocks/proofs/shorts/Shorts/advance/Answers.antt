use Rattle.std.proofs.Common.{ℕ, subst, sym, ap, ◌∙◌, arith, refl, ◌≡◌, ◌<◌, ◌≤◌, ◌+◌, ◌^◌, length, false}
use Rattle.std.proofs.lemmas.Bool.{ltb-false}
use Rattle.short_blocks.specs.State.{ShortsState, end_of, gone_on, is_short}
use Rattle.short_blocks.specs.Sound.{next_in, window_of}
use Rattle.short_blocks.proofs.Windows.{end_seen, short_seen, gone_on_view, gone_on_window}
use Rattle.short_blocks.proofs.shorts.Shorts.advance.Goals as goal

-- of the window as it is seen: it has a block, the first one is done, and behind it is room
first_done : (start end first : ℕ) (links : _) → start ≤ end → 0 < length (window_of start end first links).short → is_short (window_of start end first links) start ≡ false
    → (start < end) × (next_in start end first links start ≡ 0)
first_done start end first links le some done =
    let seen = end_seen start end first links le in
    let lt : start < end = omega (arith, seen, some) in
    let zero = ltb-false 0 _ (sym (short_seen start end first links start (omega arith) lt) ∙ done) in
    (lt, omega (arith, zero))

pub overflow_add-end : goal.overflow_add-end
overflow_add-end c =
    let s = c.self.inside in
    let seen = end_seen s.start s.end s.first s.links.items c.self.invariant.linked.width in
    let room = subst (λ (w : ShortsState). end_of w + 1 < 2 ^ 32) (sym c.self.view_is) c.requires.room in
    omega (arith, seen, room)

pub invariant_of-self : goal.invariant_of-self
invariant_of-self c =
    let s = c.self.inside in
    let h = c.self.invariant in
    let done = first_done s.start s.end s.first s.links.items h.linked.width
    (subst (λ (w : ShortsState). 0 < length w.short) (sym c.self.view_is) c.requires.some)
    (subst (λ (w : ShortsState). is_short w w.start ≡ false) (sym c.self.view_is) c.requires.done) in
    gone_on_window s.start s.end s.first s.done_from _ s.links.items c.turn.new.links.items h done.0 done.1 refl
    c.turn.ensures.length c.turn.ensures.moved c.turn.ensures.last

pub returns : goal.returns
returns c =
    let s = c.self.inside in
    let h = c.self.invariant in
    let done = first_done s.start s.end s.first s.links.items h.linked.width
    (subst (λ (w : ShortsState). 0 < length w.short) (sym c.self.view_is) c.requires.some)
    (subst (λ (w : ShortsState). is_short w w.start ≡ false) (sym c.self.view_is) c.requires.done) in
    gone_on_view s.start s.end s.first s.done_from _ s.links.items c.turn.new.links.items h done.0 done.1 refl
    c.turn.ensures.length c.turn.ensures.moved c.turn.ensures.last
    ∙ ap gone_on c.self.view_is
