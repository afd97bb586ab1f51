use Rattle.std.proofs.Common.{ap, sym, subst, ◌∙◌, Some, true, false}
use Rattle.std.specs.Prelude.{nat_lt}
use Rattle.std.proofs.lemmas.Bool.{lt-ltb, le-ltb}
use Rattle.norm_send_rules.specs.Room.{can_make_room}
use Rattle.norm_send_rules.specs.declared.fault.EnqueueFault.TheVariants.{StreamOpen, WindowFull}
use Rattle.tx_window.specs.Asked.{IsOpenAt}
use Rattle.tx_window.proofs.FaultLemmas.{joins_open, joins_then, twice}
use Rattle.tx_window.proofs.window.Window.joining_fault.Goals as goal

pub returns-in-Some-clause-exact : goal.returns-in-Some-clause-exact
returns-in-Some-clause-exact c = λ s stands.
    let is = subst (IsOpenAt s) c.in-Some.is (c.open_index.ensures s stands) in
    ap (λ n. Some (StreamOpen n)) is.1 ∙ sym (joins_open c.args.self.now.p s c.args.len is.0)

pub returns-then-next_index-gt-LAST_INDEX-clause-exact : goal.returns-then-next_index-gt-LAST_INDEX-clause-exact
returns-then-next_index-gt-LAST_INDEX-clause-exact c = λ s stands.
    let none = subst (IsOpenAt s) c.in_default.is (c.open_index.ensures s stands) in
    sym (joins_then c.args.self.now.p s c.args.len true _ none
    (ap (nat_lt 4294967294) (sym (c.next_index.ensures.exact s stands)) ∙ lt-ltb 4294967294 c.next_index.result c.if-next_index-gt-LAST_INDEX.true)
    (sym (twice (can_make_room c.args.self.now.p s c.args.len))))

pub returns-then-not-can_make_room-clause-exact : goal.returns-then-not-can_make_room-clause-exact
returns-then-not-can_make_room-clause-exact c = λ s stands.
    let none = subst (IsOpenAt s) c.in_default.is (c.open_index.ensures s stands) in
    ap (λ n. Some (WindowFull n)) ((c.first-first.ensures.exact s stands).0)
    ∙ sym (joins_then c.args.self.now.p s c.args.len false true none
    (ap (nat_lt 4294967294) (sym (c.next_index.ensures.exact s stands)) ∙ le-ltb 4294967294 c.next_index.result c.if-next_index-gt-LAST_INDEX.false)
    (sym (c.can_make_room.ensures s stands) ∙ c.if-not-can_make_room.true))

pub returns-clause-exact : goal.returns-clause-exact
returns-clause-exact c = λ s stands.
    let none = subst (IsOpenAt s) c.in_default.is (c.open_index.ensures s stands) in
    sym (joins_then c.args.self.now.p s c.args.len false false none
    (ap (nat_lt 4294967294) (sym (c.next_index.ensures.exact s stands)) ∙ le-ltb 4294967294 c.next_index.result c.if-next_index-gt-LAST_INDEX.false)
    (sym (c.can_make_room.ensures s stands) ∙ c.if-not-can_make_room.false))
