use Rattle.std.proofs.Common.{◌*◌, ◌<◌, ◌≤◌, ◌++◌, refl, ap, sym, subst, ◌∙◌, arith, List, ℕ, length}
use Rattle.std.specs.Prelude.{Some}
use Rattle.fec_plan.specs.Partition.{Cut, IsSound, blocks, all_symbols, encoding_symbols}
use Rattle.norm_order.specs.Entries.{Whole}
use Rattle.obj_buffer.specs.Pieces.{HoldsObject}
use Rattle.tx_object.specs.Held.{HeldObject, octets_in, LiesIn, AnswersSymbol}
use Rattle.tx_object.specs.Round.{round}
use Rattle.tx_object.proofs.HeldLemmas.{answer_past, answer_none, answer_some, pieces_long, front_whole}
use Rattle.tx_object.proofs.held.Held.symbol.Goals as goal

pub returns-then-block-blocks : goal.returns-then-block-blocks
returns-then-block-blocks c = λ p octets holds.
    let same = ap (λ (h : HeldObject). h.cut) c.self.view_is in
    answer_past c.args.self.now.cut (octets_in c.args.ring.now c.args.self.now) p c.args.self.now.kind c.args.self.now.info octets c.args.out.now c.args.out.now c.args.block c.args.symbol
    holds (subst IsSound same c.blocks-2.ensures.sound)
    (subst (λ (k : Cut). blocks k ≤ c.args.block) same (omega (arith, c.blocks-2.ensures.exact, c.if-block-blocks.true))) refl

pub returns-then-symbol-encoded_len : goal.returns-then-symbol-encoded_len
returns-then-symbol-encoded_len c = λ p octets holds.
    let same = ap (λ (h : HeldObject). h.cut) c.self.view_is in
    answer_none c.args.self.now.cut (octets_in c.args.ring.now c.args.self.now) p c.args.self.now.kind c.args.self.now.info octets c.args.out.now c.args.out.now c.args.block c.args.symbol
    holds (subst IsSound same c.blocks-2.ensures.sound)
    (subst (λ (k : Cut). c.args.block < blocks k) same (omega (arith, c.blocks-2.ensures.exact, c.if-block-blocks.false)))
    (subst (λ (k : Cut). encoding_symbols k c.args.block ≤ c.args.symbol) same (omega (arith, c.encoded_len.ensures, c.if-symbol-encoded_len.true))) refl

pub symbol_of-requires-clause-pieces : goal.symbol_of-requires-clause-pieces
symbol_of-requires-clause-pieces c =
    let plan = c.self.inside.plan in
    let looked = c.taken.ensures.exact ∙ ap (λ (h : HeldObject). all_symbols h.cut * h.cut.e) (sym c.self.view_is) in
    let lies = subst (λ (h : HeldObject). LiesIn c.args.ring.now h) (sym c.self.view_is) c.requires.lies in
    pieces_long c.args.ring.now c.pieces.result.0.now c.pieces.result.1.now c.self.inside.start c.taken.result c.pieces.ensures.octets
    lies.start (omega (arith, looked, lies.room)) ∙ looked

pub symbol_of-requires-clause-whole : goal.symbol_of-requires-clause-whole
symbol_of-requires-clause-whole c =
    let plan = c.self.inside.plan in
    let looked = c.taken.ensures.exact ∙ ap (λ (h : HeldObject). all_symbols h.cut * h.cut.e) (sym c.self.view_is) in
    let lies = subst (λ (h : HeldObject). LiesIn c.args.ring.now h) (sym c.self.view_is) c.requires.lies in
    let least : 64 ≤ plan.e = c.blocks-2.ensures.sound.least_e in
    front_whole plan.e (all_symbols plan) c.self.inside.start (length c.args.ring.now) c.taken.result (length c.pieces.result.0.now)
    (omega (arith, least)) c.pieces.ensures.front_len looked lies.ring_whole lies.start_whole

pub returns : goal.returns
returns c = λ p octets holds.
    let plan = c.self.inside.plan in
    let looked = c.taken.ensures.exact ∙ ap (λ (h : HeldObject). all_symbols h.cut * h.cut.e) (sym c.self.view_is) in
    let held = subst (λ (h : HeldObject). HoldsObject h.cut (octets_in c.args.ring.now h) p octets) (sym c.self.view_is) holds in
    let in_pieces = subst (λ (xs : List ℕ). HoldsObject plan xs p octets)
    (sym (c.pieces.ensures.octets ∙ ap (round c.args.ring.now c.self.inside.start) looked)) held in
    subst (λ (h : HeldObject). AnswersSymbol p (Whole h.kind h.info octets) c.args.block c.args.symbol c.args.out.now c.symbol_of.new.out (Some c.symbol_octets.result))
    c.self.view_is
    (answer_some plan (c.pieces.result.0.now ++ c.pieces.result.1.now) p c.self.inside.kind c.self.inside.info octets c.args.out.now c.symbol_of.new.out c.args.block c.args.symbol
    c.symbol_octets.result in_pieces c.blocks-2.ensures.sound (omega (arith, c.blocks-2.ensures.exact, c.if-block-blocks.false))
    (omega (arith, c.encoded_len.ensures, c.if-symbol-encoded_len.false)) (c.symbol_of.ensures p c.self.inside.kind c.self.inside.info octets in_pieces) c.symbol_octets.ensures)
