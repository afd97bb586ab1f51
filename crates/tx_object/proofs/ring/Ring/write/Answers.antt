use Rattle.std.proofs.Common.{◌≡◌, ◌+◌, ◌++◌, ap, sym, subst, ◌∙◌, arith, List, ℕ, length, take, drop}
use Rattle.tx_object.specs.Round.{round, IsClear}
use Rattle.tx_object.proofs.RoundLemmas.{IsWritten, put_round, written_round, others_round, kept_back}
use Rattle.tx_object.proofs.ring.Ring.write.Goals as goal

-- the ring's octets after both parts were put
abbrev after : goal.After-self-2-1 → List ℕ
after c =
    take c.self.inside.octets.len (c.put-2.new.octets ++ drop (length c.put-2.new.octets)
    (take c.self.inside.octets.len (c.put.new.octets ++ drop (length c.put.new.octets) c.self.inside.octets.items)))

written : (c : goal.After-self-2-1) → IsWritten c.self.inside.octets.items (after c) c.args.piece.now c.args.start
written c =
    let items = c.self.inside.octets.items in
    let long : c.self.inside.octets.len ≡ length items = sym c.deref_mut.ensures.len ∙ ap length c.deref_mut.ensures.value in
    let value = c.deref_mut.ensures.value in
    let first_long : length c.put.new.octets ≡ length items = c.put.auto.octets ∙ ap length value in
    let mid = kept_back c.put.new.octets items c.self.inside.octets.len first_long long in
    let again : length (take c.self.inside.octets.len (c.put.new.octets ++ drop (length c.put.new.octets) items)) ≡ length items = ap length mid ∙ first_long in
    let last_long : length c.put-2.new.octets ≡ length (take c.self.inside.octets.len (c.put.new.octets ++ drop (length c.put.new.octets) items)) =
    c.put-2.auto.octets ∙ ap length c.deref_mut-2.ensures.value in
    put_round items c.put.new.octets (after c) c.split_at.result.0.now c.split_at.result.1.now c.args.piece.now c.args.start c.min-in_front.result
    (c.put.ensures ∙ ap (λ (xs : List ℕ). take c.args.start xs ++ c.split_at.result.0.now ++ drop (c.args.start + length c.split_at.result.0.now) xs) value)
    (kept_back c.put-2.new.octets (take c.self.inside.octets.len (c.put.new.octets ++ drop (length c.put.new.octets) items)) c.self.inside.octets.len last_long (long ∙ sym again)
    ∙ c.put-2.ensures
    ∙ ap (λ (xs : List ℕ). c.split_at.result.1.now ++ drop (0 + length c.split_at.result.1.now) xs) (c.deref_mut-2.ensures.value ∙ mid))
    c.split_at.ensures.front c.split_at.ensures.back
    (omega (arith, c.min-in_front.ensures, c.len.ensures, long))
    (omega (arith, ap length c.self.view_is)) (omega (arith, ap length c.self.view_is))

pub returns-clause-written : goal.returns-clause-written
returns-clause-written c =
    written_round c.self.inside.octets.items (after c) c.args.piece.now c.args.start (written c) (omega (arith, ap length c.self.view_is)) (omega (arith, ap length c.self.view_is))

pub returns-clause-others : goal.returns-clause-others
returns-clause-others c = λ other len clear.
    others_round c.self.inside.octets.items (after c) c.args.piece.now c.args.start other len (written c) (omega (arith, ap length c.self.view_is))
    (subst (λ n. IsClear n c.args.start (length c.args.piece.now) other len) (sym (ap length c.self.view_is)) clear)
    ∙ ap (λ (xs : List ℕ). round xs other len) c.self.view_is
