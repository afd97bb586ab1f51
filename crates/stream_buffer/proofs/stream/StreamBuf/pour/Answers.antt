use Rattle.std.proofs.Common.{◌<◌, ◌++◌, ◌∙◌, refl, ap, sym, subst, arith, ℕ, List, length, take}
use Rattle.std.proofs.lemmas.Bool.{eqb-false, eqb-true}
use Rattle.std.proofs.lemmas.List.{take-append-drop}
use Rattle.stream_buffer.specs.StreamState.{StreamState}
use Rattle.stream_buffer.proofs.MovesLemmas.{Pours, pours_row, pours_named, pours_few, pours_open, pours_on, poured, no_octets}
use Rattle.stream_buffer.proofs.stream.StreamBuf.pour.Goals as goal

pub rest-init : goal.rest-init
rest-init c = record { goes = refl; used = refl }

some : (c : goal.After-fill-arg-1) → 0 < length c.rest.rest.now
some c = let h = eqb-false (length c.rest.rest.now) 0 (sym c.is_empty.ensures ∙ c.rest-test.true) in omega (arith, h)

some_e : (c : goal.After-fill-arg-1) → 0 < c.rest.self.cut.e
some_e c = omega (arith, c.self.invariant.least_e, ap (λ (v : StreamState). v.cut.e) c.self.view_is)

pub fill-requires-clause-free : goal.fill-requires-clause-free
fill-requires-clause-free c = pours_row c.rest.self c.args.self.now c.rest.rest.now c.args.bytes.now c.rest.invariant (some c) (some_e c) c.requires.free

pub fill-requires-clause-named : goal.fill-requires-clause-named
fill-requires-clause-named c = pours_named c.rest.self c.args.self.now c.rest.rest.now c.args.bytes.now c.rest.invariant (some c) (some_e c) c.requires.named

pub fill-requires-clause-few : goal.fill-requires-clause-few
fill-requires-clause-few c =
    omega (arith, pours_few c.rest.self c.args.self.now c.rest.rest.now c.args.bytes.now c.rest.invariant, c.requires.few, c.split_at.ensures.front_len, c.min.ensures)

pub fill-requires-clause-open : goal.fill-requires-clause-open
fill-requires-clause-open c = pours_open c.rest.self c.args.self.now c.rest.rest.now c.args.bytes.now c.rest.invariant ∙ c.requires.open

pub rest-smaller : goal.rest-smaller
rest-smaller c =
    let some = eqb-false (length c.rest.rest.now) 0 (sym c.is_empty.ensures ∙ c.rest-test.true) in
    let h : length c.split_at.result.1.now < length c.rest.rest.now =
    omega (arith, c.split_at.ensures.back_len, c.split_at.ensures.front_len, c.min.ensures, c.filled.ensures, c.from.ensures, c.self.invariant.short, some) in h

pub rest-preserved : goal.rest-preserved
rest-preserved c =
    pours_on c.rest.self c.args.self.now c.fill.new.self c.split_at.result.0.now c.split_at.result.1.now c.rest.rest.now c.args.bytes.now c.rest.invariant
    (omega (arith, c.self.invariant.least_e, ap (λ (v : StreamState). v.cut.e) c.self.view_is))
    (omega (arith, c.self.invariant.counted, ap (λ (v : StreamState). length v.filling) c.self.view_is, ap (λ (v : StreamState). v.octets) c.self.view_is))
    (ap (λ xs. xs ++ c.split_at.result.1.now) c.split_at.ensures.front
    ∙ ap (λ xs. take c.min.result c.rest.rest.now ++ xs) c.split_at.ensures.back
    ∙ take-append-drop c.min.result c.rest.rest.now)
    c.fill.ensures

pub returns : goal.returns
returns c =
    let none = no_octets c.rest.rest.now (eqb-true (length c.rest.rest.now) 0 (sym c.is_empty.ensures ∙ c.rest-test.false)) in
    poured c.rest.self c.args.self.now c.args.bytes.now
    (subst (λ (xs : List ℕ). Pours c.rest.self c.args.self.now xs c.args.bytes.now) none c.rest.invariant)
    (omega (arith, c.self-2.invariant.short, ap (λ (v : StreamState). length v.filling) c.self-2.view_is, ap (λ (v : StreamState). v.cut.e) c.self-2.view_is))
