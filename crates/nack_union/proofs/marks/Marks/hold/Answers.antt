use Rattle.std.proofs.Common.{◌≡◌, ℕ, ◌*◌, ◌≤◌, ◌⊎◌, inl, inr, Bool, false, subst, arith}
use Rattle.fec_plan.specs.Partition.{encoding_symbols}
use Rattle.nack_union.specs.Adding.{IsPlanned}
use Rattle.nack_union.proofs.Numbered.{kept_from, length-padded}
use Rattle.nack_union.proofs.Shifted.{rises_up}
use Rattle.nack_union.proofs.Wholes.{few_encoded}
use Rattle.nack_union.proofs.marks.Marks.hold.Goals as goal

-- slot 0 is asked for of an object alone that is whole
plain_or_first : {P : Type 0} {Q : Type 0} {R : Type 0} {S : Type 0} (first : ℕ) (info : Bool) → (first ≡ 0) ⊎ (P × (info ≡ false)) → (info ≡ false → Q × R × S) → (first ≡ 0) ⊎ S
plain_or_first first info (inl e) plain = inl e
plain_or_first first info (inr both) plain = inr (plain both.1).2

pub returns : goal.returns
returns c =
    let few : encoding_symbols c.self.inside.plan 0 ≤ 255 = let top = c.encoded_len.type_inv in let is = c.encoded_len.ensures in omega (arith, top, is) in
    subst IsPlanned c.self.view_is (record {
      sound = c.blocks-2.ensures.sound;
      closed = c.self.invariant.closed;
      whole = c.self.invariant.whole;
      few = λ block. few_encoded c.self.inside.plan block c.blocks-2.ensures.sound few;
      counts = λ block le. c.self.invariant.behind block (let pad = length-padded c.self.inside.first c.self.inside.counts.items in omega (arith, le, pad));
      kept = λ slot here.
          kept_from c.self.inside.first slot c.self.inside.asked.members
          (plain_or_first c.self.inside.first c.self.inside.info c.self.invariant.moves c.self.invariant.plain) here;
      rises = rises_up (256 * c.self.inside.first) c.self.inside.asked.members c.rises.ensures;
    })
