use Rattle.std.proofs.Common.{◌≡◌, ℕ, ◌-◌, ◌*◌, ◌<◌, ◌≤◌, ◌⊎◌, inl, inr, length, true, false, refl, sym, ap, subst, ◌∙◌, arith, nat_lt}
use Rattle.std.proofs.lemmas.Bool.{cases_lt}
use Rattle.norm_order.specs.Sets.{with_member, is_member}
use Rattle.nack_union.specs.Slots.{stands_from}
use Rattle.nack_union.specs.Coverage.{Covered}
use Rattle.nack_union.specs.Kept.{Marked}
use Rattle.nack_union.specs.Sound.{marks_view, slots_from}
use Rattle.norm_order.proofs.SetLemmas.{all_with}
use Rattle.nack_union.proofs.Numbered.{stands_behind_start, plain_with, length-padded}
use Rattle.nack_union.proofs.Shifted.{with_from}
use Rattle.std.specs.List.{AllByRecursion}
use Rattle.nack_union.specs.Sound.{HasNumber}
use Rattle.nack_union.proofs.marks.Marks.ask.Goals as goal

clash : true ≡ false → ⊥
clash e = cc

-- the slot does not lie before those that are kept
low : {P : Type 0} (first slot : ℕ) (m n : Marked) → m ≡ n → first ≡ m.first → (first ≡ 0) ⊎ (P × (m.info ≡ false)) → stands_from n.first slot ≡ true → (slot ≡ 0 → n.info ≡ true)
    → 256 * first ≤ slot
low {P} first slot m n same is moves kept info = go (cases_lt 0 slot) moves
  where
    go : (0 < slot) ⊎ (slot ≤ 0) → (first ≡ 0) ⊎ (P × (m.info ≡ false)) → 256 * first ≤ slot
    go (inl some) h =
        let lt = stands_behind_start first slot (ap (λ k. stands_from k slot) (is ∙ ap (λ (x : Marked). x.first) same) ∙ kept) some in
        omega (arith, lt)
    go (inr none) (inl e) = omega (arith, e)
    go (inr none) (inr both) =
        absurd (clash (sym (info (let e : slot ≡ 0 = omega (arith, none) in e)) ∙ sym (ap (λ (x : Marked). x.info) same) ∙ both.1))

-- of an object without info it is none of the first slots
some : (slot first : ℕ) (m n : Marked) → m ≡ n → first ≡ m.first → stands_from n.first slot ≡ true → (slot ≡ 0 → n.info ≡ true) → m.info ≡ false → 256 * first < slot
some slot first m n same is kept info e = go (cases_lt 0 slot)
  where
    go : (0 < slot) ⊎ (slot ≤ 0) → 256 * first < slot
    go (inl more) = stands_behind_start first slot (ap (λ k. stands_from k slot) (is ∙ ap (λ (x : Marked). x.first) same) ∙ kept) more
    go (inr none) = absurd (clash (sym (info (let f : slot ≡ 0 = omega (arith, none) in f)) ∙ sym (ap (λ (x : Marked). x.info) same) ∙ e))

pub insert-requires : goal.insert-requires
insert-requires c =
    let le = low c.self.inside.first c.args.slot (marks_view c.self.inside) c.args.self.now c.self.view_is refl c.self.invariant.moves c.requires.kept c.requires.info in
    let lt = c.requires.within in
    let many = ap (λ (m : Marked). length m.counts) c.self.view_is in
    let pad = length-padded c.self.inside.first c.self.inside.counts.items in
    let room = c.self.invariant.room in
    let start = c.start-start.ensures ∙ ap (λ (m : Marked). 256 * m.first) (sym c.self.view_is) in
    omega (arith, le, lt, many, pad, room, start)

pub invariant_of-self : goal.invariant_of-self
invariant_of-self c =
    let start = c.start-start.ensures ∙ ap (λ (m : Marked). 256 * m.first) (sym c.self.view_is) in
    record {
      wants = c.self.invariant.wants;
      most = c.self.invariant.most;
      front = c.self.invariant.front;
      moves = c.self.invariant.moves;
      sent = c.self.invariant.sent;
      closed = c.self.invariant.closed;
      whole = c.self.invariant.whole;
      behind = c.self.invariant.behind;
      asked = ap (λ (v : Covered). v.shape) c.insert.ensures ∙ c.self.invariant.asked;
      room = ap (λ (v : Covered). v.room) c.insert.ensures ∙ c.self.invariant.room;
      idle = λ e. absurd (clash e);
      counted = c.self.invariant.counted;
      numbers = c.self.invariant.numbers;
      named =
          subst (AllByRecursion (HasNumber c.self.inside.first)) (sym (ap (λ (v : Covered). v.members) c.insert.ensures))
          (all_with (HasNumber c.self.inside.first) nat_lt _ c.self.inside.asked.members
          (let le = low c.self.inside.first c.args.slot (marks_view c.self.inside) c.args.self.now c.self.view_is refl c.self.invariant.moves c.requires.kept c.requires.info in let lt = c.requires.number in omega (arith, le, lt, start)) c.self.invariant.named);
      wanted = c.self.invariant.wanted;
      plain = λ e. (
        (c.self.invariant.plain e).0,
        (c.self.invariant.plain e).1,
        ap (λ (v : Covered). is_member nat_lt 0 v.members) c.insert.ensures
            ∙ plain_with _ c.self.inside.asked.members
            (let lt = some c.args.slot c.self.inside.first (marks_view c.self.inside) c.args.self.now c.self.view_is refl c.requires.kept c.requires.info e in omega (arith, lt, start))
            (c.self.invariant.plain e).2,
      );
    }

pub returns : goal.returns
returns c =
    let le = low c.self.inside.first c.args.slot (marks_view c.self.inside) c.args.self.now c.self.view_is refl c.self.invariant.moves c.requires.kept c.requires.info in
    let start = c.start-start.ensures ∙ ap (λ (m : Marked). 256 * m.first) (sym c.self.view_is) in
    ap (λ (v : Covered). record (marks_view c.self.inside) { asked = slots_from c.self.inside.first v.members }) c.insert.ensures
    ∙ ap (λ n. record (marks_view c.self.inside) { asked = slots_from c.self.inside.first (with_member nat_lt (c.args.slot - n) c.self.inside.asked.members) }) start
    ∙ ap (λ xs. record (marks_view c.self.inside) { asked = xs }) (with_from (256 * c.self.inside.first) c.args.slot c.self.inside.asked.members le)
    ∙ ap (λ (m : Marked). record m { asked = with_member nat_lt c.args.slot m.asked }) c.self.view_is
