use Rattle.std.proofs.Common.{◌≡◌, ℕ, ◌-◌, inl, List, [], ◌++◌, length, replicate, Bool, refl, sym, ap, subst, ◌∙◌, arith, nat_lt}
use Rattle.std.specs.Prelude.{get_or}
use Rattle.std.proofs.lemmas.List.{length-replicate}
use Rattle.fec_plan.specs.Partition.{Cut, symbol_number}
use Rattle.norm_order.specs.Sets.{is_member}
use Rattle.nack_union.specs.Repairs.{shape_closed}
use Rattle.nack_union.specs.Coverage.{Covered}
use Rattle.nack_union.specs.Kept.{Marked}
use Rattle.nack_union.specs.Sound.{slots_from}
use Rattle.nack_union.proofs.Idle.{zeros}
use Rattle.symbol_mask.proofs.Ranges.{no_member}
use Rattle.nack_union.proofs.Streams.{number_zero}
use Rattle.std.specs.List.{AllByRecursion}
use Rattle.nack_union.specs.Sound.{HasNumber}
use Rattle.nack_union.proofs.marks.Marks.with_room.Goals as goal

abbrev of : Cut → ℕ → Bool → List ℕ → List ℕ → List ℕ → List ℕ → Marked
of cut closed info wants sent asked counts =
    record { cut = cut; closed = closed; info = info; first = 0; wants = slots_from 0 wants; sent = slots_from 0 sent; asked = slots_from 0 asked; counts = replicate 0 0 ++ counts }

pub returns : goal.returns
returns c =
    let none : c.in_ok-counts.counts.items ≡ replicate c.min-room.result 0 = c.in_ok-counts.ensures.items_if_clones_equal (λ _ e. e) in
    let room : c.min-room.result ≡ c.args.room = let is = c.min-room.ensures in let many = c.blocks-2.ensures.exact in let fits = c.requires.within in omega (arith, is, many, fits) in
    ap (λ xs. of c.args.plan.now c.args.closed c.args.info xs c.in_ok-sent.sent.members c.in_ok-asked.asked.members c.in_ok-counts.counts.items) c.in_ok-wants.ensures.empty
    ∙ ap (λ xs. of c.args.plan.now c.args.closed c.args.info [] xs c.in_ok-asked.asked.members c.in_ok-counts.counts.items) c.in_ok-sent.ensures.empty
    ∙ ap (λ xs. of c.args.plan.now c.args.closed c.args.info [] [] xs c.in_ok-counts.counts.items) (ap (λ (v : Covered). v.members) c.in_ok-asked.ensures)
    ∙ ap (of c.args.plan.now c.args.closed c.args.info [] [] []) (none ∙ ap (λ n. replicate n 0) room)

pub invariant_of-result : goal.invariant_of-result
invariant_of-result c =
    let none : c.in_ok-counts.counts.items ≡ replicate c.min-room.result 0 = c.in_ok-counts.ensures.items_if_clones_equal (λ _ e. e) in
    let many : length c.in_ok-counts.counts.items ≡ c.min-room.result = ap length none ∙ length-replicate {A = ℕ} c.min-room.result 0 in
    let room : c.min-room.result ≡ c.args.room = let is = c.min-room.ensures in let all = c.blocks-2.ensures.exact in let fits = c.requires.within in omega (arith, is, all, fits) in
    record {
      wants = let size = c.in_ok-wants.ensures.size in omega (arith, size, many);
      most = let is = c.min-room.ensures in let most = c.blocks-2.ensures.most in omega (arith, is, most, many);
      front = omega arith;
      moves = inl refl;
      sent = let size = c.in_ok-sent.ensures.size in omega (arith, size, many);
      closed = c.requires.few;
      whole = c.requires.whole;
      behind = λ block le. c.requires.behind block (omega (arith, le, many, room));
      asked =
          ap (λ (v : Covered). v.shape) c.in_ok-asked.ensures
          ∙ ap (shape_closed c.args.plan.now) (let z = number_zero c.args.plan.now in let e : c.args.closed ≡ c.args.closed - symbol_number c.args.plan.now 0 0 = omega (arith, z) in e);
      room = ap (λ (v : Covered). v.room) c.in_ok-asked.ensures ∙ sym many;
      idle = λ e. (ap (λ (v : Covered). v.members) c.in_ok-asked.ensures, none ∙ ap (λ n. replicate n 0) (sym many));
      counted = λ block some. absurd (let zero-is = ap (λ (xs : List ℕ). get_or xs block 0) none ∙ zeros c.min-room.result block in omega (arith, zero-is, some));
      numbers = subst (AllByRecursion (HasNumber 0)) (sym c.in_ok-wants.ensures.empty) tt;
      named = subst (AllByRecursion (HasNumber 0)) (sym (ap (λ (v : Covered). v.members) c.in_ok-asked.ensures)) tt;
      wanted = ap length (sym c.in_ok-wants.ensures.empty);
      plain = λ e. (
        ap (is_member nat_lt 0) c.in_ok-wants.ensures.empty ∙ no_member 0,
        ap (is_member nat_lt 0) c.in_ok-sent.ensures.empty ∙ no_member 0,
        ap (λ (v : Covered). is_member nat_lt 0 v.members) c.in_ok-asked.ensures ∙ no_member 0,
      );
    }
