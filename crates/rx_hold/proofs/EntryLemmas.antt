-- Words of the rules that look at one block of an object of either kind: two states that hold the same of the block, and are as far
-- in the object, give the same word. What was handed up whole of a stream is not needed any more.
use Rattle.std.proofs.Common.{◌≡◌, ℕ, ◌+◌, ◌<◌, Bool, true, false, refl, sym, ap, subst, ◌∙◌, Option, Some, None, List, [], ◌∷◌, length}
use Rattle.std.specs.Prelude.{◌==◌, ◌-◌, ◌&&◌, ◌||◌, nat_le}
use Rattle.std.specs.List.{list_any}
use Rattle.norm_base.specs.Settings.{Settings}
use Rattle.fec_plan.specs.Partition.{source_symbols}
use Rattle.fec_plan.specs.Points.{position}
use Rattle.fec_plan.specs.declared.position.Position.{Position}
use Rattle.norm_order.specs.First.{first_where}
use Rattle.norm_receive_rules.specs.Holding.{Holding, Plan, Held}
use Rattle.norm_receive_rules.specs.Laws.{HasPassed, PassedBy, IsPassed, IsAtStart}
use Rattle.norm_receive_rules.specs.Plans.{cut_of_plan, says_stream, plan_of, held_of, holds, lacking, is_done, first_block}
use Rattle.norm_receive_rules.specs.Putting.{put_by, is_far, is_misfit}
use Rattle.norm_receive_rules.specs.declared.words.Put.{Put}
use Rattle.norm_receive_rules.specs.declared.words.Put.TheVariants as put

-- they hold the same of a block of an object, and are as far in the object
pub record AreAlikeAt (s t : Holding) (index block : ℕ) : Type 0 where
  pub held : held_of s index block ≡ held_of t index block
  pub first : first_block s index ≡ first_block t index

pub holds_at : (s t : Holding) (at : Position) → AreAlikeAt s t at.index at.block → holds s at ≡ holds t at
holds_at s t at alike = ap (list_any (λ (h : Held). h.at.symbol == at.symbol)) alike.held

pub lacking_at : (s t : Holding) (plan : Plan) (block : ℕ) → AreAlikeAt s t plan.index block → lacking s plan block ≡ lacking t plan block
lacking_at s t plan block alike = ap (λ (hs : List Held). source_symbols (cut_of_plan plan) block - length hs) alike.held

pub done_at : (s t : Holding) (plan : Plan) (block : ℕ) → AreAlikeAt s t plan.index block → is_done s plan block ≡ is_done t plan block
done_at s t plan block alike = ap (λ n. n == 0) (lacking_at s t plan block alike)

pub far_at : (p : Settings) (s t : Holding) (plan : Plan) (block : ℕ) → AreAlikeAt s t plan.index block → is_far p s plan block ≡ is_far p t plan block
far_at p s t plan block alike = ap (λ n. says_stream plan.flags && nat_le (n + p.blocks) block) alike.first

abbrev word : Bool → Bool → Bool → Put
word had far misfit = elim (first_where ((had, put.Had) ∷ (far, put.Away) ∷ (misfit, put.Unfit) ∷ [])) [ Some w ↦ w | None ↦ put.Kept ]

pub put_by_at : (p : Settings) (s t : Holding) (plan : Plan) (block symbol : ℕ) (payload : List ℕ) → AreAlikeAt s t plan.index block
    → put_by p s plan (position plan.index block symbol) payload ≡ put_by p t plan (position plan.index block symbol) payload
put_by_at p s t plan block symbol payload alike =
    ap (λ b. word (b || is_done s plan block) (is_far p s plan block) (is_misfit p plan (position plan.index block symbol) payload)) (holds_at s t (position plan.index block symbol) alike)
    ∙ ap (λ b. word (holds t (position plan.index block symbol) || b) (is_far p s plan block) (is_misfit p plan (position plan.index block symbol) payload)) (done_at s t plan block alike)
    ∙ ap (λ b. word (holds t (position plan.index block symbol) || is_done t plan block) b (is_misfit p plan (position plan.index block symbol) payload)) (far_at p s t plan block alike)

-- ---- what was handed up whole

done_had : (a far misfit : Bool) → word (a || true) far misfit ≡ put.Had
unfolding first_where
done_had true far misfit = refl
done_had false far misfit = refl

abbrev passed_by : (p : Settings) (s : Holding) (plan : Plan) → Bool → Type 0
passed_by p s plan stream = elim stream as (λ _. Type 0) [ true ↦ IsPassed p s plan | false ↦ IsAtStart s ]

pub earlier_done : (p : Settings) (s : Holding) (plan : Plan) (block : ℕ) → HasPassed p s → plan_of s s.point.index ≡ Some plan → says_stream plan.flags ≡ true
    → block < s.point.block → is_done s plan block ≡ true
earlier_done p s plan block passed found stream lt =
    (let is : IsPassed p s plan = subst (passed_by p s plan) stream (subst (PassedBy p s) found passed) in is.done block lt)

pub put_earlier : (p : Settings) (s : Holding) (plan : Plan) (at : Position) (payload : List ℕ) → HasPassed p s → plan_of s s.point.index ≡ Some plan → says_stream plan.flags ≡ true
    → at.block < s.point.block → put_by p s plan at payload ≡ put.Had
put_earlier p s plan at payload passed found stream lt =
    ap (λ b. word (holds s at || b) (is_far p s plan at.block) (is_misfit p plan at payload)) (earlier_done p s plan at.block passed found stream lt)
    ∙ done_had (holds s at) (is_far p s plan at.block) (is_misfit p plan at payload)
