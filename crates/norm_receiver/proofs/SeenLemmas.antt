-- That a block is seen changes no word: it may be noted before what comes with it is put, or behind that.
use Rattle.std.proofs.Common.{◌≡◌, ℕ, Bool, true, false, refl, sym, ap, subst, ◌∙◌, Option, Some, None, List}
use Rattle.std.specs.Prelude.{◌==◌, ◌&&◌, max, option_map}
use Rattle.norm_base.specs.Settings.{Settings}
use Rattle.fec_plan.specs.Points.{Point, point_of, position}
use Rattle.fec_plan.specs.declared.position.Position.{Position}
use Rattle.norm_receive_rules.specs.HandingUp.{handed_up}
use Rattle.norm_receive_rules.specs.Holding.{Holding, Plan}
use Rattle.norm_receive_rules.specs.Plans.{is_over, plan_of, says_stream}
use Rattle.norm_receive_rules.specs.Putting.{put_by, put_info_by, put_info_of, put_of, with_info, with_symbol}
use Rattle.norm_receive_rules.specs.Seeing.{plan_seen, sees_block}
use Rattle.norm_receive_rules.specs.declared.words.Put.{Put}
use Rattle.norm_receive_rules.specs.declared.words.Put.TheVariants as put
use Rattle.norm_receive_rules.proofs.PassedSteps.{seen_found}
use Rattle.rx_hold.specs.EntryHold.{EntryHold, StandsFor as HoldStands}
use Rattle.norm_receiver.specs.Receiving.{place_of, puts}
use Rattle.norm_receiver.specs.declared.receiving.Brought.{Brought}
use Rattle.norm_receiver.specs.declared.receiving.Brought.TheVariants as brought

-- ---- the word of a symbol

abbrev word_by : Settings → Holding → Position → List ℕ → Bool → Option Plan → Put
word_by p s at payload over found = elim over as (λ _. Put) [
  | true ↦ put.Had
  | false ↦ elim found as (λ _. Put) [ Some plan ↦ put_by p s plan at payload | None ↦ put.Away ]
]

symbol_word : (p : Settings) (s : Holding) (seen : Point) (at : Position) (payload : List ℕ) → put_of p (sees_block seen s) at payload ≡ put_of p s at payload
symbol_word p s seen at payload =
    ap (λ (found : Option Plan). word_by p (sees_block seen s) at payload (is_over s at.index) found) (seen_found seen at.index s.plans) ∙ go (plan_of s at.index)
  where
    go : (found : Option Plan) → word_by p (sees_block seen s) at payload (is_over s at.index) (option_map (plan_seen seen) found) ≡ word_by p s at payload (is_over s at.index) found
    go None = refl
    go (Some plan) = one (plan.index == seen.index && says_stream plan.flags)
      where
        one : (b : Bool)
            → word_by p (sees_block seen s) at payload (is_over s at.index) (Some (elim b as (λ _. Plan) [ true ↦ record plan { seen = max plan.seen seen.block } | false ↦ plan ]))
            ≡ word_by p s at payload (is_over s at.index) (Some plan)
        one true = refl
        one false = refl

symbol_seen : (word : Put) (seen : Point) (at : Position) (payload : List ℕ) (s : Holding) → sees_block seen (with_symbol word at payload s) ≡ with_symbol word at payload (sees_block seen s)
symbol_seen put.Kept seen at payload s = refl
symbol_seen put.Had seen at payload s = refl
symbol_seen put.Away seen at payload s = refl
symbol_seen put.Unfit seen at payload s = refl

-- ---- the word of an info

abbrev info_by : Settings → Holding → List ℕ → Bool → Option Plan → Put
info_by p s info over found = elim over as (λ _. Put) [
  | true ↦ put.Had
  | false ↦ elim found as (λ _. Put) [ Some plan ↦ put_info_by p s plan info | None ↦ put.Away ]
]

info_word : (p : Settings) (s : Holding) (seen : Point) (index : ℕ) (info : List ℕ) → put_info_of p (sees_block seen s) index info ≡ put_info_of p s index info
info_word p s seen index info =
    ap (λ (found : Option Plan). info_by p (sees_block seen s) info (is_over s index) found) (seen_found seen index s.plans) ∙ go (plan_of s index)
  where
    go : (found : Option Plan) → info_by p (sees_block seen s) info (is_over s index) (option_map (plan_seen seen) found) ≡ info_by p s info (is_over s index) found
    go None = refl
    go (Some plan) = one (plan.index == seen.index && says_stream plan.flags)
      where
        one : (b : Bool)
            → info_by p (sees_block seen s) info (is_over s index) (Some (elim b as (λ _. Plan) [ true ↦ record plan { seen = max plan.seen seen.block } | false ↦ plan ]))
            ≡ info_by p s info (is_over s index) (Some plan)
        one true = refl
        one false = refl

info_seen : (word : Put) (seen : Point) (index : ℕ) (info : List ℕ) (s : Holding) → sees_block seen (with_info word index info s) ≡ with_info word index info (sees_block seen s)
info_seen put.Kept seen index info s = refl
info_seen put.Had seen index info s = refl
info_seen put.Away seen index info s = refl
info_seen put.Unfit seen index info s = refl

-- ---- either

pub puts_seen : (p : Settings) (index : ℕ) (b : Brought) (seen : Point) (s : Holding) → sees_block seen (puts p index b s) ≡ puts p index b (sees_block seen s)
puts_seen p index (brought.Info info) seen s =
    info_seen (put_info_of p s index info.now) seen index info.now s
    ∙ ap (λ (word : Put). with_info word index info.now (sees_block seen s)) (sym (info_word p s seen index info.now))
puts_seen p index (brought.Symbol id payload) seen s =
    let at : Position = position index id.block id.symbol in
    symbol_seen (put_of p s at payload.now) seen at payload.now s
    ∙ ap (λ (word : Put). with_symbol word at payload.now (sees_block seen s)) (sym (symbol_word p s seen at payload.now))

-- what a hold stands for then, by the profile that it has before all is handed up
pub kept_seen : (p q : Settings) (index : ℕ) (b : Brought) (h : EntryHold) (s : Holding) → q ≡ p
    → HoldStands h (handed_up q (sees_block (point_of (place_of index b)) (puts p index b s))) → HoldStands h (handed_up p (puts p index b (sees_block (point_of (place_of index b)) s)))
kept_seen p q index b h s same stands =
    subst (λ (t : Holding). HoldStands h (handed_up p t)) (puts_seen p index b (point_of (place_of index b)) s)
    (subst (λ (r : Settings). HoldStands h (handed_up r (sees_block (point_of (place_of index b)) (puts p index b s)))) same stands)
