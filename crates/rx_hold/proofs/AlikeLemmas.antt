-- Words of the rules that look at one object alone: two states that hold the same of it give the same words.
use Rattle.std.proofs.Common.{◌≡◌, ℕ, Bool, true, false, refl, ap, ◌∙◌, Option, Some, None, List, [], ◌∷◌, ◌++◌, length}
use Rattle.std.specs.Prelude.{flat_map, ◌==◌, ◌-◌, ◌&&◌, is_some, take}
use Rattle.std.specs.List.{list_all, range_with_len}
use Rattle.fec_plan.specs.Partition.{blocks, source_symbols, coded_octets}
use Rattle.gf_field.specs.Symbol.{solved_symbol}
use Rattle.norm_receive_rules.specs.Holding.{Holding, Plan, Held}
use Rattle.norm_receive_rules.specs.Plans.{cut_of_plan, says_stream, says_info, held_of, lacking, is_done, info_of, has_its_info}
use Rattle.norm_receive_rules.specs.BlockValue.{ids_of, octets_of_held, held_symbol, block_value}
use Rattle.norm_receive_rules.specs.HandingUp.{is_whole, told_info, block_octets, object_octets}

-- they hold the same of an object
pub record Alike (s t : Holding) (n : ℕ) : Type 0 where
  pub held : (block : ℕ) → held_of s n block ≡ held_of t n block
  pub info : info_of s n ≡ info_of t n

all_same : (f g : ℕ → Bool) → ((n : ℕ) → f n ≡ g n) → (ns : List ℕ) → list_all f ns ≡ list_all g ns
all_same f g same [] = refl
all_same f g same (n ∷ ns) = ap (λ b. b && list_all f ns) (same n) ∙ ap (λ b. g n && b) (all_same f g same ns)

joined_same : (f g : ℕ → List ℕ) → ((n : ℕ) → f n ≡ g n) → (ns : List ℕ) → flat_map f ns ≡ flat_map g ns
joined_same f g same [] = refl
joined_same f g same (n ∷ ns) = ap (λ xs. xs ++ flat_map f ns) (same n) ∙ ap (λ xs. g n ++ xs) (joined_same f g same ns)

lacking_alike : (s t : Holding) (plan : Plan) (block : ℕ) → Alike s t plan.index → lacking s plan block ≡ lacking t plan block
lacking_alike s t plan block alike = ap (λ (hs : List Held). source_symbols (cut_of_plan plan) block - length hs) (alike.held block)

done_alike : (s t : Holding) (plan : Plan) (block : ℕ) → Alike s t plan.index → is_done s plan block ≡ is_done t plan block
done_alike s t plan block alike = ap (λ n. n == 0) (lacking_alike s t plan block alike)

has_info_alike : (s t : Holding) (plan : Plan) → Alike s t plan.index → has_its_info s plan ≡ has_its_info t plan
has_info_alike s t plan alike = go (says_info plan.flags)
  where
    go : (b : Bool) → (elim b as (λ _. Bool) [ true ↦ is_some (info_of s plan.index) | false ↦ true ]) ≡ (elim b as (λ _. Bool) [ true ↦ is_some (info_of t plan.index) | false ↦ true ])
    go true = ap (λ (o : Option (List ℕ)). is_some o) alike.info
    go false = refl

pub whole_alike : (s t : Holding) (plan : Plan) → Alike s t plan.index → is_whole s plan ≡ is_whole t plan
whole_alike s t plan alike =
    ap (λ b. b && list_all (is_done s plan) (range_with_len 0 (blocks (cut_of_plan plan)))) (has_info_alike s t plan alike)
    ∙ ap (λ b. has_its_info t plan && b)
    (all_same (is_done s plan) (is_done t plan) (λ block. done_alike s t plan block alike) (range_with_len 0 (blocks (cut_of_plan plan))))

pub told_alike : (s t : Holding) (plan : Plan) → Alike s t plan.index → told_info s plan ≡ told_info t plan
told_alike s t plan alike = go (says_info plan.flags)
  where
    go : (b : Bool) → (elim b as (λ _. Option (List ℕ)) [ true ↦ info_of s plan.index | false ↦ None ]) ≡ (elim b as (λ _. Option (List ℕ)) [ true ↦ info_of t plan.index | false ↦ None ])
    go true = alike.info
    go false = refl

-- a source symbol, by what is held of its block
abbrev value_by : Plan → Bool → List Held → ℕ → Option (List ℕ)
value_by plan done held symbol = elim done as (λ _. Option (List ℕ)) [
  | true ↦ Some (solved_symbol (coded_octets (cut_of_plan plan)) (ids_of held) (octets_of_held held) symbol)
  | false ↦ elim (says_stream plan.flags) as (λ _. Option (List ℕ)) [ true ↦ held_symbol held symbol | false ↦ None ]
]

abbrev there : Option (List ℕ) → List ℕ
there o = elim o as (λ _. List ℕ) [ Some octets ↦ octets | None ↦ [] ]

value_alike : (s t : Holding) (plan : Plan) (block symbol : ℕ) → Alike s t plan.index → block_value s plan block symbol ≡ block_value t plan block symbol
value_alike s t plan block symbol alike =
    ap (λ b. value_by plan b (held_of s plan.index block) symbol) (done_alike s t plan block alike)
    ∙ ap (λ (held : List Held). value_by plan (is_done t plan block) held symbol) (alike.held block)

pub octets_alike : (s t : Holding) (plan : Plan) → Alike s t plan.index → object_octets s plan ≡ object_octets t plan
octets_alike s t plan alike =
    ap (take plan.fti.l)
    (joined_same (block_octets s plan) (block_octets t plan)
    (λ block. joined_same (λ symbol. there (block_value s plan block symbol)) (λ symbol. there (block_value t plan block symbol))
    (λ symbol. ap (λ (o : Option (List ℕ)). there o) (value_alike s t plan block symbol alike))
    (range_with_len 0 (source_symbols (cut_of_plan plan) block)))
    (range_with_len 0 (blocks (cut_of_plan plan))))
