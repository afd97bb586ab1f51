-- What is needed of a stream, as a NACK goes through it, and whether anything is.
use Rattle.std.proofs.Common.{◌≡◌, ℕ, zero, suc, cond, ◌+◌, ◌-◌, ◌<◌, ◌≤◌, ◌⊎◌, inl, inr, List, [], ◌∷◌, ◌++◌, map, Bool, true, false, not, Option, Some, None, refl, sym, ap, subst, ◌∙◌, arith}
use Rattle.std.specs.Prelude.{min, nat_lt, nat_le, ◌==◌, ◌&&◌, ◌||◌, is_none, IfSome, option_map}
use Rattle.std.proofs.lemmas.Bool.{cases_lt, eqb-true, leb-false, le-ltb, ltb-true, ne_eqb}
use Rattle.std.proofs.lemmas.List.{map-append}
use Rattle.norm_base.specs.Settings.{Settings}
use Rattle.fec_plan.specs.Partition.{Cut, blocks, source_symbols}
use Rattle.fec_plan.specs.Points.{IsBlock, Point, point, point_before, point_of, position}
use Rattle.fec_plan.specs.declared.position.Position.{Position}
use Rattle.norm_ext.specs.declared.fti.Fti.{Fti}
use Rattle.norm_receive_rules.specs.Heard.{Heard}
use Rattle.norm_receive_rules.specs.HeardNeeds.{blocks_heard, is_heard, width_of}
use Rattle.norm_receive_rules.specs.Holding.{Holding, Plan}
use Rattle.norm_receive_rules.specs.Laws.{IsAtStart, IsPassed, PassedBy}
use Rattle.norm_receive_rules.specs.Lazy.{Lazy, Nil, Next, lazily}
use Rattle.norm_receive_rules.specs.Needs.{Need, Symbols, Source, Rest, counts_from, farthest_index, is_covered}
use Rattle.norm_receive_rules.specs.Plans.{cut_of_plan, first_block, holds, is_done, lacking, plan_of, says_stream}
use Rattle.norm_receive_rules.specs.StreamNeeds.{earlier_needs, end_of, end_symbols, flush_in, is_behind, last_block, missing_symbols, open_block, rest_needs, stream_due, stream_end_needs, stream_needs}
use Rattle.norm_receive_rules.specs.declared.words.Missing.{Missing}
use Rattle.norm_receive_rules.specs.declared.words.Missing.TheVariants as missing
use Rattle.norm_receive_rules.proofs.PassedLemmas.{or_false}
use Rattle.rx_hold.specs.Asked.{end_at, seen_at}
use Rattle.rx_hold.specs.FrontSound.{flags_in, object_in, plan_in}
use Rattle.rx_hold.specs.EntryHold.{EntryHold, StandsFor as HoldStands}
use Rattle.rx_hold.specs.EntryState.{EntryState}
use Rattle.rx_hold.specs.Told.{missing_at, missing_by, plan_at}
use Rattle.norm_receiver.specs.Quiet.{is_nil}
use Rattle.norm_receiver.specs.Streams.{end_run, flush_run, is_quiet_to_flush, missing_in, missing_of, rest_at, rest_of, sources, unheld, wanted_of, wants_by, wants_of}
use Rattle.norm_receiver.specs.Walking.{Walked, walk_need, walk_on, walk_where}
use Rattle.norm_receiver.specs.declared.stream_needs.Run.{Run}
use Rattle.norm_receiver.specs.declared.stream_needs.StreamWants.{StreamWants}
use Rattle.norm_receiver.proofs.AskLemmas.{counts_end, of_some}
use Rattle.norm_receiver.proofs.NeedLemmas.{clash, cut_same, index_of_found, nil_both}
use Rattle.norm_receiver.proofs.WalkLemmas.{walk_both, walk_next, walk_none}

-- ---- a stream by its cut

abbrev cut_if : Fti → Bool → Cut
cut_if f stream = elim stream [
  | true ↦ record { l = None; e = f.e; b = f.b; max_n = f.max_n }
  | false ↦ record { l = Some f.l; e = f.e; b = f.b; max_n = f.max_n }
]

-- where the flags of an object are a stream's, its cut has no length
pub stream_in : (h : EntryHold) (index flags : ℕ) (cut : Cut) → Some flags ≡ flags_in h index → Some cut ≡ plan_in h index → true ≡ says_stream flags → cut.l ≡ None
stream_in h index flags cut known told stream = go (object_in h index) known told
  where
    go : (found : Option EntryState) → Some flags ≡ option_map (λ (o : EntryState). o.plan.flags) found → Some cut ≡ option_map (λ (o : EntryState). cut_of_plan o.plan) found → cut.l ≡ None
    go None e f = absurd (let h : Some flags ≡ None = e in cc)
    go (Some o) e f =
        let same : flags ≡ o.plan.flags = (let h : Some flags ≡ Some o.plan.flags = e in cc) in
        let cuts : cut ≡ cut_of_plan o.plan = (let h : Some cut ≡ Some (cut_of_plan o.plan) = f in cc) in
        ap (λ (c : Cut). c.l) cuts ∙ ap (λ b. (cut_if o.plan.fti b).l) (sym (stream ∙ ap says_stream same))

-- and where a cut has none the flags are
pub says_by_cut : (plan : Plan) → (cut_of_plan plan).l ≡ None → says_stream plan.flags ≡ true
says_by_cut plan e = go (says_stream plan.flags) refl
  where
    never : Some plan.fti.l ≡ None → ⊥
    never e = cc

    go : (b : Bool) → says_stream plan.flags ≡ b → says_stream plan.flags ≡ true
    go true is = is
    go false is = absurd (never (sym (ap (λ b. (cut_if plan.fti b).l) is) ∙ e))

pub stream_found : (s : Holding) (index : ℕ) (cut : Cut) (plan : Plan) → plan_of s index ≡ Some plan → Some cut ≡ plan_at s index → cut.l ≡ None → says_stream plan.flags ≡ true
stream_found s index cut plan found known no_length = says_by_cut plan (sym (ap (λ (c : Cut). c.l) (cut_same cut (plan_of s index) plan found known)) ∙ no_length)

-- each block that messages name is a stream's
pub all_blocks : (cut : Cut) (block : ℕ) → cut.l ≡ None → IsBlock block → block < blocks cut
all_blocks cut block e lt = subst (λ n. block < n) (sym (ap (λ (l : Option ℕ). blocks (record cut { l = l })) e)) lt

pub due_within : (cut : Cut) (due : ℕ) → cut.l ≡ None → IsBlock due → due ≤ blocks cut
due_within cut due e lt = let below : due < blocks cut = all_blocks cut due e lt in omega (arith, below)

-- ---- blocks that were handed up whole

passed_by : (p : Settings) (s : Holding) (plan : Plan) (block : ℕ) → PassedBy p s (Some plan) → block < s.point.block → is_done s plan block ≡ true
passed_by p s plan block passed lt = go (says_stream plan.flags) passed
  where
    go : (b : Bool) → elim b as (λ _. Type 0) [ true ↦ IsPassed p s plan | false ↦ IsAtStart s ] → is_done s plan block ≡ true
    go true h = h.done block lt
    go false h = absurd (let none : s.point.block ≡ 0 = h.block in omega (arith, lt, none))

first_done : (h : EntryHold) (s : Holding) (index : ℕ) (plan : Plan) → HoldStands h s → plan_of s index ≡ Some plan
    → (block : ℕ) → block < first_block s index → is_done s plan block ≡ true
first_done h s index plan stands found block = go (s.point.index == index) refl
  where
    go : (b : Bool) → (s.point.index == index) ≡ b → block < elim b as (λ _. ℕ) [ true ↦ s.point.block | false ↦ 0 ] → is_done s plan block ≡ true
    go true e lt = passed_by h.p s plan block (subst (PassedBy h.p s) (ap (plan_of s) (eqb-true s.point.index index e) ∙ found) stands.passed) lt
    go false e lt = absurd (omega (arith, lt))

pub done_first : (h : EntryHold) (s : Holding) (index : ℕ) (plan : Plan) → HoldStands h s → plan_of s index ≡ Some plan
    → (block : ℕ) → block < first_block s plan.index → is_done s plan block ≡ true
done_first h s index plan stands found block lt =
    first_done h s index plan stands found block (subst (λ n. block < first_block s n) (index_of_found index s.plans plan found) lt)

-- a block before the hand-up point's, of an object that was not handed up, is of the object there
pub done_before : (h : EntryHold) (s : Holding) (index block : ℕ) (plan : Plan) → HoldStands h s → h.point.index ≤ index → plan_of s index ≡ Some plan
    → point_before (point index block) (point_of h.point) ≡ true → true ≡ is_done s plan block
done_before h s index block plan stands reached found = go (nat_lt index h.point.index) refl (index == h.point.index) refl
  where
    here : index ≡ h.point.index → nat_lt block h.point.block ≡ true → true ≡ is_done s plan block
    here same lt =
        let at : index ≡ s.point.index = same ∙ ap (λ (x : Position). x.index) (sym stands.point) in
        let below : block < h.point.block = ltb-true block h.point.block lt in
        let there : h.point.block ≡ s.point.block = ap (λ (x : Position). x.block) (sym stands.point) in
        sym (passed_by h.p s plan block (subst (PassedBy h.p s) (ap (plan_of s) (sym at) ∙ found) stands.passed) (subst (λ n. block < n) there below))

    go : (earlier : Bool) → nat_lt index h.point.index ≡ earlier → (same : Bool) → (index == h.point.index) ≡ same
        → (earlier || (same && nat_lt block h.point.block)) ≡ true → true ≡ is_done s plan block
    go true lt same e is = absurd (let below : index < h.point.index = ltb-true index h.point.index lt in omega (arith, below, reached))
    go false lt true e is = here (eqb-true index h.point.index e) is
    go false lt false e is = clash is

-- ---- whether a block is done, by what is lacking of it

abbrev pub is_word : Missing → Bool
is_word missing.Unseen = false
is_word (missing.Short wanted) = false
is_word missing.Done = true

by_lacking : (n : ℕ) → is_word (missing_by n) ≡ (n == 0)
by_lacking zero = refl
by_lacking (suc n) = sym (ne_eqb (suc n) 0 (λ e. absurd (omega (arith, e))))

abbrev missing_of_plan : Holding → ℕ → Option Plan → Missing
missing_of_plan s block found = elim found [ Some plan ↦ missing_by (lacking s plan block) | None ↦ missing.Unseen ]

pub done_by_word : (s : Holding) (index block : ℕ) (plan : Plan) (word : Missing) → plan_of s index ≡ Some plan → word ≡ missing_at s index block → is_word word ≡ is_done s plan block
done_by_word s index block plan word found is = ap is_word (is ∙ ap (missing_of_plan s block) found) ∙ by_lacking (lacking s plan block)

-- ---- the counts of blocks that are due

counts_skip : (s : Holding) (plan : Plan) (k n first : ℕ) → ((block : ℕ) → first ≤ block → block < first + k → is_done s plan block ≡ true)
    → k ≤ n → counts_from s plan n first ≡ counts_from s plan (n - k) (first + k)
unfolding counts_from
counts_skip s plan zero n first all le = ap (λ m. counts_from s plan m first) same ∙ ap (λ m. counts_from s plan (n - zero) m) here
  where
    same : n ≡ n - zero
    same = omega arith

    here : first ≡ first + zero
    here = omega arith
counts_skip s plan (suc k) zero first all le = absurd (omega arith)
counts_skip s plan (suc k) (suc n) first all le =
    ap (λ less. elim less as (λ _. Lazy Need) [
      | zero ↦ counts_from s plan n (suc first)
      | suc m ↦ Next (Symbols plan.index first (suc m)) (λ u. counts_from s plan n (suc first))
    ]) (eqb-true (lacking s plan first) 0 (all first (omega arith) (omega arith)))
    ∙ counts_skip s plan k n (suc first) (λ block a lt. all block (omega arith) (omega arith)) (omega arith)
    ∙ ap (λ m. counts_from s plan m (suc first + k)) fewer ∙ ap (λ m. counts_from s plan (suc n - suc k) m) there
  where
    fewer : n - k ≡ suc n - suc k
    fewer = omega arith

    there : suc first + k ≡ first + suc k
    there = omega arith

pub earlier_is : (flush : Option Position) (s : Holding) (plan : Plan) → ((block : ℕ) → block < first_block s plan.index → is_done s plan block ≡ true)
    → counts_from s plan (stream_due plan.seen (flush_in flush plan.index)) 0 ≡ earlier_needs flush s plan
earlier_is flush s plan done = go (cases_lt due first)
  where
    due : ℕ
    due = stream_due plan.seen (flush_in flush plan.index)

    first : ℕ
    first = first_block s plan.index

    go : (due < first) ⊎ (first ≤ due) → counts_from s plan due 0 ≡ counts_from s plan (due - first) first
    go (inl lt) =
        counts_skip s plan due due 0 (λ block a below. done block (omega arith)) (omega arith)
        ∙ counts_end s plan (due - due) (0 + due) (omega arith) ∙ sym (counts_end s plan (due - first) first (omega arith))
    go (inr ge) =
        counts_skip s plan first due 0 (λ block a below. done block (omega arith)) (omega arith)
        ∙ ap (λ m. counts_from s plan (due - first) m) zero_more
      where
        zero_more : 0 + first ≡ first
        zero_more = omega arith

-- whether any is needed of them, as it was looked through
pub counts_are : (s : Holding) (index : ℕ) (cut : Cut) (plan : Plan) (due : ℕ) (quiet : Bool) → plan_of s index ≡ Some plan → Some cut ≡ plan_at s index → cut.l ≡ None → IsBlock due
    → IfSome (plan_of s index) (λ x. due ≤ blocks (cut_of_plan x) → quiet ≡ is_nil (counts_from s x due 0)) → quiet ≡ is_nil (counts_from s plan due 0)
counts_are s index cut plan due quiet found known no_length few are =
    of_some (λ (x : Plan). due ≤ blocks (cut_of_plan x) → quiet ≡ is_nil (counts_from s x due 0)) (plan_of s index) plan found are
    (subst (λ (c : Cut). due ≤ blocks c) (cut_same cut (plan_of s index) plan found known) (due_within cut due no_length few))

-- ---- one list of needs behind another

walk_list : (p : Settings) (xs ys : List Need) (w : Walked) → walk_on p (lazily (xs ++ ys)) w ≡ walk_on p (lazily ys) (walk_on p (lazily xs) w)
unfolding lazily
walk_list p [] ys w = ap (λ v. walk_on p (lazily ys) v) (sym (walk_none p w))
walk_list p (x ∷ xs) ys w =
    walk_next p x (λ u. lazily (xs ++ ys)) w ∙ walk_list p xs ys (walk_need p w x) ∙ ap (λ v. walk_on p (lazily ys) v) (sym (walk_next p x (λ u. lazily xs) w))

nil_list : (xs ys : List Need) → is_nil (lazily (xs ++ ys)) ≡ (is_nil (lazily xs) && is_nil (lazily ys))
unfolding lazily
nil_list [] ys = refl
nil_list (x ∷ xs) ys = refl

-- ---- source symbols of a block

-- a symbol more, and those behind it
walk_symbol : (p : Settings) (b : Bool) (at : Position) (rest : List Position) (w : Walked)
    → walk_on p (sources (cond b (at ∷ rest) rest)) w ≡ walk_on p (sources rest) (walk_where p b w (Source at))
unfolding lazily
walk_symbol p true at rest w = walk_next p (Source at) (λ u. sources rest) w
walk_symbol p false at rest w = refl

nil_symbol : (b : Bool) (at : Position) (rest : List Position) → is_nil (sources (cond (not b) (at ∷ rest) rest)) ≡ (b && is_nil (sources rest))
unfolding lazily
nil_symbol true at rest = refl
nil_symbol false at rest = refl

unheld_next : (s : Holding) (index block symbol behind : ℕ) → symbol < behind → unheld s index block symbol (behind - symbol)
    ≡ cond (not (holds s (position index block symbol))) (position index block symbol ∷ unheld s index block (symbol + 1) (behind - (symbol + 1))) (unheld s index block (symbol + 1) (behind - (symbol + 1)))
unheld_next s index block symbol behind lt = ap (λ n. unheld s index block symbol n) count
  where
    count : behind - symbol ≡ suc (behind - (symbol + 1))
    count = omega arith

unheld_over : (s : Holding) (index block symbol n : ℕ) → n ≡ 0 → unheld s index block symbol n ≡ []
unheld_over s index block symbol zero e = refl
unheld_over s index block symbol (suc n) e = absurd (omega arith)

pub walk_on_symbol : (p : Settings) (s : Holding) (index block symbol behind : ℕ) (w : Walked) → symbol < behind
    → walk_on p (sources (unheld s index block symbol (behind - symbol))) w
    ≡ walk_on p (sources (unheld s index block (symbol + 1) (behind - (symbol + 1)))) (walk_where p (not (holds s (position index block symbol))) w (Source (position index block symbol)))
walk_on_symbol p s index block symbol behind w lt =
    ap (λ symbols. walk_on p (sources symbols) w) (unheld_next s index block symbol behind lt)
    ∙ walk_symbol p (not (holds s (position index block symbol))) (position index block symbol) (unheld s index block (symbol + 1) (behind - (symbol + 1))) w

pub no_symbols : (s : Holding) (index block symbol behind : ℕ) → behind ≤ symbol → sources (unheld s index block symbol (behind - symbol)) ≡ Nil
unfolding lazily
no_symbols s index block symbol behind le = ap sources (unheld_over s index block symbol (behind - symbol) (omega arith))

nil_next : (s : Holding) (index block symbol behind : ℕ) → symbol < behind → is_nil (sources (unheld s index block symbol (behind - symbol)))
    ≡ (holds s (position index block symbol) && is_nil (sources (unheld s index block (symbol + 1) (behind - (symbol + 1)))))
nil_next s index block symbol behind lt =
    ap (λ symbols. is_nil (sources symbols)) (unheld_next s index block symbol behind lt)
    ∙ nil_symbol (holds s (position index block symbol)) (position index block symbol) (unheld s index block (symbol + 1) (behind - (symbol + 1)))

-- a symbol that is held leads on, and one that is not ends the search
pub held_goes_on : (s : Holding) (index block symbol behind : ℕ) (whole held : Bool) → whole ≡ is_nil (sources (unheld s index block symbol (behind - symbol))) → symbol < behind
    → held ≡ holds s (position index block symbol) → held ≡ true → whole ≡ is_nil (sources (unheld s index block (symbol + 1) (behind - (symbol + 1))))
held_goes_on s index block symbol behind whole held is lt known e =
    is ∙ nil_next s index block symbol behind lt ∙ ap (λ b. b && is_nil (sources (unheld s index block (symbol + 1) (behind - (symbol + 1))))) (sym known ∙ e)

pub not_held : (s : Holding) (index block symbol behind : ℕ) (whole held : Bool) → whole ≡ is_nil (sources (unheld s index block symbol (behind - symbol))) → symbol < behind
    → held ≡ holds s (position index block symbol) → held ≡ false → false ≡ whole
not_held s index block symbol behind whole held is lt known e =
    sym (is ∙ nil_next s index block symbol behind lt ∙ ap (λ b. b && is_nil (sources (unheld s index block (symbol + 1) (behind - (symbol + 1))))) (sym known ∙ e))

pub all_held : (s : Holding) (index block symbol behind : ℕ) (whole : Bool) → whole ≡ is_nil (sources (unheld s index block symbol (behind - symbol))) → behind ≤ symbol → true ≡ whole
all_held s index block symbol behind whole is le = sym (is ∙ ap is_nil (no_symbols s index block symbol behind le))

-- those of a run, by whether its block is done
pub missing_done : (s : Holding) (plan : Plan) (run : Run) → true ≡ is_done s plan run.block → missing_in s plan run ≡ []
missing_done s plan run e = ap (λ b. elim b as (λ _. List Position) [ true ↦ [] | false ↦ unheld s plan.index run.block run.first (run.behind - run.first) ]) (sym e)

pub missing_open : (s : Holding) (index : ℕ) (plan : Plan) (run : Run) → plan_of s index ≡ Some plan → false ≡ is_done s plan run.block
    → missing_in s plan run ≡ unheld s index run.block run.first (run.behind - run.first)
missing_open s index plan run found e =
    ap (λ b. elim b as (λ _. List Position) [ true ↦ [] | false ↦ unheld s plan.index run.block run.first (run.behind - run.first) ]) (sym e)
    ∙ ap (λ n. unheld s n run.block run.first (run.behind - run.first)) (index_of_found index s.plans plan found)

pub none_missing : (p : Settings) (s : Holding) (plan : Plan) (run : Run) (w : Walked) → true ≡ is_done s plan run.block → walk_on p (sources (missing_in s plan run)) w ≡ w
unfolding lazily
none_missing p s plan run w e = ap (λ symbols. walk_on p (sources symbols) w) (missing_done s plan run e) ∙ walk_none p w

pub nil_done : (s : Holding) (plan : Plan) (run : Run) → true ≡ is_done s plan run.block → true ≡ is_nil (sources (missing_in s plan run))
unfolding lazily
nil_done s plan run e = sym (ap (λ symbols. is_nil (sources symbols)) (missing_done s plan run e))

pub nil_none : true ≡ is_nil (sources [])
unfolding lazily
nil_none = refl

pub walk_no_sources : (p : Settings) (w : Walked) → walk_on p (sources []) w ≡ w
unfolding lazily
walk_no_sources p w = walk_none p w

-- ---- the rest

pub walk_no_rest : (p : Settings) (index : ℕ) (w : Walked) → walk_on p (lazily (rest_of index None)) w ≡ w
unfolding lazily
walk_no_rest p index w = walk_none p w

pub walk_rest : (p : Settings) (index block : ℕ) (w : Walked) → walk_on p (lazily (rest_of index (Some block))) w ≡ walk_need p w (Rest index block)
unfolding lazily
walk_rest p index block w = walk_next p (Rest index block) (λ u. Nil) w ∙ walk_none p (walk_need p w (Rest index block))

nil_rest : (index : ℕ) (rest : Option ℕ) → is_nil (lazily (rest_of index rest)) ≡ is_none rest
unfolding lazily
nil_rest index None = refl
nil_rest index (Some block) = refl

pub rest_heard : (heard own : Heard) (s : Holding) (index block width : ℕ) (result : Bool) → result ≡ blocks_heard heard width index block last_block
    → heard ≡ own → width ≡ width_of s (point index block) → result ≡ is_heard own s (Rest index block)
rest_heard heard own s index block width result is same w =
    is ∙ ap (λ (h : Heard). blocks_heard h width index block last_block) same ∙ ap (λ n. blocks_heard own n index block last_block) w

-- ---- what may be needed is what is

flush_is : (s : Holding) (plan : Plan) (within : Option Position) → (elim within as (λ _. List Position) [
  | Some at ↦ missing_symbols s plan at.block 0 (min (at.symbol + 1) (source_symbols (cut_of_plan plan) at.block))
  | None ↦ []
]) ≡ missing_of s plan (flush_run (cut_of_plan plan) within)
flush_is s plan (Some at) = refl
flush_is s plan None = refl

end_is : (covered : Bool) (flush : Option Position) (s : Holding) (plan : Plan) (end : Option Position)
    → end_symbols covered flush s plan end ≡ missing_of s plan (end_run covered (cut_of_plan plan) (flush_in flush plan.index) end)
end_is false flush s plan end = refl
end_is true flush s plan None = refl
end_is true flush s plan (Some at) = refl

rest_if : (index least : ℕ) (b : Bool) → (elim b as (λ _. List Need) [ true ↦ Rest index least ∷ [] | false ↦ [] ]) ≡ rest_of index (elim b as (λ _. Option ℕ) [ true ↦ Some least | false ↦ None ])
rest_if index least true = refl
rest_if index least false = refl

ends_are : (p : Settings) (farthest : Option Point) (flush : Option Position) (s : Holding) (plan : Plan)
    → stream_end_needs p farthest flush s plan ≡ wanted_of s plan (wants_of p farthest flush s plan)
ends_are p farthest flush s plan =
    ap (λ symbols. map Source (symbols ++ end_symbols covered flush s plan end) ++ rest_needs behind s plan end) (flush_is s plan (flush_in flush plan.index))
    ∙ ap (λ symbols. map Source (missing_of s plan (flush_run (cut_of_plan plan) (flush_in flush plan.index)) ++ symbols) ++ rest_needs behind s plan end) (end_is covered flush s plan end)
    ∙ ap (λ needs. map Source (missing_of s plan (flush_run (cut_of_plan plan) (flush_in flush plan.index)) ++ missing_of s plan (end_run covered (cut_of_plan plan) (flush_in flush plan.index) end)) ++ needs)
    (rest_if plan.index (open_block s plan) (is_none end && behind && nat_le (open_block s plan) last_block))
  where
    covered : Bool
    covered = is_covered farthest flush plan.index

    behind : Bool
    behind = is_behind farthest flush plan.index

    end : Option Position
    end = end_of p s plan

-- ---- a stream

wanted_walked : (p : Settings) (s : Holding) (plan : Plan) (wants : StreamWants) (w : Walked) → walk_on p (lazily (wanted_of s plan wants)) w
    ≡ walk_on p (lazily (rest_of plan.index wants.rest)) (walk_on p (sources (missing_of s plan wants.ended)) (walk_on p (sources (missing_of s plan wants.flushed)) w))
wanted_walked p s plan wants w =
    walk_list p (map Source (flushed ++ ended)) (rest_of plan.index wants.rest) w
    ∙ ap (λ needs. walk_on p (lazily (rest_of plan.index wants.rest)) (walk_on p (lazily needs) w)) (map-append Source flushed ended)
    ∙ ap (λ v. walk_on p (lazily (rest_of plan.index wants.rest)) v) (walk_list p (map Source flushed) (map Source ended) w)
  where
    flushed : List Position
    flushed = missing_of s plan wants.flushed

    ended : List Position
    ended = missing_of s plan wants.ended

pub stream_walked : (p : Settings) (farthest : Option Point) (flush : Option Position) (s : Holding) (index : ℕ) (plan : Plan) (wants : StreamWants) (w : Walked)
    → wants ≡ wants_of p farthest flush s plan → plan.index ≡ index → ((block : ℕ) → block < first_block s plan.index → is_done s plan block ≡ true)
    → walk_on p (lazily (rest_of index wants.rest)) (walk_on p (sources (missing_of s plan wants.ended)) (walk_on p (sources (missing_of s plan wants.flushed)) (walk_on p (counts_from s plan wants.due 0) w)))
    ≡ walk_on p (stream_needs p farthest flush s plan) w
stream_walked p farthest flush s index plan wants w is own done =
    ap (λ n. walk_on p (lazily (rest_of n wants.rest)) (walk_on p (sources (missing_of s plan wants.ended)) (walk_on p (sources (missing_of s plan wants.flushed)) (walk_on p (counts_from s plan wants.due 0) w)))) (sym own)
    ∙ sym (wanted_walked p s plan wants (walk_on p (counts_from s plan wants.due 0) w))
    ∙ ap (λ (x : StreamWants). walk_on p (lazily (wanted_of s plan x)) (walk_on p (counts_from s plan x.due 0) w)) is
    ∙ ap (λ needs. walk_on p (lazily needs) (walk_on p (counts_from s plan (stream_due plan.seen (flush_in flush plan.index)) 0) w)) (sym (ends_are p farthest flush s plan))
    ∙ ap (λ counts. walk_on p (lazily (stream_end_needs p farthest flush s plan)) (walk_on p counts w)) (earlier_is flush s plan done)
    ∙ sym (walk_both p (earlier_needs flush s plan) (λ u. lazily (stream_end_needs p farthest flush s plan)) w)

wanted_nil : (s : Holding) (plan : Plan) (wants : StreamWants) → is_nil (lazily (wanted_of s plan wants))
    ≡ ((is_nil (sources (missing_of s plan wants.flushed)) && is_nil (sources (missing_of s plan wants.ended))) && is_none wants.rest)
wanted_nil s plan wants =
    nil_list (map Source (flushed ++ ended)) (rest_of plan.index wants.rest)
    ∙ ap (λ needs. is_nil (lazily needs) && is_nil (lazily (rest_of plan.index wants.rest))) (map-append Source flushed ended)
    ∙ ap (λ b. b && is_nil (lazily (rest_of plan.index wants.rest))) (nil_list (map Source flushed) (map Source ended))
    ∙ ap (λ b. (is_nil (sources flushed) && is_nil (sources ended)) && b) (nil_rest plan.index wants.rest)
  where
    flushed : List Position
    flushed = missing_of s plan wants.flushed

    ended : List Position
    ended = missing_of s plan wants.ended

pub stream_nil : (p : Settings) (farthest : Option Point) (flush : Option Position) (s : Holding) (plan : Plan) (wants : StreamWants) (counts flushed ended : Bool)
    → wants ≡ wants_of p farthest flush s plan → ((block : ℕ) → block < first_block s plan.index → is_done s plan block ≡ true)
    → counts ≡ is_nil (counts_from s plan wants.due 0) → flushed ≡ is_nil (sources (missing_of s plan wants.flushed)) → ended ≡ is_nil (sources (missing_of s plan wants.ended))
    → (counts && ((flushed && ended) && is_none wants.rest)) ≡ is_nil (stream_needs p farthest flush s plan)
stream_nil p farthest flush s plan wants counts flushed ended is done counts_are flushed_are ended_are =
    ap (λ b. b && ((flushed && ended) && is_none wants.rest)) counts_are
    ∙ ap (λ b. is_nil (counts_from s plan wants.due 0) && ((b && ended) && is_none wants.rest)) flushed_are
    ∙ ap (λ b. is_nil (counts_from s plan wants.due 0) && ((is_nil (sources (missing_of s plan wants.flushed)) && b) && is_none wants.rest)) ended_are
    ∙ ap (λ b. is_nil (counts_from s plan wants.due 0) && b) (sym (wanted_nil s plan wants))
    ∙ ap (λ (x : StreamWants). is_nil (counts_from s plan x.due 0) && is_nil (lazily (wanted_of s plan x))) is
    ∙ ap (λ needs. is_nil (counts_from s plan (stream_due plan.seen (flush_in flush plan.index)) 0) && is_nil (lazily needs)) (sym (ends_are p farthest flush s plan))
    ∙ ap (λ counts. is_nil counts && is_nil (lazily (stream_end_needs p farthest flush s plan))) (earlier_is flush s plan done)
    ∙ sym (nil_both (earlier_needs flush s plan) (λ u. lazily (stream_end_needs p farthest flush s plan)))

-- ---- what is known of a stream

abbrev seen_by : Option Plan → Option ℕ
seen_by found = elim found [ Some plan ↦ elim (says_stream plan.flags) as (λ _. Option ℕ) [ true ↦ Some plan.seen | false ↦ None ] | None ↦ None ]

seen_is : (s : Holding) (index : ℕ) (plan : Plan) → plan_of s index ≡ Some plan → says_stream plan.flags ≡ true → seen_at s index ≡ Some plan.seen
seen_is s index plan found stream = ap seen_by found ∙ ap (λ b. elim b as (λ _. Option ℕ) [ true ↦ Some plan.seen | false ↦ None ]) stream

pub block_is_seen : (s : Holding) (index block least : ℕ) (plan : Plan) → plan_of s index ≡ Some plan → says_stream plan.flags ≡ true → Some block ≡ seen_at s index → IsBlock plan.seen
    → least ≡ min block last_block → least ≡ plan.seen
block_is_seen s index block least plan found stream is few e =
    let h : Some block ≡ Some plan.seen = is ∙ seen_is s index plan found stream in
    let same : block ≡ plan.seen = cc in
    omega (arith, same, few, e)

pub never_unseen : {X : Type 0} (s : Holding) (index : ℕ) (plan : Plan) → plan_of s index ≡ Some plan → says_stream plan.flags ≡ true → None ≡ seen_at s index → X
never_unseen {X} s index plan found stream is = absurd (let h : None ≡ Some plan.seen = is ∙ seen_is s index plan found stream in cc)

abbrev end_by : Settings → Holding → Option Plan → Option Position
end_by p s found = elim found [ Some plan ↦ elim (says_stream plan.flags) as (λ _. Option Position) [ true ↦ end_of p s plan | false ↦ None ] | None ↦ None ]

pub end_found : (p : Settings) (s : Holding) (index : ℕ) (plan : Plan) (end : Option Position) → plan_of s index ≡ Some plan → says_stream plan.flags ≡ true
    → end ≡ end_at p s index → end ≡ end_of p s plan
end_found p s index plan end found stream is =
    is ∙ ap (end_by p s) found ∙ ap (λ b. elim b as (λ _. Option Position) [ true ↦ end_of p s plan | false ↦ None ]) stream

pub wants_are : (p : Settings) (farthest : Option Point) (flush : Option Position) (s : Holding) (index : ℕ) (plan : Plan) (cut : Cut) (covered behind : Bool) (seen : ℕ)
    (within end : Option Position) (least : ℕ) → plan.index ≡ index → cut ≡ cut_of_plan plan → covered ≡ is_covered farthest flush index → behind ≡ is_behind farthest flush index
    → seen ≡ plan.seen → within ≡ flush_in flush index → end ≡ end_of p s plan → least ≡ open_block s plan
    → wants_by cut covered behind seen within end least ≡ wants_of p farthest flush s plan
wants_are p farthest flush s index plan cut covered behind seen within end least own cut_is covered_is behind_is seen_is within_is end_is open_is =
    ap (λ c. wants_by c covered behind seen within end least) cut_is
    ∙ ap (λ b. wants_by (cut_of_plan plan) b behind seen within end least) (covered_is ∙ ap (λ n. is_covered farthest flush n) (sym own))
    ∙ ap (λ b. wants_by (cut_of_plan plan) (is_covered farthest flush plan.index) b seen within end least) (behind_is ∙ ap (λ n. is_behind farthest flush n) (sym own))
    ∙ ap (λ n. wants_by (cut_of_plan plan) (is_covered farthest flush plan.index) (is_behind farthest flush plan.index) n within end least) seen_is
    ∙ ap (λ o. wants_by (cut_of_plan plan) (is_covered farthest flush plan.index) (is_behind farthest flush plan.index) plan.seen o end least) (within_is ∙ ap (λ n. flush_in flush n) (sym own))
    ∙ ap (λ o. wants_by (cut_of_plan plan) (is_covered farthest flush plan.index) (is_behind farthest flush plan.index) plan.seen (flush_in flush plan.index) o least) end_is
    ∙ ap (λ n. wants_by (cut_of_plan plan) (is_covered farthest flush plan.index) (is_behind farthest flush plan.index) plan.seen (flush_in flush plan.index) (end_of p s plan) n) open_is

pub wants_made : (due a : ℕ) (flushed b ended d : Option Run) (rest e : Option ℕ) → due ≡ a → flushed ≡ b → ended ≡ d → rest ≡ e
    → ◌≡◌ {A = StreamWants} (record { due = due; flushed = flushed; ended = ended; rest = rest }) (record { due = a; flushed = b; ended = d; rest = e })
wants_made due a flushed b ended d rest e e1 e2 e3 e4 = cc

-- a stream that is not covered is none that the sender is past, so that nothing is needed of its end
not_behind : (farthest : Option Point) (flush : Option Position) (index : ℕ) → is_covered farthest flush index ≡ false → is_behind farthest flush index ≡ false
not_behind farthest flush index e = ap (λ b. b || past flush) parts.0 ∙ later flush parts.1
  where
    parts : (nat_lt index (farthest_index farthest) ≡ false) × ((elim flush as (λ _. Bool) [ Some at ↦ nat_le index at.index | None ↦ false ]) ≡ false)
    parts = or_false (nat_lt index (farthest_index farthest)) (elim flush as (λ _. Bool) [ Some at ↦ nat_le index at.index | None ↦ false ]) e

    past : Option Position → Bool
    past o = elim o as (λ _. Bool) [ Some at ↦ nat_lt index at.index | None ↦ false ]

    later : (o : Option Position) → (elim o as (λ _. Bool) [ Some at ↦ nat_le index at.index | None ↦ false ]) ≡ false → (elim o as (λ _. Bool) [ Some at ↦ nat_lt index at.index | None ↦ false ]) ≡ false
    later None h = refl
    later (Some at) h = let below : at.index < index = leb-false index at.index h in le-ltb index at.index (omega (arith, below))

and_false : (a b : Bool) → b ≡ false → (a && b) ≡ false
and_false true b e = e
and_false false b e = refl

pub wants_without : (farthest : Option Point) (flush : Option Position) (index : ℕ) (cut : Cut) (covered behind : Bool) (seen : ℕ) (within end other : Option Position) (least : ℕ)
    → covered ≡ is_covered farthest flush index → behind ≡ is_behind farthest flush index → (covered ≡ true → end ≡ other)
    → wants_by cut covered behind seen within end least ≡ wants_by cut covered behind seen within other least
wants_without farthest flush index cut true behind seen within end other least covered_is behind_is same = ap (λ o. wants_by cut true behind seen within o least) (same refl)
wants_without farthest flush index cut false behind seen within end other least covered_is behind_is same =
    ap (λ b. rest_with b) (and_false (is_none end) behind past ∙ sym (and_false (is_none other) behind past))
  where
    past : behind ≡ false
    past = behind_is ∙ not_behind farthest flush index (sym covered_is)

    rest_with : Bool → StreamWants
    rest_with b = record { due = stream_due seen within; flushed = flush_run cut within; ended = None; rest = rest_at b least }

-- the block from which on all may be needed
pub open_is : (s : Holding) (plan : Plan) (seen : ℕ) (done : Bool) → seen ≡ plan.seen → done ≡ is_done s plan seen
    → (elim done as (λ _. ℕ) [ true ↦ seen + 1 | false ↦ seen ]) ≡ open_block s plan
open_is s plan seen done same is =
    ap (λ b. elim b as (λ _. ℕ) [ true ↦ seen + 1 | false ↦ seen ]) is ∙ ap (λ n. elim (is_done s plan n) as (λ _. ℕ) [ true ↦ n + 1 | false ↦ n ]) same

-- whether nothing is needed of a stream, as it was looked through
pub quiet_stream : (h : EntryHold) (farthest : Option Point) (flush : Option Position) (s : Holding) (index : ℕ) (cut : Cut) (plan : Plan) (wants : StreamWants) (counts flushed ended : Bool)
    → HoldStands h s → plan_of s index ≡ Some plan → Some cut ≡ plan_at s index → cut.l ≡ None → IsBlock wants.due
    → IfSome (plan_of s index) (λ x. wants ≡ wants_of h.p farthest flush s x)
    → IfSome (plan_of s index) (λ x. wants.due ≤ blocks (cut_of_plan x) → counts ≡ is_nil (counts_from s x wants.due 0))
    → flushed ≡ is_nil (sources (missing_of s plan wants.flushed)) → ended ≡ is_nil (sources (missing_of s plan wants.ended))
    → (counts && ((flushed && ended) && is_none wants.rest)) ≡ is_nil (stream_needs h.p farthest flush s plan)
quiet_stream h farthest flush s index cut plan wants counts flushed ended stands found known no_length few wants_is counted flushed_is ended_is =
    stream_nil h.p farthest flush s plan wants counts flushed ended
    (of_some (λ (x : Plan). wants ≡ wants_of h.p farthest flush s x) (plan_of s index) plan found wants_is) (done_first h s index plan stands found)
    (counts_are s index cut plan wants.due counts found known no_length few counted) flushed_is ended_is

-- whether nothing is needed of it up to a flush, as it was looked through
pub quiet_front : (p : Settings) (farthest : Option Point) (flush : Option Position) (s : Holding) (index : ℕ) (cut : Cut) (plan : Plan) (seen due : ℕ) (within : Option Position)
    (counts flushed : Bool) → plan_of s index ≡ Some plan → Some cut ≡ plan_at s index → cut.l ≡ None → seen ≡ plan.seen → within ≡ flush_in flush index
    → due ≡ stream_due seen within → IsBlock due
    → IfSome (plan_of s index) (λ x. due ≤ blocks (cut_of_plan x) → counts ≡ is_nil (counts_from s x due 0))
    → flushed ≡ is_nil (sources (missing_of s plan (flush_run cut within)))
    → (counts && flushed) ≡ is_quiet_to_flush s plan (wants_of p farthest flush s plan)
quiet_front p farthest flush s index cut plan seen due within counts flushed found known no_length seen_is within_is due_is few counted flushed_is =
    let own : plan.index ≡ index = index_of_found index s.plans plan found in
    let here : within ≡ flush_in flush plan.index = within_is ∙ ap (λ n. flush_in flush n) (sym own) in
    ap (λ b. b && flushed) (counts_are s index cut plan due counts found known no_length few counted)
    ∙ ap (λ b. is_nil (counts_from s plan due 0) && b) flushed_is
    ∙ ap (λ n. is_nil (counts_from s plan n 0) && is_nil (sources (missing_of s plan (flush_run cut within)))) (due_is ∙ ap (λ n. stream_due n within) seen_is)
    ∙ ap (λ c. is_nil (counts_from s plan (stream_due plan.seen within) 0) && is_nil (sources (missing_of s plan (flush_run c within)))) (cut_same cut (plan_of s index) plan found known)
    ∙ ap (λ (o : Option Position). is_nil (counts_from s plan (stream_due plan.seen o) 0) && is_nil (sources (missing_of s plan (flush_run (cut_of_plan plan) o)))) here

-- what is needed behind a flush, where it was looked through
pub quiet_behind : (h : EntryHold) (farthest : Option Point) (flush : Option Position) (s : Holding) (index : ℕ) (plan : Plan) (wants : StreamWants) (front ended : Bool)
    → HoldStands h s → plan_of s index ≡ Some plan → wants ≡ wants_of h.p farthest flush s plan
    → front ≡ is_quiet_to_flush s plan (wants_of h.p farthest flush s plan) → ended ≡ is_nil (sources (missing_of s plan wants.ended))
    → (front && (ended && is_none wants.rest)) ≡ is_nil (stream_needs h.p farthest flush s plan)
quiet_behind h farthest flush s index plan wants front ended stands found wants_is front_is ended_is =
    ap (λ b. b && (ended && is_none wants.rest)) (front_is ∙ ap (λ (w : StreamWants). is_quiet_to_flush s plan w) (sym wants_is))
    ∙ three (is_nil (counts_from s plan wants.due 0)) (is_nil (sources (missing_of s plan wants.flushed))) ended (is_none wants.rest)
    ∙ stream_nil h.p farthest flush s plan wants (is_nil (counts_from s plan wants.due 0)) (is_nil (sources (missing_of s plan wants.flushed))) ended wants_is (done_first h s index plan stands found) refl refl ended_is
  where
    three : (a b c d : Bool) → ((a && b) && (c && d)) ≡ (a && ((b && c) && d))
    three true true c d = refl
    three true false c d = refl
    three false b c d = refl
