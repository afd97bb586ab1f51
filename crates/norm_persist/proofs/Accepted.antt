-- No own command is refused.
use Rattle.std.proofs.Common.{◌≡◌, ℕ, zero, suc, List, [], ◌∷◌, length, map, Bool, true, false, Option, None, Some, Result, Ok, Err, ◌++◌, refl, sym, ap, subst, ◌∙◌, arith, inl, inr}
use Rattle.std.specs.Prelude.{◌||◌, ◌==◌, ◌+◌, not, nat_le, filter, Contains, ◌⊎◌}
use Rattle.std.specs.List.{list_any, AllByRecursion}
use Rattle.std.proofs.lemmas.Bool.{eqb-true}
use Rattle.std.proofs.lemmas.Bool.Decides.{Decides-eqb}
use Rattle.std.proofs.lemmas.Option.{none-some, same_Some, option_and_then_some}
use Rattle.fec_plan.specs.declared.position.Position.{Position}
use Rattle.norm_base.specs.Members.{receivers_of}
use Rattle.norm_base.specs.Settings.{Settings}
use Rattle.norm_base.specs.declared.node.Origin.{Origin}
use Rattle.norm_order.specs.First.{first_where}
use Rattle.norm_order.specs.Segments.{unclosed}
use Rattle.norm_order.specs.Shapes.{last_source}
use Rattle.norm_send_rules.specs.Commanding.{commanded, refused_as}
use Rattle.norm_send_rules.specs.InWindow.{current_shapes}
use Rattle.norm_send_rules.specs.Marking.{watermark_at, with_watermark, most_open}
use Rattle.norm_send_rules.specs.SenderState.{SenderState, Listing, Watermark}
use Rattle.norm_send_rules.specs.Streaming.{cut, parts_now, with_parts}
use Rattle.norm_send_rules.specs.Striking.{strike_fault, strikes, struck_off}
use Rattle.norm_send_rules.specs.Watermarks.{open_watermarks, has_member, is_open}
use Rattle.norm_send_rules.specs.declared.fault.MarkFault.{MarkFault}
use Rattle.norm_send_rules.specs.declared.fault.MarkFault.TheVariants as mark
use Rattle.norm_order.specs.Entries.{Cut}
use Rattle.norm_send_rules.specs.declared.fault.SendFault.TheVariants.{Mark, Strike}
use Rattle.norm_send_rules.specs.declared.fault.StrikeFault.{StrikeFault}
use Rattle.norm_send_rules.specs.declared.fault.StrikeFault.TheVariants as strike
use Rattle.norm_send_rules.specs.declared.job.Job.{Job}
use Rattle.norm_send_rules.specs.declared.job.Job.TheVariants as job
use Rattle.norm_send_rules.specs.declared.job.Receipt.{Receipt}
use Rattle.norm_send_rules.specs.declared.job.Receipt.TheVariants as receipt
use Rattle.norm_send_rules.specs.declared.news.News.TheVariants as news
use Rattle.norm_send_rules.specs.declared.news.Outcome.TheVariants as outcome
use Rattle.norm_safety.proofs.FreshRun.{Differ, receivers_rise}
use Rattle.norm_journal.specs.declared.event.Event.{Event}
use Rattle.norm_journal.specs.declared.event.Event.TheVariants as event
use Rattle.norm_journal.specs.Judged.{Judged}
use Rattle.norm_journal.specs.Printed.{left_of}
use Rattle.norm_persist.specs.declared.account.Account.{Account}
use Rattle.norm_persist.specs.Accepting.{accepts_persisting, persisted_from}
use Rattle.norm_persist.specs.Accounts.{opened, begun_anew, excused_by, risen, passed_by, lacks, last_position, is_silent}
use Rattle.norm_persist.specs.Laws.{IsSilent, IsHeard, MarkCalledFor, IsDueBy, OwnAreAccepted}
use Rattle.norm_persist.specs.Persisted.{Persisted, persisted_opening, accounts_after, own_name, is_own}
use Rattle.norm_persist.proofs.EventKinds.{Kind, Own, Bound, AsEver, kind_of}
use Rattle.norm_persist.proofs.Reasons.{own_have_reasons}
use Rattle.norm_persist.proofs.Tests.{clash, either_in, in_nothing}

-- ---- whose the accounts are

abbrev pub nodes_of : List Account → List ℕ
nodes_of accounts = map (λ (a : Account). a.node) accounts

-- a change of an account leaves its node
abbrev KeepsNode : (Account → Account) → Type 0
KeepsNode f = (a : Account) → (f a).node ≡ a.node

nodes_stay : (f : Account → Account) → KeepsNode f → (accounts : List Account) → nodes_of (map f accounts) ≡ nodes_of accounts
nodes_stay f keeps [] = refl
nodes_stay f keeps (a ∷ accounts) = ap (λ (n : ℕ). n ∷ nodes_of (map f accounts)) (keeps a) ∙ ap (λ (ns : List ℕ). a.node ∷ ns) (nodes_stay f keeps accounts)

either_way : (b : Bool) (a c : Account) → c.node ≡ a.node → (elim b as (λ _. Account) [ true ↦ c | false ↦ a ]).node ≡ a.node
either_way true a c same = same
either_way false a c same = refl

excuse_stays : (b : Bool) (node : ℕ) (accounts : List Account)
    → nodes_of (elim b as (λ _. List Account) [ true ↦ accounts | false ↦ map (excused_by node) accounts ]) ≡ nodes_of accounts
excuse_stays true node accounts = refl
excuse_stays false node accounts = nodes_stay (excused_by node) (λ a. either_way (a.node == node) a (record a { excused = true }) refl) accounts

pub event_nodes : (j : Judged) (e : Event) (accounts : List Account) → nodes_of (accounts_after j e accounts) ≡ nodes_of accounts
event_nodes j (event.News (news.Past node at)) accounts =
    nodes_stay (risen node at) (λ a. either_way (a.node == node) a (record a { confirmed = Some at; expired = 0 }) refl) accounts
event_nodes j (event.News (news.Done number (outcome.Expired many))) accounts =
    nodes_stay (passed_by (left_of j number)) (λ a. either_way (list_any (λ node. node == a.node) (left_of j number)) a (record a { expired = a.expired + 1 }) refl) accounts
event_nodes j (event.News (news.Done number outcome.Satisfied)) accounts = refl
event_nodes j (event.News (news.Done number outcome.Cut)) accounts = refl
event_nodes j (event.News (news.Done number (outcome.Open many))) accounts = refl
event_nodes j (event.Job by given (Ok (receipt.Restarted instance))) accounts = nodes_stay begun_anew (λ a. refl) accounts
event_nodes j (event.Job by given (Ok (receipt.Struck node))) accounts = excuse_stays (is_own by) node accounts
event_nodes j _ accounts = refl

kind_nodes : (x : Persisted) (e : Event) (next : Persisted) → Kind x e next → nodes_of next.accounts ≡ nodes_of x.accounts
kind_nodes x e next (Own o) = ap (λ (y : Persisted). nodes_of y.accounts) o.then ∙ event_nodes x.judged e x.accounts
kind_nodes x e next (Bound b) = ap (λ (y : Persisted). nodes_of y.accounts) b.then ∙ event_nodes x.judged e x.accounts
kind_nodes x e next (AsEver a) = ap (λ (y : Persisted). nodes_of y.accounts) a.then ∙ event_nodes x.judged e x.accounts

pub run_nodes : (x last : Persisted) (events : List Event) → persisted_from x events ≡ Some last → nodes_of last.accounts ≡ nodes_of x.accounts
unfolding persisted_from
run_nodes x last [] is = ap (λ (y : Persisted). nodes_of y.accounts) (sym (same_Some x last is))
run_nodes x last (e ∷ events) is = option_and_then_some (λ next. persisted_from next events) (accepts_persisting x e) last is (λ next comes more.
    run_nodes next last events more ∙ kind_nodes x e next (kind_of x e next comes))

opened_nodes : (nodes : List ℕ) → nodes_of (map opened nodes) ≡ nodes
opened_nodes [] = refl
opened_nodes (n ∷ nodes) = ap (λ (ns : List ℕ). n ∷ ns) (opened_nodes nodes)

-- accounts of one node are one, where the nodes differ
apart : (node other : ℕ) → (node == other) ≡ false → node ≡ other → ⊥
apart node other e same = clash (sym e ∙ (Decides-eqb node other).1 same)

apart_in : (node : ℕ) (accounts : List Account) (a : Account) → AllByRecursion (λ m. (node == m) ≡ false) (nodes_of accounts) → Contains accounts a → node ≡ a.node → ⊥
apart_in node [] a all has same = in_nothing a has
apart_in node (b ∷ accounts) a all has same = go (either_in b accounts a has) (λ there. apart_in node accounts a all.1 there same)
  where
    go : (b ≡ a) ⊎ Contains accounts a → (Contains accounts a → ⊥) → ⊥
    go (inl is) more = apart node b.node all.0 (same ∙ ap (λ (x : Account). x.node) (sym is))
    go (inr there) more = more there

pub one_account : (accounts : List Account) (a b : Account) → Differ (nodes_of accounts) → Contains accounts a → Contains accounts b → a.node ≡ b.node → a ≡ b
one_account [] a b differ has other same = absurd (in_nothing a has)
one_account (c ∷ accounts) a b differ has other same =
    go (either_in c accounts a has) (either_in c accounts b other) (λ there also. one_account accounts a b differ.1 there also same)
  where
    go : (c ≡ a) ⊎ Contains accounts a → (c ≡ b) ⊎ Contains accounts b → (Contains accounts a → Contains accounts b → a ≡ b) → a ≡ b
    go (inl is) (inl too) more = sym is ∙ too
    go (inl is) (inr there) more = absurd (apart_in c.node accounts b differ.0 there (ap (λ (x : Account). x.node) is ∙ same))
    go (inr there) (inl too) more = absurd (apart_in c.node accounts a differ.0 there (ap (λ (x : Account). x.node) too ∙ sym same))
    go (inr there) (inr also) more = more there also

-- ---- a strike

-- the one listing that there is
one_listing : (ls : List Listing) (node other : ℕ) → (length ls == 1) ≡ true → list_any (λ (l : Listing). l.node == node) ls ≡ true
    → list_any (λ (l : Listing). l.node == other) ls ≡ true → node ≡ other
one_listing [] node other one has too = absurd (clash has)
one_listing (l ∷ []) node other one has too = sym (named l.node node has) ∙ named l.node other too
  where
    named : (m n : ℕ) → ((m == n) || false) ≡ true → m ≡ n
    named m n e = go (m == n) refl e
      where
        go : (b : Bool) → (m == n) ≡ b → (b || false) ≡ true → m ≡ n
        go true is f = eqb-true m n is
        go false is f = absurd (clash f)
one_listing (l ∷ m ∷ ls) node other one has too = absurd (grind arith)

-- two rows of which none applies
no_row : {X : Type 0} (a b : Bool) (x y : X) → a ≡ false → b ≡ false → first_where ((a, x) ∷ (b, y) ∷ []) ≡ None
unfolding first_where
no_row true b x y p q = absurd (clash (sym p))
no_row false true x y p q = absurd (clash (sym q))
no_row false false x y p q = refl

strikes_by : (s : SenderState) (node : ℕ) (fault : Option StrikeFault) → fault ≡ None
    → (elim fault as (λ _. SenderState × Result Receipt StrikeFault) [ Some why ↦ (s, Err why) | None ↦ (struck_off node s, Ok (receipt.Struck node)) ]).1
    ≡ Ok (receipt.Struck node)
strikes_by s node None e = refl
strikes_by s node (Some why) e = absurd (none-some why (sym e))

struck_ok : (s : SenderState) (node : ℕ) → strike_fault s node ≡ None → (strikes s node).1 ≡ Ok (receipt.Struck node)
struck_ok s node none = strikes_by s node (strike_fault s node) none

-- a member that is silent is not the last one, where another is heard
not_last : (x : Persisted) (a b : Account) → Differ (nodes_of x.accounts) → IsSilent x a → IsHeard x b → (length x.judged.world.sender.listings == 1) ≡ false
not_last x a b differ silent heard = go (length x.judged.world.sender.listings == 1) refl
  where
    go : (one : Bool) → (length x.judged.world.sender.listings == 1) ≡ one → (length x.judged.world.sender.listings == 1) ≡ false
    go false is = is
    go true is =
        let same = one_listing x.judged.world.sender.listings a.node b.node is silent.member.member heard.member.member in
        let one = one_account x.accounts a b differ silent.member.kept heard.member.kept same in
        absurd (clash (sym heard.heard ∙ ap (is_silent x.give_up) (sym one) ∙ silent.silent))

strike_taken : (x : Persisted) (node : ℕ) → Differ (nodes_of x.accounts) → IsDueBy x (job.Strike node)
    → (receipt : Receipt) × ((commanded x.judged.profile x.judged.world.sender (own_name x) (job.Strike node)).1 ≡ Ok receipt)
strike_taken x node differ due =
    let a = due.0.0 in
    let last = not_last x a due.1.0 differ due.0.1 due.1.1 in
    let member : has_member node x.judged.world.sender ≡ true = subst (λ n. has_member n x.judged.world.sender ≡ true) due.0.2 due.0.1.member.member in
    let none : strike_fault x.judged.world.sender node ≡ None =
    no_row (not (has_member node x.judged.world.sender)) (length x.judged.world.sender.listings == 1) (strike.NotMember node) (strike.LastMember node) (ap not member) last in
    (receipt.Struck node, ap (refused_as Strike) (struck_ok x.judged.world.sender node none))

-- ---- a mark

-- a cut leaves the watermarks
cut_marks : (p : Settings) (s : SenderState) → (cut p s).watermarks ≡ s.watermarks
cut_marks p s = go (unclosed p.e (parts_now s))
  where
    go : (n : ℕ) → (elim n as (λ _. SenderState) [ zero ↦ s | suc n ↦ with_parts (parts_now s ++ Cut ∷ []) s ]).watermarks ≡ s.watermarks
    go zero = refl
    go (suc n) = refl

marked_by : (s : SenderState) (by : Origin) (found : Option Position) (at : Position) (full : Bool) → found ≡ Some at → full ≡ false
    → ((elim full as (λ _. SenderState × Result Receipt MarkFault) [
      | true ↦ (s, Err (mark.TooMany (length (open_watermarks s))))
      | false ↦ (with_watermark s by None at, Ok (receipt.Mark (length s.watermarks + 1) at))
    ]).1) ≡ Ok (receipt.Mark (length s.watermarks + 1) at)
marked_by s by found at true is no_room = absurd (clash (sym no_room))
marked_by s by found at false is no_room = refl

mark_made : (s : SenderState) (by : Origin) (found : Option Position) (at : Position) → found ≡ Some at → open_watermarks s ≡ []
    → (watermark_at s by None found).1 ≡ Ok (receipt.Mark (length s.watermarks + 1) at)
mark_made s by None at is none = absurd (none-some at is)
mark_made s by (Some own) at is none =
    let M : Position → Type 0 = λ (p : Position). (watermark_at s by None (Some own)).1 ≡ Ok (receipt.Mark (length s.watermarks + 1) p) in
    subst M (same_Some own at is) (marked_by s by (Some own) own (nat_le most_open (length (open_watermarks s))) refl (ap (λ (ws : List Watermark). nat_le most_open (length ws)) none))

-- whoever lacks something lacks a position
lacked : (o : Option Position) (a : Account) → lacks o a ≡ true → (at : Position) × (o ≡ Some at)
lacked None a e = absurd (clash e)
lacked (Some at) a e = (at, refl)

mark_taken : (x : Persisted) → MarkCalledFor x
    → (receipt : Receipt) × ((commanded x.judged.profile x.judged.world.sender (own_name x) (job.Mark None)).1 ≡ Ok receipt)
mark_taken x m =
    let p = x.judged.profile in
    let s = x.judged.world.sender in
    let last = lacked (last_position p s) m.lacking.0 m.lacking.1.lacks in
    let none : open_watermarks (cut p s) ≡ [] = ap (filter is_open) (cut_marks p s) ∙ m.none_open in
    (receipt.Mark (length (cut p s).watermarks + 1) last.0, ap (refused_as Mark) (mark_made (cut p s) (own_name x) (last_source (current_shapes p (cut p s))) last.0 last.1 none))

taken_by : (x : Persisted) (own : Job) → Differ (nodes_of x.accounts) → IsDueBy x own
    → (receipt : Receipt) × ((commanded x.judged.profile x.judged.world.sender (own_name x) own).1 ≡ Ok receipt)
taken_by x (job.Mark None) differ due = mark_taken x due.0
taken_by x (job.Strike node) differ due = strike_taken x node differ due
taken_by x _ differ due = absurd due

pub own_are_accepted : OwnAreAccepted
own_are_accepted script files nodes give_up events x own is due =
    let same = run_nodes (persisted_opening script files nodes give_up) x events is ∙ opened_nodes (receivers_of script.profile script.profile.receivers) in
    taken_by x own (subst Differ (sym same) (receivers_rise script.profile script.profile.receivers).1) (own_have_reasons x own due).1
