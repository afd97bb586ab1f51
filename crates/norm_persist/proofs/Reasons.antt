-- Why own commands are due, and that they are.
use Rattle.std.proofs.Common.{◌≡◌, ℕ, List, [], ◌∷◌, length, Bool, true, false, Option, None, Some, refl, sym, ap, subst, ◌∙◌, arith, inl, inr}
use Rattle.std.specs.Prelude.{◌&&◌, ◌||◌, ◌==◌, Contains, ◌⊎◌, ◌≢◌, is_some}
use Rattle.std.proofs.lemmas.Option.{none-some, same_Some}
use Rattle.norm_script.specs.declared.script.Line.{Line}
use Rattle.norm_send_rules.specs.Ticking.{is_idle}
use Rattle.norm_send_rules.specs.Watermarks.{open_watermarks, has_member}
use Rattle.norm_send_rules.specs.declared.job.Job.{Job}
use Rattle.norm_send_rules.specs.declared.job.Job.TheVariants as job
use Rattle.norm_persist.specs.declared.account.Account.{Account}
use Rattle.norm_persist.specs.Accounts.{is_silent, of_members}
use Rattle.norm_persist.specs.Laws.{OfMember, IsSilent, IsHeard, MarkCalledFor, IsDueBy, OwnHaveReasons, OwnComeInTime}
use Rattle.norm_persist.specs.Persisted.{Persisted, has_stopped, may_own, own_due, lacks_now}
use Rattle.norm_persist.specs.Persisting.{all_silent, first_silent, calls_for_mark, own_job}
use Rattle.norm_persist.proofs.Tests.{clash, any_found, any_finds, all_broken, all_breaks, first_found, none_found, is_kept, keeps}

pub both : (a b : Bool) → (a && b) ≡ true → (a ≡ true) × (b ≡ true)
both true b e = (refl, e)
both false b e = absurd (clash e)

no_items : {X : Type 0} (xs : List X) → (length xs == 0) ≡ true → xs ≡ []
no_items [] e = refl
no_items (x ∷ xs) e = absurd (grind arith)

is_there : {X : Type 0} (o : Option X) → is_some o ≡ true → o ≢ None
is_there (Some x) e same = none-some x (sym same)
is_there None e same = clash e

some_there : {X : Type 0} (o : Option X) → o ≢ None → is_some o ≡ true
some_there (Some x) there = refl
some_there None there = absurd (there refl)

-- the accounts of the members, and the number that is asked for
abbrev here : Persisted → List Account
here x = of_members x.judged.world.sender x.accounts

of_member : (x : Persisted) (a : Account) → Contains (here x) a → OfMember x a
of_member x a has = let kept = is_kept (λ (a : Account). has_member a.node x.judged.world.sender) x.accounts a has in record { kept = kept.0; member = kept.1 }

is_here : (x : Persisted) (a : Account) → OfMember x a → Contains (here x) a
is_here x a of = keeps (λ (a : Account). has_member a.node x.judged.world.sender) x.accounts a of.kept of.member

stopped_so : (waiting : Option Line) (left : List Line) → (is_some waiting || length left == 0) ≡ true → (waiting ≢ None) ⊎ (left ≡ [])
stopped_so (Some line) left e = inl (λ same. none-some line (sym same))
stopped_so None left e = inr (no_items left e)

stops : (waiting : Option Line) (left : List Line) → (waiting ≢ None) ⊎ (left ≡ []) → (is_some waiting || length left == 0) ≡ true
stops (Some line) left either = refl
stops None left (inl there) = absurd (there refl)
stops None left (inr none) = ap (λ (ls : List Line). length ls == 0) none

called_for : (x : Persisted) → (has_stopped x.judged && calls_for_mark x.judged.profile x.judged.world.sender x.accounts) ≡ true → MarkCalledFor x
called_for x e =
    let two = both (has_stopped x.judged) _ e in
    let last = both (is_idle x.judged.profile x.judged.world.sender && length (open_watermarks x.judged.world.sender) == 0) _ two.1 in
    let first = both (is_idle x.judged.profile x.judged.world.sender) _ last.0 in
    let found = any_found (lacks_now x) (here x) last.1 in
    record {
      idle = first.0;
      none_open = no_items (open_watermarks x.judged.world.sender) first.1;
      lacking = (found.0, record { member = of_member x found.0 found.1; lacks = found.2 });
      stopped = stopped_so x.judged.waiting x.judged.left two.0;
    }

all_three : (a b c d : Bool) → a ≡ true → b ≡ true → c ≡ true → d ≡ true → (a && (b && c && d)) ≡ true
all_three a b c d p q r s = ap (λ x. x && (b && c && d)) p ∙ ap (λ x. x && c && d) q ∙ ap (λ x. x && d) r ∙ s

calls : (x : Persisted) → MarkCalledFor x → (has_stopped x.judged && calls_for_mark x.judged.profile x.judged.world.sender x.accounts) ≡ true
calls x m = all_three (has_stopped x.judged) (is_idle x.judged.profile x.judged.world.sender) (length (open_watermarks x.judged.world.sender) == 0) _
    (stops x.judged.waiting x.judged.left m.stopped) m.idle (ap (λ ws. length ws == 0) m.none_open)
    (any_finds (lacks_now x) (here x) m.lacking.0 (is_here x m.lacking.0 m.lacking.1.member) m.lacking.1.lacks)

-- what is due, by who is silent first, whether all are, and whether a mark is called for
abbrev due_by : Option Account → Bool → Bool → Option Job
due_by first all called = elim first as (λ _. Option Job) [
  | Some a ↦ elim all as (λ _. Option Job) [ true ↦ None | false ↦ Some (job.Strike a.node) ]
  | None ↦ elim called as (λ _. Option Job) [ true ↦ Some (job.Mark None) | false ↦ None ]
]

reasons_by : (x : Persisted) (own : Job) (first : Option Account) (all called : Bool) → first_silent x.give_up x.judged.world.sender x.accounts ≡ first
    → all_silent x.give_up x.judged.world.sender x.accounts ≡ all
    → (has_stopped x.judged && calls_for_mark x.judged.profile x.judged.world.sender x.accounts) ≡ called → due_by first all called ≡ Some own → IsDueBy x own
reasons_by x own (Some a) true called f s c e = absurd (none-some own e)
reasons_by x own (Some a) false called f s c e =
    let found = first_found (is_silent x.give_up) (here x) a f in
    let other = all_broken (is_silent x.give_up) (here x) s in
    subst (IsDueBy x) (same_Some (job.Strike a.node) own e) (
      (a, record { member = of_member x a found.0; silent = found.1 }, refl),
      (other.0, record { member = of_member x other.0 other.1; heard = other.2 }),
    )
reasons_by x own None all true f s c e =
    subst (IsDueBy x) (same_Some (job.Mark None) own e) (
      called_for x c,
      λ a silent. clash (sym (none_found (is_silent x.give_up) (here x) a f (is_here x a silent.member)) ∙ silent.silent),
    )
reasons_by x own None all false f s c e = absurd (none-some own e)

may_by : (x : Persisted) (own : Job) (may : Bool) → may_own x ≡ may
    → elim may as (λ _. Option Job) [
      | true ↦ own_job x.judged.profile x.judged.world.sender x.give_up (has_stopped x.judged) x.accounts
      | false ↦ None
    ] ≡ Some own → (may_own x ≡ true) × IsDueBy x own
may_by x own true is e = (is, reasons_by x own _ _ _ refl refl refl e)
may_by x own false is e = absurd (none-some own e)

pub own_have_reasons : OwnHaveReasons
own_have_reasons x own e = may_by x own (may_own x) refl e

-- what is due where it may be
due_where : (x : Persisted) → may_own x ≡ true → own_due x ≡ own_job x.judged.profile x.judged.world.sender x.give_up (has_stopped x.judged) x.accounts
due_where x may = ap (λ b. elim b as (λ _. Option Job) [
  | true ↦ own_job x.judged.profile x.judged.world.sender x.give_up (has_stopped x.judged) x.accounts
  | false ↦ None
]) may

struck_by : (x : Persisted) (a b : Account) → IsSilent x a → IsHeard x b → (first : Option Account) (all called : Bool)
    → first_silent x.give_up x.judged.world.sender x.accounts ≡ first → all_silent x.give_up x.judged.world.sender x.accounts ≡ all
    → (node : ℕ) × (due_by first all called ≡ Some (job.Strike node))
struck_by x a b silent heard None all called f s =
    absurd (clash (sym (none_found (is_silent x.give_up) (here x) a f (is_here x a silent.member)) ∙ silent.silent))
struck_by x a b silent heard (Some c) true called f s =
    absurd (clash (sym (all_breaks (is_silent x.give_up) (here x) b (is_here x b heard.member) heard.heard) ∙ s))
struck_by x a b silent heard (Some c) false called f s = (c.node, refl)

marked_by : (x : Persisted) → ((a : Account) → IsSilent x a → ⊥) → (first : Option Account) (all called : Bool)
    → first_silent x.give_up x.judged.world.sender x.accounts ≡ first → called ≡ true → due_by first all called ≡ Some (job.Mark None)
marked_by x nobody None all called f c = ap (λ b. elim b as (λ _. Option Job) [ true ↦ Some (job.Mark None) | false ↦ None ]) c
marked_by x nobody (Some a) all called f c =
    let found = first_found (is_silent x.give_up) (here x) a f in
    absurd (nobody a (record { member = of_member x a found.0; silent = found.1 }))

pub own_come_in_time : OwnComeInTime
own_come_in_time = record {
  strikes = λ x a b may silent heard. (
      let found = struck_by x a b silent heard _ _ (has_stopped x.judged && calls_for_mark x.judged.profile x.judged.world.sender x.accounts) refl refl in
      (found.0, due_where x may ∙ found.1));
  marks = λ x may m nobody. due_where x may ∙ marked_by x nobody _ (all_silent x.give_up x.judged.world.sender x.accounts) _ refl (calls x m);
}
