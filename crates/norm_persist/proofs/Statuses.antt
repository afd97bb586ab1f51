-- What an exit status says.
use Rattle.std.proofs.Common.{◌≡◌, ℕ, Bool, true, false, Option, None, Some, refl, sym, ap, subst, ◌∙◌, inl, inr}
use Rattle.std.specs.Prelude.{◌&&◌, not, ◌⊎◌, ◌↔◌}
use Rattle.std.proofs.lemmas.Option.{none-some, same_Some}
use Rattle.fec_plan.specs.Points.{reaches}
use Rattle.fec_plan.specs.declared.position.Position.{Position}
use Rattle.norm_persist.specs.declared.account.Account.{Account}
use Rattle.norm_persist.specs.Accounts.{has_confirmed, lacks, last_position}
use Rattle.norm_persist.specs.Laws.{AllConfirmed, StatusSays, StatusesSay}
use Rattle.norm_persist.specs.Persisted.{Persisted, lacks_now}
use Rattle.norm_persist.specs.PersistRun.{is_lacking}
use Rattle.norm_persist.proofs.Tests.{clash, any_found, any_finds}

-- whoever confirmed a position
confirmed_of : (last : Position) (o : Option Position) → elim o as (λ _. Bool) [ Some at ↦ reaches at last | None ↦ false ] ≡ true
    → (at : Position) × (o ≡ Some at) × (reaches at last ≡ true)
confirmed_of last (Some at) e = (at, refl, e)
confirmed_of last None e = absurd (clash e)

not_lacking : (o : Option Position) (a : Account) → lacks o a ≡ false → (last : Position) → o ≡ Some last → (at : Position) × (a.confirmed ≡ Some at) × (reaches at last ≡ true)
not_lacking None a e last is = absurd (none-some last is)
not_lacking (Some own) a e last is =
    subst (λ p. (at : Position) × (a.confirmed ≡ Some at) × (reaches at p ≡ true)) (same_Some own last is) (confirmed_of own a.confirmed (back (has_confirmed own a) e))
  where
    back : (b : Bool) → not b ≡ false → b ≡ true
    back true f = refl
    back false f = absurd (clash (sym f))

reached : (last : Position) (o : Option Position) (at : Position) → o ≡ Some at → reaches at last ≡ true
    → elim o as (λ _. Bool) [ Some at ↦ reaches at last | None ↦ false ] ≡ true
reached last o at is e = ap (λ (p : Option Position). elim p as (λ _. Bool) [ Some at ↦ reaches at last | None ↦ false ]) is ∙ e

lacks_nothing : (o : Option Position) (a : Account) → ((last : Position) → o ≡ Some last → (at : Position) × (a.confirmed ≡ Some at) × (reaches at last ≡ true)) → lacks o a ≡ false
lacks_nothing None a has = refl
lacks_nothing (Some last) a has = let h = has last refl in ap not (reached last a.confirmed h.0 h.1 h.2)

excused_or : (lacks excused : Bool) → (lacks && not excused) ≡ true → (lacks ≡ true) × (excused ≡ false)
excused_or true true e = absurd (clash e)
excused_or true false e = (refl, refl)
excused_or false excused e = absurd (clash e)

both_say : (lacks excused : Bool) → lacks ≡ true → excused ≡ false → (lacks && not excused) ≡ true
both_say true false l e = refl
both_say true true l e = absurd (clash (sym e))
both_say false excused l e = absurd (clash l)

-- nobody lacks anything, but for those that the script struck
pub none_lacks : (x : Persisted) → is_lacking x ≡ false → AllConfirmed x
none_lacks x e a has own = not_lacking (last_position x.judged.profile x.judged.world.sender) a (go (lacks_now x a) refl)
  where
    go : (b : Bool) → lacks_now x a ≡ b → lacks_now x a ≡ false
    go false is = is
    go true is = absurd (clash (sym e ∙ any_finds (λ (a : Account). lacks_now x a && not a.excused) x.accounts a has (both_say (lacks_now x a) a.excused is own)))

pub all_confirmed : (x : Persisted) → AllConfirmed x → is_lacking x ≡ false
all_confirmed x all = go (is_lacking x) refl
  where
    go : (b : Bool) → is_lacking x ≡ b → is_lacking x ≡ false
    go false is = is
    go true is =
        let found = any_found (λ (a : Account). lacks_now x a && not a.excused) x.accounts is in
        let two = excused_or (lacks_now x found.0) found.0.excused found.2 in
        absurd (clash (sym (lacks_nothing (last_position x.judged.profile x.judged.world.sender) found.0 (all found.0 found.1 two.1)) ∙ two.0))

-- the status of a run that ended whole or given up, by whether a receiver lacks something
abbrev said : Bool → ℕ
said lacking = elim lacking as (λ _. ℕ) [ true ↦ 15 | false ↦ 0 ]

says : (x : Persisted) (b : Bool) → is_lacking x ≡ b → ((said b ≡ 0) ↔ AllConfirmed x) × ((said b ≡ 0) ⊎ (said b ≡ 15))
says x true is = ((λ e. absurd (fifteen e), λ all. absurd (clash (sym (all_confirmed x all) ∙ is))), inr refl)
  where
    fifteen : said true ≡ 0 → ⊥
    fifteen e = cc
says x false is = ((λ e. none_lacks x is, λ all. refl), inl refl)

pub statuses_say : StatusesSay
statuses_say x ending ended (inl whole) =
    let two = says x (is_lacking x) refl in
    subst (λ e. StatusSays x e) (sym whole) (record { zero = two.0; other = two.1 })
statuses_say x ending ended (inr given_up) =
    let two = says x (is_lacking x) refl in
    subst (λ e. StatusSays x e) (sym given_up) (record { zero = two.0; other = two.1 })
