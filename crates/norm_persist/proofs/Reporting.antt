-- What a report says.
use Rattle.std.proofs.Common.{◌≡◌, ℕ, List, [], ◌∷◌, cond, Bool, true, false, refl, sym, ap, subst, ◌∙◌, inl, inr}
use Rattle.std.specs.Prelude.{◌&&◌, ◌||◌, ◌≢◌, ◌⊎◌, not, filter}
use Rattle.std.specs.List.{list_any}
use Rattle.norm_persist.specs.declared.account.Account.{Account}
use Rattle.norm_persist.specs.declared.report.Report.{Report}
use Rattle.norm_persist.specs.declared.report.Verdict.{Verdict}
use Rattle.norm_persist.specs.declared.report.Verdict.TheVariants as verdict
use Rattle.norm_persist.specs.Laws.{AllConfirmed}
use Rattle.norm_persist.specs.Persisted.{Persisted, lacks_now}
use Rattle.norm_persist.specs.PersistRun.{is_lacking, status_of}
use Rattle.norm_persist.specs.Reports.{IsReport, ReportSays, ReportsSay, ending_by, is_lacking_in, report_status}
use Rattle.norm_persist.proofs.Statuses.{none_lacks, all_confirmed}
use Rattle.norm_persist.proofs.Tests.{clash}

-- of those that pass a filter one passes another test exactly if one passes both
any_filter : (test other : Account → Bool) (accounts : List Account)
    → list_any other (filter test accounts) ≡ list_any (λ a. test a && other a) accounts
any_filter test other [] = refl
any_filter test other (a ∷ accounts) = go (test a) (any_filter test other accounts)
  where
    go : (b : Bool) → list_any other (filter test accounts) ≡ list_any (λ a. test a && other a) accounts
        → list_any other (cond b (a ∷ filter test accounts) (filter test accounts)) ≡ ((b && other a) || list_any (λ a. test a && other a) accounts)
    go true rest = ap (λ c. other a || c) rest
    go false rest = rest

lacking_in : (x : Persisted) (r : Report) → IsReport x r → is_lacking_in r.lacking.items ≡ is_lacking x
lacking_in x r is =
    ap is_lacking_in is.lacking_is ∙ any_filter (lacks_now x) (λ (a : Account). not a.excused) x.accounts

zero_says : (v : Verdict) (b : Bool) → status_of (ending_by v) b ≡ 0 → b ≡ false
zero_says verdict.Whole false e = refl
zero_says verdict.Whole true e = absurd (cc)
zero_says verdict.GivenUp false e = refl
zero_says verdict.GivenUp true e = absurd (cc)
zero_says verdict.Spent b e = absurd (cc)

fifteen_says : (v : Verdict) (b : Bool) → status_of (ending_by v) b ≡ 15 → b ≡ true
fifteen_says verdict.Whole true e = refl
fifteen_says verdict.Whole false e = absurd (cc)
fifteen_says verdict.GivenUp true e = refl
fifteen_says verdict.GivenUp false e = absurd (cc)
fifteen_says verdict.Spent b e = absurd (cc)

ended_says : (v : Verdict) (b : Bool) → v ≢ verdict.Spent → (status_of (ending_by v) b ≡ 0) ⊎ (status_of (ending_by v) b ≡ 15)
ended_says verdict.Whole true e = inr refl
ended_says verdict.Whole false e = inl refl
ended_says verdict.GivenUp true e = inr refl
ended_says verdict.GivenUp false e = inl refl
ended_says verdict.Spent b e = absurd (e refl)

spent_says : (v : Verdict) (b : Bool) → v ≡ verdict.Spent → status_of (ending_by v) b ≡ 8
spent_says v b e = ap (λ (w : Verdict). status_of (ending_by w) b) e

pub reports_say : ReportsSay
reports_say x r is =
    let same = lacking_in x r is in
    record {
      zero = λ e. none_lacks x (sym same ∙ zero_says r.verdict (is_lacking_in r.lacking.items) e);
      other = λ e all. clash (sym (all_confirmed x all) ∙ sym same ∙ fifteen_says r.verdict (is_lacking_in r.lacking.items) e);
      ended = ended_says r.verdict (is_lacking_in r.lacking.items);
      spent = spent_says r.verdict (is_lacking_in r.lacking.items);
    }
