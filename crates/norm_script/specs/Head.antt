use Rattle.std.specs.Prelude.{ℕ, ◌+◌, ◌==◌, List, [], ◌∷◌, ◌++◌, nat_lt, unwrap_or, Option, None, Some, Result, Ok, Err, find, fold, if◌then◌else◌}
use Rattle.norm_base.specs.Given.{nothing_given, give, value_in, profile_given}
use Rattle.norm_base.specs.Keys.{row_of}
use Rattle.norm_base.specs.Settings.{Settings}
use Rattle.norm_base.specs.declared.key.Key.{Key}
use Rattle.norm_base.specs.declared.key.Key.TheVariants as key
use Rattle.norm_script.specs.Meaning.{meaning_of}
use Rattle.norm_script.specs.declared.meaning.Meaning.{Meaning}
use Rattle.norm_script.specs.declared.meaning.Meaning.TheVariants.{Nothing, Set, Command}
use Rattle.norm_script.specs.declared.refusal.Refusal.{Refusal}
use Rattle.norm_script.specs.declared.refusal.Why.{Why}
use Rattle.norm_script.specs.declared.refusal.Why.TheVariants as why
use Rattle.norm_script.specs.declared.setting.Setting.{Setting}

-- A script's head: the lines before the first command. It sets keys.

-- the settings in their order, and the first line without meaning
pub record Head : Type 0 where
  pub settings : List Setting
  pub refused : Option Refusal

abbrev pub nothing_set : Head
nothing_set = record { settings = []; refused = None }

-- a line has no meaning; the first such line counts, and the lines after it may still set keys
abbrev pub refuse : Head → ℕ → Why → Head
refuse h n reason = record h { refused = Some (unwrap_or h.refused (record { line = n; why = reason })) }

-- the line that set a key
abbrev pub setting_of_key : Key → List Setting → Option Setting
setting_of_key key settings = find (λ s. (row_of s.key).place == (row_of key).place) settings

-- a key is set at most once
abbrev pub set_once : Head → Setting → Option Setting → Head
set_once h new None = record h { settings = h.settings ++ new ∷ [] }
set_once h new (Some old) = refuse h new.line (why.Twice new.key old.line)

-- the head after line n; none where that line is a command, which ends the head
abbrev pub head_after : Head → ℕ → Result Meaning Why → Option Head
head_after h n (Ok Nothing) = Some h
head_after h n (Ok (Set key value)) =
    Some (set_once h (record { key = key; value = value; line = n }) (setting_of_key key h.settings))
head_after h n (Ok (Command producer verb)) = None
head_after h n (Err reason) = Some (refuse h n reason)

-- a script has 8,192 lines: the head ends there too
abbrev pub head_line : Head → ℕ → List ℕ → Option Head
head_line h n line = if nat_lt 8192 n then None else head_after h n (meaning_of line)

-- a head, and the lines behind it, of which the first has this number
pub record Begun : Type 0 where
  pub head : Head
  pub next : ℕ
  pub rest : List (List ℕ)

abbrev pub or_ends : Option Head → Begun → (Head → Begun) → Begun
or_ends None begun go_on = begun
or_ends (Some h) begun go_on = go_on h

abbrev pub head_from : Head → ℕ → List (List ℕ) → Begun
head_from h n [] = record { head = h; next = n; rest = [] }
head_from h n (line ∷ lines) =
    or_ends (head_line h n line) (record { head = h; next = n; rest = line ∷ lines })
    (λ after. head_from after (n + 1) lines)

-- the values that are set, and the line that sets the last of them
abbrev pub given_by : List Setting → List (Option ℕ)
given_by settings = fold (λ given s. give given s.key s.value) nothing_given settings

abbrev pub last_set : List Setting → ℕ
last_set settings = fold (λ line s. s.line) 0 settings

-- which of the two rules across keys is broken
abbrev pub broken_rule : (Key → ℕ) → Why
broken_rule value =
    if nat_lt (value key.MaxN) (value key.B) then why.MaxBelowB (value key.MaxN) (value key.B)
    else why.Buffer (value key.Blocks) (value key.B) (value key.E)

-- where a rule is broken, the last setting has no meaning
abbrev pub rule_refusal : List Setting → Refusal
rule_refusal settings = record { line = last_set settings; why = broken_rule (value_in (given_by settings)) }

-- the refusal of the earlier line
abbrev pub earlier : Refusal → Refusal → Refusal
earlier a b = if nat_lt a.line b.line then a else b

-- the profile that the settings make, where no line of the head was refused and both rules hold
abbrev pub settled : Option Refusal → Option Settings → Refusal → Result Settings Refusal
settled None (Some profile) rule = Ok profile
settled None None rule = Err rule
settled (Some refused) (Some profile) rule = Err refused
settled (Some refused) None rule = Err (earlier refused rule)

abbrev pub profile_of : Head → Result Settings Refusal
profile_of h = settled h.refused (profile_given (given_by h.settings)) (rule_refusal h.settings)
