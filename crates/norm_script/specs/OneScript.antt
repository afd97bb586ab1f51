-- What the texts of one script have in common.
use Rattle.std.specs.Prelude.{◌≡◌, ℕ, ◌==◌, Bool, List, Option, None, Some, unwrap_or, find, Ok}
use Rattle.std.specs.List.{IsDistinct}
use Rattle.norm_base.specs.Given.{default_beside}
use Rattle.norm_base.specs.Keys.{row_of}
use Rattle.norm_base.specs.Settings.{Settings}
use Rattle.norm_base.specs.declared.key.Key.{Key}
use Rattle.norm_base.specs.declared.key.Key.TheVariants as key
use Rattle.norm_script.specs.Commands.{Commands}
use Rattle.norm_script.specs.Plain.{plain}
use Rattle.norm_script.specs.Reading.{script_of}
use Rattle.norm_script.specs.Written.{written, value_of_key}
use Rattle.norm_script.specs.declared.script.Line.{Line}

-- two settings of one key
abbrev pub same_key : Key × ℕ → Key × ℕ → Bool
same_key a b = (row_of a.0).place == (row_of b.0).place

-- the value that settings give a key, where they do
abbrev pub value_set : List (Key × ℕ) → Key → Option ℕ
value_set settings key =
    elim (find (λ (s : Key × ℕ). (row_of s.0).place == (row_of key).place) settings) [ Some s ↦ Some s.1 | None ↦ None ]

-- a key's value where these are set: its own, or its default
abbrev pub value_where : List (Key × ℕ) → Key → ℕ
value_where settings k =
    unwrap_or (value_set settings k) (default_beside (unwrap_or (value_set settings key.B) (row_of key.B).default) k)

-- settings of each key at most once, where each key of a profile has the value that is set, or its default
pub record Makes (settings : List (Key × ℕ)) (profile : Settings) : Type 0 where
  pub once : IsDistinct same_key settings
  pub values : (k : Key) → value_of_key profile k ≡ value_where settings k

-- The text of a script: but for comments, empty lines and the case of hexadecimal digits it is settings that make the
-- profile, written out, and behind them the commands, written out in their order.
abbrev pub IsTextOf : Commands → List ℕ → Type 0
IsTextOf script text = (settings : List (Key × ℕ)) × (plain text ≡ written settings script.lines) × Makes settings script.profile

-- Two texts are alike where, but for comments, empty lines and the case of hexadecimal digits, both are settings and the
-- same commands behind them, and the settings differ in order and in those that repeat a default alone.
pub record AreAlike (one other : List ℕ) : Type 0 where
  pub lines : List Line
  pub settings : List (Key × ℕ)
  pub others : List (Key × ℕ)
  pub one_is : plain one ≡ written settings lines
  pub other_is : plain other ≡ written others lines
  pub once : IsDistinct same_key settings × IsDistinct same_key others
  pub values : (k : Key) → value_where settings k ≡ value_where others k

-- what a text of a script is, and what two texts of one script have in common
pub record OneScriptLaws : Type 0 where
  pub of_one : (text : List ℕ) (script : Commands) → script_of text ≡ Ok script → IsTextOf script text
  pub of_two : (one other : List ℕ) (script : Commands) → script_of one ≡ Ok script → script_of other ≡ Ok script → AreAlike one other
