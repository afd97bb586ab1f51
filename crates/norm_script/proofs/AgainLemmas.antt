use Rattle.std.proofs.Common.{◌≡◌, ◌∙◌, sym, ap, ◌+◌, ◌*◌, ◌≤◌, ◌<◌, ◌==◌, ℕ, List, [], ◌∷◌, ◌++◌, length, Some, None, Ok, true, false, refl, arith, nat_eq, nat_le, nat_lt, map, append_assoc, length-append}
use Rattle.std.proofs.lemmas.List.{append-nil}
use Rattle.std.specs.Prelude.{◌&&◌, count_by}
use Rattle.std.specs.List.{AllByRecursion, list_all}
use Rattle.norm_base.specs.Given.{are_values, meets_rules, profile_given}
use Rattle.norm_base.specs.Keys.{row_of, keys, is_value, IsValue}
use Rattle.norm_base.specs.Settings.{Settings, InRange, settings_with, mode_at, fabric_at}
use Rattle.norm_base.specs.declared.key.Key.{Key}
use Rattle.norm_base.specs.declared.key.Key.TheVariants as key
use Rattle.norm_base.specs.declared.kinds.Mode.{Mode}
use Rattle.norm_base.specs.declared.kinds.Mode.TheVariants.{Hold, Drop}
use Rattle.norm_base.specs.declared.kinds.FabricKind.{FabricKind}
use Rattle.norm_base.specs.declared.kinds.FabricKind.TheVariants.{Direct, Chance, Udp}
use Rattle.norm_script.specs.Commands.{Commands}
use Rattle.norm_script.specs.Head.{Head, head_from, setting_of_key, given_by}
use Rattle.norm_script.specs.Reading.{next_line, take_lines, script_of}
use Rattle.norm_script.specs.Scripts.{IsLine, AreNumbered, IsScript}
use Rattle.norm_script.specs.Text.{text_lines}
use Rattle.norm_script.specs.Written.{setting_line, command_line, ended, written, mode_value, fabric_value, value_of_key, script_octets}
use Rattle.norm_script.specs.declared.script.Line.{Line}
use Rattle.norm_script.specs.declared.setting.Setting.{Setting}
use Rattle.norm_script.proofs.SpellLemmas.{is_plain, setting-means, setting-plain, command-means, command-plain}
use Rattle.norm_script.proofs.WordLemmas.{and_true, both, at_least}

-- A script that is written out reads back as itself.

line-read : (line rest : List ℕ) → is_plain line ≡ true → text_lines (line ++ 10 ∷ rest) ≡ line ∷ text_lines rest
line-read [] rest h = refl
line-read (x ∷ xs) rest h =
    let b = both (nat_lt 10 x) (is_plain xs) h in
    let other : nat_eq x 10 ≡ false = grind arith in
    rw (other, line-read xs rest b.1) refl

lines-read : (lines : List (List ℕ)) → AllByRecursion (λ line. is_plain line ≡ true) lines → text_lines (ended lines) ≡ lines
lines-read [] h = refl
lines-read (line ∷ lines) h = line-read line (ended lines) h.0 ∙ ap (λ more. line ∷ more) (lines-read lines h.1)

all_append : {X : Type 0} (P : X → Type 0) (xs ys : List X) → AllByRecursion P xs → AllByRecursion P ys → AllByRecursion P (xs ++ ys)
all_append P [] ys h k = k
all_append P (x ∷ xs) ys h k = (h.0, all_append P xs ys h.1 k)

-- the settings of the lines from n on
abbrev pub numbered : ℕ → List (Key × ℕ) → List Setting
numbered n [] = []
numbered n (s ∷ settings) = record { key = s.0; value = s.1; line = n } ∷ numbered (n + 1) settings

-- each value is one of its key's, and no key comes twice
abbrev pub AreFresh : List Setting → ℕ → List (Key × ℕ) → Type 0
AreFresh before n [] = Unit {0}
AreFresh before n (s ∷ settings) =
    IsValue s.0 s.1 × (setting_of_key s.0 before ≡ None) × AreFresh (before ++ record { key = s.0; value = s.1; line = n } ∷ []) (n + 1) settings

abbrev setting_lines : List (Key × ℕ) → List (List ℕ)
setting_lines settings = map (λ (s : Key × ℕ). setting_line s.0 s.1) settings

abbrev command_lines : List Line → List (List ℕ)
command_lines lines = map (λ l. command_line l.producer l.verb) lines

settings-plain : (before : List Setting) (n : ℕ) (settings : List (Key × ℕ)) → AreFresh before n settings
    → AllByRecursion (λ line. is_plain line ≡ true) (setting_lines settings)
settings-plain before n [] h = tt
settings-plain before n (s ∷ settings) h =
    (setting-plain s.0 s.1 h.0, settings-plain (before ++ record { key = s.0; value = s.1; line = n } ∷ []) (n + 1) settings h.2)

commands-plain : (producers : ℕ) (lines : List Line) → producers ≤ 4 → AllByRecursion (IsLine producers) lines
    → AllByRecursion (λ line. is_plain line ≡ true) (command_lines lines)
commands-plain producers [] few h = tt
commands-plain producers (l ∷ lines) few h =
    (command-plain l.producer l.verb (omega (arith, h.0.last)) h.0.verb, commands-plain producers lines few h.1)

-- the head

abbrev head_with : List Setting → Head
head_with settings = record { settings = settings; refused = None }

not_last : (n : ℕ) → n ≤ 8192 → nat_lt 8192 n ≡ false
not_last n h = grind arith

settings-read : (before : List Setting) (n : ℕ) (settings : List (Key × ℕ)) (rest : List (List ℕ)) → AreFresh before n settings → n + length settings ≤ 8193
    → head_from (head_with before) n (setting_lines settings ++ rest) ≡ head_from (head_with (before ++ numbered n settings)) (n + length settings) rest
settings-read before n [] rest h few =
    let same : n + 0 ≡ n = omega arith in rw (append-nil before, same) refl
settings-read before n (s ∷ settings) rest h few =
    let new : Setting = record { key = s.0; value = s.1; line = n } in
    let count : (n + 1) + length settings ≡ n + length (s ∷ settings) = omega arith in
    let all : (before ++ new ∷ []) ++ numbered (n + 1) settings ≡ before ++ new ∷ numbered (n + 1) settings = append_assoc before (new ∷ []) (numbered (n + 1) settings) in
    rw (not_last n (omega arith), setting-means s.0 s.1 h.0, h.1)
    (settings-read (before ++ new ∷ []) (n + 1) settings rest h.2 (omega arith)
    ∙ ap (λ m. head_from (head_with ((before ++ new ∷ []) ++ numbered (n + 1) settings)) m rest) count
    ∙ ap (λ xs. head_from (head_with xs) (n + length (s ∷ settings)) rest) all)

-- the first command ends it
head-over : (h : Head) (n producers : ℕ) (lines : List Line) → producers ≤ 4 → n ≤ 8192 → AllByRecursion (IsLine producers) lines
    → head_from h n (command_lines lines) ≡ record { head = h; next = n; rest = command_lines lines }
head-over h n producers [] few room each = refl
head-over h n producers (l ∷ lines) few room each =
    rw (not_last n room, command-means l.producer l.verb each.0.first (omega (arith, each.0.last)) each.0.verb) refl

-- the commands

not_full : (n : ℕ) → n < 4096 → nat_le 4096 n ≡ false
not_full n h = grind arith

known_producer : (producers p : ℕ) → p ≤ producers → nat_lt producers p ≡ false
known_producer producers p h = grind arith

same_line : (before : List Line) (l : Line) → l.number ≡ count_by (λ k. k.producer == l.producer) before + 1 → next_line before l.producer l.verb ≡ l
same_line before l e = ap (λ n. record l { number = n }) (sym e)

commands-read : (profile : Settings) (before : List Line) (n : ℕ) (lines : List Line) → profile.producers ≤ 4 → length before + length lines ≤ 4096
    → n + length lines ≤ 8193 → AllByRecursion (IsLine profile.producers) lines → AreNumbered before lines
    → take_lines profile before n (command_lines lines) ≡ Ok (before ++ lines)
commands-read profile before n [] few room rows each numbers = rw (append-nil before) refl
commands-read profile before n (l ∷ lines) few room rows each numbers =
    let all : (before ++ l ∷ []) ++ lines ≡ before ++ l ∷ lines = append_assoc before (l ∷ []) lines in
    rw (
      not_last n (omega arith),
      command-means l.producer l.verb each.0.first (omega (arith, each.0.last)) each.0.verb,
      not_full (length before) (omega arith),
      known_producer profile.producers l.producer each.0.last,
      same_line before l numbers.0,
    )
    (commands-read profile (before ++ l ∷ []) (n + 1) lines few (omega (arith, length-append before (l ∷ []))) (omega arith) each.1 numbers.1
    ∙ ap Ok all)

-- settings and commands

pub written-read : (settings : List (Key × ℕ)) (profile : Settings) (lines : List Line) → AreFresh [] 1 settings → length settings ≤ 26
    → profile_given (given_by (numbered 1 settings)) ≡ Some profile → IsScript (record { profile = profile; lines = lines })
    → script_of (written settings lines) ≡ Ok (record { profile = profile; lines = lines })
written-read settings profile lines fresh few given script =
    let producers : profile.producers ≤ 4 = script.range.producers.1 in
    let plain = all_append (λ line. is_plain line ≡ true) (setting_lines settings) (command_lines lines) (settings-plain [] 1 settings fresh)
    (commands-plain profile.producers lines producers script.each) in
    let head = settings-read [] 1 settings (command_lines lines) fresh (omega arith)
    ∙ head-over (head_with (numbered 1 settings)) (1 + length settings) profile.producers lines producers (omega arith) script.each in
    rw (
      lines-read (setting_lines settings ++ command_lines lines) plain,
      head,
      given,
      commands-read profile [] (1 + length settings) lines producers (omega (arith, script.few)) (omega (arith, script.few)) script.each script.numbered,
    ) refl

-- all keys

abbrev all_settings : Settings → List (Key × ℕ)
all_settings s = map (λ key. (key, value_of_key s key)) keys

mode_back : (m : Mode) → mode_at (mode_value m) ≡ m
mode_back Hold = refl
mode_back Drop = refl

fabric_back : (f : FabricKind) → fabric_at (fabric_value f) ≡ f
fabric_back Direct = refl
fabric_back Chance = refl
fabric_back Udp = refl

mode_least : (m : Mode) → IsValue key.Mode (mode_value m)
mode_least Hold = (omega arith, omega arith)
mode_least Drop = (omega arith, omega arith)

fabric_least : (f : FabricKind) → IsValue key.Fabric (fabric_value f)
fabric_least Direct = (omega arith, omega arith)
fabric_least Chance = (omega arith, omega arith)
fabric_least Udp = (omega arith, omega arith)

value-in_range : (s : Settings) → InRange s → (k : Key) → IsValue k (value_of_key s k)
value-in_range s r key.Instance = r.instance
value-in_range s r key.First = r.first
value-in_range s r key.Sender = r.sender
value-in_range s r key.Receivers = r.receivers
value-in_range s r key.Producers = r.producers
value-in_range s r key.E = r.e
value-in_range s r key.B = r.b
value-in_range s r key.MaxN = r.max_n
value-in_range s r key.Auto = r.auto
value-in_range s r key.Window = r.window
value-in_range s r key.Octets = r.octets
value-in_range s r key.Blocks = r.blocks
value-in_range s r key.Mode = mode_least s.mode
value-in_range s r key.Gap = r.gap
value-in_range s r key.Grtt = r.grtt
value-in_range s r key.GrttCode = r.grtt_code
value-in_range s r key.GsizeCode = r.gsize_code
value-in_range s r key.K = r.k
value-in_range s r key.Step = r.step
value-in_range s r key.Turns = r.turns
value-in_range s r key.Fabric = fabric_least s.fabric
value-in_range s r key.Chance = r.chance
value-in_range s r key.Loss = r.loss
value-in_range s r key.Repeat = r.repeat
value-in_range s r key.Late = r.late
value-in_range s r key.Port = r.port

is_value-true : (k : Key) (v : ℕ) → IsValue k v → is_value k v ≡ true
is_value-true k v is = and_true (nat_le (row_of k).least v) (nat_le v (row_of k).greatest) (at_least (row_of k).least v is.0) (at_least v (row_of k).greatest is.1)

values-true : (s : Settings) → InRange s → (ks : List Key) → list_all (λ k. is_value k (value_of_key s k)) ks ≡ true
values-true s r [] = refl
values-true s r (k ∷ ks) =
    and_true (is_value k (value_of_key s k)) (list_all (λ k. is_value k (value_of_key s k)) ks) (is_value-true k (value_of_key s k) (value-in_range s r k)) (values-true s r ks)

rules-true : (s : Settings) → InRange s → meets_rules (value_of_key s) ≡ true
rules-true s r =
    and_true (nat_le s.b s.max_n) (nat_le (s.blocks * s.b * s.e) 16777216) (at_least s.b s.max_n r.longest) (at_least (s.blocks * s.b * s.e) 16777216 r.buffer)

same_settings : (s : Settings) → settings_with (value_of_key s) ≡ s
same_settings s = rw (mode_back s.mode, fabric_back s.fabric) refl

all-given : (s : Settings) → InRange s → profile_given (given_by (numbered 1 (all_settings s))) ≡ Some s
all-given s r =
    let ok : (are_values (value_of_key s) keys && meets_rules (value_of_key s)) ≡ true =
    and_true (are_values (value_of_key s) keys) (meets_rules (value_of_key s)) (values-true s r keys) (rules-true s r) in
    rw ok (ap Some (same_settings s))

all-fresh : (s : Settings) → InRange s → AreFresh [] 1 (all_settings s)
all-fresh s r =
    let v = value-in_range s r in
    (v key.Instance, refl, (v key.First, refl, (v key.Sender, refl, (v key.Receivers, refl, (v key.Producers, refl, (v key.E, refl, (v key.B, refl, (v key.MaxN, refl, (v key.Auto, refl, (v key.Window, refl, (v key.Octets, refl, (v key.Blocks, refl, (v key.Mode, refl, (v key.Gap, refl, (v key.Grtt, refl, (v key.GrttCode, refl, (v key.GsizeCode, refl, (v key.K, refl, (v key.Step, refl, (v key.Turns, refl, (v key.Fabric, refl, (v key.Chance, refl, (v key.Loss, refl, (v key.Repeat, refl, (v key.Late, refl, (v key.Port, refl, tt))))))))))))))))))))))))))

pub script-again : (c : Commands) → IsScript c → script_of (script_octets c) ≡ Ok c
script-again c is = written-read (all_settings c.profile) c.profile c.lines (all-fresh c.profile is.range) (omega arith) (all-given c.profile is.range) is

pub ruleset again_laws = (script-again)
