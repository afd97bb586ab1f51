-- Options in place of a script's keys.
use Rattle.std.proofs.Common.{◌≡◌, ap, ℕ, List, Option, None, Some, Ok}
use Rattle.std.specs.Prelude.{IfSome, unwrap_or}
use Rattle.std.specs.Result.{result_map_both}
use Rattle.norm_base.specs.Keys.{IsValue}
use Rattle.norm_base.specs.Settings.{Settings, InRange}
use Rattle.norm_base.specs.declared.key.Key.{Key}
use Rattle.norm_base.specs.declared.key.Key.TheVariants as key
use Rattle.norm_script.specs.Commands.{Commands}
use Rattle.norm_script.specs.Reading.{script_of}
use Rattle.norm_script.specs.Scripts.{CanRun}
use Rattle.norm_args.specs.Fits.{FitsOptions}
use Rattle.norm_args.specs.declared.tasks.Options.{Options}
use Rattle.norm_session.proofs.ScriptLemmas.{runnable}
use Rattle.norm_program.specs.Asked.{profile_with, script_with, script_asked}

-- a value that is given, or else that of the profile
either : (k : Key) (given : Option ℕ) (own : ℕ) → IfSome given (IsValue k) → IsValue k own → IsValue k (unwrap_or given own)
either k None own fits is = is
either k (Some value) own fits is = fits

pub in_range_with : (o : Options) (p : Settings) → FitsOptions o → InRange p → InRange (profile_with o p)
in_range_with o p fits r = record {
  instance = r.instance;
  first = r.first;
  sender = r.sender;
  receivers = r.receivers;
  producers = r.producers;
  e = r.e;
  b = r.b;
  max_n = r.max_n;
  auto = r.auto;
  window = r.window;
  octets = r.octets;
  blocks = r.blocks;
  gap = r.gap;
  grtt = r.grtt;
  grtt_code = r.grtt_code;
  gsize_code = r.gsize_code;
  k = r.k;
  step = r.step;
  turns = either key.Turns o.turns p.turns fits.turns r.turns;
  chance = either key.Chance o.chance p.chance fits.chance r.chance;
  loss = r.loss;
  repeat = r.repeat;
  late = r.late;
  port = r.port;
  longest = r.longest;
  buffer = r.buffer;
}

-- what can be run can be run with options
pub runnable_with : (o : Options) (script : Commands) → FitsOptions o → CanRun script → CanRun (script_with o script)
runnable_with o script fits r = record {
  range = in_range_with o script.profile fits r.range;
  few = r.few;
  each = r.each;
  numbered = r.numbered;
}

-- a text that is a script is one with the options, and can be run
pub asked_is : (o : Options) (text : List ℕ) (script result : Commands) → FitsOptions o → script_of text ≡ Ok script → result ≡ script_with o script
    → (script_asked o text ≡ Ok result) × CanRun result
asked_is o text script result fits read is =
    rw is (ap (result_map_both (script_with o) (λ refusal. refusal)) read, runnable_with o script fits (runnable text script read))
