-- The forms are simple, and what a parse of them answers.
use Rattle.std.proofs.Common.{◌≡◌, ◌∙◌, sym, ap, ℕ, List, [], ◌∷◌, Bool, true, false, Option, Some, None, refl, inl, inr}
use Rattle.std.specs.Prelude.{◌&&◌}
use Rattle.std.specs.Bool.{Decides}
use Rattle.clap.specs.Words.{App, Row, Kinds, HasKind, IsAmong, is_simple, is_simple_and_free, matches_of, fault_of, kind_of}
use Rattle.clap.specs.declared.error.Error.{Error}
use Rattle.clap.specs.declared.error.kind.ErrorKind.{ErrorKind}
use Rattle.clap.specs.declared.error.kind.ErrorKind.TheVariants.{OutOfMemory}
use Rattle.clap.proofs.OnLiterals.{clap_on_literals}
use Rattle.norm_args.specs.Forms.{session_form, show_form, generate_form, mirror_form, send_form, recv_form, hub_form, gather_form, relay_form, is_fine, found_in}

pub simple_session : is_simple_and_free session_form ≡ true
unfolding clap_on_literals
simple_session = refl

pub simple_show : is_simple_and_free show_form ≡ true
unfolding clap_on_literals
simple_show = refl

pub simple_generate : is_simple_and_free generate_form ≡ true
unfolding clap_on_literals
simple_generate = refl

pub simple_mirror : is_simple_and_free mirror_form ≡ true
unfolding clap_on_literals
simple_mirror = refl

pub simple_send : is_simple_and_free send_form ≡ true
unfolding clap_on_literals
simple_send = refl

pub simple_recv : is_simple_and_free recv_form ≡ true
unfolding clap_on_literals
simple_recv = refl

pub simple_hub : is_simple_and_free hub_form ≡ true
unfolding clap_on_literals
simple_hub = refl

pub simple_gather : is_simple_and_free gather_form ≡ true
unfolding clap_on_literals
simple_gather = refl

pub simple_relay : is_simple_and_free relay_form ≡ true
unfolding clap_on_literals
simple_relay = refl

first_of_both : (a b : Bool) → (a && b) ≡ true → a ≡ true
first_of_both true b h = refl
first_of_both false b h = absurd (cc)

abbrev chosen : Bool → List Row → Option (List Row)
chosen fine rows = elim fine [ true ↦ Some rows | false ↦ None ]

-- what was found in words of the form
pub found_some : (form : App) (words : List (List ℕ)) (rows : List Row) → is_simple_and_free form ≡ true
    → (is_simple_and_free form ≡ true → fault_of form words ≡ [])
    → {X : Type 0} → (is_simple form ≡ true → (rows ≡ matches_of form words) × X) → Some rows ≡ found_in form words
unfolding found_in
found_some form words rows simple none found =
    let fine : is_fine (fault_of form words) ≡ true = ap is_fine (none simple) in
    let same : rows ≡ matches_of form words = (found (first_of_both (is_simple form) _ simple)).0 in
    ap Some same ∙ ap (λ (b : Bool). chosen b (matches_of form words)) (sym fine)

some_kind : (k : ErrorKind) (kinds : Kinds) → IsAmong k kinds → is_fine kinds ≡ false
some_kind k [] among = absurd among
some_kind k (x ∷ xs) among = refl

-- words of another form
pub found_none : (form : App) (words : List (List ℕ)) (e : Error) (b : Bool) → is_simple_and_free form ≡ true
    → (is_simple_and_free form ≡ true → HasKind (fault_of form words) e) → Decides b (kind_of e ≡ OutOfMemory) → b ≡ false
    → None ≡ found_in form words
unfolding found_in
found_none form words e b simple kinds memory other = go (kinds simple)
  where
    go : HasKind (fault_of form words) e → None ≡ found_in form words
    go (inl is) = absurd (cc (sym other ∙ memory.1 is))
    go (inr among) = ap (λ (b : Bool). chosen b (matches_of form words)) (sym (some_kind (kind_of e) (fault_of form words) among))
