use Rattle.std.proofs.Common.{◌≡◌, ◌∙◌, sym, ap, [], ◌∷◌, Some, None, Ok, Err, string_bytes, arith}
use Rattle.std.proofs.lemmas.Grind.{common_steps}
use Rattle.norm_base.specs.Keys.{keys, key_named}
use Rattle.toml.specs.View.{view, members_view}
use Rattle.toml.proofs.Views.{Entry}
use Rattle.norm_profile.specs.Profiles.{value_given, given_in}
use Rattle.norm_profile.specs.declared.refusal.ProfileRefusal.TheVariants as refusal
use Rattle.norm_profile.proofs.MemberLemmas.{unknown, refused, gives, none_left}
use Rattle.norm_profile.proofs.reader.given_in.Goals as goal

-- no key has the name
pub returns-in_default : goal.returns-in_default
returns-in_default c =
    let (can, finite, same) = c.loop-name.invariant in
    let e : Entry = (c.in-Some.name.now, c.in-Some.value.now) in
    let iter : c.loop-name.name-iterator ≡ e ∷ c.next.new.self = grind (arith, common_steps) in
    let none : key_named (string_bytes e.0) keys ≡ None = grind (arith, common_steps) in
    let what = unknown (string_bytes e.0) (view e.1) (members_view c.next.new.self) c.loop-name.given none in
    let why : c.in_ok-no_key.field-0 ≡ refusal.NoKey (string_bytes e.0) = grind (arith, common_steps) in
    ap Err why ∙ sym what ∙ ap (λ i. given_in (members_view i) c.loop-name.given) (sym iter) ∙ same

-- the member gives its key a value
pub loop-name-preserved : goal.loop-name-preserved
loop-name-preserved c =
    let (can, finite, same) = c.loop-name.invariant in
    let e : Entry = (c.in-Some.name.now, c.in-Some.value.now) in
    let iter : c.loop-name.name-iterator ≡ e ∷ c.next.new.self = grind (arith, common_steps) in
    let named : key_named (string_bytes e.0) keys ≡ Some c.in-Some-named.key = grind (arith, common_steps) in
    let good : value_given c.in-Some-named.key (view e.1) ≡ Ok c.in-Ok.number = grind (arith, common_steps) in
    let what = gives (string_bytes e.0) (view e.1) (members_view c.next.new.self) c.loop-name.given c.in-Some-named.key c.in-Ok.number named good in
    (tt, tt, ap (given_in (members_view c.next.new.self)) c.set.ensures ∙ sym what ∙ ap (λ i. given_in (members_view i) c.loop-name.given) (sym iter) ∙ same)

-- its value is refused
pub returns-in-Err : goal.returns-in-Err
returns-in-Err c =
    let (can, finite, same) = c.loop-name.invariant in
    let e : Entry = (c.in-Some.name.now, c.in-Some.value.now) in
    let iter : c.loop-name.name-iterator ≡ e ∷ c.next.new.self = grind (arith, common_steps) in
    let named : key_named (string_bytes e.0) keys ≡ Some c.in-Some-named.key = grind (arith, common_steps) in
    let bad : value_given c.in-Some-named.key (view e.1) ≡ Err c.in-Err.why = grind (arith, common_steps) in
    let what = refused (string_bytes e.0) (view e.1) (members_view c.next.new.self) c.loop-name.given c.in-Some-named.key c.in-Err.why named bad in
    sym what ∙ ap (λ i. given_in (members_view i) c.loop-name.given) (sym iter) ∙ same

-- all members were read
pub returns : goal.returns
returns c =
    let (can, finite, same) = c.loop-name.invariant in
    let none : c.loop-name.name-iterator ≡ [] = grind (arith, common_steps) in
    sym (none_left c.loop-name.given) ∙ ap (λ i. given_in (members_view i) c.loop-name.given) (sym none) ∙ same
