-- The laws of the grammar.
use Rattle.std.proofs.Common.{◌≡◌, ℕ, zero, suc, List, [], ◌∷◌, length, Ok, Result, refl, sym, ◌∙◌, arith}
use Rattle.std.specs.List.{repeat}
use Rattle.norm_ext.specs.Message.{Message}
use Rattle.norm_ext.specs.Octets.{octets_of, reserved_octets}
use Rattle.norm_ext.specs.Laws.{ReadIsSpelled, SpelledIsRead, SpellsOne, ReadAgain}
use Rattle.norm_ext.specs.declared.refusal.Refusal.{Refusal}
use Rattle.norm_ext.proofs.ReadIsSpelled.{read_is_spelled}
use Rattle.norm_ext.proofs.SpelledIsRead.{spelled_is_read}

pub read_is_spelled_law : ReadIsSpelled
read_is_spelled_law = read_is_spelled

pub spelled_is_read_law : SpelledIsRead
spelled_is_read_law = spelled_is_read

abbrev as_ok : Message → Result Message Refusal
as_ok m = Ok m

same : (m n : Message) → as_ok m ≡ as_ok n → m ≡ n
same m n e = cc

pub spells_one_law : SpellsOne
spells_one_law m n octets s t = same m n (sym (spelled_is_read m octets s) ∙ spelled_is_read n octets t)

abbrev nothing : ℕ → List ℕ
nothing n = repeat n (0 ∷ [])

zeros : (n : ℕ) → length (nothing n) ≡ n
zeros zero = refl
zeros (suc n) = let rest = zeros n in omega (arith, rest)

pub read_again_law : ReadAgain
read_again_law m fits = spelled_is_read m (octets_of m) (record { fits = fits; reserved = nothing (reserved_octets m); many = zeros (reserved_octets m); spelled = refl })
