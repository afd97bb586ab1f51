-- What a fault leaves of lines, if more were to follow or others were written before.
use Rattle.std.proofs.Common.{◌≡◌, ◌∙◌, sym, ap, subst, refl, ℕ, List, [], ◌∷◌, ◌++◌, Option, None, Some, append_assoc, append-nil}
use Rattle.std.specs.Option.{option_to_list}
use Rattle.std.proofs.lemmas.Option.{same_Some, none-some}
use Rattle.norm_base.specs.Told.{Pieces, gained, GainsFront}
use Rattle.norm_turns.specs.Printing.{IsUnwritten}
use Rattle.norm_turns.specs.declared.fault.SessionFault.{SessionFault}
use Rattle.norm_turns.specs.declared.fault.SessionFault.TheVariants as fault
use Rattle.driven_nodes.specs.Writing.{LeavesLines}

abbrev Lines : Type 0
Lines = List (List ℕ)

-- what is told in two steps is told in one
pub gained-nil : (told : Pieces) → gained told [] ≡ told
gained-nil None = refl
gained-nil (Some xs) = ap Some (append-nil xs)

pub gained-gained : (told : Pieces) (xs ys : Lines) → gained (gained told xs) ys ≡ gained told (xs ++ ys)
gained-gained None xs ys = refl
gained-gained (Some zs) xs ys = ap Some (append_assoc zs xs ys)

-- more were to follow
pub leaves_more : (f : SessionFault) (u w : Pieces) (lines more : Lines) → LeavesLines f u w lines → LeavesLines f u w (lines ++ more)
leaves_more fault.Write u w lines more h = record {
  front = h.front;
  broken = h.broken;
  rest = h.rest ++ more;
  all = ap (λ ls. ls ++ more) h.all ∙ append_assoc h.front (h.broken ∷ h.rest) more;
  output = h.output;
}
leaves_more fault.Memory u w lines more h = record {
  front = h.front;
  rest = h.rest ++ more;
  all = ap (λ ls. ls ++ more) h.all ∙ append_assoc h.front h.rest more;
  output = h.output;
}
leaves_more _ u w lines more h = absurd h

-- others were written before
pub leaves_after : (f : SessionFault) (u v w : Pieces) (before lines : Lines) → v ≡ gained u before → LeavesLines f v w lines → LeavesLines f u w (before ++ lines)
leaves_after fault.Write u v w before lines is h = record {
  front = before ++ h.front;
  broken = h.broken;
  rest = h.rest;
  all = ap (λ ls. before ++ ls) h.all ∙ sym (append_assoc before h.front (h.broken ∷ h.rest));
  output = subst (λ x. GainsFront x w h.broken) (ap (λ x. gained x h.front) is ∙ gained-gained u before h.front) h.output;
}
leaves_after fault.Memory u v w before lines is h = record {
  front = before ++ h.front;
  rest = h.rest;
  all = ap (λ ls. before ++ ls) h.all ∙ sym (append_assoc before h.front h.rest);
  output = h.output ∙ ap (λ x. gained x h.front) is ∙ gained-gained u before h.front;
}
leaves_after _ u v w before lines is h = absurd h

-- of some lines, as of others that are the same
pub leaves_same : (f : SessionFault) (u w : Pieces) (lines other : Lines) → lines ≡ other → LeavesLines f u w lines → LeavesLines f u w other
leaves_same f u w lines other same h = subst (λ ls. LeavesLines f u w ls) same h

-- there was no memory, and nothing was written since
pub wants_memory : (u w : Pieces) (before more : Lines) → w ≡ gained u before → LeavesLines fault.Memory u w (before ++ more)
wants_memory u w before more is = record { front = before; rest = more; all = refl; output = is }

-- one line
pub leaves_one : (f : SessionFault) (u w : Pieces) (o : Option (List ℕ)) → IsUnwritten f u w o → LeavesLines f u w (option_to_list o)
leaves_one fault.Write u w None h = absurd (none-some h.0 h.1)
leaves_one fault.Write u w (Some line) h = record {
  front = [];
  broken = h.0;
  rest = [];
  all = ap (λ l. l ∷ []) (same_Some line h.0 h.1);
  output = subst (λ x. GainsFront x w h.0) (sym (gained-nil u)) h.2;
}
leaves_one fault.Memory u w o h = record { front = []; rest = option_to_list o; all = refl; output = h ∙ sym (gained-nil u) }
leaves_one fault.Fabric u w o h = absurd h
leaves_one fault.Files u w o h = absurd h
leaves_one (fault.Absent name) u w o h = absurd h
