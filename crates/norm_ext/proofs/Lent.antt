-- What is lent stands for its list.
use Rattle.std.proofs.Common.{◌≡◌, ◌∙◌, ℕ, ◌==◌, false, List, [], ◌∷◌, length, refl, sym, ne_eqb, arith}
use Rattle.norm_ext.specs.Extensions.{extension_octets, IsExtension, first_extension, extension_length, extension_checked}
use Rattle.norm_ext.specs.Requests.{request_octets, IsRequest, first_request, request_length, request_checked, requests_of}
use Rattle.norm_ext.specs.Laws.{LentExtensions, LentRequests}
use Rattle.norm_ext.proofs.PieceLemmas.{all_fit, pieces_again, checked_again}
use Rattle.norm_ext.proofs.ExtensionLemmas.{extension_kind, exts_together}
use Rattle.norm_ext.proofs.MessageLemmas.{requests_fit, requests_together}
use Rattle.norm_ext.proofs.RequestLemmas.{request_kind}

pub lent_extensions_law : LentExtensions
lent_extensions_law = record {
  fit = λ octets fits is. all_fit IsExtension first_extension extension_length extension_checked extension_kind 0 0 octets fits is.checked;
  spelled = λ octets fits is. exts_together octets fits is;
  whole = λ extensions all. record { checked = checked_again extension_octets IsExtension first_extension extension_length extension_checked extension_kind 0 extensions all };
  read = λ extensions all. pieces_again extension_octets IsExtension first_extension extension_length extension_checked extension_kind extensions all;
}

pub lent_requests_law : LentRequests
lent_requests_law = record {
  fit = λ octets fits is. requests_fit 0 octets fits is.checked;
  spelled = λ octets fits is. requests_together 0 octets fits is.checked;
  whole = λ requests all. record { checked = checked_again request_octets IsRequest first_request request_length request_checked request_kind 0 requests all };
  read = λ requests all. pieces_again request_octets IsRequest first_request request_length request_checked request_kind requests all;
}

-- a list without octets has no requests, and no other
some_is_no_zero : {A : Type 0} → (x : A) (xs : List A) → (length (x ∷ xs) == 0) ≡ false
some_is_no_zero x xs = ne_eqb (length (x ∷ xs)) 0 (λ e. absurd (omega (arith, e)))

pub none_is_empty : (octets : List ℕ) → (length octets == 0) ≡ (length (requests_of octets) == 0)
none_is_empty [] = refl
none_is_empty (x ∷ octets) = some_is_no_zero x octets ∙ sym (some_is_no_zero (first_request (x ∷ octets)) _)
