-- Which errors of a socket are a lost datagram and no fault, by their numbers: it would block (11), there are no buffers (105), it was refused (111).
use Rattle.std.specs.Prelude.{ℤ, pos, negsuc, Bool, false, ◌||◌, ◌==◌, Option, Some, None}

abbrev pub is_loss : Option ℤ → Bool
is_loss None = false
is_loss (Some (pos code)) = code == 11 || code == 105 || code == 111
is_loss (Some (negsuc code)) = false

-- it was refused: nobody is there
abbrev pub is_refused : Option ℤ → Bool
is_refused None = false
is_refused (Some (pos code)) = code == 111
is_refused (Some (negsuc code)) = false

-- In a group, what shows that the network cannot be reached now is a lost datagram too: it is down (100), unreachable (101), or a host of it is (113).
abbrev pub is_unreachable : Option ℤ → Bool
is_unreachable None = false
is_unreachable (Some (pos code)) = code == 100 || code == 101 || code == 113
is_unreachable (Some (negsuc code)) = false

-- an error of a socket in a group is a lost datagram: one that it is outside of a group, or one of these
abbrev pub is_group_loss : Option ℤ → Bool
is_group_loss code = is_loss code || is_unreachable code
